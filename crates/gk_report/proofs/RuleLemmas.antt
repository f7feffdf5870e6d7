-- The scenarios of rules, one after another.
use Rattle.gk_report.proofs.Common.{◌≡◌, ℕ, Bool, false, cond, not, List, [], ◌∷◌, ◌++◌, flat_map, Option, codes, ap, sym, ◌∙◌, append_assoc, arith, common_steps, decimal, take_while-cons, CaseRow, RuleRow, is_passed, status_text, line_feed, is_hidden, begins_above, cases_before, cases_behind, status_line, case_lines, printed_lines, rule_line, lines_in}

-- A scenario in front of the first rule is one of those in front of it.
pub before_next : (rules : List RuleRow) (c : CaseRow) (cs : List CaseRow) → begins_above rules c.line ≡ false → cases_before rules (c ∷ cs) ≡ c ∷ cases_before rules cs
before_next rules c cs e = take_while-cons (λ (x : CaseRow). not (begins_above rules x.line)) c cs ∙ ap (λ b. cond (not b) (c ∷ cases_before rules cs) []) e

pub lines_before_next : (no_skipped : Bool) (rules : List RuleRow) (c : CaseRow) (cs : List CaseRow) → begins_above rules c.line ≡ false →
    printed_lines no_skipped (cases_before rules (c ∷ cs)) ≡ cond (is_hidden no_skipped c.status) [] (case_lines c) ++ printed_lines no_skipped (cases_before rules cs)
lines_before_next no_skipped rules c cs e = grind (arith, common_steps, before_next)

behind_next : (rules : List RuleRow) (c : CaseRow) (cs : List CaseRow) → begins_above rules c.line ≡ false → cases_behind rules (c ∷ cs) ≡ cases_behind rules cs
behind_next rules c cs e = grind (arith, common_steps)

-- The lines of one scenario and of what follows it.
pub lines_in_next : (no_skipped : Bool) (rule : Option RuleRow) (rules : List RuleRow) (c : CaseRow) (cs : List CaseRow) → begins_above rules c.line ≡ false →
    lines_in no_skipped rule rules (c ∷ cs) ≡ cond (is_hidden no_skipped c.status) [] (case_lines c) ++ lines_in no_skipped rule rules cs
lines_in_next no_skipped rule rules c cs e = grind (arith, common_steps, flat_map, behind_next, lines_before_next, append_assoc)

-- The line of a rule's hooks and cleanups, piece by piece.
line_written : (old front number back dots verdict feed : List ℕ) →
    (old ++ (front ++ (number ++ back))) ++ (dots ++ (verdict ++ feed)) ≡ old ++ (front ++ number ++ back ++ dots ++ verdict ++ feed)
line_written old front number back dots verdict feed = simp append_assoc

pub rule_written : (r : RuleRow) (old : List ℕ) {middle end : List ℕ} → is_passed r.around ≡ false →
    middle ≡ old ++ (codes "  (rule, line " ++ (decimal r.line ++ codes ": hooks and cleanups)")) →
    end ≡ middle ++ (codes " ... " ++ (status_text r.around ++ line_feed)) → end ≡ old ++ rule_line r
unfolding status_line rule_line
rule_written r old e a b =
    b ∙ ap (λ bs. bs ++ (codes " ... " ++ (status_text r.around ++ line_feed))) a
    ∙ line_written old (codes "  (rule, line ") (decimal r.line) (codes ": hooks and cleanups)") (codes " ... ") (status_text r.around) line_feed
    ∙ ap (λ b. old ++ cond b [] (status_line (codes "  (rule, line " ++ decimal r.line ++ codes ": hooks and cleanups)") (status_text r.around))) (sym e)
