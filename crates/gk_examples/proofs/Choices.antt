-- Worked examples of alternatives of tags, and of the choice of cases.
use Rattle.std.specs.Prelude.{codes, ◌≡◌, ℕ, true, false, List, [], ◌∷◌, map, Some, None, refl}
use Rattle.std.proofs.Common.{inl, inr, arith}
use Rattle.gk_select.specs.Alternatives.{AlternativeValue, alternative, pieces}
use Rattle.gk_select.specs.Case.{CaseValue}
use Rattle.gk_select.specs.TagGrammar.{Expression, one_term, or_terms, one_factor, tagged, negated}
use Rattle.gk_select.specs.TagRules.{ReadsTags, SpellsNone}
use Rattle.gk_select.specs.TagWords.{first_word}
use Rattle.gk_select.specs.Choice.{is_chosen}

-- Alternatives: with or without `@`, with `~` before it, and those that are refused.
same_alternative : alternative (codes "~slow") ≡ alternative (codes "~@slow")
same_alternative = refl

tag_with_tilde : alternative (codes "@~x") ≡ Some (record { negated = false; tag = codes "@~x" })
tag_with_tilde = refl

refused : map alternative ([] ∷ codes "@" ∷ codes "~" ∷ codes "~~x" ∷ codes "-x" ∷ codes "~@" ∷ codes "~-x" ∷ []) ≡ None ∷ None ∷ None ∷ None ∷ None ∷ None ∷ None ∷ []
refused = refl

-- The rules of `~@slow,@db` and of `@ui`: the first is the expression `not @slow or @db`.
abbrev not_slow_or_db : Expression
not_slow_or_db = or_terms (one_factor (negated (tagged (codes "@slow")))) (one_term (one_factor (tagged (codes "@db"))))

abbrev ui : Expression
ui = one_term (one_factor (tagged (codes "@ui")))

two_alternatives : ReadsTags (codes "~@slow,@db") not_slow_or_db
two_alternatives = inl (record {
  first = record { negated = true; tag = codes "@slow" };
  others = record { negated = false; tag = codes "@db" } ∷ [];
  reads = record { old_form = refl; says = refl };
  is = refl;
})

same_rule : ReadsTags (codes "not @slow or @db") not_slow_or_db
unfolding first_word
same_rule = inr (record { new_form = refl; says = refl; shallow = omega arith })

one_alternative : ReadsTags (codes "ui") ui
one_alternative = inl (record { first = record { negated = false; tag = codes "@ui" }; others = []; reads = record { old_form = refl; says = refl }; is = refl })

-- Without a blank and a parenthesis a word of an expression is a tag as any other, and so is a backslash a byte of one.
and_alone : ReadsTags (codes "and") (one_term (one_factor (tagged (codes "@and"))))
and_alone = inl (record { first = record { negated = false; tag = codes "@and" }; others = []; reads = record { old_form = refl; says = refl }; is = refl })

not_before_a_tag : ReadsTags (codes "not@a") (one_term (one_factor (tagged (codes "@not@a"))))
not_before_a_tag = inl (record { first = record { negated = false; tag = codes "@not@a" }; others = []; reads = record { old_form = refl; says = refl }; is = refl })

backslash_in_a_tag : ReadsTags (64 ∷ 97 ∷ 92 ∷ 98 ∷ []) (one_term (one_factor (tagged (64 ∷ 97 ∷ 92 ∷ 98 ∷ []))))
backslash_in_a_tag = inl (record { first = record { negated = false; tag = 64 ∷ 97 ∷ 92 ∷ 98 ∷ [] }; others = []; reads = record { old_form = refl; says = refl }; is = refl })

says_none_between : (alternatives : List AlternativeValue) → map alternative (pieces (codes "a,,b")) ≡ map Some alternatives → ⊥
says_none_between [] says = cc says
says_none_between (first ∷ []) says = cc says
says_none_between (first ∷ second ∷ others) says = cc says

empty_between : SpellsNone (codes "a,,b")
empty_between rule (inl r) = says_none_between (r.first ∷ r.others) r.reads.says
empty_between rule (inr r) = cc (r.new_form)

-- A case with tags, on line 10.
case_with : List (List ℕ) → CaseValue
case_with tags = record { name = []; keyword = codes "Scenario"; line = 10; rule = None; tags = tags; own_tags = []; steps = [] }

abbrev slow : List ℕ
slow = codes "@slow"

abbrev db : List ℕ
db = codes "@db"

-- The sets of slow, db and ui of which both rules hold: those of ui alone, db and ui, and all three.
both_rules : map (λ (tags : List (List ℕ)). is_chosen (not_slow_or_db ∷ ui ∷ []) [] (case_with tags))
    ([] ∷ (slow ∷ []) ∷ (db ∷ []) ∷ (codes "@ui" ∷ []) ∷ (slow ∷ db ∷ []) ∷ (slow ∷ codes "@ui" ∷ []) ∷ (db ∷ codes "@ui" ∷ []) ∷ (slow ∷ db ∷ codes "@ui" ∷ []) ∷ [])
    ≡ false ∷ false ∷ false ∷ true ∷ false ∷ false ∷ true ∷ true ∷ []
unfolding is_chosen case_with
both_rules = refl

-- Several lines are or; tags and lines must both hold; without rules and lines each case is chosen.
by_line : is_chosen [] (3 ∷ 10 ∷ []) (case_with []) ≡ true
unfolding is_chosen case_with
by_line = refl

by_other_lines : is_chosen [] (3 ∷ 11 ∷ []) (case_with []) ≡ false
unfolding is_chosen case_with
by_other_lines = refl

by_line_and_tag : is_chosen (ui ∷ []) (10 ∷ []) (case_with []) ≡ false
unfolding is_chosen case_with
by_line_and_tag = refl

each_case : is_chosen [] [] (case_with []) ≡ true
unfolding is_chosen case_with
each_case = refl
