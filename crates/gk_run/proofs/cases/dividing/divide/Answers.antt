use Rattle.gk_run.proofs.Common.{◌≡◌, ◌∷◌, [], ◌∙◌, List, Bool, ℕ, length, length-map, map, arith, ap, sym, subst, ◌⊎◌, inl, inr, into_iter_items, into_iter_len, Case, FallFrom, AreDivided, Member, RuleCases, groups_in, head_value, members_of, members_of_groups}
use Rattle.gk_run.proofs.CasesLemmas.{members_end}
use Rattle.gk_run.proofs.GroupingLemmas.{GoesDividing, divided_length, dividing_bound, dividing_first, dividing_last, dividing_on}
use Rattle.gk_run.proofs.cases.dividing.divide.Goals as goal

pub loop-case-init : goal.loop-case-init
loop-case-init c =
    let heads = map head_value c.args.heads.items in
    let here : into_iter_items c.into_iter-case-iterator.result.a ≡ c.args.cases.items = ap (λ z. into_iter_items z.a) c.into_iter-case-iterator.ensures.into_iter_gives ∙ ap into_iter_items c.zip-case-items.ensures.first ∙ c.into_iter.ensures.rest ∙ ap (λ cs. cs.items) c.in_ok-list-2.ensures ∙ ap (λ cs. cs.items) c.in_ok-list.ensures in
    let there : into_iter_items c.into_iter-case-iterator.result.b ≡ c.args.selected.items = ap (λ z. into_iter_items z.b) c.into_iter-case-iterator.ensures.into_iter_gives ∙ c.zip-case-items.ensures.second.0 in
    let first_len = ap (λ z. into_iter_len z.a) c.into_iter-case-iterator.ensures.into_iter_gives ∙ ap into_iter_len c.zip-case-items.ensures.first ∙ c.into_iter.ensures.len in
    let second_len = ap (λ z. into_iter_len z.b) c.into_iter-case-iterator.ensures.into_iter_gives ∙ c.zip-case-items.ensures.second.1 in
    let all = members_of c.args.cases.items c.args.selected.items in
    let falls = subst (λ (n : ℕ). FallFrom n 0 (map (λ (x : Case). x.rule) c.args.cases.items)) (sym (length-map c.args.heads.items head_value)) c.requires.falls in
    record {
      goes = subst (λ (own : List Member). GoesDividing heads all own c.in_ok-rules.rules.items (into_iter_items c.into_iter-case-iterator.result.a) (into_iter_items c.into_iter-case-iterator.result.b)) (sym c.in_ok-list-2.field-0.empty)
          (subst (λ (ss : List Bool). GoesDividing heads all [] c.in_ok-rules.rules.items (into_iter_items c.into_iter-case-iterator.result.a) ss) (sym there)
          (subst (λ (cs : List Case). GoesDividing heads all [] c.in_ok-rules.rules.items cs c.args.selected.items) (sym here) (dividing_first heads c.in_ok-rules.rules.items c.args.cases.items c.args.selected.items c.in_ok-rules.ensures falls)));
      cases_counted = omega (arith, c.in_ok-list-2.list.ok.0, ap length here, ap (λ cs. length cs.items) c.in_ok-list-2.ensures, ap (λ cs. length cs.items) c.in_ok-list.ensures, first_len);
      choices_counted = omega (arith, c.args.selected.ok.0, ap length there, second_len);
    }

pub add_member-requires : goal.add_member-requires
add_member-requires c =
    let heads = map head_value c.args.heads.items in
    let all = members_of c.args.cases.items c.args.selected.items in
    let behind = into_iter_items c.next.new.self.a in
    let taken : into_iter_items c.loop-case.case-iterator.a ≡ c.in-Some.case ∷ behind = c.in-Some.ensures.steps.0.0 in
    dividing_bound heads all c.loop-case.own.items c.loop-case.rules.items c.in-Some.case (into_iter_items c.loop-case.case-iterator.b) behind
    (subst (λ (cs : List Case). GoesDividing heads all c.loop-case.own.items c.loop-case.rules.items cs (into_iter_items c.loop-case.case-iterator.b)) taken c.loop-case.invariant.goes)

pub loop-case-preserved : goal.loop-case-preserved
loop-case-preserved c =
    let heads = map head_value c.args.heads.items in
    let all = members_of c.args.cases.items c.args.selected.items in
    let own = c.loop-case.own.items in
    let rules = c.loop-case.rules.items in
    let these = c.in-Some.ensures.steps.0 in
    let those = c.in-Some.ensures.steps.1 in
    let cases = into_iter_items c.next.new.self.a in
    let choices = into_iter_items c.next.new.self.b in
    let so_far = subst (λ (ss : List Bool). GoesDividing heads all own rules (c.in-Some.case ∷ cases) ss) those.0 (subst (λ (cs : List Case). GoesDividing heads all own rules cs (into_iter_items c.loop-case.case-iterator.b)) these.0 c.loop-case.invariant.goes) in
    record {
      goes = dividing_on heads all own c.add_member.new.own.items rules c.add_member.new.rules.items c.in-Some.case c.in-Some.selected cases choices so_far c.in_ok-add_member.ensures;
      cases_counted = omega (arith, c.loop-case.invariant.cases_counted, ap length these.0, these);
      choices_counted = omega (arith, c.loop-case.invariant.choices_counted, ap length those.0, those);
    }

-- no case or no choice is left
ended : (cases : List Case) (choices : List Bool) (n m : ℕ) → length cases ≡ n → length choices ≡ m → (n ≡ 0) ⊎ (m ≡ 0) → members_of cases choices ≡ []
ended cases choices n m these those (inl e) = members_end cases choices (inl (these ∙ e))
ended cases choices n m these those (inr e) = members_end cases choices (inr (those ∙ e))

pub returns : goal.returns
returns c =
    let heads = map head_value c.args.heads.items in
    let all = members_of c.args.cases.items c.args.selected.items in
    let own = c.loop-case.own.items in
    let cases = into_iter_items c.loop-case.case-iterator.a in
    let choices = into_iter_items c.loop-case.case-iterator.b in
    let none = ended cases choices _ _ c.loop-case.invariant.cases_counted c.loop-case.invariant.choices_counted (elim (c.in-None.ensures.steps) [ inl u ↦ inl u.1.0 | inr u ↦ inr u.1.0 ]) in
    subst (λ (rs : List RuleCases). AreDivided heads all own rs) (sym (ap (λ rs. rs.items) c.in_ok-reserve.ensures)) (dividing_last heads all own c.loop-case.rules.items cases choices none c.loop-case.invariant.goes)

pub invariant_of-result : goal.invariant_of-result
invariant_of-result c =
    let heads = map head_value c.args.heads.items in
    let all = members_of c.args.cases.items c.args.selected.items in
    let own = c.loop-case.own.items in
    let rules = c.loop-case.rules.items in
    let cases = into_iter_items c.loop-case.case-iterator.a in
    let choices = into_iter_items c.loop-case.case-iterator.b in
    let none = ended cases choices _ _ c.loop-case.invariant.cases_counted c.loop-case.invariant.choices_counted (elim (c.in-None.ensures.steps) [ inl u ↦ inl u.1.0 | inr u ↦ inr u.1.0 ]) in
    let falls = subst (λ (n : ℕ). FallFrom n 0 (map (λ (x : Case). x.rule) c.args.cases.items)) (sym (length-map c.args.heads.items head_value)) c.requires.falls in
    let counted = divided_length heads c.args.cases.items c.args.selected.items own rules c.requires.paired falls (dividing_last heads all own rules cases choices none c.loop-case.invariant.goes) in
    record {
      empty = c.in_ok-list.field-0.empty;
      room = omega (arith, counted, c.in_ok-list.field-0.room, ap (λ cs. length cs.items) c.in_ok-list.ensures, ap (λ rs. length (members_of_groups (groups_in rs.items))) c.in_ok-reserve.ensures);
    }
