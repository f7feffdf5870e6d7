use Rattle.gk_run.proofs.Common.{◌≡◌, ◌∷◌, [], ◌++◌, ◌∙◌, List, length, map, arith, ap, sym, subst, inl, inr, into_iter_items, into_iter_len, map_push, library_value, CaseRow, case_row, MemberValue, member_of, members_of}
use Rattle.gk_run.proofs.CasesLemmas.{members_are, members_end}
use Rattle.gk_run.proofs.DryRunLemmas.{GoesDryCases, dry_cases_first, dry_cases_on, dry_cases_last}
use Rattle.gk_run.proofs.dry_run.dry_cases.Goals as goal

pub loop-case-init : goal.loop-case-init
loop-case-init c =
    let library = library_value c.args.library.now in
    let here : into_iter_items c.into_iter-case-iterator.result.a ≡ c.args.cases.list.items = ap (λ z. into_iter_items z.a) c.into_iter-case-iterator.ensures.into_iter_gives ∙ ap into_iter_items c.zip-case-items.ensures.first ∙ c.into_iter.ensures.rest in
    let there : into_iter_items c.into_iter-case-iterator.result.b ≡ c.args.selected.items = ap (λ z. into_iter_items z.b) c.into_iter-case-iterator.ensures.into_iter_gives ∙ c.zip-case-items.ensures.second.0 in
    let first_len = ap (λ z. into_iter_len z.a) c.into_iter-case-iterator.ensures.into_iter_gives ∙ ap into_iter_len c.zip-case-items.ensures.first ∙ c.into_iter.ensures.len in
    let second_len = ap (λ z. into_iter_len z.b) c.into_iter-case-iterator.ensures.into_iter_gives ∙ c.zip-case-items.ensures.second.1 in
    let all = members_of c.args.cases.list.items c.args.selected.items in
    let none : c.args.cases.results.items ≡ [] = c.args.cases.empty in
    record {
      goes =
          subst (λ (rows : List CaseRow). GoesDryCases library all rows (members_of (into_iter_items c.into_iter-case-iterator.result.a) (into_iter_items c.into_iter-case-iterator.result.b))) (sym (ap (map case_row) none))
          (subst (λ (left : List MemberValue). GoesDryCases library all [] left) (sym (members_are _ _ _ _ here there)) (dry_cases_first library all));
      room = omega (arith, c.args.cases.room, c.args.cases.results.ok.0, ap length none, ap length here);
      cases_counted = omega (arith, c.args.cases.list.ok.0, ap length here);
      choices_counted = omega (arith, c.args.selected.ok.0, ap length there);
    }

pub loop-case-preserved : goal.loop-case-preserved
loop-case-preserved c =
    let library = library_value c.args.library.now in
    let all = members_of c.args.cases.list.items c.args.selected.items in
    let these = c.in-Some.ensures.steps.0 in
    let those = c.in-Some.ensures.steps.1 in
    let f = ap length these.0 in
    let h = ap length those.0 in
    let this = member_of c.in-Some.case c.in-Some.selected in
    let left = members_of (into_iter_items c.next.new.self.a) (into_iter_items c.next.new.self.b) in
    let rows = map case_row c.loop-case.results.items in
    let row = case_row c.in_ok-dry_member.field-0 in
    let pushed : map case_row c.push_reserved.new.self.items ≡ rows ++ row ∷ [] = ap (map case_row) c.push_reserved.ensures.items ∙ map_push case_row c.loop-case.results.items c.in_ok-dry_member.field-0 in
    let before : GoesDryCases library all rows (this ∷ left) = subst (λ (ls : List MemberValue). GoesDryCases library all rows ls) (members_are _ _ _ _ these.0 those.0) c.loop-case.invariant.goes in
    record {
      goes = dry_cases_on library all rows (map case_row c.push_reserved.new.self.items) row this left c.in_ok-dry_member.ensures pushed before;
      room = omega arith;
      cases_counted = omega arith;
      choices_counted = omega arith;
    }

pub returns : goal.returns
returns c =
    let cases = into_iter_items c.loop-case.case-iterator.a in
    let choices = into_iter_items c.loop-case.case-iterator.b in
    let none : members_of cases choices ≡ [] =
    elim (c.in-None.ensures.steps) as (λ _. members_of cases choices ≡ []) [
      | inl u ↦ members_end cases choices (inl (c.loop-case.invariant.cases_counted ∙ u.1.0))
      | inr u ↦ members_end cases choices (inr (c.loop-case.invariant.choices_counted ∙ u.1.0))
    ] in
    dry_cases_last (library_value c.args.library.now) (members_of c.args.cases.list.items c.args.selected.items) (map case_row c.loop-case.results.items) (members_of cases choices) none c.loop-case.invariant.goes
