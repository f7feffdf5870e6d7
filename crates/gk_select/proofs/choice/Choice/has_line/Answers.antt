use Rattle.gk_select.proofs.Common.{◌≡◌, ◌==◌, ◌||◌, ℕ, Bool, false, List, length, ap, subst, sym, ◌∙◌, list_any, IsBinarySearchResult, nat_cmp, ChoiceValue, is_at_lines}
use Rattle.gk_select.proofs.ChosenLines.{is_among}
use Rattle.gk_select.proofs.choice.Choice.has_line.Goals as goal

pub returns-else-is_empty : goal.returns-else-is_empty
returns-else-is_empty c =
    let lines = c.self.inside.lines.items in
    let found = subst (λ (xs : List ℕ). IsBinarySearchResult (λ y. nat_cmp y c.args.line) xs c.binary_search.result) c.as_slice-lines.ensures.value c.binary_search.ensures.position in
    let some : (length lines == 0) ≡ false = rw c.as_slice-lines.ensures.value at (sym c.is_empty.ensures ∙ c.if-is_empty.false) in
    subst (λ (choice : ChoiceValue). c.is_ok.result ≡ is_at_lines choice.lines c.args.line) c.self.view_is
    (c.is_ok.ensures.value ∙ is_among lines c.args.line c.binary_search.result found c.self.invariant ∙ ap (λ (b : Bool). b || list_any (λ other. other == c.args.line) lines) (sym some))
