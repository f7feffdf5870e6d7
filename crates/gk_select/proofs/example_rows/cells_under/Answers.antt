use Rattle.gk_select.proofs.Common.{◌≡◌, ◌∙◌, ◌≤◌, ℕ, map, ◌+◌, List, [], ◌∷◌, ◌++◌, Some, ap, ap₂, sym, arith, length, drop, slice_get, zip, ltb-true, ltb-false, map_push, length-map, texts, cell_value}
use Rattle.std.specs.Prelude.{string_bytes}
use Rattle.gk_select.proofs.RowLines.{at_place, one_cell, no_cell}
use Rattle.gk_select.proofs.example_rows.cells_under.Goals as goal
use Rattle.gk_select.proofs.example_rows.cells_under.Goals.{in-Some+in_ok-cell_under+in_ok-push, in_default}

pub loop-i-preserved : goal.loop-i-preserved
loop-i-preserved c = elim c.match-get.branch [
  | in-Some+in_ok-cell_under+in_ok-push w ↦
      let name = string_bytes c.index-header-i.result in
      let text = string_bytes w.in-Some.cell.now in
      let header : slice_get (texts c.args.header.now) c.loop-i.i ≡ Some name = at_place string_bytes c.args.header.now c.loop-i.i c.index-header-i.result c.loop-i-test.true c.index-header-i.is in
      let found = w.in-Some.ensures.lookup in
      let cell : slice_get (texts c.args.cells.now) c.loop-i.i ≡ Some text = at_place string_bytes c.args.cells.now c.loop-i.i w.in-Some.cell.now (ltb-true _ _ (sym found.0)) found.1 in
      let more : map cell_value c.match-get.copies.items ≡ map cell_value c.loop-i.copies.items ++ (name, text) ∷ [] =
      ap (map cell_value) (ap (λ v. v.items) w.copies-is ∙ w.in_ok-push.ensures.items) ∙ map_push cell_value c.loop-i.copies.items w.in_ok-cell_under.field-0 ∙ ap (λ (p : List ℕ × List ℕ). map cell_value c.loop-i.copies.items ++ p ∷ []) (w.in_ok-cell_under.ensures ∙ ap₂ (λ (a b : List ℕ). (a, b)) w.as_str.ensures.value w.as_str-in-Some.ensures.value) in
      one_cell _ _ (name, text) (texts c.args.header.now) (texts c.args.cells.now) c.loop-i.i more header cell _ c.loop-i.invariant
  | in_default w ↦
      let short : length (texts c.args.cells.now) ≤ c.loop-i.i = omega (arith, length-map c.args.cells.now string_bytes, ltb-false _ _ (sym w.in_default.ensures.lookup.0)) in
      ap (λ v. map cell_value v.items ++ zip (drop (c.loop-i.i + 1) (texts c.args.header.now)) (drop (c.loop-i.i + 1) (texts c.args.cells.now))) w.copies-is
      ∙ no_cell _ (texts c.args.header.now) (texts c.args.cells.now) c.loop-i.i short _ c.loop-i.invariant
]
