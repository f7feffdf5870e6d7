use Rattle.gk_gherkin.proofs.Common.{◌<◌, ◌≤◌, ◌∙◌, length, vec_len, ap, Ok, arith, common_steps, nat_tests, length-map, string_bytes, texts}
use Rattle.gk_gherkin.proofs.LineCuts.{after_bar}
use Rattle.gk_gherkin.proofs.TagWords.{none_left, some_left}
use Rattle.gk_gherkin.proofs.RowParts.{all_cells, some_are_some, none_are_none}
use Rattle.gk_gherkin.proofs.rows.cells_in.Goals as goal

pub range_from-rest-requires : goal.range_from-rest-requires
range_from-rest-requires c = grind (arith, common_steps, after_bar)

pub returns-then-is_empty : goal.returns-then-is_empty
returns-then-is_empty c =
    let over : length c.parts.rest.now ≤ 0 = grind (arith, nat_tests) in
    let none : vec_len c.parts.cells ≤ 0 = none_left (vec_len c.parts.cells) c.is_empty-2.result c.is_empty-2.ensures c.if-is_empty.true in
    let few : length (texts c.parts.cells.items) ≤ 0 = omega (arith, length-map c.parts.cells.items (λ s. string_bytes s), c.parts.cells.ok) in
    ap Ok (all_cells c.args.text.now c.parts.rest.now (texts c.parts.cells.items) over c.parts.invariant.1 ∙ none_are_none (texts c.parts.cells.items) few)

pub returns-else-is_empty : goal.returns-else-is_empty
returns-else-is_empty c =
    let over : length c.parts.rest.now ≤ 0 = grind (arith, nat_tests) in
    let one : 0 < vec_len c.parts.cells = some_left (vec_len c.parts.cells) c.is_empty-2.result c.is_empty-2.ensures c.if-is_empty.false in
    let some : 0 < length (texts c.parts.cells.items) = omega (arith, length-map c.parts.cells.items (λ s. string_bytes s), c.parts.cells.ok) in
    ap Ok (all_cells c.args.text.now c.parts.rest.now (texts c.parts.cells.items) over c.parts.invariant.1 ∙ some_are_some (texts c.parts.cells.items) some)
