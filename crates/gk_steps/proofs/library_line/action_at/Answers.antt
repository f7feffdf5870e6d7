use Rattle.gk_steps.proofs.Common.{◌≡◌, Some, true, false, refl, sym, ◌∙◌, map, is_some, piece_value, field_kind, action_row, action_row_value, has_needed, has_right_kind, has_right_kinds}
use Rattle.gk_steps.proofs.LibraryLineLemmas.{action_fits, lacks_field, other_kind, words_pass}
use Rattle.gk_steps.proofs.library_line.action_at.Goals as goal

pub returns-then-not-has_needed-clause-fault : goal.returns-then-not-has_needed-clause-fault
returns-then-not-has_needed-clause-fault c =
    let ps = map piece_value c.args.pieces.now in
    let row = action_row_value c.in-Some.row in
    let found : action_row c.args.name.now ≡ Some row = sym c.in-Some.ensures in
    let needs : has_needed row.needs ps ≡ false = sym (words_pass (λ name. is_some (field_kind ps name)) c.in-Some.row.needs.now) ∙ sym c.has_needed.ensures ∙ c.if-not-has_needed.true in
    (refl, lacks_field c.args.name.now ps row found needs)

pub returns-then-not-has_right_kinds-clause-fault : goal.returns-then-not-has_right_kinds-clause-fault
returns-then-not-has_right_kinds-clause-fault c =
    let ps = map piece_value c.args.pieces.now in
    let row = action_row_value c.in-Some.row in
    let found : action_row c.args.name.now ≡ Some row = sym c.in-Some.ensures in
    let needs : has_needed row.needs ps ≡ true = sym (words_pass (λ name. is_some (field_kind ps name)) c.in-Some.row.needs.now) ∙ sym c.has_needed.ensures ∙ c.if-not-has_needed.false in
    let kinds : has_right_kinds row.uses ps ≡ false = sym (words_pass (has_right_kind ps) c.in-Some.row.uses.now) ∙ sym c.has_right_kinds.ensures ∙ c.if-not-has_right_kinds.true in
    (refl, other_kind c.args.name.now ps row found needs kinds)

pub returns-else-not-has_right_kinds-clause-action : goal.returns-else-not-has_right_kinds-clause-action
returns-else-not-has_right_kinds-clause-action c =
    let ps = map piece_value c.args.pieces.now in
    let row = action_row_value c.in-Some.row in
    let found : action_row c.args.name.now ≡ Some row = sym c.in-Some.ensures in
    let needs : has_needed row.needs ps ≡ true = sym (words_pass (λ name. is_some (field_kind ps name)) c.in-Some.row.needs.now) ∙ sym c.has_needed.ensures ∙ c.if-not-has_needed.false in
    let kinds : has_right_kinds row.uses ps ≡ true = sym (words_pass (has_right_kind ps) c.in-Some.row.uses.now) ∙ sym c.has_right_kinds.ensures ∙ c.if-not-has_right_kinds.false in
    action_fits c.args.name.now ps row found needs kinds
