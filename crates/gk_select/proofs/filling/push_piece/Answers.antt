use Rattle.gk_select.proofs.Common.{◌++◌, ◌∷◌, [], List, ℕ, rules, ap, refl, ◌∙◌, arith, common_steps, string_bytes, texts}
use Rattle.gk_select.proofs.FillingLoops.{cut, uncut, at_placeholder, at_other, at_end, no_cell, some_cell, pushed, if_ok}
use Rattle.gk_select.proofs.filling.push_piece.Goals as goal

pub returns-in-Some-cell : goal.returns-in-Some-cell
returns-in-Some-cell c =
    let p = cut 60 c.loop-before.rest.now c.split_once.result c.split_once.ensures.cases (omega arith) (c.in-Some.before, c.in-Some.name) c.in-Some.is in
    let e = at_placeholder c.args.columns.now (texts c.args.row.now) c.loop-before.rest.now c.in-Some.before.now c.in-Some.name.now p.0 p.1 c.in-Some-cell.cell.now (some_cell c.cell.ensures c.in-Some-cell.is) in
    if_ok c.push_str-in-Some-cell.result _ c.push_str-in-Some-cell.ensures.bytes (pushed _ _ _ c.in_ok-push_str.ensures.bytes e c.loop-before.invariant.1)

pub loop-before-preserved : goal.loop-before-preserved
loop-before-preserved c =
    let p = cut 60 c.loop-before.rest.now c.split_once.result c.split_once.ensures.cases (omega arith) (c.in-Some.before, c.in-Some.name) c.in-Some.is in
    let e = at_other c.args.columns.now (texts c.args.row.now) c.loop-before.rest.now c.in-Some.before.now c.in-Some.name.now p.0 p.1 (no_cell c.cell.ensures c.in_default-cell.is) in
    (search rules, pushed _ (60 ∷ []) _ (c.in_ok-push.ensures.bytes ∙ ap (λ (bs : List ℕ). string_bytes c.push_str.new.self ++ bs) (c.push.ensures.ascii (omega arith))) refl (pushed _ _ _ c.in_ok-push_str.ensures.bytes e c.loop-before.invariant.1))

pub returns : goal.returns
returns c = grind (arith, common_steps, at_end, uncut, if_ok, pushed)
