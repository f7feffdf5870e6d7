use Rattle.gk_steps.proofs.Common.{map, subst, arith, common_steps, piece_value, IsKeptResult}
use Rattle.gk_steps.proofs.CaptureLemmas.{rest_some, rest_none}
use Rattle.gk_steps.proofs.FilledCellsLemmas.{rest_most, rest_filled}
use Rattle.gk_steps.proofs.matching.match_rest.Goals as goal

pub returns-in_err-later-clause-most : goal.returns-in_err-later-clause-most
returns-in_err-later-clause-most g c = rest_most c.args.left.now c.args.rest.now c.in_ok-boundaries.boundaries.items c.deref.result.now c.args.cells.now.filled c.match_pieces.new.cells.filled c.utf8.rest c.in_ok-boundaries.ensures c.deref.ensures.value c.match_pieces.ensures.most

pub returns-in_err-join-in-Some-clause-most : goal.returns-in_err-join-in-Some-clause-most
returns-in_err-join-in-Some-clause-most g c = rest_most c.args.left.now c.args.rest.now c.in_ok-boundaries.boundaries.items c.deref.result.now c.args.cells.now.filled c.match_pieces.new.cells.filled c.utf8.rest c.in_ok-boundaries.ensures c.deref.ensures.value c.match_pieces.ensures.most

pub returns-in-Some-clause-most : goal.returns-in-Some-clause-most
returns-in-Some-clause-most g c = rest_most c.args.left.now c.args.rest.now c.in_ok-boundaries.boundaries.items c.deref.result.now c.args.cells.now.filled c.match_pieces.new.cells.filled c.utf8.rest c.in_ok-boundaries.ensures c.deref.ensures.value c.match_pieces.ensures.most

pub returns-clause-most : goal.returns-clause-most
returns-clause-most g c = rest_most c.args.left.now c.args.rest.now c.in_ok-boundaries.boundaries.items c.deref.result.now c.args.cells.now.filled c.match_pieces.new.cells.filled c.utf8.rest c.in_ok-boundaries.ensures c.deref.ensures.value c.match_pieces.ensures.most

pub returns-in-Some-clause-found : goal.returns-in-Some-clause-found
returns-in-Some-clause-found g c = λ done before is. rest_some g.K.Captures.keeps done before (map piece_value c.args.left.now) c.args.rest.now c.in-Some.later c.join.new.self (λ after. c.in_ok-join-in-Some.ensures done (map piece_value c.args.left.now) before after is)
    (subst (IsKeptResult g.K.Captures.keeps (map piece_value c.args.left.now) c.args.rest.now) c.in-Some.is c.in_ok-later.ensures.found)

pub returns-clause-found : goal.returns-clause-found
returns-clause-found g c = grind (arith, common_steps, rest_none)

pub returns-in-Some-clause-filled : goal.returns-in-Some-clause-filled
returns-in-Some-clause-filled g c = rest_filled c.args.left.now c.args.rest.now c.in_ok-boundaries.boundaries.items c.deref.result.now c.args.cells.now.filled c.match_pieces.new.cells.filled c.utf8.rest c.in_ok-boundaries.ensures c.deref.ensures.value c.in_ok-later.ensures.filled

pub returns-clause-filled : goal.returns-clause-filled
returns-clause-filled g c = rest_filled c.args.left.now c.args.rest.now c.in_ok-boundaries.boundaries.items c.deref.result.now c.args.cells.now.filled c.match_pieces.new.cells.filled c.utf8.rest c.in_ok-boundaries.ensures c.deref.ensures.value c.in_ok-later.ensures.filled
