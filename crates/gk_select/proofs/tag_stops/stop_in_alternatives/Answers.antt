use Rattle.gk_select.proofs.Common.{map, sym, arith, map-append, YieldsList-from_str_split, YieldsList-so_far, YieldsList-turn, YieldsList-end}
use Rattle.gk_select.proofs.TagStopLemmas.{stops_at_piece, passes_piece, passes_all}
use Rattle.gk_select.proofs.tag_stops.stop_in_alternatives.Goals as goal

pub returns-then-not-is_alternative : goal.returns-then-not-is_alternative
returns-then-not-is_alternative c =
    let yields = YieldsList-from_str_split 44 c.args.text.now (omega arith) (cc) (cc) (cc) in
    let t = YieldsList-turn yields c.loop-piece.yielded _ c.loop-piece.yielded_by _ _ c.in-Some.piece c.in-Some.is c.next.ensures.steps in
    sym (stops_at_piece _ _ _ c.in-Some.piece.now (YieldsList-so_far yields c.loop-piece.yielded _ c.loop-piece.yielded_by) t.0 t.1 c.loop-piece.invariant.2 c.is_alternative.result c.is_alternative.ensures c.if-not-is_alternative.true)

pub loop-piece-preserved : goal.loop-piece-preserved
loop-piece-preserved c = (tt, tt, passes_piece (map (λ x. x.now) c.loop-piece.yielded) _ c.in-Some.piece.now c.loop-piece.invariant.2 (map-append (λ x. x.now) c.loop-piece.yielded _) c.is_alternative.result c.is_alternative.ensures c.if-not-is_alternative.false)

pub returns : goal.returns
returns c =
    let t = YieldsList-end (YieldsList-from_str_split 44 c.args.text.now (omega arith) (cc) (cc) (cc)) c.loop-piece.yielded _ c.loop-piece.yielded_by _ _ c.in-None.is c.next.ensures.steps in
    passes_all c.args.text.now _ t.0 c.loop-piece.invariant.2
