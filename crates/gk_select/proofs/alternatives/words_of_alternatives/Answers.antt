use Rattle.gk_select.proofs.Common.{map, Option, IsSome, refl, sym, subst, arith, err_from_is_err_and, map-append, YieldsList-from_str_split, YieldsList-so_far, YieldsList-turn, YieldsList-end, AlternativeValue, alternative_value, word_value}
use Rattle.gk_select.proofs.AlternativeWords.{read_more, said, piece_needs_memory, memory_fails, fault_fails}
use Rattle.gk_select.proofs.alternatives.words_of_alternatives.Goals as goal

pub returns-in_err-read_alternative-clause-memory : goal.returns-in_err-read_alternative-clause-memory
returns-in_err-read_alternative-clause-memory c =
    let yields = YieldsList-from_str_split 44 c.args.text.now (omega arith) (cc) (cc) (cc) in
    let t = YieldsList-turn yields c.loop-piece.yielded _ c.loop-piece.yielded_by _ _ c.in-Some.piece c.in-Some.is c.next.ensures.steps in
    let p = err_from_is_err_and c.from_residual.result c.from_residual.ensures.1 in
    λ is_memory. memory_fails c.args.text.now c.in-Some.piece.now _ t.0 t.1 c.in_err-read_alternative.field-0.0 _ (map word_value c.loop-piece.words.items)
    (YieldsList-so_far yields c.loop-piece.yielded _ c.loop-piece.yielded_by) c.loop-piece.invariant.2 c.in_err-read_alternative.ensures (cc (is_memory, p.1, p.2))

pub returns-in_err-read_alternative-clause-fault : goal.returns-in_err-read_alternative-clause-fault
returns-in_err-read_alternative-clause-fault c =
    let t = YieldsList-turn (YieldsList-from_str_split 44 c.args.text.now (omega arith) (cc) (cc) (cc)) c.loop-piece.yielded _ c.loop-piece.yielded_by _ _ c.in-Some.piece c.in-Some.is c.next.ensures.steps in
    let p = err_from_is_err_and c.from_residual.result c.from_residual.ensures.1 in
    rw (p.1, p.2) (fault_fails c.args.text.now c.in-Some.piece.now _ t.0 t.1 c.in_err-read_alternative.field-0.0 c.in_err-read_alternative.ensures)

pub loop-piece-preserved : goal.loop-piece-preserved
loop-piece-preserved c = (
  tt,
  tt,
  read_more _ _ (map word_value c.loop-piece.words.items) _ c.in-Some.piece.now (alternative_value c.in_ok-read_alternative.field-0) c.loop-piece.invariant.2 (map-append (λ x. x.now) c.loop-piece.yielded _) c.in_ok-read_alternative.ensures c.in_ok-push_alternative.ensures,
)

pub returns-in_err-push_alternative-clause-memory : goal.returns-in_err-push_alternative-clause-memory
returns-in_err-push_alternative-clause-memory c =
    let yields = YieldsList-from_str_split 44 c.args.text.now (omega arith) (cc) (cc) (cc) in
    let t = YieldsList-turn yields c.loop-piece.yielded _ c.loop-piece.yielded_by _ _ c.in-Some.piece c.in-Some.is c.next.ensures.steps in
    λ _. piece_needs_memory c.args.text.now c.in-Some.piece.now _ t.0 t.1 _ (map word_value c.loop-piece.words.items)
    (YieldsList-so_far yields c.loop-piece.yielded _ c.loop-piece.yielded_by) c.loop-piece.invariant.2 (subst (λ (o : Option AlternativeValue). IsSome o) (sym c.in_ok-read_alternative.ensures) refl)

pub returns-clause-found : goal.returns-clause-found
returns-clause-found c =
    let t = YieldsList-end (YieldsList-from_str_split 44 c.args.text.now (omega arith) (cc) (cc) (cc)) c.loop-piece.yielded _ c.loop-piece.yielded_by _ _ c.in-None.is c.next.ensures.steps in
    said c.args.text.now _ (map word_value c.loop-piece.words.items) t.0 c.loop-piece.invariant.2
