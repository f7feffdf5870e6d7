use Rattle.gk_steps.proofs.Common.{◌∙◌, List, ℕ, ap, arith, subst, length, key_over, IsLeast, NoneIsLessAt}
use Rattle.gk_steps.proofs.EntryIndexLemmas.{least_kept, places_none, places_more, places_all}
use Rattle.gk_steps.proofs.entry_index.Index.next_inside.Goals as goal

pub loop-start-init : goal.loop-start-init
loop-start-init c = record {
  low = c.least_under-least.ensures.low;
  high = c.least_under-least.ensures.high;
  whole = subst (λ key. IsLeast c.args.self.now key c.args.from c.least_under-least.result) (c.key_over.ensures ∙ ap (key_over 0) c.as_bytes-bytes.ensures.value) c.least_under-least.ensures.least;
  literals = places_none c.args.self.now c.args.from c.least_under-least.result c.args.text.now;
}

pub loop-start-preserved : goal.loop-start-preserved
loop-start-preserved c =
    let index = c.args.self.now in
    let from = c.args.from in
    let before = c.loop-start.least in
    let now = c.next_at-least.result in
    let less = c.next_at-least.ensures.high in
    record {
      low = λ le. c.next_at-least.ensures.low (c.loop-start.invariant.low le);
      high = omega (arith, less, c.loop-start.invariant.high);
      whole = least_kept index (key_over 0 c.args.text.now) from before now less c.loop-start.invariant.whole;
      literals = places_more index from before now c.loop-start.start c.args.text.now less c.loop-start.invariant.literals (subst (λ (bytes : List ℕ). NoneIsLessAt index c.loop-start.start from bytes now) c.as_bytes-bytes.ensures.value c.next_at-least.ensures.least);
    }

pub returns : goal.returns
returns c = places_all c.args.self.now c.args.from c.args.most c.loop-start.least c.loop-start.start c.args.text.now
    (omega (arith, c.loop-start-test.false, c.saturating_sub-start-end.ensures, ap length c.as_bytes-bytes.ensures.value))
    c.loop-start.invariant.low c.loop-start.invariant.high c.loop-start.invariant.whole c.loop-start.invariant.literals
