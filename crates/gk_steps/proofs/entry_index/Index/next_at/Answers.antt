use Rattle.gk_steps.proofs.Common.{◌∙◌, ◌+◌, ℕ, ap, sym, subst, arith, take, get_or, key_over, IsLeast}
use Rattle.gk_steps.specs.declared.keyed_numbers.Keyed.{Keyed}
use Rattle.gk_steps.specs.KeyedNumbers.{bucket_of}
use Rattle.gk_steps.proofs.EntryIndexLemmas.{LeastOf, get_there, lengths_more, lengths_all}
use Rattle.gk_steps.proofs.entry_index.Index.next_at.Goals as goal
use Rattle.gk_steps.proofs.entry_index.Index.next_at.Goals.{then-item-window+then-item-rest, else-item-window, else-item-window-via-then-item-window+else-item-rest, else-item-window-via-else-item-window}

pub loop-k-preserved : goal.loop-k-preserved
loop-k-preserved c =
    let index = c.args.self.now in
    let start = c.args.start in
    let from = c.args.from in
    let bytes = c.args.bytes.now in
    let items = c.bucket_of-lengths.result.now in
    let k = c.loop-k.k in
    let old = c.loop-k.least in
    let none : Keyed = record { key = 0; number = 0 } in
    let item = get_or items k none in
    let there = get_there items k none c.loop-k-test.true in
    let Next : ℕ → Type 0 = LeastOf index start from bytes items (k + 1) in
    elim c.if-item-window.branch [
      | then-item-window+then-item-rest w ↦
          let new = w.least_under-least.result in
          let key = w.key_over.ensures ∙ ap (key_over 0) (w.split_at-then-item-rest.ensures.front ∙ ap (take _) c.split_at.ensures.back) in
          record {
            low = rw w.least-is (λ le. w.least_under-least.ensures.low (c.loop-k.invariant.low le));
            high = rw w.least-is (omega (arith, w.least_under-least.ensures.high, c.loop-k.invariant.high));
            least = subst Next (sym w.least-is) (lengths_more index start from old new k bytes items item there w.least_under-least.ensures.high c.loop-k.invariant.least
                (λ same fits. subst (λ n. IsLeast index n from new) key w.least_under-least.ensures.least));
          }
      | else-item-window w ↦ record {
        low = rw w.least-is c.loop-k.invariant.low;
        high = rw w.least-is c.loop-k.invariant.high;
        least = subst Next (sym w.least-is) (elim w.else-item-window.branch [
          | else-item-window-via-then-item-window+else-item-rest v ↦ lengths_more index start from old old k bytes items item there (omega arith) c.loop-k.invariant.least (λ same fits. absurd (omega (arith, v.if-item-rest.false, fits, c.split_at.ensures.back_len)))
          | else-item-window-via-else-item-window v ↦ lengths_more index start from old old k bytes items item there (omega arith) c.loop-k.invariant.least (λ same fits. absurd (v.if-item-window.false (same ∙ sym c.window_at-window.ensures.value)))
        ]);
      }
    ]

pub returns : goal.returns
returns c = lengths_all c.args.self.now c.args.start c.args.from c.args.most c.loop-k.least c.loop-k.k c.args.bytes.now c.bucket_of-lengths.result.now (c.bucket_of-lengths.ensures ∙ ap (bucket_of c.args.self.now.lengths.buckets.items) c.window_at-window.ensures.value) (omega (arith, c.loop-k-test.false)) c.loop-k.invariant.low c.loop-k.invariant.high c.loop-k.invariant.least
