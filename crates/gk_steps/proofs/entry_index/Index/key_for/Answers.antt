use Rattle.gk_steps.proofs.Common.{◌∙◌, ap, subst, refl, inr, length, List, ℕ, key_over, window_at}
use Rattle.gk_steps.specs.KeyedNumbers.{IsUnder}
use Rattle.gk_steps.proofs.entry_index.Index.key_for.Goals as goal

pub returns-clause-key : goal.returns-clause-key
returns-clause-key c =
    let bytes = c.as_bytes-bytes.ensures.value in
    let lengths = c.push_once.new.self.buckets.items in
    inr (inr (
      refl,
      inr (record {
        literal = c.in-Some-rarest_literal.literal.now;
        has = c.in-Some-rarest_literal.ensures;
        key_is = c.key_over-2.ensures ∙ ap (key_over 0) bytes;
        length_is = subst (λ (b : List ℕ). IsUnder lengths (window_at b 0) (length b)) bytes
            (subst (λ (w : ℕ). IsUnder lengths w (length c.as_bytes-bytes.result.now)) c.window_at.ensures.value c.in_ok-push_once.ensures.added);
      }),
    ))
