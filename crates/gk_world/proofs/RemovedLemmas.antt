-- What a removal ensures where its absence is a fault.
use Rattle.gk_world.proofs.Common.{◌≡◌, sym, subst, Option, Some, None, Result, IfSome, IfNone, IfOk, IfErr, OnOk, OnErr, ok_or}

module _ {A E : Type 0} (e : E) (o : Option A) (r : Result A E) (is : r ≡ ok_or o e) where
  pub found_only : (P : A → Type 0) → IfSome o P → IfOk r P
  found_only P h = subst (λ r. IfOk r P) (sym is) (by o h)
    where
      by : (o : Option A) → IfSome o P → IfOk (ok_or o e) P
      by (Some x) h = h
      by None h = tt

  pub found_done : (P Q : Type 0) → (P → Q) → IfSome o (λ _. P) → OnOk r Q
  found_done P Q f h = subst (λ r. OnOk r Q) (sym is) (by o h)
    where
      by : (o : Option A) → IfSome o (λ _. P) → OnOk (ok_or o e) Q
      by (Some x) h = f h
      by None h = tt

  pub none_same : (P Q : Type 0) → (P → Q) → IfNone o P → OnErr r Q
  none_same P Q f h = subst (λ r. OnErr r Q) (sym is) (by o h)
    where
      by : (o : Option A) → IfNone o P → OnErr (ok_or o e) Q
      by (Some x) h = tt
      by None h = f h

  pub none_refused : (P : Type 0) (Q : E → Type 0) → (P → Q e) → IfNone o P → IfErr r Q
  none_refused P Q f h = subst (λ r. IfErr r Q) (sym is) (by o h)
    where
      by : (o : Option A) → IfNone o P → IfErr (ok_or o e) Q
      by (Some x) h = tt
      by None h = f h
