-- What changes of the world are on its contents.
use Rattle.gk_world.proofs.Common.{◌≡◌, ℕ, zero, suc, ◌-◌, ◌<◌, ◌≤◌, List, ◌∷◌, None, refl, sym, ap, subst, ◌∙◌, arith, common_steps, Slot, Cell, WorldFault, layers, state_of, with_entry, with_innermost, World, WorldChange, ValueChange, IsFault, map_at, layers_of, Writes, contents_of, Steps, Refuses, IsHere, CanApply, changed, refusal, IsClear}
use Rattle.gk_world.specs.declared.world.WorldChange.TheVariants as changes
use Rattle.gk_world.specs.declared.values.ValueChange.TheVariants as values
use Rattle.gk_world.specs.Values as value

-- layers further out stay
layers_same : (d : ℕ) (s t : List Slot) → ((k : ℕ) → k < d → map_at k t ≡ map_at k s) → layers_of d t ≡ layers_of d s
layers_same zero s t h = refl
layers_same (suc d) s t h = λ i. h d (omega arith) i ∷ layers_same d s t (λ k lt. h k (omega arith)) i

-- a write into the innermost layer
layers_written : (d : ℕ) (n : List ℕ) (c : Cell) (s t : List Slot) → 0 < d → Writes n (d - 1) c s t → layers_of d t ≡ with_innermost (λ v. with_entry v n c) (layers_of d s)
layers_written zero n c s t lt w = absurd (omega arith)
layers_written (suc d) n c s t lt w = grind (arith, common_steps, layers_same)

-- the contents have the change's outcome
pub contents_changed : (c : WorldChange) (d : ℕ) (v w : World) → IsHere c d → Steps c v w → contents_of d w ≡ changed c (contents_of d v)
contents_changed (changes.File c) d v w here h = λ i. record { files = h.0.done i; env = map_at 0 (h.1 i); values = layers_of d (h.2 i) }
contents_changed (changes.Env c) d v w here h = λ i. record { files = map_at 0 (h.1 i); env = h.0.done i; values = layers_of d (h.2 i) }
contents_changed (changes.Value c) d v w here h = λ i. record { files = map_at 0 (h.1 i); env = map_at 0 (h.2 i); values = layers_written d (value.name_of c) (value.text_of c) v.values w.values here.1 (subst (λ l. Writes (value.name_of c) (l - 1) (value.text_of c) v.values w.values) here.0 h.0.done) i }

value_refusal : (c : ValueChange) (d : ℕ) (w : World) → value.layer_of c ≡ d → value.refusal c (value.state_at (value.layer_of c) w.values) ≡ value.refusal c (state_of (contents_of d w))
value_refusal (values.Set layer name text) d w e = refl
value_refusal (values.Delete layer name) d w e = ap (λ l. value.refusal (values.Delete layer name) (state_of (contents_of l w))) e

pub contents_allow : (c : WorldChange) (d : ℕ) (v w : World) → IsHere c d → Steps c v w → refusal c (contents_of d v) ≡ None
contents_allow (changes.File c) d v w here h = h.0.allowed
contents_allow (changes.Env c) d v w here h = h.0.allowed
contents_allow (changes.Value c) d v w here h = sym (value_refusal c d v here.0) ∙ h.0.allowed

pub contents_refuse : (c : WorldChange) (d : ℕ) (v : World) (e : WorldFault) → IsHere c d → Refuses c v e → IsFault (refusal c (contents_of d v)) e
contents_refuse (changes.File c) d v e here h = h
contents_refuse (changes.Env c) d v e here h = h
contents_refuse (changes.Value c) d v e here h = subst (λ r. IsFault r e) (value_refusal c d v here.0) h

-- layers beyond the depth stay without values
pub clear_still : (c : WorldChange) (d : ℕ) (v w : World) → IsHere c d → Steps c v w → IsClear d v → IsClear d w
clear_still (changes.File c) d v w here h clear = λ k le. ap (map_at k) h.2 ∙ clear k le
clear_still (changes.Env c) d v w here h clear = λ k le. ap (map_at k) h.2 ∙ clear k le
clear_still (changes.Value c) d v w here h clear = grind (arith, common_steps)

-- a change of the innermost layer can be asked for
pub here_applies : (c : WorldChange) (d : ℕ) → IsHere c d → d ≤ layers → CanApply c
here_applies (changes.File c) d here le = tt
here_applies (changes.Env c) d here le = tt
here_applies (changes.Value c) d here le = grind (arith, common_steps)
