-- What changes and ended layers leave of the layers further out, and what changes are to the plain state.
use Rattle.gk_world.proofs.Common.{◌≡◌, ℕ, ◌<◌, List, [], ◌∷◌, length, refl, ◌∙◌, arith, common_steps, Texts, Contents, with_text, without, laid, own_of, outer_of, state_of, SandboxValue, LeadsTo, done, change, layer, LayersGiveBack, ChangesAreOfState, with_value, without_value}
use Rattle.std.specs.FinMap as finite
use Rattle.gk_world.proofs.StateLemmas.{inserted, removed}

-- changes and ended layers leave what the ends of the open layers give
kept : {s t : SandboxValue} → LeadsTo s t → (t.saved ≡ s.saved) × (t.starts ≡ s.starts)
kept done = (refl, refl)
kept (change b w) = let r = kept w in (r.0 ∙ b.layers, r.1 ∙ b.starts)
kept (layer w e v) = grind (arith, common_steps, kept w, kept v)

pub give_back : LayersGiveBack
give_back s t u w e = grind (arith, common_steps, kept)

-- ---- the plain state
set_own : (f e : Texts) (vs : List Texts) (name text : List ℕ) → 0 < length vs → let c : Contents = record { files = f; env = e; values = vs } in state_of (with_value c name text) ≡ record (state_of c) { own = with_text (state_of c).own name text }
set_own f e [] name text lt = absurd (omega arith)
set_own f e (v ∷ vs) name text lt = λ i. record { files = finite.get f; env = finite.get e; outer = laid vs; own = inserted v name text i }

taken_own : (f e : Texts) (vs : List Texts) (name : List ℕ) → 0 < length vs → let c : Contents = record { files = f; env = e; values = vs } in state_of (without_value c name) ≡ record (state_of c) { own = without (state_of c).own name }
taken_own f e [] name lt = absurd (omega arith)
taken_own f e (v ∷ vs) name lt = λ i. record { files = finite.get f; env = finite.get e; outer = laid vs; own = removed v name i }

pub of_state : ChangesAreOfState
of_state = record {
  file = λ c name text i. record { files = inserted c.files name text i; env = finite.get c.env; outer = outer_of c.values; own = own_of c.values };
  no_file = λ c name i. record { files = removed c.files name i; env = finite.get c.env; outer = outer_of c.values; own = own_of c.values };
  env = λ c name text i. record { files = finite.get c.files; env = inserted c.env name text i; outer = outer_of c.values; own = own_of c.values };
  no_env = λ c name i. record { files = finite.get c.files; env = removed c.env name i; outer = outer_of c.values; own = own_of c.values };
  value = λ c name text lt. set_own c.files c.env c.values name text lt;
  no_value = λ c name lt. taken_own c.files c.env c.values name lt;
}
