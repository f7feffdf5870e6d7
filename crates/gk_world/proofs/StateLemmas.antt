-- What changes of finite maps are to the plain state.
use Rattle.gk_world.proofs.Common.{◌≡◌, ℕ, cond, List, [], ◌∷◌, Some, None, refl, ◌∙◌, ap, nat_cmp, slice_cmp, get-empty, get-insert, get-remove, nat_list_cmp_total, is_eq-slice_cmp, Texts, Contents, with_layer, with_text, without, laid_over, enter, laid, own_of, outer_of, state_of}
use Rattle.std.specs.FinMap as finite

-- a map with a text put in
pub inserted : (m : Texts) (name text : List ℕ) → finite.get (finite.insert m name text) ≡ with_text (finite.get m) name text
inserted m name text i other = (get-insert nat_list_cmp_total m name text other ∙ ap (λ b. cond b (Some text) (finite.get m other)) (is_eq-slice_cmp other name)) i

-- a map with a name taken out
pub removed : (m : Texts) (name : List ℕ) → finite.get (finite.remove m name) ≡ without (finite.get m) name
removed m name i other = (get-remove nat_list_cmp_total m name other ∙ ap (λ b. cond b None (finite.get m other)) (is_eq-slice_cmp other name)) i

-- the layers further out, seen from a new one
outer_layers : (vs : List Texts) → laid vs ≡ laid_over (own_of vs) (outer_of vs)
outer_layers [] = refl
outer_layers (v ∷ vs) = refl

-- a layer that begins enters the plain state
pub entered : (c : Contents) → state_of (with_layer c) ≡ enter (state_of c)
entered c i = record {
  files = finite.get c.files;
  env = finite.get c.env;
  outer = outer_layers c.values i;
  own = λ name. get-empty (slice_cmp nat_cmp) name i;
}
