-- The positions at which an index lists the hooks of a file, by their tags.
use Rattle.std.specs.Prelude.{◌≡◌, ◌==◌, ◌≤◌, ◌<◌, ℕ, Bool, true, List, [], length, slice_get, Vec, String, Option, Some, None, option_map}
use Rattle.std.specs.Option.{option_map_or}
use Rattle.std.specs.List.{list_any}
use Rattle.std.specs.String.{string_bytes}
use Rattle.std.specs.BTreeMap.{BTreeMap, get_by_text}
use Rattle.std.specs.declared.alloc.Global.{Global}
use Rattle.gk_gherkin.specs.declared.hooks.Hook.{Hook}
use Rattle.gk_gherkin.specs.declared.hook_index.HookIndex.{HookIndex}

-- Whether a number is in a list.
abbrev pub is_among : ℕ → List ℕ → Bool
is_among n ns = list_any (λ k. n == k) ns

-- The positions listed under a tag.
abbrev pub positions_under : BTreeMap (String Global) (Vec ℕ Global) → List ℕ → List ℕ
positions_under tagged tag = option_map_or (λ (positions : Vec ℕ Global). positions.items) (get_by_text tagged tag) []

-- The positions of the hooks for a tag, or of those without a tag.
abbrev pub positions_of : HookIndex → Option (List ℕ) → List ℕ
positions_of index None = index.untagged.items
positions_of index (Some tag) = positions_under index.tagged tag

-- Each of these hooks is listed under its tag, at its position.
abbrev pub AreListed : HookIndex → List Hook → Type 0
AreListed index hooks = (position : ℕ) (hook : Hook) → slice_get hooks position ≡ Some hook → is_among position (positions_of index (option_map string_bytes hook.tag)) ≡ true

-- Nothing else is listed: each position under a tag is that of a hook with this tag.
abbrev pub ListsOnly : HookIndex → List Hook → Type 0
ListsOnly index hooks = (tag : Option (List ℕ)) (position : ℕ) → is_among position (positions_of index tag) ≡ true → (hook : Hook) × (slice_get hooks position ≡ Some hook) × (option_map string_bytes hook.tag ≡ tag)

-- Proof machinery, from here on. Each hook before this position is listed under its tag.
abbrev pub AreListedTo : HookIndex → List Hook → ℕ → Type 0
AreListedTo index hooks end = (position : ℕ) (hook : Hook) → position < end → slice_get hooks position ≡ Some hook → is_among position (positions_of index (option_map string_bytes hook.tag)) ≡ true

-- The least of the first `count` positions whose hook passes a test, or the number of hooks if none does.
pub record IsFirst (test : Hook → Bool) (hooks : List Hook) (positions : List ℕ) (count first : ℕ) : Type 0 where
  pub within : first ≤ length hooks
  pub passes : (hook : Hook) → slice_get hooks first ≡ Some hook → test hook ≡ true
  pub least : (k position : ℕ) (hook : Hook) → k < count → slice_get positions k ≡ Some position → slice_get hooks position ≡ Some hook → test hook ≡ true → first ≤ position
