-- Looking up hooks.
use Rattle.std.specs.Prelude.{ℕ, List, Option, find}
use Rattle.gk_gherkin.specs.declared.hooks.HookKind.{HookKind}
use Rattle.gk_gherkin.specs.Hooks.{HookValue, is_for}

-- The first of some hooks for a kind and a tag, if there is one. Without a tag: the first for this kind that has no tag. (this project's profile)
abbrev pub hook_for : List HookValue → HookKind → Option (List ℕ) → Option HookValue
hook_for hooks kind tag = find (λ (hook : HookValue). is_for hook kind tag) hooks
