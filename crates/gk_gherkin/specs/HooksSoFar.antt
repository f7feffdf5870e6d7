-- Proof machinery: the value of the hooks read so far. No public contract cites it.
use Rattle.std.specs.Prelude.{List, map}
use Rattle.gk_gherkin.specs.declared.hooks_so_far.HooksSoFar.{HooksSoFar}
use Rattle.gk_gherkin.specs.Hooks.{HookValue, hook_value}

-- The value of a `HooksSoFar`.
abbrev pub so_far_value : HooksSoFar → List HookValue
so_far_value s = map hook_value s.hooks.items
