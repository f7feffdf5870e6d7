-- The contents of a hooks file as plain values. Texts are lists of bytes, and tags include their `@`.
use Rattle.std.specs.Prelude.{ℕ, Bool, true, false, ◌==◌, ◌&&◌, List, map, Option, Some, None, option_map}
use Rattle.std.specs.Str.{bytes_eq}
use Rattle.std.specs.String.{string_bytes}
use Rattle.gk_gherkin.specs.declared.hooks.HookKind.{HookKind}
use Rattle.gk_gherkin.specs.declared.hooks.HookKind.TheVariants.{BeforeAll, AfterAll, BeforeFeature, AfterFeature, BeforeRule, AfterRule, BeforeScenario, AfterScenario, BeforeTag, AfterTag}
use Rattle.gk_gherkin.specs.declared.hooks.Hook.{Hook}
use Rattle.gk_gherkin.specs.declared.hooks.HookFile.{HookFile}
use Rattle.gk_gherkin.specs.Feature.{StepValue, step_value}

-- A hook: its kind, the tag that it is for, if its kind has one, the line of its heading, and its steps. (behave's documentation: environment file functions)
pub record HookValue : Type 0 where
  pub kind : HookKind
  pub tag : Option (List ℕ)
  pub line : ℕ
  pub steps : List StepValue

-- The value of a `Hook`.
abbrev pub hook_value : Hook → HookValue
hook_value h = record { kind = h.kind; tag = option_map string_bytes h.tag; line = h.line; steps = map step_value h.steps.items }

-- The value of a `HookFile`.
abbrev pub hooks_value : HookFile → List HookValue
hooks_value file = map hook_value file.hooks.items

-- The number of a kind among the kinds.
abbrev pub number_of_kind : HookKind → ℕ
number_of_kind BeforeAll = 0
number_of_kind AfterAll = 1
number_of_kind BeforeFeature = 2
number_of_kind AfterFeature = 3
number_of_kind BeforeRule = 4
number_of_kind AfterRule = 5
number_of_kind BeforeScenario = 6
number_of_kind AfterScenario = 7
number_of_kind BeforeTag = 8
number_of_kind AfterTag = 9

-- Whether two kinds are the same.
abbrev pub is_same_kind : HookKind → HookKind → Bool
is_same_kind a b = number_of_kind a == number_of_kind b

-- Whether two tags are the same, or both missing.
abbrev pub is_same_tag : Option (List ℕ) → Option (List ℕ) → Bool
is_same_tag None None = true
is_same_tag None (Some b) = false
is_same_tag (Some a) None = false
is_same_tag (Some a) (Some b) = bytes_eq a b

-- Whether a hook is for this kind and this tag. Without a tag: whether it is for this kind and has no tag.
abbrev pub is_for : HookValue → HookKind → Option (List ℕ) → Bool
is_for hook kind tag = is_same_kind hook.kind kind && is_same_tag hook.tag tag
