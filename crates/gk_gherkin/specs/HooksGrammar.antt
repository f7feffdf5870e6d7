-- The grammar of a hooks file, written like that of a feature file.
use Rattle.std.specs.Prelude.{◌≡◌, ◌≢◌, List, [], ◌∷◌, Some}
use Rattle.std.specs.List.{AllByRecursion}
use Rattle.gk_gherkin.specs.declared.hook_headings.HooksClass.TheVariants.{HookLine}
use Rattle.gk_gherkin.specs.Lines.{LineValue, Lines}
use Rattle.gk_gherkin.specs.HookHeadings.{hooks_class, HookHeadingValue, hook_heading}
use Rattle.gk_gherkin.specs.Hooks.{HookValue}
use Rattle.gk_gherkin.specs.Grammar.{IsIgnored, Skips, Next, Many, AreSteps}

-- The heading of a hook.
abbrev pub heading_of : HookValue → HookHeadingValue
heading_of hook = record { kind = hook.kind; tag = hook.tag }

-- HookPart = hook StepPart*. (this project's profile)
pub record IsHook (ls : Lines) (hook : HookValue) (rest : Lines) : Type 0 where
  pub line : LineValue
  pub after_heading : Lines
  pub next : Next IsIgnored ls line after_heading
  pub is : hooks_class line ≡ HookLine
  pub heading : hook_heading line ≡ Some (heading_of hook)
  pub number : hook.line ≡ line.line
  pub steps : AreSteps after_heading hook.steps rest

-- No two hooks have the same heading.
abbrev pub AreDistinct : List HookValue → Type 0
AreDistinct [] = Unit {0}
AreDistinct (hook ∷ others) = AllByRecursion (λ other. heading_of other ≢ heading_of hook) others × AreDistinct others

-- Hooks = HookPart*. (this project's profile)
pub record ReadsHooks (ls : Lines) (hooks : List HookValue) : Type 0 where
  pub tail : Lines
  pub parts : Many IsHook ls hooks tail
  pub end : Skips IsIgnored tail []
  pub distinct : AreDistinct hooks

-- A list of lines that is readable as a hooks file: it has a reading.
abbrev pub AreHooksReadable : Lines → Type 0
AreHooksReadable ls = (hooks : List HookValue) × ReadsHooks ls hooks

-- No list of lines has two readings as a hooks file.
abbrev pub HaveOneHooksReading : Type 0
HaveOneHooksReading = (ls : Lines) (one other : List HookValue) → ReadsHooks ls one → ReadsHooks ls other → one ≡ other
