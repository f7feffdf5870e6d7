-- The types of steps.
use Rattle.std.specs.Prelude.{codes, ◌≡◌, ℕ, List, [], ◌∷◌, if◌then◌else◌}
use Rattle.std.specs.Str.{bytes_eq}
use Rattle.gk_gherkin.specs.declared.feature.StepType.{StepType}
use Rattle.gk_gherkin.specs.declared.feature.StepType.TheVariants.{Given, When, Then}
use Rattle.gk_gherkin.specs.Feature.{StepValue}

-- The type that a keyword gives after a step of some type. `Given`, `When` and `Then` give their own; `And`, `But` and `*` give the type before. (behave's documentation: step implementations; that of `*` is this project's profile)
unfoldable pub type_after : StepType → List ℕ → StepType
type_after before keyword =
    if bytes_eq keyword (codes "Given") then Given else
    (if bytes_eq keyword (codes "When") then When else
    (if bytes_eq keyword (codes "Then") then Then else before))

-- Each step has the type that its keyword gives after the step before it.
abbrev pub AreTypedAfter : StepType → List StepValue → Type 0
AreTypedAfter before [] = Unit {0}
AreTypedAfter before (step ∷ steps) = (step.step_type ≡ type_after before step.keyword) × AreTypedAfter step.step_type steps

-- The steps of a background, a scenario or a hook are typed. Before the first of them the type is `Given`.
abbrev pub AreTyped : List StepValue → Type 0
AreTyped steps = AreTypedAfter Given steps
