-- Proof machinery: the number of steps of the cases, counted without the cases. No public contract cites it.
use Rattle.std.specs.Prelude.{ℕ, ◌+◌, ◌*◌, ◌-◌, nat_lt, length, sum_by, Option, Some, None, if◌then◌else◌}
use Rattle.gk_gherkin.specs.Feature.{ExamplesValue, ScenarioValue, RuleValue, FeatureValue}
use Rattle.gk_select.specs.Inherited.{background_steps}
use Rattle.gk_select.specs.Outline.{is_outline}

-- The room left after n, or `None` if n is more than the room.
abbrev pub left : ℕ → ℕ → Option ℕ
left room n = if nat_lt room n then None else Some (room - n)

-- The same, for room that may already be used up.
abbrev pub left_of : Option ℕ → ℕ → Option ℕ
left_of None n = None
left_of (Some room) n = left room n

-- The number of steps of the cases of Examples, with `steps` steps per case.
abbrev pub examples_steps : ℕ → ExamplesValue → ℕ
examples_steps steps e = length e.rows * steps

-- The number of steps of the cases of a scenario, with `inherited` background steps per case.
abbrev pub scenario_steps : ℕ → ScenarioValue → ℕ
scenario_steps inherited s = let steps = inherited + length s.steps in
    if is_outline s then sum_by (examples_steps steps) s.examples else steps

-- The number of steps of the cases of a rule.
abbrev pub rule_steps : ℕ → RuleValue → ℕ
rule_steps inherited r = sum_by (scenario_steps (inherited + length (background_steps r.background))) r.scenarios

-- The number of steps of the cases of a feature.
abbrev pub feature_steps : FeatureValue → ℕ
feature_steps f = let inherited = length (background_steps f.background) in
    sum_by (scenario_steps inherited) f.scenarios + sum_by (rule_steps inherited) f.rules
