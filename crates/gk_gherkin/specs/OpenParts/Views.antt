-- Proof machinery: the value of the code's children. No public contract cites it.
use Rattle.std.specs.Prelude.{Option, map, option_map}
use Rattle.std.specs.Global.{Vec}
use Rattle.gk_gherkin.specs.declared.feature.Background.{Background}
use Rattle.gk_gherkin.specs.declared.feature.Scenario.{Scenario}
use Rattle.gk_gherkin.specs.Feature.{background_value, scenario_value}
use Rattle.gk_gherkin.specs.OpenParts.{ChildrenValue}

-- The value of a background and some scenarios.
abbrev pub children_value : Option Background → Vec Scenario → ChildrenValue
children_value background scenarios = record { background = option_map background_value background; scenarios = map scenario_value scenarios.items }
