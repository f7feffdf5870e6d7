use Rattle.gk_select.proofs.Common.{◌≡◌, map, drop, sum_by, scenario_value, left, scenario_steps}
use Rattle.gk_select.proofs.counting.room_after_scenarios.Given as goal

abbrev pub invariant-loop-scenario : goal.invariant-loop-scenario
invariant-loop-scenario l =
    left l.room (sum_by (scenario_steps l.inherited) (map scenario_value (drop l.scenario-index l.scenarios)))
    ≡ left l.fn.room (sum_by (scenario_steps l.inherited) (map scenario_value l.scenarios))
