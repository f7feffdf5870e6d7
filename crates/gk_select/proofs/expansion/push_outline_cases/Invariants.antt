use Rattle.gk_select.proofs.Common.{◌≡◌, ◌++◌, ◌+◌, map, flat_map, drop, AllByRecursion, enumerate_from, examples_value, scenario_value, case_value, examples_cases, inherited_value, AllFit}
use Rattle.gk_select.proofs.expansion.push_outline_cases.Given as goal

abbrev pub invariant-loop-i : goal.invariant-loop-i
invariant-loop-i l = record {
  fit : AllByRecursion AllFit (map examples_value (drop l.i l.parts));
  built : map case_value l.cases.items ++ flat_map (examples_cases (inherited_value l.inherited) (scenario_value l.scenario)) (enumerate_from (l.i + 1) (map examples_value (drop l.i l.parts)))
      ≡ map case_value l.fn.cases.items ++ flat_map (examples_cases (inherited_value l.inherited) (scenario_value l.scenario)) (enumerate_from 1 (map examples_value l.parts));
}
