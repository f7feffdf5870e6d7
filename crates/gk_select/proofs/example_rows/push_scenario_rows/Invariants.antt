use Rattle.gk_select.proofs.Common.{◌≡◌, ◌++◌, drop, flat_map, map, examples_value, entry_value, rows_of_examples}
use Rattle.gk_select.proofs.example_rows.push_scenario_rows.Given as goal

abbrev pub invariant-loop-examples : goal.invariant-loop-examples
invariant-loop-examples l = map entry_value l.rows.items ++ flat_map rows_of_examples (map examples_value (drop l.examples-index l.scenario.examples.items))
    ≡ map entry_value l.fn.rows.items ++ flat_map rows_of_examples (map examples_value l.scenario.examples.items)
