use Rattle.gk_lint.proofs.Common.{◌≡◌, ◌++◌, map, drop, examples_value, lines_of_examples}
use Rattle.gk_lint.proofs.scenario_lines.push_lines.Given as goal

abbrev pub invariant-loop-part : goal.invariant-loop-part
invariant-loop-part l = l.lines.items ++ lines_of_examples (map examples_value (drop l.part-index l.scenario.examples.items)) ≡ l.fn.lines.items ++ lines_of_examples (map examples_value l.scenario.examples.items)
