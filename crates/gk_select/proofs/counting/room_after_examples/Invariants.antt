use Rattle.gk_select.proofs.Common.{◌≡◌, ◌+◌, map, drop, sum_by, examples_value, left, examples_steps}
use Rattle.gk_select.proofs.counting.room_after_examples.Given as goal

abbrev pub invariant-loop-examples : goal.invariant-loop-examples
invariant-loop-examples l =
    left l.room (sum_by (examples_steps (l.inherited + l.own)) (map examples_value (drop l.examples-index l.parts)))
    ≡ left l.fn.room (sum_by (examples_steps (l.inherited + l.own)) (map examples_value l.parts))
