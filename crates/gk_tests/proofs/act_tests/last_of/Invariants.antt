use Rattle.gk_world.specs.Sandbox.{KeepsLayers}
use Rattle.gk_tests.proofs.act_tests.last_of.Given as goal

-- the layers stay
abbrev pub invariant-loop-step : goal.invariant-loop-step
invariant-loop-step l =
    (goal.iterator-loop-step).can_next l.step-iterator
    × (goal.iterator-loop-step).is_finite l.step-iterator
    × KeepsLayers l.fn.sandbox l.sandbox
