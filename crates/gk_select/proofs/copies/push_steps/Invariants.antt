use Rattle.gk_select.proofs.Common.{◌≡◌, ◌++◌, map, take, step_value}
use Rattle.gk_select.proofs.copies.push_steps.Given as goal

abbrev pub invariant-loop-step : goal.invariant-loop-step
invariant-loop-step l = map step_value l.into.items ≡ map step_value l.fn.into.items ++ map step_value (take l.step-index l.from)
