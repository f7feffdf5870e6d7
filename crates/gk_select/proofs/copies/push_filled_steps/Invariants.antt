use Rattle.gk_select.proofs.Common.{◌≡◌, ◌++◌, map, take, texts, step_value, filled, filled_step}
use Rattle.gk_select.proofs.copies.push_filled_steps.Given as goal

abbrev pub invariant-loop-step : goal.invariant-loop-step
invariant-loop-step l = map step_value l.into.items ≡ map step_value l.fn.into.items ++ map (filled_step (filled l.columns (texts l.row))) (map step_value (take l.step-index l.from))
