use Rattle.gk_report.proofs.Common.{drop, map, Log, items_of, SendsItems, step_row, step_data}
use Rattle.gk_report.proofs.json_report.write_steps.Given as goal

-- whatever ends the steps that are left ends all of them
abbrev pub invariant-loop-step : goal.invariant-loop-step
invariant-loop-step g l =
    (end : Log) → SendsItems (items_of (map step_data (map step_row (drop l.step-index l.steps)))) (g.S.Serializer.written l.out) end → SendsItems (items_of (map step_data (map step_row l.steps))) (g.S.Serializer.written l.initial.out) end
