use Rattle.gk_program.proofs.Common.{◌∙◌, ap, arith, into_iter_items, map, pair_value, subst, common_steps}
use Rattle.gk_program.proofs.WorldFilesLemmas.{AreTakenSoFar, one_taken, stops_at_variable}
use Rattle.gk_program.proofs.world_files.put_variables.Goals as goal

pub loop-name-preserved : goal.loop-name-preserved
loop-name-preserved c = grind (arith, common_steps, AreTakenSoFar, one_taken)

pub returns-in-Err-clause-fault : goal.returns-in-Err-clause-fault
returns-in-Err-clause-fault c =
    let given = map pair_value c.args.variables.items in
    let so_far = subst (λ l. AreTakenSoFar given l c.args.sandbox.now c.loop-name.sandbox) (ap (map pair_value) c.in-Some.ensures.steps.0) c.loop-name.invariant in
    let refused = rw (c.as_str.ensures.value, c.as_str-in-loop-name.ensures.value) at c.in-Err.ensures.answer in
    let stops = stops_at_variable given (map pair_value (into_iter_items c.next.new.self)) (pair_value (c.in-Some.name, c.in-Some.text)) c.args.sandbox.now c.loop-name.sandbox c.in-Err.fault c.fault_of_variable.result so_far refused c.fault_of_variable.ensures in
    (stops.0, ap (λ s. s.now) c.in-Err.ensures.err ∙ stops.1)
