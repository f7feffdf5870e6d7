use Rattle.gk_program.proofs.Common.{arith, map, pair_value, subst, sym, common_steps}
use Rattle.gk_program.proofs.WorldFilesLemmas.{ArePutSoFar, all_put, none_put, one_put, stops_putting}
use Rattle.gk_request.proofs.ResultLemmas.{passed_on}
use Rattle.gk_program.proofs.world_files.put_files.Goals as goal

pub loop-file-init : goal.loop-file-init
loop-file-init g c =
    let given = map pair_value c.args.files.items in
    subst (λ l. ArePutSoFar g.S.System.reads given (map pair_value l) c.args.system.now c.args.system.now c.args.sandbox.now c.args.sandbox.now) (sym c.into_iter-file-iterator.ensures.into_iter_gives.0)
    (none_put g.S.System.reads given c.args.system.now c.args.sandbox.now)

pub returns-in_err-put_file-clause-fault : goal.returns-in_err-put_file-clause-fault
returns-in_err-put_file-clause-fault g c = grind (arith, common_steps, ArePutSoFar, stops_putting, passed_on)

pub loop-file-preserved : goal.loop-file-preserved
loop-file-preserved g c = grind (arith, common_steps, ArePutSoFar, one_put)

pub returns-clause-put : goal.returns-clause-put
returns-clause-put g c = grind (arith, common_steps, all_put, ArePutSoFar)

pub returns-clause-layers : goal.returns-clause-layers
returns-clause-layers g c = c.loop-file.invariant.layers
