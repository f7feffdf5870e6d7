use Rattle.gk_steps.proofs.Common.{arith, common_steps}
use Rattle.gk_steps.proofs.SpellingLemmas.{empty_so, read_first, read_more, read_whole, begun_first, begun_field, begun_whole}
use Rattle.gk_steps.proofs.spelling.read_pieces.Goals as goal

pub loop-rest-init : goal.loop-rest-init
loop-rest-init c = grind (arith, common_steps, read_first, begun_first)

pub loop-rest-preserved : goal.loop-rest-preserved
loop-rest-preserved c = grind (arith, common_steps, read_more, begun_field)

pub returns-clause-found : goal.returns-clause-found
returns-clause-found c = grind (arith, common_steps, empty_so, read_whole)

pub returns-in_err-after-clause-memory : goal.returns-in_err-after-clause-memory
returns-in_err-after-clause-memory c = λ same. begun_whole c.args.text.now c.loop-rest.rest.now c.loop-rest.invariant.2 c.in_err-after.ensures.memory

pub returns-in_err-rest-in-Some-clause-memory : goal.returns-in_err-rest-in-Some-clause-memory
returns-in_err-rest-in-Some-clause-memory c = grind (arith, common_steps, begun_field)
