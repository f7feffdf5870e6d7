use Rattle.gk_run.proofs.Common.{subst, block_value, found_value, library_value, state_of, ActionEffect, HasRegistered, IsActed, done_of, use_value}
use Rattle.gk_run.specs.Acting.{no_place}
use Rattle.gk_run.proofs.ActingLemmas.{called_is}
use Rattle.gk_run.proofs.acting.act.Goals as goal

pub returns-clause-acted : goal.returns-clause-acted
returns-clause-acted c =
    let is = called_is (library_value c.args.library.now) c.args.site (found_value c.args.found.now) (block_value c.args.block.now) (state_of c.args.sandbox.now.now) (use_value c.used_of-used.result) c.used_of-used.ensures in
    subst (λ (a : ActionEffect). IsActed (done_of a) c.args.sandbox.now c.carry_out.result c.carry_out.new.sandbox) is c.carry_out.ensures.acted

pub returns-clause-registered : goal.returns-clause-registered
returns-clause-registered c =
    let is = called_is (library_value c.args.library.now) c.args.site (found_value c.args.found.now) (block_value c.args.block.now) (state_of c.args.sandbox.now.now) (use_value c.used_of-used.result) c.used_of-used.ensures in
    subst (λ (a : ActionEffect). HasRegistered a no_place c.args.cleanups.now c.carry_out.result c.carry_out.new.cleanups) is c.carry_out.ensures.registered
