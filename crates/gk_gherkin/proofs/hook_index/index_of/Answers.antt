use Rattle.gk_gherkin.proofs.Common.{◌∙◌, ap, get_or, Some, Hook}
use Rattle.gk_gherkin.proofs.HookIndexed.{got_at, listed_next, only_next}
use Rattle.gk_gherkin.proofs.hook_index.index_of.Goals as goal

pub loop-position-preserved : goal.loop-position-preserved
loop-position-preserved c =
    let hooks = c.args.hooks.now in
    let k = c.loop-position.position in
    let found = c.index-hooks-position.result in
    let hook : Hook = get_or hooks k found in
    let at = got_at hooks k found c.loop-position-test.true c.index-hooks-position.is ∙ ap Some c.index-hooks-position.is in (
      listed_next c.loop-position.index c.add.new.self hooks k hook at c.add.ensures.kept c.in_ok-add.ensures.added c.loop-position.invariant.0,
      only_next c.loop-position.index c.add.new.self hooks k hook at c.in_ok-add.ensures.last c.add.ensures.others c.loop-position.invariant.1,
    )
