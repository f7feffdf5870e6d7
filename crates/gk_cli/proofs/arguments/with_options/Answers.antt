use Rattle.gk_cli.proofs.Common.{◌∙◌}
use Rattle.gk_cli.proofs.ArgumentsLemmas.{adds, one_rule_more}
use Rattle.gk_cli.proofs.arguments.with_options.Goals as goal

pub loop-row-preserved : goal.loop-row-preserved
loop-row-preserved c =
    let inv = c.loop-row.invariant in
    let r = one_rule_more inv.0 c.args.rows.now c.loop-row.row-index _ c.loop-row-test.true ∙ inv.2 in
    (_, adds inv.0 _ c.loop-row.command c.in_ok-command-2.command c.arg_of.result inv.1 c.arg_of.ensures c.in_ok-command-2.ensures, r)
