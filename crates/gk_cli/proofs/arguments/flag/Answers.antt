use Rattle.gk_cli.proofs.Common.{◌∙◌, ap, codes, false, option_map_or, bytes_eq, found_of, one_text-rows}
use Rattle.gk_cli.proofs.ArgumentsLemmas.{flag_read}
use Rattle.gk_cli.proofs.arguments.flag.Goals as goal

pub returns : goal.returns
returns c =
    flag_read _ _ c.get_one.result c.unwrap_or.result c.get_one.ensures.none c.get_one.ensures.value c.unwrap_or.ensures
    ∙ ap (λ o. option_map_or (λ v. bytes_eq v (codes "true")) o false) (one_text-rows (found_of c.args.matches.now) c.args.name.now)
