use Rattle.gk_gherkin.proofs.Common.{◌∙◌, ap, option_copied, option_map, hook_value}
use Rattle.gk_gherkin.proofs.HookIndexed.{found_is, looked_up, read_behind}
use Rattle.gk_gherkin.proofs.hook_index.find_hook.Goals as goal

pub returns : goal.returns
returns c =
    let first = rw c.of.ensures at c.first_position-position.ensures in
    read_behind hook_value c.get.result
    ∙ ap (option_map hook_value) (looked_up c.args.hooks.now c.first_position-position.result c.get.result c.get.ensures.lookup.0 c.get.ensures.lookup.1)
    ∙ found_is c.args.index.now c.args.hooks.now c.args.kind (option_copied c.args.tag) c.first_position-position.result c.requires first
