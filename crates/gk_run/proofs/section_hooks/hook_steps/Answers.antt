use Rattle.gk_run.proofs.Common.{◌∙◌, [], Option, ap, map, option_copied, option_map_or, step_value, HookValue, hooks_value}
use Rattle.gk_run.proofs.WalkLemmas.{steps_found}
use Rattle.gk_run.proofs.section_hooks.hook_steps.Goals as goal

pub returns-in-Some : goal.returns-in-Some
returns-in-Some c =
    ap (map step_value) c.as_slice.ensures.value
    ∙ ap (λ (o : Option HookValue). option_map_or (λ (hook : HookValue). hook.steps) o []) c.in-Some.ensures
    ∙ steps_found (hooks_value c.args.hooks.now.file.now) c.args.kind (option_copied c.args.tag)

pub returns-in-None : goal.returns-in-None
returns-in-None c =
    ap (λ (o : Option HookValue). option_map_or (λ (hook : HookValue). hook.steps) o []) c.in-None.ensures
    ∙ steps_found (hooks_value c.args.hooks.now.file.now) c.args.kind (option_copied c.args.tag)
