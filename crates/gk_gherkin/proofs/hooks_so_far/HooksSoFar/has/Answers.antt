use Rattle.gk_gherkin.proofs.Common.{is_some, ◌∙◌, Bor, List, ap, map, option_copied, sym, Hook, HookValue, hook_value, is_for, hook_for, so_far_value}
use Rattle.gk_gherkin.proofs.HookIndexed.{any_found, some_mapped}
use Rattle.gk_gherkin.proofs.hooks_so_far.HooksSoFar.has.Goals as goal

pub returns : goal.returns
returns c =
    let tag = option_copied c.args.tag in
    c.is_some.ensures
    ∙ some_mapped (λ (hook : Bor Hook). hook_value hook.now) c.find_hook.result
    ∙ ap is_some c.find_hook.ensures
    ∙ ap (λ (hooks : List Hook). is_some (hook_for (map hook_value hooks) c.args.kind tag)) c.deref.ensures.value
    ∙ sym (any_found (λ (hook : HookValue). is_for hook c.args.kind tag) (so_far_value c.args.self.now))
