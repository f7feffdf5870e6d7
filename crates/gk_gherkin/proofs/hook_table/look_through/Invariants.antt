use Rattle.gk_gherkin.proofs.Common.{◌≡◌, drop, find, map, option_copied, HookValue, hook_value, is_for}
use Rattle.gk_gherkin.proofs.hook_table.look_through.Given as goal

abbrev pub invariant-loop-hook : goal.invariant-loop-hook
invariant-loop-hook l = find (λ (h : HookValue). is_for h l.kind (option_copied l.tag)) (map hook_value (drop l.hook-index l.hooks)) ≡ find (λ (h : HookValue). is_for h l.kind (option_copied l.tag)) (map hook_value l.fn.hooks)
