use Rattle.gk_lint.proofs.Common.{◌≡◌, ◌++◌, map, drop, hook_value, in_set, finding_values, idle_hooks}
use Rattle.gk_lint.proofs.tag_use.idle_hooks.Given as goal

abbrev pub invariant-loop-hook : goal.invariant-loop-hook
invariant-loop-hook l = finding_values l.findings.items ++ idle_hooks (in_set l.tags) (map hook_value (drop l.hook-index l.hooks)) ≡ idle_hooks (in_set l.tags) (map hook_value l.hooks)
