use Rattle.gk_lint.proofs.Common.{◌≡◌, ◌++◌, map, drop, hook_value, of_hooks, finding_values, found_in, used_in}
use Rattle.gk_lint.proofs.written_steps.add_hooks.Given as goal

abbrev pub invariant-loop-hook : goal.invariant-loop-hook
invariant-loop-hook l = record {
  found : finding_values l.found.findings.items ++ found_in l.hints (of_hooks (map hook_value (drop l.hook-index l.hooks))) ≡ finding_values l.fn.found.findings.items ++ found_in l.hints (of_hooks (map hook_value l.hooks));
  used : l.found.used.items ++ used_in l.hints (of_hooks (map hook_value (drop l.hook-index l.hooks))) ≡ l.fn.found.used.items ++ used_in l.hints (of_hooks (map hook_value l.hooks));
}
