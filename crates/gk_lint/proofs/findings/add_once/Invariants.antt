use Rattle.gk_lint.proofs.Common.{◌≡◌, ◌++◌, drop, finding_values, named_once}
use Rattle.gk_lint.proofs.findings.add_once.Given as goal

abbrev pub invariant-loop-fault : goal.invariant-loop-fault
invariant-loop-fault l = finding_values l.findings.items ++ named_once (drop l.fault-index l.these) l.line l.faults ≡ finding_values l.fn.findings.items ++ named_once l.these l.line l.faults
