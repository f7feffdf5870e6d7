use Rattle.gk_request.proofs.Common.{take, texts, AreRules}
use Rattle.gk_request.proofs.inputs.read_rules.Given as goal

abbrev pub invariant-loop-text : goal.invariant-loop-text
invariant-loop-text l = AreRules (take l.text-index (texts l.tags)) l.rules.items
