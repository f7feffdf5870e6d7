use Rattle.gk_steps.proofs.PatternReadingLemmas.{computed, spelled}
use Rattle.gk_steps.proofs.laws.spelling_is_computed.Goals as goal

pub returns : goal.returns
returns c = record { computed = computed; spelled = spelled }
