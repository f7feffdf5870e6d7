use Rattle.gk_gherkin.proofs.Common.{ℕ, List, ap, sym, ◌∙◌, after_first, trim, is_colon, heading_name}
use Rattle.gk_gherkin.proofs.ClassWords.{at_colon, no_colon}
use Rattle.gk_gherkin.proofs.class.heading_name.Goals as goal

pub returns-in-Some : goal.returns-in-Some
unfolding heading_name
returns-in-Some c =
    c.trim.ensures ∙ ap trim ((at_colon c.trim-text.result.now _ c.split_once.ensures.cases _ c.in-Some.is).1 ∙ ap (after_first is_colon) c.trim-text.ensures)

pub returns-in-None : goal.returns-in-None
unfolding heading_name
returns-in-None c =
    sym (no_colon c.trim-text.result.now _ c.split_once.ensures.cases c.in-None.is).1 ∙ ap (λ (text : List ℕ). trim (after_first is_colon text)) c.trim-text.ensures
