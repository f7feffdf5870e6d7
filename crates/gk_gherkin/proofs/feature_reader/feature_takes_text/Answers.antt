use Rattle.gk_gherkin.proofs.Common.{ap, children_in, children_take_text, feature_value, rule_value, sym, ◌∙◌}
use Rattle.gk_gherkin.proofs.LastItems.{last_is}
use Rattle.gk_gherkin.proofs.feature_reader.feature_takes_text.Goals as goal

pub returns-in-Some : goal.returns-in-Some
returns-in-Some c = c.children_take_text.ensures ∙ ap (λ o. children_take_text (children_in o (feature_value c.args.feature.now))) (sym (last_is rule_value c.args.feature.now.rules.items c.deref.result.now c.last.result c.in-Some.rule c.deref.ensures.value c.last.ensures.value c.in-Some.is))
