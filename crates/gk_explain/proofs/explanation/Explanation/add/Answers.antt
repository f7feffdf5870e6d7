use Rattle.gk_explain.proofs.Common.{◌∙◌, sym, event_value, explanation_value}
use Rattle.gk_explain.proofs.ExplanationLemmas.{run_added, feature_added, rule_added, scenario_added}
use Rattle.gk_explain.proofs.explanation.Explanation.add.Goals as goal

pub returns-in-Run : goal.returns-in-Run
returns-in-Run c = run_added c.add.result (explanation_value c.args.self.now) (event_value c.args.event) _ _ (sym c.level_of.ensures ∙ c.in-Run.is) c.add.ensures.kept c.add.ensures.added

pub returns-in-Feature : goal.returns-in-Feature
returns-in-Feature c = feature_added c.add-in-Feature.result (explanation_value c.args.self.now) (event_value c.args.event) _ _ (sym c.level_of.ensures ∙ c.in-Feature.is) c.add-in-Feature.ensures.kept c.add-in-Feature.ensures.added

pub returns-in-Rule : goal.returns-in-Rule
returns-in-Rule c = rule_added c.add-in-Rule.result (explanation_value c.args.self.now) (event_value c.args.event) _ _ (sym c.level_of.ensures ∙ c.in-Rule.is) c.add-in-Rule.ensures.kept c.add-in-Rule.ensures.added

pub returns-in-Scenario : goal.returns-in-Scenario
returns-in-Scenario c = scenario_added c.add-in-Scenario.result (explanation_value c.args.self.now) (event_value c.args.event) _ _ (sym c.level_of.ensures ∙ c.in-Scenario.is) c.add-in-Scenario.ensures.kept c.add-in-Scenario.ensures.added
