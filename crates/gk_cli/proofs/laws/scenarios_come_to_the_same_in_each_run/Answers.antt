use Rattle.gk_cli.proofs.SameResultLaw.{same_in_each_run}
use Rattle.gk_cli.proofs.laws.scenarios_come_to_the_same_in_each_run.Goals as goal

pub returns : goal.returns
returns c = same_in_each_run c.reading_is_unique.ensures c.texts_have_one_tag_rule.ensures c.library_reading_is_unique.ensures c.hooks_reading_is_unique.ensures c.cases_fall_into_rules.ensures c.results_are_the_same_in_each_run.ensures
