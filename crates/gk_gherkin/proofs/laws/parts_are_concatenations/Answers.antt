use Rattle.gk_gherkin.proofs.Prefixes.{examples_lines, table_lines, doc_string_lines, hook_lines, step_lines, background_lines, scenario_lines, rule_lines, feature_lines}
use Rattle.gk_gherkin.proofs.laws.parts_are_concatenations.Goals as goal

pub returns-clause-steps : goal.returns-clause-steps
returns-clause-steps c = step_lines

pub returns-clause-backgrounds : goal.returns-clause-backgrounds
returns-clause-backgrounds c = background_lines

pub returns-clause-scenarios : goal.returns-clause-scenarios
returns-clause-scenarios c = scenario_lines

pub returns-clause-rules : goal.returns-clause-rules
returns-clause-rules c = rule_lines

pub returns-clause-features : goal.returns-clause-features
returns-clause-features c = feature_lines

pub returns-clause-examples : goal.returns-clause-examples
returns-clause-examples c = examples_lines

pub returns-clause-tables : goal.returns-clause-tables
returns-clause-tables c = table_lines

pub returns-clause-doc_strings : goal.returns-clause-doc_strings
returns-clause-doc_strings c = doc_string_lines

pub returns-clause-hooks : goal.returns-clause-hooks
returns-clause-hooks c = hook_lines
