-- The tags of a case, in the lists in which they are written.
use Rattle.std.specs.Prelude.{ℕ, List, ◌++◌}
use Rattle.gk_select.specs.declared.tag_lists.TagLists.{TagLists}

-- All tags of a case, in the order in which it has them. (Cucumber's Gherkin reference: tag inheritance)
abbrev pub tags_of : TagLists → List (List ℕ)
tags_of lists = (lists.feature.now ++ lists.rule.now) ++ lists.scenario.now ++ lists.examples.now
