use Rattle.std.proofs.Common.{option_map, subst}
use Rattle.gk_gherkin.specs.Lines.{lines_of}
use Rattle.gk_gherkin.specs.Feature.{feature_value}
use Rattle.gk_gherkin.specs.Grammar.{Reads}
use Rattle.gk_tests.proofs.select_tests.shown_choice.Goals as goal

pub selected_cases-requires : goal.selected_cases-requires
selected_cases-requires c =
    let reads = subst (λ o. Reads (lines_of c.as_bytes.result.now) (option_map feature_value o)) c.in-Ok-Some.field-0-is c.in-Ok-Some.ensures.found.1 in
    c.read_features_are_expandable.ensures c.as_bytes.result.now (feature_value c.in-Ok-Some.feature) c.in-Ok-Some.ensures.found.0 reads
