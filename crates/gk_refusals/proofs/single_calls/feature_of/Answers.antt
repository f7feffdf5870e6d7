use Rattle.std.proofs.Common.{option_map, subst}
use Rattle.gk_gherkin.specs.Lines.{lines_of}
use Rattle.gk_gherkin.specs.Feature.{feature_value}
use Rattle.gk_gherkin.specs.Grammar.{Reads}
use Rattle.gk_refusals.proofs.single_calls.feature_of.Goals as goal

pub returns-in-Ok-Some : goal.returns-in-Ok-Some
returns-in-Ok-Some c =
    let bytes = c.as_bytes.result.now in
    let found = c.in-Ok-Some.ensures.found in
    let reads = subst (λ o. Reads (lines_of bytes) (option_map feature_value o)) c.in-Ok-Some.field-0-is found.1 in
    c.read_features_are_expandable.ensures bytes (feature_value c.in-Ok-Some.feature) found.0 reads
