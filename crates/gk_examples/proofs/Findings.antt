-- What is found in small files, worked by computation.
use Rattle.std.proofs.Common.{codes, ◌≡◌, ℕ, List, [], ◌∷◌, ◌++◌, Some, None, refl}
use Rattle.std.specs.Str.{chars, is_utf8}
use lib.Utf8
use Rattle.gk_gherkin.specs.declared.feature.StepType.TheVariants.{Given}
use Rattle.gk_gherkin.specs.Class.{class, class_of, class_of_words}
use Rattle.gk_gherkin.specs.DocStrings.{closes}
use Rattle.gk_gherkin.specs.Feature.{Empty, StepValue, ExamplesValue, ScenarioValue, FeatureValue}
use Rattle.gk_lint.specs.declared.findings.FindingKind.TheVariants.{CrAlone, FileWithoutFeature, FeatureWithoutScenarios, ScenarioWithoutSteps, OutlineWithoutRows, LikeKeyword, StepOutside}
use Rattle.gk_gherkin.specs.declared.keyword.Keyword.TheVariants as keywords
use Rattle.gk_lint.specs.Findings.{at_line}
use Rattle.gk_lint.specs.Likeness.{is_like_heading, is_other_blank, letter, same_letters, common_len, differ_at_first, is_one_off, is_exchanged, spelt_heading, spelt_step, begun_like, like}
use Rattle.gk_lint.specs.LineContext.{after}
use Rattle.gk_lint.specs.Misspelt.{misspelt}
use Rattle.gk_lint.specs.LineEnds.{cr_alone}
use Rattle.gk_lint.specs.MissingParts.{missing_in_scenario}
use Rattle.gk_lint.specs.FeatureFile.{of_reading}

-- Two misspelt lines; the same words in a doc string are content.
with_text : List (List ℕ)
with_text =
    codes "Feature: The lamp"
    ∷ codes "  Scenaro: old"
    ∷ codes "  Scenario: new"
    ∷ codes "    when it is dark"
    ∷ codes "    Given a note"
    ∷ codes ""
    ∷ codes "      ```"
    ∷ codes "      Scenaro: old"
    ∷ codes "      ```"
    ∷ []

misspelt_lines : misspelt with_text ≡ at_line 2 (LikeKeyword keywords.Scenario) ∷ at_line 4 (LikeKeyword keywords.When) ∷ []
unfolding with_text after closes class class_of class_of_words is_utf8 chars lib.Utf8.encode is_other_blank letter like begun_like spelt_heading spelt_step is_like_heading is_one_off is_exchanged differ_at_first common_len same_letters
misspelt_lines = refl

-- In a description a fence opens nothing, and neither does one after a step outside of a scenario. A fence is no prose, so the step above it is found. A step with `And` isn't found there.
with_fences : List (List ℕ)
with_fences =
    codes "Feature: The lamp"
    ∷ codes "  Given light"
    ∷ codes "  ```"
    ∷ codes "  Rul: one"
    ∷ codes "  And more"
    ∷ []

misspelt_in_description : misspelt with_fences ≡ at_line 2 StepOutside ∷ at_line 4 (LikeKeyword keywords.Rule) ∷ []
unfolding with_fences after closes class class_of class_of_words is_utf8 chars lib.Utf8.encode is_other_blank letter like begun_like spelt_heading spelt_step is_like_heading is_one_off is_exchanged differ_at_first common_len same_letters
misspelt_in_description = refl

-- A sentence in a description that begins like a step, at its end and in its middle; and steps below one.
with_prose : List (List ℕ)
with_prose =
    codes "Feature: The lamp"
    ∷ codes "  It is lit"
    ∷ codes "  when night falls."
    ∷ codes ""
    ∷ codes "  When it rains,"
    ∷ codes "  it smokes."
    ∷ codes "  Given oil"
    ∷ codes "  When it burns"
    ∷ []

steps_below_prose : misspelt with_prose ≡ at_line 7 StepOutside ∷ at_line 8 StepOutside ∷ []
unfolding with_prose after closes class class_of class_of_words is_utf8 chars lib.Utf8.encode is_other_blank letter like begun_like spelt_heading spelt_step is_like_heading is_one_off is_exchanged differ_at_first common_len same_letters
steps_below_prose = refl

-- Misspelt headings in a description: with its colon, between lines of prose; and without it, above one.
with_headings : List (List ℕ)
with_headings =
    codes "Feature: The lamp"
    ∷ codes "  It is lit."
    ∷ codes "  scenario: by night"
    ∷ codes "  The moon is up."
    ∷ codes ""
    ∷ codes "  Rule of thumb: oil first."
    ∷ codes "  Wicks come second."
    ∷ []

heading_in_prose : misspelt with_headings ≡ at_line 3 (LikeKeyword keywords.Scenario) ∷ []
unfolding with_headings after closes class class_of class_of_words is_utf8 chars lib.Utf8.encode is_other_blank letter like begun_like spelt_heading spelt_step is_like_heading is_one_off is_exchanged differ_at_first common_len same_letters
heading_in_prose = refl

-- One line with a carriage return in it, and two lines.
one_with_cr : cr_alone ((codes "Feature: F" ++ 13 ∷ codes "Scenario: S") ∷ []) ≡ at_line 1 CrAlone ∷ []
one_with_cr = refl

two_with_cr : cr_alone ((codes "Feature: F" ++ 13 ∷ codes "Scenario: S") ∷ codes "text" ∷ []) ≡ []
two_with_cr = refl

a_step : StepValue
a_step = record { keyword = codes "Given"; step_type = Given; text = codes "a lamp"; block = Empty; line = 4 }

plain : List StepValue → ScenarioValue
plain steps = record { keyword = codes "Scenario"; name = codes "S"; line = 3; tags = []; steps = steps; examples = [] }

with_steps : missing_in_scenario (plain (a_step ∷ [])) ≡ []
unfolding missing_in_scenario plain
with_steps = refl

without_steps : missing_in_scenario (plain []) ≡ at_line 3 ScenarioWithoutSteps ∷ []
unfolding missing_in_scenario plain
without_steps = refl

-- An outline with a header and no rows; and one, by its keyword, with nothing.
header_alone : ExamplesValue
header_alone = record { name = []; line = 9; tags = []; header = codes "n" ∷ []; rows = [] }

outline : List StepValue → List ExamplesValue → ScenarioValue
outline steps examples = record { keyword = codes "Scenario Outline"; name = codes "O"; line = 7; tags = []; steps = steps; examples = examples }

without_rows : missing_in_scenario (outline (a_step ∷ []) (header_alone ∷ [])) ≡ at_line 7 OutlineWithoutRows ∷ []
unfolding missing_in_scenario outline header_alone
without_rows = refl

with_nothing : missing_in_scenario (outline [] []) ≡ at_line 7 ScenarioWithoutSteps ∷ at_line 7 OutlineWithoutRows ∷ []
unfolding missing_in_scenario outline
with_nothing = refl

with_a_row : missing_in_scenario (outline (a_step ∷ []) (record header_alone { rows = record { line = 10; cells = codes "1" ∷ [] } ∷ [] } ∷ [])) ≡ []
unfolding missing_in_scenario outline header_alone
with_a_row = refl

-- A feature with one rule, with scenarios or none.
feature : List ScenarioValue → FeatureValue
feature scenarios = record { name = codes "F"; line = 1; tags = []; background = None; scenarios = []; rules = record { name = codes "R"; line = 2; tags = []; background = None; scenarios = scenarios } ∷ [] }

no_scenarios : of_reading (Some (feature [])) ≡ at_line 1 FeatureWithoutScenarios ∷ []
unfolding missing_in_scenario feature
no_scenarios = refl

scenario_in_rule : of_reading (Some (feature (plain [] ∷ []))) ≡ at_line 3 ScenarioWithoutSteps ∷ []
unfolding missing_in_scenario feature plain
scenario_in_rule = refl

no_feature : of_reading None ≡ at_line 1 FileWithoutFeature ∷ []
no_feature = refl
