-- Worked feature files and what they read as, or which fault they have, by computation.
use Rattle.std.specs.Prelude.{[], ◌∷◌, codes, Option, Some, None, refl}
use Rattle.gk_gherkin.specs.declared.feature.StepType.TheVariants.{Given, When, Then}
use Rattle.gk_gherkin.specs.declared.read_fault.ReadFault.TheVariants.{Unexpected, BadTag, BadRow, CellCount, Language, UnclosedText, TagsAtEnd}
use Rattle.gk_gherkin.specs.Lines.{Lines, lines_of}
use Rattle.gk_gherkin.specs.Class.{class, class_of, class_of_words, heading_keyword, heading_name, step_keyword, step_text}
use Rattle.gk_gherkin.specs.Tags.{tags_of}
use Rattle.gk_gherkin.specs.Rows.{cells_of, parts_of, unescaped}
use Rattle.gk_gherkin.specs.DocStrings.{closes, content_of}
use Rattle.gk_gherkin.specs.Language.{language_of}
use Rattle.gk_gherkin.specs.StepTypes.{type_after}
use Rattle.gk_gherkin.specs.Feature.{FeatureValue, Empty, Text, Table}
use Rattle.gk_gherkin.specs.Grammar.{Reads}
use Rattle.gk_gherkin.specs.ReadFault.{FeatureFault}
use Rattle.gk_gherkin.specs.OpenParts.{on_row, on_block, on_steps, on_body, on_examples, on_background, heading_in, with_last}
use Rattle.gk_gherkin.specs.Reading.{step, run_by, finish, reading}
use Rattle.gk_gherkin.specs.FeatureReader.{on_heading, on_line, on}
use Rattle.gk_gherkin.proofs.FeatureReaderSound.{sound}
use Rattle.gk_gherkin.proofs.FeatureReaderStops.{faulty}
use Rattle.gk_gherkin.proofs.OneFeatureFault.{one_feature_fault}

-- An empty file, and one of comments alone, hold no feature.
abbrev empty : Lines
empty = lines_of ([])

reads_empty : Reads empty None
unfolding class class_of class_of_words heading_keyword heading_name step_keyword step_text tags_of cells_of parts_of unescaped closes content_of language_of type_after on_heading on_row on_block on_steps on_body on_examples on_background heading_in with_last on_line on step run_by finish reading
reads_empty = sound empty None refl

abbrev comments : Lines
comments = lines_of (codes "# nothing\n\n# language: en\n")

reads_comments : Reads comments None
unfolding class class_of class_of_words heading_keyword heading_name step_keyword step_text tags_of cells_of parts_of unescaped closes content_of language_of type_after on_heading on_row on_block on_steps on_body on_examples on_background heading_in with_last on_line on step run_by finish reading
reads_comments = sound comments None refl

-- A scenario with a step.
abbrev one : Lines
one = lines_of (codes "Feature: one\n  Scenario: first\n    Given it passes\n")

abbrev one_says : Option FeatureValue
one_says = Some (record { name = codes "one"; line = 1; tags = []; background = None; scenarios = (record { keyword = codes "Scenario"; name = codes "first"; line = 2; tags = []; steps = (record { keyword = codes "Given"; step_type = Given; text = codes "it passes"; block = Empty; line = 3 } ∷ []); examples = [] } ∷ []); rules = [] })

reads_one : Reads one one_says
unfolding class class_of class_of_words heading_keyword heading_name step_keyword step_text tags_of cells_of parts_of unescaped closes content_of language_of type_after on_heading on_row on_block on_steps on_body on_examples on_background heading_in with_last on_line on step run_by finish reading
reads_one = sound one one_says refl

-- A language is named below the heading, where it is only a comment.
abbrev german_below : Lines
german_below = lines_of (codes "Feature: a\n# language: de\n")

abbrev german_below_says : Option FeatureValue
german_below_says = Some (record { name = codes "a"; line = 1; tags = []; background = None; scenarios = []; rules = [] })

reads_german_below : Reads german_below german_below_says
unfolding class class_of class_of_words heading_keyword heading_name step_keyword step_text tags_of cells_of parts_of unescaped closes content_of language_of type_after on_heading on_row on_block on_steps on_body on_examples on_background heading_in with_last on_line on step run_by finish reading
reads_german_below = sound german_below german_below_says refl

abbrev english_above : Lines
english_above = lines_of (codes "# language: en\nFeature: a\n")

abbrev english_above_says : Option FeatureValue
english_above_says = Some (record { name = codes "a"; line = 2; tags = []; background = None; scenarios = []; rules = [] })

reads_english_above : Reads english_above english_above_says
unfolding class class_of class_of_words heading_keyword heading_name step_keyword step_text tags_of cells_of parts_of unescaped closes content_of language_of type_after on_heading on_row on_block on_steps on_body on_examples on_background heading_in with_last on_line on step run_by finish reading
reads_english_above = sound english_above english_above_says refl

-- What looks like a step, a row or a fence in the description of a feature isn't kept.
abbrev feature_description : Lines
feature_description = lines_of (codes "Feature: a\n Given x\n |x\n \"\"\"\n text\nExample: e\n")

abbrev feature_description_says : Option FeatureValue
feature_description_says = Some (record { name = codes "a"; line = 1; tags = []; background = None; scenarios = (record { keyword = codes "Example"; name = codes "e"; line = 6; tags = []; steps = []; examples = [] } ∷ []); rules = [] })

reads_feature_description : Reads feature_description feature_description_says
unfolding class class_of class_of_words heading_keyword heading_name step_keyword step_text tags_of cells_of parts_of unescaped closes content_of language_of type_after on_heading on_row on_block on_steps on_body on_examples on_background heading_in with_last on_line on step run_by finish reading
reads_feature_description = sound feature_description feature_description_says refl

abbrev rule_description : Lines
rule_description = lines_of (codes "Feature: a\nRule: r\n* x\n```\nExample: e\n")

abbrev rule_description_says : Option FeatureValue
rule_description_says = Some (record { name = codes "a"; line = 1; tags = []; background = None; scenarios = []; rules = (record { name = codes "r"; line = 2; tags = []; background = None; scenarios = (record { keyword = codes "Example"; name = codes "e"; line = 5; tags = []; steps = []; examples = [] } ∷ []) } ∷ []) })

reads_rule_description : Reads rule_description rule_description_says
unfolding class class_of class_of_words heading_keyword heading_name step_keyword step_text tags_of cells_of parts_of unescaped closes content_of language_of type_after on_heading on_row on_block on_steps on_body on_examples on_background heading_in with_last on_line on step run_by finish reading
reads_rule_description = sound rule_description rule_description_says refl

-- What looks like a row or a fence in the description of a scenario isn't kept.
abbrev scenario_description : Lines
scenario_description = lines_of (codes "Feature: a\nExample: e\n|x\n\"\"\"\ntext\n* y\n")

abbrev scenario_description_says : Option FeatureValue
scenario_description_says = Some (record { name = codes "a"; line = 1; tags = []; background = None; scenarios = (record { keyword = codes "Example"; name = codes "e"; line = 2; tags = []; steps = (record { keyword = codes "*"; step_type = Given; text = codes "y"; block = Empty; line = 6 } ∷ []); examples = [] } ∷ []); rules = [] })

reads_scenario_description : Reads scenario_description scenario_description_says
unfolding class class_of class_of_words heading_keyword heading_name step_keyword step_text tags_of cells_of parts_of unescaped closes content_of language_of type_after on_heading on_row on_block on_steps on_body on_examples on_background heading_in with_last on_line on step run_by finish reading
reads_scenario_description = sound scenario_description scenario_description_says refl

-- What looks like a step or a fence in the description of examples isn't kept.
abbrev examples_description : Lines
examples_description = lines_of (codes "Feature: a\nExample: e\nExamples:\n Given x\n \"\"\"\n |h|\n |v|\n")

abbrev examples_description_says : Option FeatureValue
examples_description_says = Some (record { name = codes "a"; line = 1; tags = []; background = None; scenarios = (record { keyword = codes "Example"; name = codes "e"; line = 2; tags = []; steps = []; examples = (record { name = []; line = 3; tags = []; header = (codes "h" ∷ []); rows = (record { line = 7; cells = (codes "v" ∷ []) } ∷ []) } ∷ []) } ∷ []); rules = [] })

reads_examples_description : Reads examples_description examples_description_says
unfolding class class_of class_of_words heading_keyword heading_name step_keyword step_text tags_of cells_of parts_of unescaped closes content_of language_of type_after on_heading on_row on_block on_steps on_body on_examples on_background heading_in with_last on_line on step run_by finish reading
reads_examples_description = sound examples_description examples_description_says refl

-- Types of steps: And, But and * take the type before.
abbrev steps_of_all_types : Lines
steps_of_all_types = lines_of (codes "Feature: a\nExample:\nAnd a\nWhen b\nBut c\nThen d\n* e\n")

abbrev steps_of_all_types_says : Option FeatureValue
steps_of_all_types_says = Some (record { name = codes "a"; line = 1; tags = []; background = None; scenarios = (record { keyword = codes "Example"; name = []; line = 2; tags = []; steps = (record { keyword = codes "And"; step_type = Given; text = codes "a"; block = Empty; line = 3 } ∷ record { keyword = codes "When"; step_type = When; text = codes "b"; block = Empty; line = 4 } ∷ record { keyword = codes "But"; step_type = When; text = codes "c"; block = Empty; line = 5 } ∷ record { keyword = codes "Then"; step_type = Then; text = codes "d"; block = Empty; line = 6 } ∷ record { keyword = codes "*"; step_type = Then; text = codes "e"; block = Empty; line = 7 } ∷ []); examples = [] } ∷ []); rules = [] })

reads_steps_of_all_types : Reads steps_of_all_types steps_of_all_types_says
unfolding class class_of class_of_words heading_keyword heading_name step_keyword step_text tags_of cells_of parts_of unescaped closes content_of language_of type_after on_heading on_row on_block on_steps on_body on_examples on_background heading_in with_last on_line on step run_by finish reading
reads_steps_of_all_types = sound steps_of_all_types steps_of_all_types_says refl

-- A background in the feature and one in a rule, each with its own types.
abbrev two_backgrounds : Lines
two_backgrounds = lines_of (codes "Feature: r\nBackground:\n When A\nRule: x\n Background:\n And B\n Example: e\n * A\n")

abbrev two_backgrounds_says : Option FeatureValue
two_backgrounds_says = Some (record { name = codes "r"; line = 1; tags = []; background = Some (record { line = 2; steps = (record { keyword = codes "When"; step_type = When; text = codes "A"; block = Empty; line = 3 } ∷ []) }); scenarios = []; rules = (record { name = codes "x"; line = 4; tags = []; background = Some (record { line = 5; steps = (record { keyword = codes "And"; step_type = Given; text = codes "B"; block = Empty; line = 6 } ∷ []) }); scenarios = (record { keyword = codes "Example"; name = codes "e"; line = 7; tags = []; steps = (record { keyword = codes "*"; step_type = Given; text = codes "A"; block = Empty; line = 8 } ∷ []); examples = [] } ∷ []) } ∷ []) })

reads_two_backgrounds : Reads two_backgrounds two_backgrounds_says
unfolding class class_of class_of_words heading_keyword heading_name step_keyword step_text tags_of cells_of parts_of unescaped closes content_of language_of type_after on_heading on_row on_block on_steps on_body on_examples on_background heading_in with_last on_line on step run_by finish reading
reads_two_backgrounds = sound two_backgrounds two_backgrounds_says refl

-- A scenario before a rule is the feature's, one after it the rule's.
abbrev rule_after_scenario : Lines
rule_after_scenario = lines_of (codes "Feature: a\nExample: x\nRule: r\nExample: y\nRule: s\n")

abbrev rule_after_scenario_says : Option FeatureValue
rule_after_scenario_says = Some (record { name = codes "a"; line = 1; tags = []; background = None; scenarios = (record { keyword = codes "Example"; name = codes "x"; line = 2; tags = []; steps = []; examples = [] } ∷ []); rules = (record { name = codes "r"; line = 3; tags = []; background = None; scenarios = (record { keyword = codes "Example"; name = codes "y"; line = 4; tags = []; steps = []; examples = [] } ∷ []) } ∷ record { name = codes "s"; line = 5; tags = []; background = None; scenarios = [] } ∷ []) })

reads_rule_after_scenario : Reads rule_after_scenario rule_after_scenario_says
unfolding class class_of class_of_words heading_keyword heading_name step_keyword step_text tags_of cells_of parts_of unescaped closes content_of language_of type_after on_heading on_row on_block on_steps on_body on_examples on_background heading_in with_last on_line on step run_by finish reading
reads_rule_after_scenario = sound rule_after_scenario rule_after_scenario_says refl

-- Tags, with blank lines and comments among them.
abbrev tags_everywhere : Lines
tags_everywhere = lines_of (codes "@f\nFeature: a\n@s @t #c\n\n# c\n@u\nScenario Outline: o\n@e\nExamples: x\n@r\nRule: r\n")

abbrev tags_everywhere_says : Option FeatureValue
tags_everywhere_says = Some (record { name = codes "a"; line = 2; tags = (codes "@f" ∷ []); background = None; scenarios = (record { keyword = codes "Scenario Outline"; name = codes "o"; line = 7; tags = (codes "@s" ∷ codes "@t" ∷ codes "@u" ∷ []); steps = []; examples = (record { name = codes "x"; line = 9; tags = (codes "@e" ∷ []); header = []; rows = [] } ∷ []) } ∷ []); rules = (record { name = codes "r"; line = 11; tags = (codes "@r" ∷ []); background = None; scenarios = [] } ∷ []) })

reads_tags_everywhere : Reads tags_everywhere tags_everywhere_says
unfolding class class_of class_of_words heading_keyword heading_name step_keyword step_text tags_of cells_of parts_of unescaped closes content_of language_of type_after on_heading on_row on_block on_steps on_body on_examples on_background heading_in with_last on_line on step run_by finish reading
reads_tags_everywhere = sound tags_everywhere tags_everywhere_says refl

-- A doc string with CRLF at its lines' ends, with a margin and an escaped fence, and blank and comment lines inside it.
abbrev doc_string : Lines
doc_string = lines_of (codes "Feature: a\nExample:\n* x\n    \"\"\" md\r\n  a\r\n      b\\\"\\\"\\\"c\r\n\r\n    # d\r\n    \"\"\"\r\n* y\n")

abbrev doc_string_says : Option FeatureValue
doc_string_says = Some (record { name = codes "a"; line = 1; tags = []; background = None; scenarios = (record { keyword = codes "Example"; name = []; line = 2; tags = []; steps = (record { keyword = codes "*"; step_type = Given; text = codes "x"; block = Text (codes "a\n  b\"\"\"c\n\n# d"); line = 3 } ∷ record { keyword = codes "*"; step_type = Given; text = codes "y"; block = Empty; line = 10 } ∷ []); examples = [] } ∷ []); rules = [] })

reads_doc_string : Reads doc_string doc_string_says
unfolding class class_of class_of_words heading_keyword heading_name step_keyword step_text tags_of cells_of parts_of unescaped closes content_of language_of type_after on_heading on_row on_block on_steps on_body on_examples on_background heading_in with_last on_line on step run_by finish reading
reads_doc_string = sound doc_string doc_string_says refl

abbrev fence_in_fence : Lines
fence_in_fence = lines_of (codes "Feature: a\nExample:\n* x\n```\n\"\"\"\n\\`\\`\\`\n```\n")

abbrev fence_in_fence_says : Option FeatureValue
fence_in_fence_says = Some (record { name = codes "a"; line = 1; tags = []; background = None; scenarios = (record { keyword = codes "Example"; name = []; line = 2; tags = []; steps = (record { keyword = codes "*"; step_type = Given; text = codes "x"; block = Text (codes "\"\"\"\n```"); line = 3 } ∷ []); examples = [] } ∷ []); rules = [] })

reads_fence_in_fence : Reads fence_in_fence fence_in_fence_says
unfolding class class_of class_of_words heading_keyword heading_name step_keyword step_text tags_of cells_of parts_of unescaped closes content_of language_of type_after on_heading on_row on_block on_steps on_body on_examples on_background heading_in with_last on_line on step run_by finish reading
reads_fence_in_fence = sound fence_in_fence fence_in_fence_says refl

-- A table with a blank line and a comment between its rows.
abbrev step_table : Lines
step_table = lines_of (codes "Feature: a\nExample:\n* x\n| a | b |\n\n# c\n| c |  |\n")

abbrev step_table_says : Option FeatureValue
step_table_says = Some (record { name = codes "a"; line = 1; tags = []; background = None; scenarios = (record { keyword = codes "Example"; name = []; line = 2; tags = []; steps = (record { keyword = codes "*"; step_type = Given; text = codes "x"; block = Table ((codes "a" ∷ codes "b" ∷ []) ∷ (codes "c" ∷ [] ∷ []) ∷ []); line = 3 } ∷ []); examples = [] } ∷ []); rules = [] })

reads_step_table : Reads step_table step_table_says
unfolding class class_of class_of_words heading_keyword heading_name step_keyword step_text tags_of cells_of parts_of unescaped closes content_of language_of type_after on_heading on_row on_block on_steps on_body on_examples on_background heading_in with_last on_line on step run_by finish reading
reads_step_table = sound step_table step_table_says refl

abbrev mark_and_carriage_returns : Lines
mark_and_carriage_returns = lines_of (0xEF ∷ 0xBB ∷ 0xBF ∷ codes "Feature: a\r\nExample: b\r\n")

abbrev mark_and_carriage_returns_says : Option FeatureValue
mark_and_carriage_returns_says = Some (record { name = codes "a"; line = 1; tags = []; background = None; scenarios = (record { keyword = codes "Example"; name = codes "b"; line = 2; tags = []; steps = []; examples = [] } ∷ []); rules = [] })

reads_mark_and_carriage_returns : Reads mark_and_carriage_returns mark_and_carriage_returns_says
unfolding class class_of class_of_words heading_keyword heading_name step_keyword step_text tags_of cells_of parts_of unescaped closes content_of language_of type_after on_heading on_row on_block on_steps on_body on_examples on_background heading_in with_last on_line on step run_by finish reading
reads_mark_and_carriage_returns = sound mark_and_carriage_returns mark_and_carriage_returns_says refl

-- A line that can't stand where it stands.
stray : FeatureFault (Unexpected 4) (lines_of (codes "Feature: a\nScenario: s\nGiven it passes\nstray"))
unfolding class class_of class_of_words heading_keyword heading_name step_keyword step_text tags_of cells_of parts_of unescaped closes content_of language_of type_after on_heading on_row on_block on_steps on_body on_examples on_background heading_in with_last on_line on step run_by finish reading
stray = faulty (lines_of (codes "Feature: a\nScenario: s\nGiven it passes\nstray")) (Unexpected 4) refl

no_feature : FeatureFault (Unexpected 2) (lines_of (codes "\nGiven x"))
unfolding class class_of class_of_words heading_keyword heading_name step_keyword step_text tags_of cells_of parts_of unescaped closes content_of language_of type_after on_heading on_row on_block on_steps on_body on_examples on_background heading_in with_last on_line on step run_by finish reading
no_feature = faulty (lines_of (codes "\nGiven x")) (Unexpected 2) refl

second_feature : FeatureFault (Unexpected 2) (lines_of (codes "Feature: a\nFeature: b"))
unfolding class class_of class_of_words heading_keyword heading_name step_keyword step_text tags_of cells_of parts_of unescaped closes content_of language_of type_after on_heading on_row on_block on_steps on_body on_examples on_background heading_in with_last on_line on step run_by finish reading
second_feature = faulty (lines_of (codes "Feature: a\nFeature: b")) (Unexpected 2) refl

late_background : FeatureFault (Unexpected 3) (lines_of (codes "Feature: a\nExample: e\nBackground:"))
unfolding class class_of class_of_words heading_keyword heading_name step_keyword step_text tags_of cells_of parts_of unescaped closes content_of language_of type_after on_heading on_row on_block on_steps on_body on_examples on_background heading_in with_last on_line on step run_by finish reading
late_background = faulty (lines_of (codes "Feature: a\nExample: e\nBackground:")) (Unexpected 3) refl

second_background : FeatureFault (Unexpected 3) (lines_of (codes "Feature: a\nBackground:\nBackground:"))
unfolding class class_of class_of_words heading_keyword heading_name step_keyword step_text tags_of cells_of parts_of unescaped closes content_of language_of type_after on_heading on_row on_block on_steps on_body on_examples on_background heading_in with_last on_line on step run_by finish reading
second_background = faulty (lines_of (codes "Feature: a\nBackground:\nBackground:")) (Unexpected 3) refl

tagged_background : FeatureFault (Unexpected 3) (lines_of (codes "Feature: a\n@x\nBackground:"))
unfolding class class_of class_of_words heading_keyword heading_name step_keyword step_text tags_of cells_of parts_of unescaped closes content_of language_of type_after on_heading on_row on_block on_steps on_body on_examples on_background heading_in with_last on_line on step run_by finish reading
tagged_background = faulty (lines_of (codes "Feature: a\n@x\nBackground:")) (Unexpected 3) refl

tagged_step : FeatureFault (Unexpected 4) (lines_of (codes "Feature: a\nExample: e\n@x\n* y"))
unfolding class class_of class_of_words heading_keyword heading_name step_keyword step_text tags_of cells_of parts_of unescaped closes content_of language_of type_after on_heading on_row on_block on_steps on_body on_examples on_background heading_in with_last on_line on step run_by finish reading
tagged_step = faulty (lines_of (codes "Feature: a\nExample: e\n@x\n* y")) (Unexpected 4) refl

lone_examples : FeatureFault (Unexpected 3) (lines_of (codes "Feature: a\nBackground:\nExamples:"))
unfolding class class_of class_of_words heading_keyword heading_name step_keyword step_text tags_of cells_of parts_of unescaped closes content_of language_of type_after on_heading on_row on_block on_steps on_body on_examples on_background heading_in with_last on_line on step run_by finish reading
lone_examples = faulty (lines_of (codes "Feature: a\nBackground:\nExamples:")) (Unexpected 3) refl

two_blocks : FeatureFault (Unexpected 5) (lines_of (codes "Feature: a\nExample: e\n* x\n|a|\n\"\"\""))
unfolding class class_of class_of_words heading_keyword heading_name step_keyword step_text tags_of cells_of parts_of unescaped closes content_of language_of type_after on_heading on_row on_block on_steps on_body on_examples on_background heading_in with_last on_line on step run_by finish reading
two_blocks = faulty (lines_of (codes "Feature: a\nExample: e\n* x\n|a|\n\"\"\"")) (Unexpected 5) refl

row_after_doc_string : FeatureFault (Unexpected 6) (lines_of (codes "Feature: a\nExample: e\n* x\n\"\"\"\n\"\"\"\n|a"))
unfolding class class_of class_of_words heading_keyword heading_name step_keyword step_text tags_of cells_of parts_of unescaped closes content_of language_of type_after on_heading on_row on_block on_steps on_body on_examples on_background heading_in with_last on_line on step run_by finish reading
row_after_doc_string = faulty (lines_of (codes "Feature: a\nExample: e\n* x\n\"\"\"\n\"\"\"\n|a")) (Unexpected 6) refl

step_after_rows : FeatureFault (Unexpected 5) (lines_of (codes "Feature: a\nExample: e\nExamples:\n|a|\n* x"))
unfolding class class_of class_of_words heading_keyword heading_name step_keyword step_text tags_of cells_of parts_of unescaped closes content_of language_of type_after on_heading on_row on_block on_steps on_body on_examples on_background heading_in with_last on_line on step run_by finish reading
step_after_rows = faulty (lines_of (codes "Feature: a\nExample: e\nExamples:\n|a|\n* x")) (Unexpected 5) refl

-- A word that is no tag.
bad_tag : FeatureFault (BadTag 2) (lines_of (codes "Feature: a\n@x y"))
unfolding class class_of class_of_words heading_keyword heading_name step_keyword step_text tags_of cells_of parts_of unescaped closes content_of language_of type_after on_heading on_row on_block on_steps on_body on_examples on_background heading_in with_last on_line on step run_by finish reading
bad_tag = faulty (lines_of (codes "Feature: a\n@x y")) (BadTag 2) refl

-- A row without its closing bar, which comes before its number of cells.
bad_row : FeatureFault (BadRow 5) (lines_of (codes "Feature: a\nExample: e\n* x\n|a|b|\n|c"))
unfolding class class_of class_of_words heading_keyword heading_name step_keyword step_text tags_of cells_of parts_of unescaped closes content_of language_of type_after on_heading on_row on_block on_steps on_body on_examples on_background heading_in with_last on_line on step run_by finish reading
bad_row = faulty (lines_of (codes "Feature: a\nExample: e\n* x\n|a|b|\n|c")) (BadRow 5) refl

-- A row with too few cells.
few_cells : FeatureFault (CellCount 5) (lines_of (codes "Feature: a\nExample: e\n* x\n|a|b|\n|c|"))
unfolding class class_of class_of_words heading_keyword heading_name step_keyword step_text tags_of cells_of parts_of unescaped closes content_of language_of type_after on_heading on_row on_block on_steps on_body on_examples on_background heading_in with_last on_line on step run_by finish reading
few_cells = faulty (lines_of (codes "Feature: a\nExample: e\n* x\n|a|b|\n|c|")) (CellCount 5) refl

many_cells : FeatureFault (CellCount 5) (lines_of (codes "Feature: a\nExample: e\nExamples:\n|a|\n|b|c|"))
unfolding class class_of class_of_words heading_keyword heading_name step_keyword step_text tags_of cells_of parts_of unescaped closes content_of language_of type_after on_heading on_row on_block on_steps on_body on_examples on_background heading_in with_last on_line on step run_by finish reading
many_cells = faulty (lines_of (codes "Feature: a\nExample: e\nExamples:\n|a|\n|b|c|")) (CellCount 5) refl

-- A language that isn't known.
german : FeatureFault (Language 1) (lines_of (codes "# language: de\nFeature: a"))
unfolding class class_of class_of_words heading_keyword heading_name step_keyword step_text tags_of cells_of parts_of unescaped closes content_of language_of type_after on_heading on_row on_block on_steps on_body on_examples on_background heading_in with_last on_line on step run_by finish reading
german = faulty (lines_of (codes "# language: de\nFeature: a")) (Language 1) refl

german_after_tags : FeatureFault (Language 2) (lines_of (codes "@x\n# language: de\nFeature: a"))
unfolding class class_of class_of_words heading_keyword heading_name step_keyword step_text tags_of cells_of parts_of unescaped closes content_of language_of type_after on_heading on_row on_block on_steps on_body on_examples on_background heading_in with_last on_line on step run_by finish reading
german_after_tags = faulty (lines_of (codes "@x\n# language: de\nFeature: a")) (Language 2) refl

-- A doc string without end, and tags before nothing.
open_text : FeatureFault (UnclosedText 4) (lines_of (codes "Feature: a\nExample: e\n* x\n  \"\"\"\n```\n\n"))
unfolding class class_of class_of_words heading_keyword heading_name step_keyword step_text tags_of cells_of parts_of unescaped closes content_of language_of type_after on_heading on_row on_block on_steps on_body on_examples on_background heading_in with_last on_line on step run_by finish reading
open_text = faulty (lines_of (codes "Feature: a\nExample: e\n* x\n  \"\"\"\n```\n\n")) (UnclosedText 4) refl

-- A fence in a description opens nothing: the doc string is opened on line 5, and not on line 2.
text_after_description : FeatureFault (UnclosedText 5) (lines_of (codes "Feature: f\n\"\"\"\nScenario: s\nGiven x\n\"\"\"json\ntext"))
unfolding class class_of class_of_words heading_keyword heading_name step_keyword step_text tags_of cells_of parts_of unescaped closes content_of language_of type_after on_heading on_row on_block on_steps on_body on_examples on_background heading_in with_last on_line on step run_by finish reading
text_after_description = faulty (lines_of (codes "Feature: f\n\"\"\"\nScenario: s\nGiven x\n\"\"\"json\ntext")) (UnclosedText 5) refl

not_by_description : FeatureFault (UnclosedText 2) (lines_of (codes "Feature: f\n\"\"\"\nScenario: s\nGiven x\n\"\"\"json\ntext")) → ⊥
not_by_description other =
    let same = one_feature_fault (lines_of (codes "Feature: f\n\"\"\"\nScenario: s\nGiven x\n\"\"\"json\ntext")) (UnclosedText 5) (UnclosedText 2) (λ e. cc) (λ e. cc) text_after_description other in
    let no : ⊥ = cc in no

tags_at_end : FeatureFault (TagsAtEnd 3) (lines_of (codes "Feature: a\n@x\n@y\n# c\n"))
unfolding class class_of class_of_words heading_keyword heading_name step_keyword step_text tags_of cells_of parts_of unescaped closes content_of language_of type_after on_heading on_row on_block on_steps on_body on_examples on_background heading_in with_last on_line on step run_by finish reading
tags_at_end = faulty (lines_of (codes "Feature: a\n@x\n@y\n# c\n")) (TagsAtEnd 3) refl

-- Of two faulty lines the first.
first_of_two : FeatureFault (BadTag 2) (lines_of (codes "Feature: a\n@x y\nFeature: b"))
unfolding class class_of class_of_words heading_keyword heading_name step_keyword step_text tags_of cells_of parts_of unescaped closes content_of language_of type_after on_heading on_row on_block on_steps on_body on_examples on_background heading_in with_last on_line on step run_by finish reading
first_of_two = faulty (lines_of (codes "Feature: a\n@x y\nFeature: b")) (BadTag 2) refl
