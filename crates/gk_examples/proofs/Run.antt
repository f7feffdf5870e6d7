-- Whole runs by computation: from the bytes of the files to the report's bytes and the status.
use Rattle.std.specs.Prelude.{Option, ◌≡◌, ◌≢◌, ⊤, ℕ, Bool, true, false, cond, List, [], ◌∷◌, ◌++◌, Some, None, codes}
use Rattle.std.specs.Io.KnownBytes.{Appends}
use Rattle.std.specs.Fmt.{digits}
use Rattle.std.specs.FinMap.{get-empty}
use Rattle.std.specs.Str.{chars, is_utf8}
use lib.Utf8
use Rattle.std.proofs.Common.{refl, ap, subst, ◌∙◌, arith, inl}
use Rattle.std.proofs.Math.Path.{fun_ext}
use Rattle.std.proofs.lemmas.Str.{IsUtf8-from_is_utf8}
use Rattle.gk_gherkin.specs.declared.feature.StepType.TheVariants.{Given, When, Then}
use Rattle.gk_gherkin.specs.declared.hooks.HookKind.TheVariants.{BeforeScenario, AfterAll}
use Rattle.gk_gherkin.specs.Lines.{lines_of}
use Rattle.gk_gherkin.specs.Feature.{Empty, Text, StepValue, FeatureValue}
use Rattle.gk_gherkin.specs.Hooks.{HookValue}
use Rattle.gk_gherkin.specs.Class.{class, class_of, class_of_words, heading_keyword, heading_name, step_keyword, step_text}
use Rattle.gk_gherkin.specs.HookHeadings.{hooks_class, hook_heading}
use Rattle.gk_gherkin.specs.Tags.{tags_of}
use Rattle.gk_gherkin.specs.Rows.{cells_of, parts_of, unescaped}
use Rattle.gk_gherkin.specs.DocStrings.{closes, content_of}
use Rattle.gk_gherkin.specs.Language.{language_of}
use Rattle.gk_gherkin.specs.StepTypes.{type_after}
use Rattle.gk_gherkin.specs.OpenParts.{on_row, on_block, on_steps, on_body, on_examples, on_background, heading_in, with_last}
use Rattle.gk_gherkin.specs.Reading.{step, run_by, finish, reading}
use Rattle.gk_gherkin.specs.FeatureReader.{on_heading, on_line, on}
use Rattle.gk_gherkin.specs.HooksReader.{on_hook, on_plain_line, on as on_hooks_line}
use Rattle.gk_gherkin.proofs.FeatureReaderSound.{sound}
use Rattle.gk_gherkin.proofs.HooksReaderSound.{hooks_sound}
use Rattle.gk_select.specs.Expansion.{cases}
use Rattle.gk_select.specs.Filling.{filled, filled_from, cell_of}
use Rattle.gk_select.specs.TagGrammar.{Expression, one_term, or_terms, one_factor, tagged, negated}
use Rattle.gk_select.specs.Choice.{is_chosen}
use Rattle.gk_steps.specs.declared.action.Action.TheVariants as actions
use Rattle.gk_steps.specs.declared.pattern.FieldKind.TheVariants as kinds
use Rattle.gk_steps.specs.Pattern.{Literal, FieldPiece}
use Rattle.gk_steps.specs.Matching.{match_of}
use Rattle.gk_steps.specs.Finding.{EntryValue, LibraryValue, found}
use Rattle.gk_steps.specs.LibraryFile.{ReadsLibrary}
use Rattle.gk_steps.specs.DefaultFile.{default_entries}
use Rattle.gk_steps.proofs.DefaultFileLemmas.{reads_so, library_on_literals}
use Rattle.gk_world.specs.State.{nothing_yet, State, Map, nothing, state_of}
use Rattle.gk_run.specs.Acting.{act}
use Rattle.gk_run.specs.Results.{Results}
use Rattle.gk_run.specs.OpenSection.{Run}
use Rattle.gk_run.specs.Chosen.{ChosenValue}
use Rattle.gk_run.specs.Judged.{Cuts, uncut, dry_results, results_from, results_of, plain_results}
use Rattle.gk_report.specs.Summary.{status}
use Rattle.gk_report.specs.Report.{report}
use Rattle.gk_examples.proofs.Reports.{Gives, plain_on_literals}
use Rattle.gk_request.specs.Source.{SourceValue}
use Rattle.gk_request.specs.Inputs.{Inputs, IsReadAs, AreRead, AreInputs, AreHooks, IsLibrary, chosen_of, with_reading, InputsAreUnique}
use Rattle.gk_request.specs.Request.{Request, plain_request}
use Rattle.gk_cli.specs.Suite.{OnlyReport, run_with}
use Rattle.gk_cli.specs.Writing.{Device}

-- What a proof unfolds to compute the reading, the results and the report of files that are written out.
unfoldable pub on_literals : ⊤
unfolding is_utf8 chars lib.Utf8.encode digits class class_of class_of_words heading_keyword heading_name step_keyword step_text tags_of cells_of parts_of unescaped closes content_of language_of type_after on_heading on_row on_block on_steps on_body on_examples on_background heading_in with_last on_line on hooks_class hook_heading on_hook on_plain_line on_hooks_line step run_by finish reading cases filled filled_from cell_of is_chosen found match_of act plain_on_literals
on_literals = tt

-- The state of a new sandbox: no file, no variable, no value.
abbrev pub bare_state : State
bare_state = record { files = nothing; env = nothing; outer = nothing; own = nothing }

-- The results of a run from that state, where memory was refused at these cuts.
abbrev pub results_from_bare : Run → Cuts → List ChosenValue → Results
results_from_bare run cuts features = results_from run bare_state cuts features

-- The results of a run of a new sandbox that isn't dry are those from that state.
pub same_from_bare : (run : Run) (cuts : Cuts) (features : List ChosenValue) → run.dry_run ≡ false → results_of run nothing_yet cuts features ≡ results_from_bare run cuts features
same_from_bare run cuts features runs =
    ap (λ (b : Bool). let r : Results = cond b (dry_results run cuts features) (results_from run (state_of nothing_yet) cuts features) in r) runs
    ∙ ap (λ (m : Map). let section : State = record { files = m; env = m; outer = nothing; own = nothing } in results_from run section cuts features) (fun_ext (get-empty _))

-- A run of this request that doesn't end with 4 writes this report and ends with this status.
abbrev Ends : Request → List ℕ → ℕ → Type 0
Ends r text number = InputsAreUnique → (old new : Device) (answer : ℕ) → OnlyReport r nothing_yet old new answer → answer ≢ 4 → Appends old.bytes new.bytes text × (answer ≡ number)

-- That is so if the request reads as inputs whose results, by plain maps, have that report and status.
ends_so : (r : Request) (inputs : Inputs) (text : List ℕ) (number : ℕ) → r.dry_run ≡ false → AreInputs r inputs → Gives r.style (results_from_bare (run_with r inputs) uncut inputs.features) text number → Ends r text number
ends_so r inputs text number runs read gives unique old new answer only not_memory =
    let p = only not_memory in
    let same : p.inputs ≡ inputs = unique r p.inputs inputs p.read read in
    let are : plain_results (run_with r p.inputs) nothing_yet p.inputs.features ≡ results_from_bare (run_with r inputs) uncut inputs.features =
    ap (λ (i : Inputs). plain_results (run_with r i) nothing_yet i.features) same ∙ same_from_bare (run_with r inputs) uncut inputs.features runs in
    (subst (λ (bytes : List ℕ). Appends old.bytes new.bytes bytes) (ap (report r.style) are ∙ gives.0) p.reported.written.written, p.reported.returned ∙ ap status are ∙ gives.1)

-- A file with its name.
abbrev named : List ℕ → List ℕ → SourceValue
named name bytes = record { name = name; bytes = bytes }

-- What is asked for: the scenarios on some lines of files, or all, with the default library and without hooks.
abbrev pub asked_for : List ℕ → List SourceValue → Request
asked_for lines sources = record (plain_request sources) { lines = lines }

-- Such a request reads as these inputs.
abbrev pub read_with : List ChosenValue → Inputs
read_with features = record { library = default_entries; hooks = []; features = features }

inputs_read : (lines : List ℕ) (sources : List SourceValue) (features : List ChosenValue) → AreRead (is_chosen [] lines) sources features → IsLibrary None default_entries → AreInputs (asked_for lines sources) (read_with features)
inputs_read lines sources features read spelled = record { rules = []; tags = refl; library = spelled; hooks = refl; features = read }

-- A file that reads so, before others.
read_before : (rules : List Expression) (lines : List ℕ) (source : SourceValue) (says : Option FeatureValue) (sources : List SourceValue) (features : List ChosenValue) →
    IsReadAs source.bytes says → AreRead (is_chosen rules lines) sources features → AreRead (is_chosen rules lines) (source ∷ sources) (with_reading (is_chosen rules lines) source.name says features)
read_before rules lines source says sources features is others = (says, features, is, others, refl)

-- A feature with one scenario and one step.
abbrev one_bytes : List ℕ
one_bytes = codes "Feature: one\n  Scenario: first\n    Given it passes\n"

abbrev pub one_feature : FeatureValue
one_feature = record { name = codes "one"; line = 1; tags = []; background = None; scenarios = (record { keyword = codes "Scenario"; name = codes "first"; line = 2; tags = []; steps = (record { keyword = codes "Given"; step_type = Given; text = codes "it passes"; block = Empty; line = 3 } ∷ []); examples = [] } ∷ []); rules = [] }

-- It reads so.
one_reads : IsReadAs one_bytes (Some one_feature)
unfolding on_literals
one_reads = record { text = (omega arith, IsUtf8-from_is_utf8 one_bytes refl); reads = sound (lines_of one_bytes) (Some one_feature) refl; limit = omega arith }

-- All scenarios of that feature are asked for.
abbrev pub one_request : Request
one_request = asked_for [] (named (codes "one.feature") one_bytes ∷ [])

abbrev pub one_inputs : Inputs
one_inputs = read_with (chosen_of (is_chosen [] []) (codes "one.feature") one_feature ∷ [])

pub one_inputs_read : IsLibrary None default_entries → AreInputs one_request one_inputs
one_inputs_read = inputs_read [] one_request.sources one_inputs.features (read_before [] [] (named (codes "one.feature") one_bytes) (Some one_feature) [] [] one_reads refl)

abbrev pub one_report : List ℕ
one_report = codes "Feature: one ... passed\n  Scenario: first ... passed\n    Given it passes ... passed\n\n1 feature passed, 0 failed, 0 skipped\n1 scenario passed, 0 failed, 0 skipped\n1 step passed, 0 failed, 0 skipped, 0 undefined\n"

pub one_run : IsLibrary None default_entries → Ends one_request one_report 0
unfolding on_literals
one_run spelled = ends_so one_request one_inputs one_report 0 refl (one_inputs_read spelled) (refl, refl)

-- A feature with two scenarios, the second of which asks for what the first has set.
abbrev two_bytes : List ℕ
two_bytes = codes "Feature: two\n  Scenario: A\n    When the variable \"X\" is set to \"1\"\n  Scenario: B\n    Then the variable \"X\" should be \"1\"\n"

abbrev pub set_step : StepValue
set_step = record { keyword = codes "When"; step_type = When; text = codes "the variable \"X\" is set to \"1\""; block = Empty; line = 3 }

abbrev pub ask_step : StepValue
ask_step = record { keyword = codes "Then"; step_type = Then; text = codes "the variable \"X\" should be \"1\""; block = Empty; line = 5 }

abbrev pub two_feature : FeatureValue
two_feature = record {
  name = codes "two";
  line = 1;
  tags = [];
  background = None;
  scenarios = (record { keyword = codes "Scenario"; name = codes "A"; line = 2; tags = []; steps = set_step ∷ []; examples = [] }
      ∷ record { keyword = codes "Scenario"; name = codes "B"; line = 4; tags = []; steps = ask_step ∷ []; examples = [] }
      ∷ []);
  rules = [];
}

-- It reads so.
two_reads : IsReadAs two_bytes (Some two_feature)
unfolding on_literals
two_reads = record { text = (omega arith, IsUtf8-from_is_utf8 two_bytes refl); reads = sound (lines_of two_bytes) (Some two_feature) refl; limit = omega arith }

-- Some of its scenarios are asked for, or all.
abbrev two_asked : List ℕ → Request
two_asked lines = asked_for lines (named (codes "two.feature") two_bytes ∷ [])

abbrev two_read : List ℕ → Inputs
two_read lines = read_with (chosen_of (is_chosen [] lines) (codes "two.feature") two_feature ∷ [])

two_asked_read : (lines : List ℕ) → IsLibrary None default_entries → AreInputs (two_asked lines) (two_read lines)
two_asked_read lines = inputs_read lines (two_asked lines).sources (two_read lines).features (read_before [] lines (named (codes "two.feature") two_bytes) (Some two_feature) [] [] two_reads refl)

-- All of them: nothing is left of the first scenario in the second.
abbrev pub two_request : Request
two_request = two_asked []

abbrev pub two_inputs : Inputs
two_inputs = two_read []

pub two_inputs_read : IsLibrary None default_entries → AreInputs two_request two_inputs
two_inputs_read = two_asked_read []

abbrev pub two_report : List ℕ
two_report = codes "Feature: two ... failed\n  Scenario: A ... passed\n    When the variable \"X\" is set to \"1\" ... passed\n  Scenario: B ... failed\n    Then the variable \"X\" should be \"1\" ... failed: absent\n\n0 features passed, 1 failed, 0 skipped\n1 scenario passed, 1 failed, 0 skipped\n1 step passed, 1 failed, 0 skipped, 0 undefined\n"

pub two_run : IsLibrary None default_entries → Ends two_request two_report 1
unfolding on_literals
two_run spelled = ends_so two_request two_inputs two_report 1 refl (two_inputs_read spelled) (refl, refl)

-- The scenario on line 2: the second scenario is skipped.
abbrev line_report : List ℕ
line_report = codes "Feature: two ... passed\n  Scenario: A ... passed\n    When the variable \"X\" is set to \"1\" ... passed\n  Scenario: B ... skipped\n    Then the variable \"X\" should be \"1\" ... skipped\n\n1 feature passed, 0 failed, 0 skipped\n1 scenario passed, 0 failed, 1 skipped\n1 step passed, 0 failed, 1 skipped, 0 undefined\n"

pub line_run : IsLibrary None default_entries → Ends (two_asked (2 ∷ [])) line_report 0
unfolding on_literals
line_run spelled = ends_so (two_asked (2 ∷ [])) (two_read (2 ∷ [])) line_report 0 refl (two_asked_read (2 ∷ []) spelled) (refl, refl)

-- A file of a comment and a blank line, which holds no feature.
abbrev comment_bytes : List ℕ
comment_bytes = codes "# nothing\n\n"

-- It reads so.
comment_reads : IsReadAs comment_bytes None
unfolding on_literals
comment_reads = record { text = (omega arith, IsUtf8-from_is_utf8 comment_bytes refl); reads = sound (lines_of comment_bytes) None refl; limit = tt }

-- A feature, a file without one, which counts nowhere, and a feature.
abbrev several_request : Request
several_request = asked_for [] (named (codes "one.feature") one_bytes ∷ named (codes "comment.feature") comment_bytes ∷ named (codes "again.feature") one_bytes ∷ [])

abbrev several_inputs : Inputs
several_inputs = read_with (chosen_of (is_chosen [] []) (codes "one.feature") one_feature ∷ chosen_of (is_chosen [] []) (codes "again.feature") one_feature ∷ [])

several_inputs_read : IsLibrary None default_entries → AreInputs several_request several_inputs
several_inputs_read =
    let again = read_before [] [] (named (codes "again.feature") one_bytes) (Some one_feature) [] [] one_reads refl in
    let last : List SourceValue = named (codes "again.feature") one_bytes ∷ [] in
    let left : List ChosenValue = chosen_of (is_chosen [] []) (codes "again.feature") one_feature ∷ [] in
    let comment = read_before [] [] (named (codes "comment.feature") comment_bytes) None last left comment_reads again in
    inputs_read [] several_request.sources several_inputs.features (read_before [] [] (named (codes "one.feature") one_bytes) (Some one_feature) (named (codes "comment.feature") comment_bytes ∷ last) left one_reads comment)

abbrev several_report : List ℕ
several_report = codes "Feature: one ... passed\n  Scenario: first ... passed\n    Given it passes ... passed\n\nFeature: one ... passed\n  Scenario: first ... passed\n    Given it passes ... passed\n\n2 features passed, 0 failed, 0 skipped\n2 scenarios passed, 0 failed, 0 skipped\n2 steps passed, 0 failed, 0 skipped, 0 undefined\n"

pub several_run : IsLibrary None default_entries → Ends several_request several_report 0
unfolding on_literals
several_run spelled = ends_so several_request several_inputs several_report 0 refl (several_inputs_read spelled) (refl, refl)

-- A hooks file: a step that passes before each scenario, and one that no entry matches after the run.
abbrev hooks_bytes : List ℕ
hooks_bytes = codes "before_scenario:\n  Given it passes\nafter_all:\n  Then it dances\n"

abbrev hooks : List HookValue
hooks = record { kind = BeforeScenario; tag = None; line = 1; steps = (record { keyword = codes "Given"; step_type = Given; text = codes "it passes"; block = Empty; line = 2 } ∷ []) }
    ∷ record { kind = AfterAll; tag = None; line = 3; steps = (record { keyword = codes "Then"; step_type = Then; text = codes "it dances"; block = Empty; line = 4 } ∷ []) }
    ∷ []

hooks_read : AreHooks (Some hooks_bytes) hooks
unfolding on_literals
hooks_read = ((omega arith, IsUtf8-from_is_utf8 hooks_bytes refl), hooks_sound (lines_of hooks_bytes) hooks refl)

-- The feature with one scenario, with these hooks: the run's own hook fails.
abbrev hooks_request : Request
hooks_request = record one_request { hooks = Some hooks_bytes }

abbrev hooks_inputs : Inputs
hooks_inputs = record one_inputs { hooks = hooks }

abbrev hooks_report : List ℕ
hooks_report = codes "Feature: one ... passed\n  Scenario: first ... passed\n    Given it passes ... passed\n\n(hooks and cleanups) ... failed\n1 feature passed, 0 failed, 0 skipped\n1 scenario passed, 0 failed, 0 skipped\n1 step passed, 0 failed, 0 skipped, 0 undefined\n"

pub hooks_run : IsLibrary None default_entries → Ends hooks_request hooks_report 1
unfolding on_literals
hooks_run spelled = let one = one_inputs_read spelled in ends_so hooks_request hooks_inputs hooks_report 1 refl (record { rules = one.rules; tags = one.tags; library = spelled; hooks = hooks_read; features = one.features }) (refl, refl)

-- A longer feature: a tag, a description, a background with a doc string, an outline with examples, and a rule.
abbrev long_bytes : List ℕ
long_bytes = codes "# A comment.\n"
    ++ codes "@shop\n"
    ++ codes "Feature: mixed\n"
    ++ codes "  A description.\n"
    ++ codes "\n"
    ++ codes "  Background:\n"
    ++ codes "    Given a file named \"f\" with:\n"
    ++ codes "      \"\"\"\n"
    ++ codes "      one\n"
    ++ codes "      \"\"\"\n"
    ++ codes "\n"
    ++ codes "  Scenario Outline: outline\n"
    ++ codes "    Then the file \"f\" should be \"<text>\"\n"
    ++ codes "\n"
    ++ codes "    Examples:\n"
    ++ codes "      | text |\n"
    ++ codes "      | one  |\n"
    ++ codes "      | two  |\n"
    ++ codes "\n"
    ++ codes "  Rule: rule\n"
    ++ codes "    Example: last\n"
    ++ codes "      * it dances\n"

abbrev long_feature : FeatureValue
long_feature = record {
  name = codes "mixed";
  line = 3;
  tags = codes "@shop" ∷ [];
  background = Some (record { line = 6; steps = (record { keyword = codes "Given"; step_type = Given; text = codes "a file named \"f\" with:"; block = Text (codes "one"); line = 7 } ∷ []) });
  scenarios = (record {
    keyword = codes "Scenario Outline";
    name = codes "outline";
    line = 12;
    tags = [];
    steps = (record { keyword = codes "Then"; step_type = Then; text = codes "the file \"f\" should be \"<text>\""; block = Empty; line = 13 } ∷ []);
    examples = (record { name = []; line = 15; tags = []; header = codes "text" ∷ []; rows = (record { line = 17; cells = codes "one" ∷ [] } ∷ record { line = 18; cells = codes "two" ∷ [] } ∷ []) } ∷ []);
  } ∷ []);
  rules = (record {
    name = codes "rule";
    line = 20;
    tags = [];
    background = None;
    scenarios = (record { keyword = codes "Example"; name = codes "last"; line = 21; tags = []; steps = (record { keyword = codes "*"; step_type = Given; text = codes "it dances"; block = Empty; line = 22 } ∷ []); examples = [] } ∷ []);
  } ∷ []);
}

-- It reads so.
long_reads : IsReadAs long_bytes (Some long_feature)
unfolding on_literals
long_reads = record { text = (omega arith, IsUtf8-from_is_utf8 long_bytes refl); reads = sound (lines_of long_bytes) (Some long_feature) refl; limit = omega arith }

-- A library file.
abbrev library_bytes : List ℕ
library_bytes = codes "given a file named \"{name}\" with: => write_file\n"
    ++ codes "then the file \"{name}\" should be \"{text}\" => file_is\n"

-- What the library file says.
abbrev write_entry : EntryValue
write_entry = record { line = 1; step_type = Some Given; pattern = Literal (codes "a file named \"") ∷ FieldPiece (codes "name") kinds.Plain ∷ Literal (codes "\" with:") ∷ []; action = actions.WriteFile }

-- The entry of the second line.
abbrev ask_entry : EntryValue
ask_entry = record { line = 2; step_type = Some Then; pattern = Literal (codes "the file \"") ∷ FieldPiece (codes "name") kinds.Plain ∷ Literal (codes "\" should be \"") ∷ FieldPiece (codes "text") kinds.Plain ∷ Literal (codes "\"") ∷ []; action = actions.FileIs }

-- The lines of its bytes spell the two entries.
library_reads : ReadsLibrary (lines_of library_bytes) (write_entry ∷ ask_entry ∷ [])
unfolding library_on_literals
library_reads = reads_so library_bytes (write_entry ∷ ask_entry ∷ []) refl refl refl refl

abbrev library : LibraryValue
library = write_entry ∷ ask_entry ∷ []

library_read : IsLibrary (Some library_bytes) library
unfolding on_literals
library_read = ((omega arith, IsUtf8-from_is_utf8 library_bytes refl), library_reads)

-- The scenarios with the tag `@shop`, or without `@slow`: each row of the examples begins with what the background leaves.
abbrev long_request : Request
long_request = record (asked_for [] (named (codes "mixed.feature") long_bytes ∷ [])) { tags = codes "shop,~slow" ∷ []; library = Some library_bytes }

abbrev tag_rule : Expression
tag_rule = or_terms (one_factor (tagged (codes "@shop"))) (one_term (one_factor (negated (tagged (codes "@slow")))))

abbrev long_inputs : Inputs
long_inputs = record { library = library; hooks = []; features = chosen_of (is_chosen (tag_rule ∷ []) []) (codes "mixed.feature") long_feature ∷ [] }

long_inputs_read : AreInputs long_request long_inputs
long_inputs_read = record {
  rules = tag_rule ∷ [];
  tags = (
    tag_rule,
    [],
    inl (record { first = record { negated = false; tag = codes "@shop" }; others = record { negated = true; tag = codes "@slow" } ∷ []; reads = record { old_form = refl; says = refl }; is = refl }),
    refl,
    refl,
  );
  library = library_read;
  hooks = refl;
  features = read_before (tag_rule ∷ []) [] (named (codes "mixed.feature") long_bytes) (Some long_feature) [] [] long_reads refl;
}

abbrev long_report : List ℕ
long_report = codes "Feature: mixed ... failed\n"
    ++ codes "  Scenario Outline: outline -- @1.1 ... passed\n"
    ++ codes "    Given a file named \"f\" with: ... passed\n"
    ++ codes "    Then the file \"f\" should be \"one\" ... passed\n"
    ++ codes "  Scenario Outline: outline -- @1.2 ... failed\n"
    ++ codes "    Given a file named \"f\" with: ... passed\n"
    ++ codes "    Then the file \"f\" should be \"two\" ... failed: differs\n"
    ++ codes "  Example: last ... failed\n"
    ++ codes "    Given a file named \"f\" with: ... passed\n"
    ++ codes "    * it dances ... undefined\n"
    ++ codes "\n"
    ++ codes "0 features passed, 1 failed, 0 skipped\n"
    ++ codes "1 scenario passed, 2 failed, 0 skipped\n"
    ++ codes "4 steps passed, 1 failed, 0 skipped, 1 undefined\n"

pub long_run : Ends long_request long_report 1
unfolding on_literals
long_run = ends_so long_request long_inputs long_report 1 refl long_inputs_read (refl, refl)
