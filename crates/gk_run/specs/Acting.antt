-- What an action does to the plain state, what it registers, and its outcome.
use Rattle.std.specs.Prelude.{◌≡◌, ◌⊎◌, Result, Ok, Err, option_copied, ℕ, ℤ, pos, ◌+ℤ◌, Bool, true, false, cond, not, ◌||◌, List, [], ◌∷◌, ◌++◌, map, Option, Some, None, codes, bytes_eq, is_none, unwrap_or}
use Rattle.std.specs.Ordering.{int_eq}
use Rattle.std.specs.Fmt.{signed_decimal}
use Rattle.std.specs.Option.{option_or}
use Rattle.gk_gherkin.specs.Feature.{BlockValue, Empty, Text, Table, block_value}
use Rattle.gk_gherkin.specs.Text.{contains}
use Rattle.gk_steps.specs.Decimal.{number_of, is_i64}
use Rattle.gk_steps.specs.declared.action.Action.{Action}
use Rattle.gk_steps.specs.declared.action.Action.TheVariants as actions
use Rattle.gk_steps.specs.declared.action.Does.{Does}
use Rattle.gk_steps.specs.declared.action.Does.TheVariants.{Registers, Skips}
use Rattle.gk_steps.specs.Action.{row_of}
use Rattle.gk_steps.specs.FilesTable.{files_below}
use Rattle.gk_gherkin.specs.declared.feature.Block.{Block}
use Rattle.gk_steps.specs.declared.finding.Found.{Found}
use Rattle.gk_steps.specs.declared.library.Library.{Library}
use Rattle.gk_steps.specs.declared.used_fields.UsedFields.{UsedFields}
use Rattle.gk_steps.specs.Finding.{LibraryValue, FoundValue, library_value, action_of, found_value, text_field, number_field, found_any, borrowed_text, HasCandidate}
use Rattle.gk_world.specs.declared.refusals.WorldFault.{WorldFault}
use Rattle.gk_world.specs.declared.refusals.WorldFault.TheVariants as faults
use Rattle.gk_world.specs.State.{State, with_text, without, see, state_of}
use Rattle.gk_world.specs.Refusals.{first_true, is_bad_name, is_too_long, joined}
use Rattle.gk_world.specs.Sandbox.{SandboxValue, PutsFile, KeepsLayers}
use Rattle.gk_run.specs.declared.acting.Arguments.{Arguments}
use Rattle.gk_run.specs.declared.acting.Used.{Used}
use Rattle.gk_run.specs.declared.cleanups.Cleanup.{Cleanup}
use Rattle.gk_run.specs.declared.cleanups.Registration.{Registration}
use Rattle.gk_run.specs.declared.acting.Site.{Site}
use Rattle.gk_run.specs.declared.section.Part.TheVariants as parts
use Rattle.gk_run.specs.declared.acting.Site.TheVariants as sites
use Rattle.gk_run.specs.declared.results.Reason.{Reason}
use Rattle.gk_run.specs.declared.results.Reason.TheVariants as reasons
use Rattle.gk_run.specs.declared.results.Outcome.{Outcome}
use Rattle.gk_run.specs.declared.results.Outcome.TheVariants as outcomes

-- What an action leaves: a state and its outcome. `takes_memory` says whether memory may be refused in it. `files` are those that an action of more than one change writes, in order.
pub record Done : Type 0 where
  pub state : State
  pub outcome : Outcome
  pub takes_memory : Bool
  pub files : List (List ℕ × List ℕ)

-- The arguments of an action: the fields that it uses, the text that it works with, which is called T, and the step's block.
pub record ArgumentsValue : Type 0 where
  pub name : List ℕ
  pub to : List ℕ
  pub step : List ℕ
  pub number : ℤ
  pub text : Option (List ℕ)
  pub block : BlockValue

-- The text of a doc string. (Cucumber's Gherkin reference: doc strings)
abbrev pub doc_string : BlockValue → Option (List ℕ)
doc_string (Text text) = Some text
doc_string Empty = None
doc_string (Table rows) = None

-- The arguments that these fields and this block give. T is the field `text` if the pattern has it, otherwise the step's doc string, if any.
abbrev pub arguments_with : Option (List ℕ) → Option (List ℕ) → Option (List ℕ) → Option ℤ → Option (List ℕ) → BlockValue → ArgumentsValue
arguments_with name to step number text block = record {
  name = unwrap_or name [];
  to = unwrap_or to [];
  step = unwrap_or step [];
  number = unwrap_or number (pos 0);
  text = option_or text (doc_string block);
  block = block;
}

-- The value of an `Arguments`.
abbrev pub arguments_value : Arguments → ArgumentsValue
arguments_value a = record { name = a.name.now; to = a.to.now; step = a.step.now; number = a.number; text = option_copied a.text; block = block_value a.block.now }

-- The arguments of a step.
abbrev pub arguments_of : LibraryValue → FoundValue → BlockValue → ArgumentsValue
arguments_of library found =
    arguments_with (text_field library found (codes "name")) (text_field library found (codes "to")) (text_field library found (codes "step")) (number_field library found (codes "n")) (text_field library found (codes "text"))

-- What an action leaves that changes nothing, takes no memory and has this outcome.
abbrev pub stays : State → Outcome → Done
stays s outcome = record { state = s; outcome = outcome; takes_memory = false; files = [] }

-- What an action leaves that takes memory and passes: this state.
abbrev pub passes : State → Done
passes s = record { state = s; outcome = outcomes.Passed; takes_memory = true; files = [] }

-- What an action leaves that fails for this reason and changes nothing.
abbrev pub fails : State → Reason → Done
fails s why = stays s (outcomes.Failed why)

-- What an action leaves that fails if there is a reason, and otherwise passes with a new state.
abbrev pub unless_for : State → Option Reason → State → Done
unless_for s None new = passes new
unless_for s (Some why) new = fails s why

-- What an action leaves that fails with the first reason whose test holds, and otherwise passes with a new state.
abbrev pub unless : State → List (Bool × Reason) → State → Done
unless s tests new = unless_for s (first_true tests) new

-- What an action leaves that works with T. Without T it fails before anything else.
abbrev pub with_T : State → Option (List ℕ) → (List ℕ → Done) → Done
with_T s None action = fails s reasons.NoText
with_T s (Some text) action = action text

-- Whether an outcome is `Passed`, after which the next part of the action follows.
abbrev pub is_pass : Outcome → Bool
is_pass outcomes.Passed = true
is_pass _ = false

-- What two parts of an action leave, of which the first writes this file. The second counts only if the first passed.
abbrev pub and_then : List ℕ × List ℕ → Done → Done → Done
and_then file this next = cond (is_pass this.outcome) (record next { takes_memory = true; files = file ∷ next.files }) this

-- The test that a name has no bytes, or too many, and its reason.
abbrev pub bad_name : List ℕ → Bool × Reason
bad_name name = (is_bad_name name, reasons.BadName)

-- The test that a text has too many bytes, and its reason.
abbrev pub too_long : List ℕ → Bool × Reason
too_long text = (is_too_long text, reasons.TextTooLong)

-- The test that no text has the name, and its reason. What is *held* is the text that the name has, if any.
abbrev pub absent : Option (List ℕ) → Bool × Reason
absent held = (is_none held, reasons.Absent)

-- A check that something is held.
abbrev pub exists : Option (List ℕ) → Outcome
exists None = outcomes.Failed reasons.Absent
exists (Some held) = outcomes.Passed

-- A check that nothing is held.
abbrev pub is_absent : Option (List ℕ) → Outcome
is_absent None = outcomes.Passed
is_absent (Some held) = outcomes.Failed reasons.Present

-- The outcome of a check, by whether what is held agrees with what the step says.
abbrev pub agreement : Bool → Outcome
agreement agrees = cond agrees outcomes.Passed (outcomes.Failed reasons.Differs)

-- A check that this holds of the text that is held and of T.
abbrev pub agrees : (List ℕ → List ℕ → Bool) → Option (List ℕ) → Option (List ℕ) → Outcome
agrees holds held None = outcomes.Failed reasons.NoText
agrees holds None (Some text) = outcomes.Failed reasons.Absent
agrees holds (Some held) (Some text) = agreement (holds held text)

-- A check that a number, if there is one, is this one.
abbrev pub equals : Option ℤ → ℤ → Outcome
equals None n = outcomes.Failed reasons.NotNumber
equals (Some m) n = agreement (int_eq m n)

-- A check that the text that is held is this number.
abbrev pub is_number : Option (List ℕ) → ℤ → Outcome
is_number None n = outcomes.Failed reasons.Absent
is_number (Some held) n = equals (number_of held) n

-- The state in which a file has this text.
abbrev pub with_file : State → List ℕ → List ℕ → State
with_file s name text = record s { files = with_text s.files name text }

-- The state without a file.
abbrev pub without_file : State → List ℕ → State
without_file s name = record s { files = without s.files name }

-- The state in which a variable has this text.
abbrev pub with_env : State → List ℕ → List ℕ → State
with_env s name text = record s { env = with_text s.env name text }

-- The state without a variable.
abbrev pub without_env : State → List ℕ → State
without_env s name = record s { env = without s.env name }

-- The state in which the innermost layer's value is this text. (behave's documentation: context layers)
abbrev pub with_own : State → List ℕ → List ℕ → State
with_own s name text = record s { own = with_text s.own name text }

-- The state without a value of the innermost layer. (behave's documentation: context layers)
abbrev pub without_own : State → List ℕ → State
without_own s name = record s { own = without s.own name }

-- A text is put under a name, which leaves this state.
abbrev pub put : State → List ℕ → List ℕ → State → Done
put s name text new = unless s (bad_name name ∷ too_long text ∷ []) new

-- A file is removed.
abbrev pub remove_file : State → List ℕ → Done
remove_file s name = unless s (bad_name name ∷ absent (s.files name) ∷ []) (without_file s name)

-- A file's text moves to a new name, and the old name is removed. If the names are equal, nothing changes.
abbrev pub moved : State → List ℕ → List ℕ → State
moved s name to = cond (bytes_eq name to) s (without_file (with_file s to (unwrap_or (s.files name) [])) name)

-- A file is renamed. This fails with `Absent` if there is no such file, as under a bad name, and then with `BadName` if the new name is bad.
abbrev pub rename_file : State → List ℕ → List ℕ → Done
rename_file s name to = unless s ((is_bad_name name || is_none (s.files name), reasons.Absent) ∷ bad_name to ∷ []) (moved s name to)

-- A row of a table of files, written as a file. A row of such a table has two cells.
abbrev pub write_row : State → List (List ℕ) → Done
write_row s (name ∷ text ∷ []) = put s name text (with_file s name text)
write_row s _ = fails s reasons.BadTable

-- A row of a table of files: a name and a text.
abbrev pub row_file : List (List ℕ) → List ℕ × List ℕ
row_file (name ∷ text ∷ []) = (name, text)
row_file _ = ([], [])

-- Rows that are written one after another. The first refused row ends this, and earlier rows stay.
abbrev pub write_rows : State → List (List (List ℕ)) → Done
write_rows s [] = passes s
write_rows s (row ∷ rows) = let written = write_row s row in and_then (row_file row) written (write_rows written.state rows)

-- The rows below the header of a table of files, written. Of any other table nothing is written.
abbrev pub write_below : State → Option (List (List (List ℕ))) → Done
write_below s None = fails s reasons.BadTable
write_below s (Some rows) = write_rows s rows

-- A block that is written as a table of files. If it isn't such a table, nothing is written.
abbrev pub write_table : State → BlockValue → Done
write_table s Empty = fails s reasons.NoTable
write_table s (Text text) = fails s reasons.NoTable
write_table s (Table rows) = write_below s (files_below rows)

-- The innermost layer's value becomes the number that is held plus another, in decimal.
abbrev pub add_number : State → List ℕ → Option (List ℕ) → ℤ → Done
add_number s name held n =
    let number = number_of (unwrap_or held []) in
    let sum = unwrap_or number (pos 0) +ℤ n in
    unless s (bad_name name ∷ absent held ∷ (is_none number, reasons.NotNumber) ∷ (not (is_i64 sum), reasons.OutOfRange) ∷ []) (with_own s name (signed_decimal sum))

-- The table of the actions, one row each. The row of a check says its outcome. Any other row says whether the action works with T, the reasons for which it fails, in order, and the state that it otherwise leaves. `delete_value` fails with OtherLayer if only an outer layer has the value. At a site that allows them, at_cleanup and skip_scenario do something else, which isn't in the table. (behave's documentation: context layers)
abbrev pub table : Action → ArgumentsValue → State → Done
table actions.WriteFile g s = with_T s g.text (λ text. put s g.name text (with_file s g.name text))
table actions.AppendFile g s = with_T s g.text (λ text. unless s (bad_name g.name ∷ absent (s.files g.name) ∷ too_long (joined s.files g.name text) ∷ []) (with_file s g.name (joined s.files g.name text)))
table actions.RemoveFile g s = remove_file s g.name
table actions.RenameFile g s = rename_file s g.name g.to
table actions.WriteFiles g s = write_table s g.block
table actions.FileExists g s = stays s (exists (s.files g.name))
table actions.FileAbsent g s = stays s (is_absent (s.files g.name))
table actions.FileIs g s = stays s (agrees bytes_eq (s.files g.name) g.text)
table actions.FileContains g s = stays s (agrees contains (s.files g.name) g.text)
table actions.SetEnv g s = with_T s g.text (λ text. put s g.name text (with_env s g.name text))
table actions.RemoveEnv g s = unless s (bad_name g.name ∷ absent (s.env g.name) ∷ []) (without_env s g.name)
table actions.EnvIs g s = stays s (agrees bytes_eq (s.env g.name) g.text)
table actions.EnvAbsent g s = stays s (is_absent (s.env g.name))
table actions.SetValue g s = with_T s g.text (λ text. put s g.name text (with_own s g.name text))
table actions.DeleteValue g s = unless s (bad_name g.name ∷ absent (see s g.name) ∷ (is_none (s.own g.name), reasons.OtherLayer) ∷ []) (without_own s g.name)
table actions.ValueIs g s = stays s (agrees bytes_eq (see s g.name) g.text)
table actions.ValueAbsent g s = stays s (is_absent (see s g.name))
table actions.SetNumber g s = unless s (bad_name g.name ∷ []) (with_own s g.name (signed_decimal g.number))
table actions.AddNumber g s = add_number s g.name (see s g.name) g.number
table actions.NumberIs g s = stays s (is_number (see s g.name) g.number)
table actions.AtCleanup g s = fails s reasons.NotHere
table actions.SkipScenario g s = fails s reasons.NotHere
table actions.Pass g s = stays s outcomes.Passed
table actions.Fail g s = fails s reasons.Asked

-- A registered cleanup: what the look-up of its text found, the block of the step that registered it, and the place of that step. (behave's documentation: cleanups)
pub record CleanupValue : Type 0 where
  pub found : FoundValue
  pub block : BlockValue
  pub at : Registration

-- The value of a `Cleanup`.
abbrev pub cleanup_value : Cleanup → CleanupValue
cleanup_value c = record { found = found_value c.found; block = block_value c.block; at = c.at }

-- What an action registers as a cleanup: what a look-up found, and a block.
pub record Registered : Type 0 where
  pub found : FoundValue
  pub block : BlockValue

-- The cleanups that are registered at a place.
abbrev pub cleanups_at : Registration → List Registered → List CleanupValue
cleanups_at at registered = map (λ r. record { found = r.found; block = r.block; at = at }) registered

-- What an action leaves, and what it registers.
pub record ActionEffect : Type 0 where
  pub done : Done
  pub registered : List Registered

-- What an action leaves, without what it registers.
abbrev pub done_of : ActionEffect → Done
done_of acted = acted.done

-- An action that registers nothing.
abbrev pub without_cleanups : Done → ActionEffect
without_cleanups done = record { done = done; registered = [] }

-- The outcome of skip_scenario: a step, or a before hook of a scenario, may skip the scenario. (behave's documentation: skipping scenarios)
abbrev pub skip_outcome : Site → Outcome
skip_outcome sites.Step = outcomes.Skip
skip_outcome sites.CaseHook = outcomes.Skip
skip_outcome _ = outcomes.Failed reasons.NotHere

-- Whether an action at a site may register a cleanup: everywhere except in a cleanup.
abbrev pub may_register : Site → Bool
may_register sites.Cleanup = false
may_register _ = true

-- What a look-up found is registered with a block. If it found nothing, there is no such step, but memory may be refused in the look-up. (behave's documentation: cleanups)
abbrev pub registers : State → BlockValue → Option FoundValue → ActionEffect
registers s block None = without_cleanups (record (fails s reasons.NoStep) { takes_memory = true })
registers s block (Some f) = record { done = passes s; registered = record { found = f; block = block } ∷ [] }

-- A text is looked up and registered, if the site allows this.
abbrev pub registers_at : Site → State → LibraryValue → ArgumentsValue → ActionEffect
registers_at site s library g = cond (may_register site) (registers s g.block (found_any library g.step)) (without_cleanups (fails s reasons.NotHere))

-- What becomes of an action at a site, by what it does. An action that registers looks up the field `step` among the entries of type `step`, and one that skips ends the scenario. At a site that doesn't allow them, they fail, as their rows of the table say. Every other action does what its row says.
abbrev pub does_at_site : Does → Action → Site → LibraryValue → ArgumentsValue → State → ActionEffect
does_at_site Registers action site library g s = registers_at site s library g
does_at_site Skips action site library g s = without_cleanups (stays s (skip_outcome site))
does_at_site _ action site library g s = without_cleanups (table action g s)

-- What an action does at a site.
abbrev pub at_site : Action → Site → LibraryValue → ArgumentsValue → State → ActionEffect
at_site action = does_at_site (row_of action).does action

-- An action and its arguments.
pub record UseValue : Type 0 where
  pub action : Action
  pub arguments : ArgumentsValue

-- The value of a `Used`.
abbrev pub use_value : Used → UseValue
use_value used = record { action = used.action; arguments = arguments_value used.arguments }

-- The action of a found step, with its arguments.
abbrev pub use_of : LibraryValue → FoundValue → BlockValue → UseValue
use_of library found block = record { action = action_of library found; arguments = arguments_of library found block }

-- What an action with these arguments leaves and registers at a site.
abbrev pub used_at : Site → LibraryValue → UseValue → State → ActionEffect
used_at site library used s = at_site used.action site library used.arguments s

-- What the action of a found step leaves and registers.
unfoldable pub act : LibraryValue → Site → FoundValue → BlockValue → State → ActionEffect
act library site found block s = used_at site library (use_of library found block) s

-- What the action of a found step leaves and registers, for the program's `Library`, `Found` and `Block`.
abbrev pub act_of : Library → Site → Found → Block → State → ActionEffect
act_of library site found block s = act (library_value library) site (found_value found) (block_value block) s

-- The place of a cleanup whose step has no place that is known.
abbrev pub no_place : Registration
no_place = record { part = parts.Steps; line = 0 }

-- An action was carried out, or memory was refused in it, which requires `takes_memory`.
abbrev pub IsDone : Done → Outcome → State → Type 0
IsDone done outcomes.Memory new = done.takes_memory ≡ true
IsDone done outcome new = (outcome ≡ done.outcome) × (new ≡ done.state)

-- The cleanups after an action: those before it, and then what it registers, at the place of its step. If memory was refused, they are only those before it.
abbrev pub HasRegistered : ActionEffect → Registration → List CleanupValue → Outcome → List CleanupValue → Type 0
HasRegistered acted at before outcomes.Memory after = after ≡ before
HasRegistered acted at before outcome after = after ≡ before ++ cleanups_at at acted.registered

-- If no entry of type `step` matches a text, memory is refused only if the text has the ends of such an entry.
abbrev pub NeedsCandidate : LibraryValue → List ℕ → Outcome → Type 0
NeedsCandidate library text outcome = found_any library text ≡ None → outcome ≡ outcomes.Memory → HasCandidate library None text

-- If no entry of type `step` matches the step that at_cleanup registers, memory is refused only if that step has the ends of such an entry.
abbrev pub CleanupNeedsCandidate : Library → Found → Block → Outcome → Type 0
CleanupNeedsCandidate library found block outcome =
    let used = use_of (library_value library) (found_value found) (block_value block) in
    used.action ≡ actions.AtCleanup → NeedsCandidate (library_value library) used.arguments.step outcome

-- Some number of these files, from the first on, were written one after another, and nothing else changed.
abbrev pub WritesFirst : List (List ℕ × List ℕ) → SandboxValue → SandboxValue → Type 0
WritesFirst [] old new = new ≡ old
WritesFirst (file ∷ files) old new = (new ≡ old) ⊎ ((mid : SandboxValue) × PutsFile old file.0 file.1 mid × WritesFirst files mid new)

-- An action was carried out in a sandbox, or memory was refused in it. Then some number of its files, from the first on, were written, and nothing else changed. The open layers stay as they are.
pub record IsActed (done : Done) (old : SandboxValue) (outcome : Outcome) (new : SandboxValue) : Type 0 where
  pub carried_out : IsDone done outcome (state_of new.now)
  pub layers : KeepsLayers old new
  pub kept : outcome ≡ outcomes.Memory → WritesFirst done.files old new

-- Proof machinery, from here on: what the code's calls do.

-- The outcome for what a change of the world returned.
abbrev pub outcome_of : {A : Type 0} → Result A WorldFault → Outcome
outcome_of (Ok x) = outcomes.Passed
outcome_of (Err faults.Absent) = outcomes.Failed reasons.Absent
outcome_of (Err faults.TextTooLong) = outcomes.Failed reasons.TextTooLong
outcome_of (Err faults.BadName) = outcomes.Failed reasons.BadName
outcome_of (Err faults.OtherLayer) = outcomes.Failed reasons.OtherLayer
outcome_of (Err faults.Memory) = outcomes.Memory

-- If the outcome is `Passed`, this file was written.
abbrev pub WritesFile : List ℕ × List ℕ → SandboxValue → Outcome → SandboxValue → Type 0
WritesFile file old outcome new = outcome ≡ outcomes.Passed → PutsFile old file.0 file.1 new

-- An action was carried out as its row of the table says, or memory was refused in it.
abbrev pub Performs : Action → Arguments → SandboxValue → Outcome → SandboxValue → Type 0
Performs action arguments old outcome new = IsActed (table action (arguments_value arguments) (state_of old.now)) old outcome new

-- The arguments for these used fields and this block.
abbrev pub arguments_by_uses : UsedFields → BlockValue → ArgumentsValue
arguments_by_uses used = arguments_with (borrowed_text used.name) (borrowed_text used.to) (borrowed_text used.step) used.number (borrowed_text used.text)

-- What a `Used` leaves and registers at a site.
abbrev pub called : Library → Site → Used → State → ActionEffect
called library site used s = used_at site (library_value library) (use_value used) s
