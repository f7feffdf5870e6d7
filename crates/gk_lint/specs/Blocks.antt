-- The faults of the block under a step.
use Rattle.std.specs.Prelude.{not, ℕ, Bool, true, false, ◌&&◌, List, [], ◌∷◌, ◌++◌, if◌then◌else◌, is_none}
use Rattle.gk_gherkin.specs.Feature.{BlockValue, Empty, Text, Table}
use Rattle.gk_steps.specs.declared.action.Takes.{Takes}
use Rattle.gk_steps.specs.declared.action.Takes.TheVariants as takes
use Rattle.gk_steps.specs.FilesTable.{files_below}
use Rattle.gk_lint.specs.declared.step_faults.StepFault.{StepFault}
use Rattle.gk_lint.specs.declared.step_faults.StepFault.TheVariants.{NoText, NoTable, BadTable, IgnoredText, IgnoredTable}

-- Whether this is a text.
abbrev pub is_text : Takes → Bool
is_text takes.Text = true
is_text _ = false

-- Whether this is a table.
abbrev pub is_table : Takes → Bool
is_table takes.Table = true
is_table _ = false

-- A fault if a test holds, and otherwise none.
abbrev pub fault_if : Bool → StepFault → List StepFault
fault_if holds fault = if holds then fault ∷ [] else []

-- The faults of a table under a step, by what its action takes. An action that takes a table fails with any table that isn't one of files.
abbrev pub table_faults : Takes → List (List (List ℕ)) → List StepFault
table_faults takes.Table rows = fault_if (is_none (files_below rows)) BadTable
table_faults _ rows = IgnoredTable ∷ []

-- Whether an action takes a text that no field `text` gives, so that it needs a doc string.
abbrev pub lacks_text : Takes → Bool → Bool
lacks_text takes has_field = is_text takes && not has_field

-- The faults of the block under a step, by what its action takes and by whether its pattern has a field `text`: a text or a table is missing, the table isn't a table of files, or the block is ignored.
abbrev pub block_faults : Takes → Bool → BlockValue → List StepFault
block_faults takes has_field Empty = fault_if (lacks_text takes has_field) NoText ++ fault_if (is_table takes) NoTable
block_faults takes has_field (Text text) = fault_if (is_table takes) NoTable ++ fault_if (not (lacks_text takes has_field)) IgnoredText
block_faults takes has_field (Table rows) = fault_if (lacks_text takes has_field) NoText ++ table_faults takes rows
