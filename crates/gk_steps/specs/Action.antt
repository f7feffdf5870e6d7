-- The table of the built-in actions: one row each.
use Rattle.std.specs.Prelude.{codes, ℕ, List, [], ◌∷◌, map, Option, find, if◌then◌else◌}
use Rattle.std.proofs.Common.{Bor}
use Rattle.std.specs.Str.{bytes_eq}
use Rattle.gk_steps.specs.declared.pattern.FieldKind.{FieldKind}
use Rattle.gk_steps.specs.declared.pattern.FieldKind.TheVariants.{Plain, Decimal}
use Rattle.gk_steps.specs.declared.action.Action.{Action}
use Rattle.gk_steps.specs.declared.action.Action.TheVariants as actions
use Rattle.gk_steps.specs.declared.action.Does.{Does}
use Rattle.gk_steps.specs.declared.action.Does.TheVariants.{Changes, Checks, Registers, Skips}
use Rattle.gk_steps.specs.declared.action.ActsOn.{ActsOn}
use Rattle.gk_steps.specs.declared.action.ActsOn.TheVariants.{File, Variable, Value}
use Rattle.gk_steps.specs.declared.action.Takes.{Takes}
use Rattle.gk_steps.specs.declared.action.Takes.TheVariants.{Nothing, Text, Table}
use Rattle.gk_steps.specs.declared.action.ActionRow.{ActionRow}

-- The contents of borrowed words.
abbrev pub word_texts : List (Bor (List ℕ)) → List (List ℕ)
word_texts words = map (λ word. word.now) words

-- A row of the table of actions: a name, its action, what the action does, what it acts on, what it takes besides its other fields, the fields that it needs, and all fields that it uses.
pub record ActionRowValue : Type 0 where
  pub name : List ℕ
  pub action : Action
  pub does : Does
  pub acts_on : ActsOn
  pub takes : Takes
  pub needs : List (List ℕ)
  pub uses : List (List ℕ)

-- The value of an `ActionRow`.
abbrev pub action_row_value : ActionRow → ActionRowValue
action_row_value row = record {
  name = row.name.now;
  action = row.action;
  does = row.does;
  acts_on = row.acts_on;
  takes = row.takes;
  needs = word_texts row.needs.now;
  uses = word_texts row.uses.now;
}

-- The field for a name.
abbrev pub name_word : List ℕ
name_word = codes "name"

-- The field for a new name.
abbrev pub to_word : List ℕ
to_word = codes "to"

-- The field for a text.
abbrev pub text_word : List ℕ
text_word = codes "text"

-- The field for a number.
abbrev pub number_word : List ℕ
number_word = codes "n"

-- The field for the text of a step.
abbrev pub step_word : List ℕ
step_word = codes "step"

-- The kind that a field of this name must have: a number for `n`, plain for any other name.
abbrev pub kind_of_field : List ℕ → FieldKind
kind_of_field name = if bytes_eq name number_word then Decimal else Plain

-- The row of an action that takes neither a text nor a table, and uses only the fields that it needs.
abbrev pub plain_row : List ℕ → Action → Does → ActsOn → List (List ℕ) → ActionRowValue
plain_row name action does acts_on needs = record { name = name; action = action; does = does; acts_on = acts_on; takes = Nothing; needs = needs; uses = needs }

-- The row of an action that needs `name` and takes a text: that of the field `text` if the pattern has one, and otherwise the doc string.
abbrev pub text_row : List ℕ → Action → Does → ActsOn → ActionRowValue
text_row name action does acts_on = record { name = name; action = action; does = does; acts_on = acts_on; takes = Text; needs = name_word ∷ []; uses = name_word ∷ text_word ∷ [] }

-- The row of an action that takes a table, and uses no field.
abbrev pub table_row : List ℕ → Action → Does → ActsOn → ActionRowValue
table_row name action does acts_on = record { name = name; action = action; does = does; acts_on = acts_on; takes = Table; needs = []; uses = [] }

-- The row of each action: its name, what it does, what it acts on, and the fields that it needs. `at_cleanup`, `skip_scenario`, `pass` and `fail`, which act on nothing, have `Value`, too.
abbrev pub row_of : Action → ActionRowValue
row_of actions.WriteFile = text_row (codes "write_file") actions.WriteFile Changes File
row_of actions.AppendFile = text_row (codes "append_file") actions.AppendFile Changes File
row_of actions.RemoveFile = plain_row (codes "remove_file") actions.RemoveFile Changes File (name_word ∷ [])
row_of actions.RenameFile = plain_row (codes "rename_file") actions.RenameFile Changes File (name_word ∷ to_word ∷ [])
row_of actions.WriteFiles = table_row (codes "write_files") actions.WriteFiles Changes File
row_of actions.FileExists = plain_row (codes "file_exists") actions.FileExists Checks File (name_word ∷ [])
row_of actions.FileAbsent = plain_row (codes "file_absent") actions.FileAbsent Checks File (name_word ∷ [])
row_of actions.FileIs = text_row (codes "file_is") actions.FileIs Checks File
row_of actions.FileContains = text_row (codes "file_contains") actions.FileContains Checks File
row_of actions.SetEnv = text_row (codes "set_env") actions.SetEnv Changes Variable
row_of actions.RemoveEnv = plain_row (codes "remove_env") actions.RemoveEnv Changes Variable (name_word ∷ [])
row_of actions.EnvIs = text_row (codes "env_is") actions.EnvIs Checks Variable
row_of actions.EnvAbsent = plain_row (codes "env_absent") actions.EnvAbsent Checks Variable (name_word ∷ [])
row_of actions.SetValue = text_row (codes "set_value") actions.SetValue Changes Value
row_of actions.DeleteValue = plain_row (codes "delete_value") actions.DeleteValue Changes Value (name_word ∷ [])
row_of actions.ValueIs = text_row (codes "value_is") actions.ValueIs Checks Value
row_of actions.ValueAbsent = plain_row (codes "value_absent") actions.ValueAbsent Checks Value (name_word ∷ [])
row_of actions.SetNumber = plain_row (codes "set_number") actions.SetNumber Changes Value (name_word ∷ number_word ∷ [])
row_of actions.AddNumber = plain_row (codes "add_number") actions.AddNumber Changes Value (name_word ∷ number_word ∷ [])
row_of actions.NumberIs = plain_row (codes "number_is") actions.NumberIs Checks Value (name_word ∷ number_word ∷ [])
row_of actions.AtCleanup = plain_row (codes "at_cleanup") actions.AtCleanup Registers Value (step_word ∷ [])
row_of actions.SkipScenario = plain_row (codes "skip_scenario") actions.SkipScenario Skips Value []
row_of actions.Pass = plain_row (codes "pass") actions.Pass Checks Value []
row_of actions.Fail = plain_row (codes "fail") actions.Fail Checks Value []

-- All actions.
abbrev pub all_actions : List Action
all_actions =
    actions.WriteFile ∷ actions.AppendFile ∷ actions.RemoveFile ∷ actions.RenameFile ∷ actions.WriteFiles ∷ actions.FileExists
    ∷ actions.FileAbsent ∷ actions.FileIs ∷ actions.FileContains ∷ actions.SetEnv ∷ actions.RemoveEnv ∷ actions.EnvIs
    ∷ actions.EnvAbsent ∷ actions.SetValue ∷ actions.DeleteValue ∷ actions.ValueIs ∷ actions.ValueAbsent ∷ actions.SetNumber
    ∷ actions.AddNumber ∷ actions.NumberIs ∷ actions.AtCleanup ∷ actions.SkipScenario ∷ actions.Pass ∷ actions.Fail
    ∷ []

-- The table of actions.
abbrev pub action_table : List ActionRowValue
action_table = map row_of all_actions

-- The first of some rows with this name; none if no row has it.
abbrev pub row_among : List ActionRowValue → List ℕ → Option ActionRowValue
row_among rows name = find (λ (row : ActionRowValue). bytes_eq row.name name) rows

-- The row of this name; none if no action has it.
unfoldable pub action_row : List ℕ → Option ActionRowValue
action_row name = row_among action_table name
