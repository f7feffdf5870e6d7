-- Worked examples of the table of actions, with the results that the rules state.
use Rattle.std.specs.Fmt.{digits}
use Rattle.std.proofs.Common.{◌≡◌, ℕ, Bool, true, false, List, [], ◌∷◌, map, refl, ap, ℤ, pos, negsuc, Option, Some, None, codes}
use Rattle.gk_gherkin.specs.Feature.{BlockValue, Empty, Text, Table}
use Rattle.gk_steps.specs.declared.action.Action.{Action}
use Rattle.gk_steps.specs.declared.action.Action.TheVariants as actions
use Rattle.gk_steps.specs.declared.pattern.FieldKind.TheVariants.{Plain}
use Rattle.gk_steps.specs.Pattern.{FieldPiece, Literal}
use Rattle.gk_steps.specs.Matching.{TextField}
use Rattle.gk_steps.specs.Finding.{LibraryValue}
use Rattle.gk_world.specs.State.{State, nothing, with_text, see}
use Rattle.gk_world.specs.Refusals.{is_too_long}
use Rattle.gk_run.specs.declared.results.Reason.TheVariants as reasons
use Rattle.gk_run.specs.declared.results.Outcome.TheVariants as outcomes
use Rattle.gk_steps.specs.Decimal.{number_of}
use Rattle.gk_run.specs.Acting.{Done, stays, arguments_of, ArgumentsValue, passes, fails, table, with_file, without_file, with_env, without_env, with_own, without_own, unless}

-- a file, a variable, a value of an outer layer, and one of the innermost
abbrev start : State
start = record {
  files = with_text nothing (codes "a") (codes "one");
  env = with_text nothing (codes "V") (codes "x");
  outer = with_text nothing (codes "n") (codes "+007");
  own = with_text nothing (codes "k") (codes "v");
}

-- an action with a name and a text
abbrev named : List ℕ → Option (List ℕ) → ArgumentsValue
named name text = record { name = name; to = []; step = []; number = pos 0; text = text; block = Empty }

-- an action with two names
abbrev renaming : List ℕ → List ℕ → ArgumentsValue
renaming name to = record { name = name; to = to; step = []; number = pos 0; text = None; block = Empty }

-- an action with a name and a number
abbrev counting : List ℕ → ℤ → ArgumentsValue
counting name n = record { name = name; to = []; step = []; number = n; text = None; block = Empty }

-- an action with a block
abbrev under : BlockValue → ArgumentsValue
under block = record { name = []; to = []; step = []; number = pos 0; text = None; block = block }

-- a row of two cells
abbrev two : List ℕ → List ℕ → List (List ℕ)
two a b = a ∷ b ∷ []

-- a table of files with these rows
abbrev listing : List (List (List ℕ)) → ArgumentsValue
listing rows = under (Table (two (codes "name") (codes "text") ∷ rows))

-- a check that passes
abbrev agrees : State → Done
agrees s = stays s outcomes.Passed

-- an action with each of these arguments does this
abbrev Does : Action → List (ArgumentsValue × Done) → Type 0
Does action cases = map (λ c. table action c.0 start) cases ≡ map (λ c. c.1) cases

write_file : Does actions.WriteFile
    ((named (codes "b") (Some (codes "x")), passes (with_file start (codes "b") (codes "x"))) ∷
    (named (codes "b") None, fails start reasons.NoText) ∷
    (named [] None, fails start reasons.NoText) ∷
    (named [] (Some (codes "x")), fails start reasons.BadName) ∷ [])
write_file = refl

append_file : Does actions.AppendFile
    ((named (codes "b") None, fails start reasons.NoText) ∷
    (named (codes "b") (Some (codes "x")), fails start reasons.Absent) ∷
    (named [] (Some (codes "x")), fails start reasons.BadName) ∷ [])
append_file = refl

remove_file : Does actions.RemoveFile
    ((named (codes "a") None, passes (without_file start (codes "a"))) ∷
    (named (codes "b") None, fails start reasons.Absent) ∷
    (named [] None, fails start reasons.BadName) ∷ [])
remove_file = refl

rename_file : Does actions.RenameFile
    ((renaming (codes "a") (codes "b"), passes (without_file (with_file start (codes "b") (codes "one")) (codes "a"))) ∷
    (renaming (codes "a") (codes "a"), passes start) ∷
    (renaming (codes "b") [], fails start reasons.Absent) ∷
    (renaming (codes "a") [], fails start reasons.BadName) ∷ [])
rename_file = refl

write_files : Does actions.WriteFiles
    ((listing (two (codes "b") (codes "1") ∷ two (codes "c") (codes "2") ∷ []), record (passes (with_file (with_file start (codes "b") (codes "1")) (codes "c") (codes "2"))) { files = (codes "b", codes "1") ∷ (codes "c", codes "2") ∷ [] }) ∷
    (listing [], passes start) ∷
    (listing (two (codes "b") (codes "1") ∷ two [] (codes "2") ∷ two (codes "c") (codes "3") ∷ []), record (fails (with_file start (codes "b") (codes "1")) reasons.BadName) { takes_memory = true; files = (codes "b", codes "1") ∷ [] }) ∷
    (under Empty, fails start reasons.NoTable) ∷
    (under (Text (codes "name")), fails start reasons.NoTable) ∷
    (under (Table []), fails start reasons.BadTable) ∷
    (under (Table (two (codes "b") (codes "1") ∷ two (codes "c") (codes "2") ∷ [])), fails start reasons.BadTable) ∷
    (listing ((codes "b" ∷ []) ∷ []), fails start reasons.BadTable) ∷ [])
write_files = refl

file_is : Does actions.FileIs
    ((named (codes "a") (Some (codes "one")), agrees start) ∷
    (named (codes "b") None, fails start reasons.NoText) ∷
    (named (codes "b") (Some (codes "x")), fails start reasons.Absent) ∷
    (named (codes "a") (Some (codes "y")), fails start reasons.Differs) ∷ [])
file_is = refl

file_absent : Does actions.FileAbsent
    ((named (codes "b") None, agrees start) ∷
    (named (codes "a") None, fails start reasons.Present) ∷ [])
file_absent = refl

env_is : Does actions.EnvIs
    ((named (codes "V") (Some (codes "x")), agrees start) ∷
    (named (codes "b") None, fails start reasons.NoText) ∷
    (named (codes "b") (Some (codes "x")), fails start reasons.Absent) ∷
    (named (codes "V") (Some (codes "y")), fails start reasons.Differs) ∷ [])
env_is = refl

env_absent : Does actions.EnvAbsent
    ((named (codes "b") None, agrees start) ∷
    (named (codes "V") None, fails start reasons.Present) ∷ [])
env_absent = refl

file_exists : Does actions.FileExists
    ((named (codes "a") None, agrees start) ∷
    (named [] None, fails start reasons.Absent) ∷ [])
file_exists = refl

file_contains : Does actions.FileContains
    ((named (codes "a") (Some (codes "ne")), agrees start) ∷
    (named (codes "a") (Some []), agrees start) ∷
    (named (codes "a") (Some (codes "en")), fails start reasons.Differs) ∷
    (named (codes "b") (Some (codes "x")), fails start reasons.Absent) ∷
    (named (codes "b") None, fails start reasons.NoText) ∷ [])
file_contains = refl

set_env : Does actions.SetEnv
    ((named (codes "W") (Some (codes "y")), passes (with_env start (codes "W") (codes "y"))) ∷
    (named [] None, fails start reasons.NoText) ∷
    (named [] (Some (codes "y")), fails start reasons.BadName) ∷ [])
set_env = refl

remove_env : Does actions.RemoveEnv
    ((named (codes "V") None, passes (without_env start (codes "V"))) ∷
    (named (codes "W") None, fails start reasons.Absent) ∷
    (named [] None, fails start reasons.BadName) ∷ [])
remove_env = refl

set_value : Does actions.SetValue
    ((named (codes "n") (Some (codes "9")), passes (with_own start (codes "n") (codes "9"))) ∷
    (named [] None, fails start reasons.NoText) ∷
    (named [] (Some (codes "9")), fails start reasons.BadName) ∷ [])
set_value = refl

delete_value : Does actions.DeleteValue
    ((named (codes "k") None, passes (without_own start (codes "k"))) ∷
    (named (codes "n") None, fails start reasons.OtherLayer) ∷
    (named (codes "m") None, fails start reasons.Absent) ∷
    (named [] None, fails start reasons.BadName) ∷ [])
delete_value = refl

value_is : Does actions.ValueIs
    ((named (codes "n") (Some (codes "+007")), agrees start) ∷
    (named (codes "n") (Some (codes "7")), fails start reasons.Differs) ∷
    (named (codes "m") (Some (codes "7")), fails start reasons.Absent) ∷
    (named (codes "m") None, fails start reasons.NoText) ∷ [])
value_is = refl

value_absent : Does actions.ValueAbsent
    ((named (codes "m") None, agrees start) ∷
    (named (codes "n") None, fails start reasons.Present) ∷ [])
value_absent = refl

set_number : Does actions.SetNumber
    ((counting (codes "m") (negsuc 4), passes (with_own start (codes "m") (codes "-5"))) ∷
    (counting [] (pos 5), fails start reasons.BadName) ∷ [])
unfolding digits
set_number = refl

add_number : Does actions.AddNumber
    ((counting (codes "n") (pos 0), passes (with_own start (codes "n") (codes "7"))) ∷
    (counting (codes "n") (negsuc 9), passes (with_own start (codes "n") (codes "-3"))) ∷
    (counting [] (pos 1), fails start reasons.BadName) ∷
    (counting (codes "m") (pos 1), fails start reasons.Absent) ∷
    (counting (codes "k") (pos 1), fails start reasons.NotNumber) ∷
    (counting (codes "n") (pos 9223372036854775807), fails start reasons.OutOfRange) ∷ [])
unfolding digits
add_number = refl

number_is : Does actions.NumberIs
    ((counting (codes "n") (pos 7), agrees start) ∷
    (counting (codes "n") (pos 8), fails start reasons.Differs) ∷
    (counting (codes "k") (pos 8), fails start reasons.NotNumber) ∷
    (counting (codes "m") (pos 8), fails start reasons.Absent) ∷ [])
number_is = refl

pass : Does actions.Pass ((under Empty, agrees start) ∷ [])
pass = refl

fail : Does actions.Fail ((under Empty, fails start reasons.Asked) ∷ [])
fail = refl

-- the file of this name after an action
abbrev file_after : Action → ArgumentsValue → List ℕ → Option (List ℕ)
file_after action g name = (table action g start).state.files name

-- files that were written, extended, removed and renamed
files_after :
    file_after actions.WriteFile (named (codes "a") (Some (codes "x"))) (codes "a") ∷
    file_after actions.AppendFile (named (codes "a") (Some (codes "x"))) (codes "a") ∷
    file_after actions.RemoveFile (named (codes "a") None) (codes "a") ∷
    file_after actions.RenameFile (renaming (codes "a") (codes "b")) (codes "b") ∷
    file_after actions.RenameFile (renaming (codes "a") (codes "b")) (codes "a") ∷ [] ≡
    Some (codes "x") ∷ Some (codes "onex") ∷ None ∷ Some (codes "one") ∷ None ∷ []
files_after = refl

-- the state after a value of the innermost layer hides one of an outer layer
abbrev hidden : State
hidden = (table actions.SetValue (named (codes "n") (Some (codes "9"))) start).state

hides_the_outer_value : hidden.outer (codes "n") ∷ see hidden (codes "n") ∷ [] ≡ Some (codes "+007") ∷ Some (codes "9") ∷ []
hides_the_outer_value = refl

numbers : map number_of (codes "+007" ∷ codes "-0" ∷ codes "-9223372036854775808" ∷ codes "9223372036854775807" ∷ []) ≡
    Some (pos 7) ∷ Some (pos 0) ∷ Some (negsuc 9223372036854775807) ∷ Some (pos 9223372036854775807) ∷ []
numbers = refl

not_numbers : map number_of (codes "9223372036854775808" ∷ codes "+" ∷ codes "+-1" ∷ [] ∷ codes "1x" ∷ codes " 1" ∷ []) ≡
    None ∷ None ∷ None ∷ None ∷ None ∷ None ∷ []
not_numbers = refl

-- whatever text is too long
write_too_long : (text : List ℕ) → is_too_long text ≡ true → table actions.WriteFile (named (codes "b") (Some text)) start ≡ fails start reasons.TextTooLong
write_too_long text e = ap (λ (b : Bool). unless start ((false, reasons.BadName) ∷ (b, reasons.TextTooLong) ∷ []) (with_file start (codes "b") text)) e

-- a step whose pattern has a field `text`, and one whose pattern has no field
abbrev with_field : LibraryValue
with_field = record { line = 1; step_type = None; pattern = FieldPiece (codes "text") Plain ∷ []; action = actions.FileIs } ∷ []

abbrev without_field : LibraryValue
without_field = record { line = 1; step_type = None; pattern = Literal (codes "x") ∷ []; action = actions.FileIs } ∷ []

-- The text of a step is the field `text`, or otherwise the doc string.
texts_of_steps :
    (arguments_of with_field (record { entry = 0; fields = TextField (codes "field") ∷ [] }) (Text (codes "doc"))).text ∷
    map (λ block. (arguments_of without_field (record { entry = 0; fields = [] }) block).text) (Text (codes "doc") ∷ Table ((codes "doc" ∷ []) ∷ []) ∷ Empty ∷ []) ≡
    Some (codes "field") ∷ Some (codes "doc") ∷ None ∷ None ∷ []
texts_of_steps = refl
