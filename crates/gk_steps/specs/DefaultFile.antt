-- The step library that is used if no file is given.
use Rattle.std.specs.Prelude.{codes, ℕ, List, [], ◌∷◌, ◌++◌, None}
use Rattle.gk_steps.specs.declared.action.Action.{Action}
use Rattle.gk_steps.specs.declared.action.Action.TheVariants as actions
use Rattle.gk_steps.specs.declared.pattern.FieldKind.TheVariants.{Plain, Decimal}
use Rattle.gk_steps.specs.Pattern.{PieceValue, Literal, FieldPiece}
use Rattle.gk_steps.specs.Finding.{EntryValue, LibraryValue}

-- The text of the default library, line by line.
unfoldable pub default_text : List ℕ
default_text =
    codes "step a file named \"{name}\" with: => write_file\n"
    ++ codes "step a file named \"{name}\" containing \"{text}\" => write_file\n"
    ++ codes "step the file \"{name}\" is extended with: => append_file\n"
    ++ codes "step the file \"{name}\" is extended with \"{text}\" => append_file\n"
    ++ codes "step the file \"{name}\" is removed => remove_file\n"
    ++ codes "step the file \"{name}\" is renamed to \"{to}\" => rename_file\n"
    ++ codes "step these files: => write_files\n"
    ++ codes "step the file \"{name}\" should exist => file_exists\n"
    ++ codes "step the file \"{name}\" should not exist => file_absent\n"
    ++ codes "step the file \"{name}\" should be: => file_is\n"
    ++ codes "step the file \"{name}\" should be \"{text}\" => file_is\n"
    ++ codes "step the file \"{name}\" should contain: => file_contains\n"
    ++ codes "step the file \"{name}\" should contain \"{text}\" => file_contains\n"
    ++ codes "step the variable \"{name}\" is set to \"{text}\" => set_env\n"
    ++ codes "step the variable \"{name}\" is unset => remove_env\n"
    ++ codes "step the variable \"{name}\" should be \"{text}\" => env_is\n"
    ++ codes "step the variable \"{name}\" should be unset => env_absent\n"
    ++ codes "step the value \"{name}\" is set to \"{text}\" => set_value\n"
    ++ codes "step the value \"{name}\" is deleted => delete_value\n"
    ++ codes "step the value \"{name}\" should be \"{text}\" => value_is\n"
    ++ codes "step the value \"{name}\" should be absent => value_absent\n"
    ++ codes "step the number \"{name}\" is set to {n:d} => set_number\n"
    ++ codes "step the number \"{name}\" grows by {n:d} => add_number\n"
    ++ codes "step the number \"{name}\" should be {n:d} => number_is\n"
    ++ codes "step at cleanup {step} => at_cleanup\n"
    ++ codes "step the scenario is skipped => skip_scenario\n"
    ++ codes "step it passes => pass\n"
    ++ codes "step it fails => fail\n"

-- An entry at a line, for steps of every type.
abbrev pub any_entry : ℕ → List PieceValue → Action → EntryValue
any_entry line ps action = record { line = line; step_type = None; pattern = ps; action = action }

-- The entries of the default library.
abbrev pub default_entries : LibraryValue
default_entries =
    any_entry 1 (Literal (codes "a file named \"") ∷ FieldPiece (codes "name") Plain ∷ Literal (codes "\" with:") ∷ []) actions.WriteFile
    ∷ any_entry 2 (Literal (codes "a file named \"") ∷ FieldPiece (codes "name") Plain ∷ Literal (codes "\" containing \"") ∷ FieldPiece (codes "text") Plain ∷ Literal (codes "\"") ∷ []) actions.WriteFile
    ∷ any_entry 3 (Literal (codes "the file \"") ∷ FieldPiece (codes "name") Plain ∷ Literal (codes "\" is extended with:") ∷ []) actions.AppendFile
    ∷ any_entry 4 (Literal (codes "the file \"") ∷ FieldPiece (codes "name") Plain ∷ Literal (codes "\" is extended with \"") ∷ FieldPiece (codes "text") Plain ∷ Literal (codes "\"") ∷ []) actions.AppendFile
    ∷ any_entry 5 (Literal (codes "the file \"") ∷ FieldPiece (codes "name") Plain ∷ Literal (codes "\" is removed") ∷ []) actions.RemoveFile
    ∷ any_entry 6 (Literal (codes "the file \"") ∷ FieldPiece (codes "name") Plain ∷ Literal (codes "\" is renamed to \"") ∷ FieldPiece (codes "to") Plain ∷ Literal (codes "\"") ∷ []) actions.RenameFile
    ∷ any_entry 7 (Literal (codes "these files:") ∷ []) actions.WriteFiles
    ∷ any_entry 8 (Literal (codes "the file \"") ∷ FieldPiece (codes "name") Plain ∷ Literal (codes "\" should exist") ∷ []) actions.FileExists
    ∷ any_entry 9 (Literal (codes "the file \"") ∷ FieldPiece (codes "name") Plain ∷ Literal (codes "\" should not exist") ∷ []) actions.FileAbsent
    ∷ any_entry 10 (Literal (codes "the file \"") ∷ FieldPiece (codes "name") Plain ∷ Literal (codes "\" should be:") ∷ []) actions.FileIs
    ∷ any_entry 11 (Literal (codes "the file \"") ∷ FieldPiece (codes "name") Plain ∷ Literal (codes "\" should be \"") ∷ FieldPiece (codes "text") Plain ∷ Literal (codes "\"") ∷ []) actions.FileIs
    ∷ any_entry 12 (Literal (codes "the file \"") ∷ FieldPiece (codes "name") Plain ∷ Literal (codes "\" should contain:") ∷ []) actions.FileContains
    ∷ any_entry 13 (Literal (codes "the file \"") ∷ FieldPiece (codes "name") Plain ∷ Literal (codes "\" should contain \"") ∷ FieldPiece (codes "text") Plain ∷ Literal (codes "\"") ∷ []) actions.FileContains
    ∷ any_entry 14 (Literal (codes "the variable \"") ∷ FieldPiece (codes "name") Plain ∷ Literal (codes "\" is set to \"") ∷ FieldPiece (codes "text") Plain ∷ Literal (codes "\"") ∷ []) actions.SetEnv
    ∷ any_entry 15 (Literal (codes "the variable \"") ∷ FieldPiece (codes "name") Plain ∷ Literal (codes "\" is unset") ∷ []) actions.RemoveEnv
    ∷ any_entry 16 (Literal (codes "the variable \"") ∷ FieldPiece (codes "name") Plain ∷ Literal (codes "\" should be \"") ∷ FieldPiece (codes "text") Plain ∷ Literal (codes "\"") ∷ []) actions.EnvIs
    ∷ any_entry 17 (Literal (codes "the variable \"") ∷ FieldPiece (codes "name") Plain ∷ Literal (codes "\" should be unset") ∷ []) actions.EnvAbsent
    ∷ any_entry 18 (Literal (codes "the value \"") ∷ FieldPiece (codes "name") Plain ∷ Literal (codes "\" is set to \"") ∷ FieldPiece (codes "text") Plain ∷ Literal (codes "\"") ∷ []) actions.SetValue
    ∷ any_entry 19 (Literal (codes "the value \"") ∷ FieldPiece (codes "name") Plain ∷ Literal (codes "\" is deleted") ∷ []) actions.DeleteValue
    ∷ any_entry 20 (Literal (codes "the value \"") ∷ FieldPiece (codes "name") Plain ∷ Literal (codes "\" should be \"") ∷ FieldPiece (codes "text") Plain ∷ Literal (codes "\"") ∷ []) actions.ValueIs
    ∷ any_entry 21 (Literal (codes "the value \"") ∷ FieldPiece (codes "name") Plain ∷ Literal (codes "\" should be absent") ∷ []) actions.ValueAbsent
    ∷ any_entry 22 (Literal (codes "the number \"") ∷ FieldPiece (codes "name") Plain ∷ Literal (codes "\" is set to ") ∷ FieldPiece (codes "n") Decimal ∷ []) actions.SetNumber
    ∷ any_entry 23 (Literal (codes "the number \"") ∷ FieldPiece (codes "name") Plain ∷ Literal (codes "\" grows by ") ∷ FieldPiece (codes "n") Decimal ∷ []) actions.AddNumber
    ∷ any_entry 24 (Literal (codes "the number \"") ∷ FieldPiece (codes "name") Plain ∷ Literal (codes "\" should be ") ∷ FieldPiece (codes "n") Decimal ∷ []) actions.NumberIs
    ∷ any_entry 25 (Literal (codes "at cleanup ") ∷ FieldPiece (codes "step") Plain ∷ []) actions.AtCleanup
    ∷ any_entry 26 (Literal (codes "the scenario is skipped") ∷ []) actions.SkipScenario
    ∷ any_entry 27 (Literal (codes "it passes") ∷ []) actions.Pass
    ∷ any_entry 28 (Literal (codes "it fails") ∷ []) actions.Fail
    ∷ []
