-- The options, each with what it takes and what accepts it beside itself. Clap's rules follow from these rows.
use Rattle.std.specs.Prelude.{Bool, List, [], ◌∷◌, true, false, Some, codes}
use Rattle.clap.specs.Words.{Rule, Text, new_rule}
use Rattle.clap.specs.declared.builder.action.ArgAction.TheVariants.{Append, Set, SetTrue}
use Rattle.clap.specs.declared.builder.value_parser.ValueParser.TheVariants.{Unsigned}
use Rattle.gk_cli.specs.declared.option_table.OptionRow.{OptionRow}
use Rattle.gk_cli.specs.declared.option_table.OptionTakes.{OptionTakes}
use Rattle.gk_cli.specs.declared.option_table.OptionTakes.TheVariants.{Nothing as Flag, Text as OneText, Texts, Lines}

-- An option: its name, what it takes, and whether a report accepts it, and `--explain`, `--lint` and `--lint --no-steps` do beside themselves.
pub record OptionValue : Type 0 where
  pub name : Text
  pub takes : OptionTakes
  pub beside_report : Bool
  pub beside_explain : Bool
  pub beside_lint : Bool
  pub beside_no_steps : Bool

-- Proof machinery: the option of a row; its other columns are texts of the help.
abbrev pub option_value : OptionRow → OptionValue
option_value row = record { name = row.name.now; takes = row.takes; beside_report = row.beside_report; beside_explain = row.beside_explain; beside_lint = row.beside_lint; beside_no_steps = row.beside_no_steps }

-- The rule by which clap reads an option. It finds `true` for a flag that is among the arguments, and `false` otherwise. N of `--line N` fits a `u32` and isn't 0.
abbrev pub rule_by : Text → OptionTakes → Rule
rule_by name Flag = record (new_rule name) { long = Some name; action = Some SetTrue }
rule_by name OneText = record (new_rule name) { long = Some name; action = Some Set; value_names = 1 }
rule_by name Texts = record (new_rule name) { long = Some name; action = Some Append; value_names = 1 }
rule_by name Lines = record (new_rule name) { long = Some name; action = Some Append; parser = Some (Unsigned 1 4294967295); value_names = 1 }

-- The rule of an option, by its row.
abbrev pub rule_of_option : OptionValue → Rule
rule_of_option o = rule_by o.name o.takes

-- An option that all accept.
abbrev anywhere : Text → OptionTakes → OptionValue
anywhere name takes = record { name = name; takes = takes; beside_report = true; beside_explain = true; beside_lint = true; beside_no_steps = true }

-- An option that all accept, except `--no-steps`, since it is about steps.
abbrev with_steps : Text → OptionTakes → OptionValue
with_steps name takes = record (anywhere name takes) { beside_no_steps = false }

-- An option that a report and `--explain` accept.
abbrev in_a_run : Text → OptionTakes → OptionValue
in_a_run name takes = record (with_steps name takes) { beside_lint = false }

-- An option that a report alone accepts.
abbrev in_a_report : Text → OptionTakes → OptionValue
in_a_report name takes = record (in_a_run name takes) { beside_explain = false }

-- An option that `--lint` accepts, or is, and `--explain` doesn't. What a report accepts matters only for an option that asks for no other output.
abbrev in_findings : Text → OptionTakes → OptionValue
in_findings name takes = record (anywhere name takes) { beside_explain = false }

-- The options. `--tags`, `--format`, `--dry-run`, `--stop` and `--no-skipped` are behave's. (behave's documentation: command line arguments)
abbrev pub options : List OptionValue
options =
    anywhere (codes "tags") Texts
    ∷ anywhere (codes "line") Lines
    ∷ with_steps (codes "library") OneText
    ∷ with_steps (codes "hooks") OneText
    ∷ with_steps (codes "env") Texts
    ∷ in_a_run (codes "file") Texts
    ∷ in_a_report (codes "dry-run") Flag
    ∷ in_a_run (codes "stop") Flag
    ∷ in_a_report (codes "format") OneText
    ∷ in_a_report (codes "no-skipped") Flag
    ∷ in_a_run (codes "explain") Flag
    ∷ in_findings (codes "lint") Flag
    ∷ record (in_findings (codes "no-steps") Flag) { beside_report = false }
    ∷ []
