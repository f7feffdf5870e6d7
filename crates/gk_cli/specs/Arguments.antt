-- What the command-line arguments ask for.
use Rattle.std.specs.Prelude.{◌≡◌, ◌++◌, ◌≢◌, ◌≤◌, ◌==◌, ◌&&◌, not, is_some, ℕ, Bool, List, [], ◌∷◌, true, false, Option, Some, None, Result, Ok, Err, if◌then◌else◌, codes, string_bytes, map, fold, option_map, unwrap_or}
use Rattle.std.specs.List.{All, after_first, before_first, list_any}
use Rattle.std.specs.Option.{option_map_or}
use Rattle.std.specs.Str.{bytes_eq}
use Rattle.std.specs.Str.Parse.{digits_value, without_leading_plus}
use Rattle.std.specs.Prelude.{String, Vec}
use Rattle.std.specs.declared.alloc.Global.{Global}
use Rattle.clap.specs.Kinds.{or_else}
use Rattle.clap.specs.Lexer.{has_byte, usize_max}
use Rattle.clap.specs.Walk.{one_of}
use Rattle.clap.specs.Words.{IsPlainArg, IsUnsignedIn, Kinds, IsAmong, App, IsPlain, Row, Rule, Text, all_of, app_of, fault_of, first_of, kind_of, matches_of, new_app, new_rule, rule_of, with_rule}
use Rattle.clap.specs.declared.builder.action.ArgAction.TheVariants.{Append}
use Rattle.clap.specs.declared.builder.arg.Arg.{Arg}
use Rattle.clap.specs.declared.builder.command.Command.{Command}
use Rattle.clap.specs.declared.builder.command.Command.TheViews.{out-Command as fields_of}
use Rattle.clap.specs.declared.error.Error.{Error}
use Rattle.clap.specs.declared.error.kind.ErrorKind.TheVariants.{ArgumentConflict, InvalidValue, OutOfMemory}
use Rattle.gk_cli.specs.OptionTable.{OptionValue, options, rule_of_option}
use Rattle.gk_cli.specs.declared.option_table.OptionTakes.{OptionTakes}
use Rattle.gk_cli.specs.declared.option_table.OptionTakes.TheVariants.{Nothing as Flag}
use Rattle.gk_report.specs.Report.{format_name, format_named}
use Rattle.gk_cli.specs.declared.arguments.Mode.{Mode}
use Rattle.gk_cli.specs.declared.arguments.Mode.TheVariants.{Report, Explanation, Findings}
use Rattle.gk_request.specs.declared.request.Options.{Options}
use Rattle.gk_cli.specs.declared.arguments.Words.{Words}
use Rattle.gk_cli.specs.declared.arguments.WordsFault.{WordsFault}
use Rattle.gk_cli.specs.declared.arguments.WordsFault.TheVariants.{Usage, Env, File, Memory}

-- The files: at least one, anywhere among the arguments.
abbrev pub files_rule : Rule
files_rule = record (new_rule (codes "files")) {
  action = Some Append;
  range = Some (record { start_inclusive = 1; end_inclusive = usize_max });
  value_names = 1;
  required = true;
}

-- An app that has a version.
abbrev pub with_version : App → App
with_version app = record app { top = record app.top { has_version = true } }

-- The command without its options: its name, that it has a version, and its files. clap itself adds the options for help and the version.
abbrev pub command_of_files : App
command_of_files = with_rule (with_version (new_app (codes "gherkin_run"))) files_rule

-- The command: the files and the options.
abbrev pub command : App
command = fold with_rule command_of_files (map rule_of_option options)

-- What clap finds in the arguments. The first argument is the program's name.
abbrev pub found_in : List Text → List Row
found_in arguments = matches_of command arguments

-- Whether a format has this name.
abbrev pub is_format : Text → Bool
is_format name = is_some (format_named name)

-- The name of the format that `--format` asks for; plain if there is none. (behave's documentation: command line arguments)
abbrev pub format_asked : List Row → Text
format_asked rows = unwrap_or (first_of (codes "format") rows) (codes "plain")

-- Whether a flag is among the arguments.
abbrev pub is_set : Text → List Row → Bool
is_set name rows = option_map_or (λ text. bytes_eq text (codes "true")) (one_of name rows) false

-- What is to be written: the report of a run, an explanation instead of it, or the findings before a run, for which steps are looked up unless `--no-steps` is among the arguments.
abbrev pub mode_asked : List Row → Mode
mode_asked rows = if is_set (codes "explain") rows then Explanation else (if is_set (codes "lint") rows then Findings (not (is_set (codes "no-steps") rows)) else Report)

-- Whether an option is among the arguments, with a value.
abbrev pub is_given : Text → List Row → Bool
is_given name rows = is_some (first_of name rows)

-- Whether an option is among the arguments: a flag if it is set, another option if it has a value.
abbrev is_among_by : OptionTakes → Text → List Row → Bool
is_among_by Flag name rows = is_set name rows
is_among_by _ name rows = is_given name rows

-- Whether an option is among the arguments.
abbrev pub is_among : List Row → OptionValue → Bool
is_among rows o = is_among_by o.takes o.name rows

-- Whether an option may accompany the output that the arguments ask for: an explanation, the findings with or without those of steps, or a report.
abbrev pub is_accepted : List Row → OptionValue → Bool
is_accepted rows o =
    if is_set (codes "explain") rows
    then o.beside_explain
    else (if not (is_set (codes "lint") rows) then o.beside_report else (if is_set (codes "no-steps") rows then o.beside_no_steps else o.beside_lint))

-- Whether an option is among the arguments and may not accompany the output that they ask for.
abbrev pub is_excluded : List Row → OptionValue → Bool
is_excluded rows o = is_among rows o && not (is_accepted rows o)

-- Whether an option is among the arguments that may not accompany what they ask for.
abbrev pub is_clash : List Row → Bool
is_clash rows = list_any (is_excluded rows) options

-- The faults in what clap found: an option that may not accompany what the arguments ask for, or otherwise a format with an unknown name.
abbrev pub faults_found : List Row → Kinds
faults_found rows = if is_clash rows then (ArgumentConflict ∷ []) else (if is_format (format_asked rows) then [] else (InvalidValue ∷ []))

-- The faults in the arguments, including a request for help. They are those of the first step at which clap fails. If it doesn't fail, they are those in what it found.
abbrev pub faults_in : List Text → Kinds
faults_in arguments = or_else (fault_of command arguments) (faults_found (found_in arguments))

-- The values of an option, or the files, in order.
abbrev pub values_of : Text → List Row → List Text
values_of id rows = unwrap_or (all_of id rows) []

-- Proof machinery: a text that spells a line number.
abbrev pub IsLineNumber : Text → Type 0
IsLineNumber text = IsUnsignedIn 1 4294967295 text

-- The number that the text spells, in decimal digits after an optional plus.
abbrev pub line_number : Text → ℕ
line_number text = digits_value 10 (without_leading_plus text)

-- A name and a text.
pub record PairValue : Type 0 where
  pub name : Text
  pub text : Text

-- The value of a pair of strings.
abbrev pub pair_value : String Global × String Global → PairValue
pair_value pair = record { name = string_bytes pair.0; text = string_bytes pair.1 }

-- Whether a text has an `=`, which is byte 61.
abbrev pub has_equals : Text → Bool
has_equals text = has_byte 61 text

-- A text split at its first `=`.
abbrev pub split_at_equals : Text → PairValue
split_at_equals text = record { name = before_first (λ b. b == 61) text; text = after_first (λ b. b == 61) text }

-- Proof machinery: the parts of a text of `--env` or `--file`; a text without `=` has none.
abbrev pub SaysPair : Text → Option (String Global × String Global) → Type 0
SaysPair text (Some pair) = (has_equals text ≡ true) × (pair_value pair ≡ split_at_equals text)
SaysPair text None = has_equals text ≡ false

-- The first of these texts that has no `=`.
pub record IsFirstWithout (texts : List Text) (text : Text) : Type 0 where
  pub before : List Text
  pub after : List Text
  pub whole : texts ≡ before ++ text ∷ after
  pub equals : All (λ one. has_equals one ≡ true) before
  pub none : has_equals text ≡ false

-- Proof machinery: the parts of each text, in order, if each has an `=`; otherwise the first that has none.
abbrev pub SaysPairs : List Text → Result (Vec (String Global × String Global) Global) (String Global) → Type 0
SaysPairs texts (Ok pairs) = All (λ text. has_equals text ≡ true) texts × (map pair_value pairs.items ≡ map split_at_equals texts)
SaysPairs texts (Err text) = IsFirstWithout texts (string_bytes text)

-- The options are those that clap found.
pub record AreAsked (rows : List Row) (options : Options) : Type 0 where
  pub tags : map string_bytes options.tags.items ≡ values_of (codes "tags") rows
  pub lines : options.lines.items ≡ map line_number (values_of (codes "line") rows)
  pub dry_run : options.dry_run ≡ is_set (codes "dry-run") rows
  pub stop : options.stop ≡ is_set (codes "stop") rows
  pub format : format_name options.style.format ≡ format_asked rows
  pub no_skipped : options.style.no_skipped ≡ is_set (codes "no-skipped") rows

-- The arguments ask for what clap found.
pub record IsAskedBy (rows : List Row) (w : Words) : Type 0 where
  pub files : map string_bytes w.files.items ≡ values_of (codes "files") rows
  pub options : AreAsked rows w.options
  pub mode : w.mode ≡ mode_asked rows
  pub library : option_map string_bytes w.library ≡ first_of (codes "library") rows
  pub hooks : option_map string_bytes w.hooks ≡ first_of (codes "hooks") rows
  pub variables : map pair_value w.env.items ≡ map split_at_equals (values_of (codes "env") rows)
  pub equals : All (λ text. has_equals text ≡ true) (values_of (codes "env") rows)
  pub world_files : map pair_value w.world_files.items ≡ map split_at_equals (values_of (codes "file") rows)
  pub file_equals : All (λ text. has_equals text ≡ true) (values_of (codes "file") rows)

-- What the arguments ask for, from what clap found. `Env` comes if an `--env` has no `=`, with what was to be written and the first such value, and otherwise `File` if a `--file` has none.
abbrev pub SaysMatches : List Row → Result Words WordsFault → Type 0
SaysMatches rows (Ok w) = IsAskedBy rows w
SaysMatches rows (Err (Usage e)) = ⊥
SaysMatches rows (Err (Env mode value)) = (mode ≡ mode_asked rows) × IsFirstWithout (values_of (codes "env") rows) (string_bytes value)
SaysMatches rows (Err File) = All (λ text. has_equals text ≡ true) (values_of (codes "env") rows) × ((value : Text) × IsFirstWithout (values_of (codes "file") rows) value)
SaysMatches rows (Err Memory) = Unit {0}

-- Arguments without a fault give what clap finds in them: at least one file, and no line 0. `Usage` has one of their faults and comes before `Env`, and that before `File`. `Memory` can come instead of any other result.
abbrev pub SaysArguments : List Text → Result Words WordsFault → Type 0
SaysArguments arguments (Ok w) = (faults_in arguments ≡ []) × IsAskedBy (found_in arguments) w × (w.files.items ≢ []) × All (λ n. 1 ≤ n) w.options.lines.items
SaysArguments arguments (Err (Usage e)) = IsAmong (kind_of e) (faults_in arguments)
SaysArguments arguments (Err (Env mode value)) = (faults_in arguments ≡ []) × SaysMatches (found_in arguments) (Err (Env mode value))
SaysArguments arguments (Err File) = (faults_in arguments ≡ []) × SaysMatches (found_in arguments) (Err File)
SaysArguments arguments (Err Memory) = Unit {0}

-- Proof machinery: a clap argument has this rule, and excludes nothing.
pub record HasRule (rule : Rule) (a : Arg) : Type 0 where
  pub same : rule_of a ≡ rule
  pub plain : IsPlainArg a
  pub local : a.global ≡ false

-- Proof machinery: clap's command so far is this one, nothing in it excludes anything, and a subcommand lifts no requirement.
pub record IsCommand (wanted : App) (c : Command) : Type 0 where
  pub app : app_of c ≡ wanted
  pub plain : IsPlain c
  pub local : (fields_of c).has_globals ≡ false
  pub demands : (fields_of c).subcommand_negates_reqs ≡ false

-- The fault that an error of clap's becomes: Memory if clap ran out of memory, and Usage otherwise.
abbrev pub IsFaultBy : Error → WordsFault → Type 0
IsFaultBy e (Usage f) = (f ≡ e) × (kind_of e ≢ OutOfMemory)
IsFaultBy e (Env mode value) = ⊥
IsFaultBy e File = ⊥
IsFaultBy e Memory = kind_of e ≡ OutOfMemory
