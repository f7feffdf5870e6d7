-- The entry of a library that the author of an undefined step may have meant.
use Rattle.std.specs.Prelude.{ℕ, List, [], ◌++◌, flat_map, codes, Option, Some, None}
use Rattle.gk_gherkin.specs.declared.feature.StepType.{StepType}
use Rattle.gk_gherkin.specs.declared.feature.StepType.TheVariants as types
use Rattle.gk_lint.specs.Findings.{HintValue, OtherType, Nearest}
use Rattle.gk_lint.specs.EntryHints.{entry_hint}
use Rattle.gk_steps.specs.declared.pattern.FieldKind.{FieldKind}
use Rattle.gk_steps.specs.declared.pattern.FieldKind.TheVariants.{Plain, Decimal}
use Rattle.gk_steps.specs.Pattern.{PieceValue, Literal, FieldPiece}
use Rattle.gk_steps.specs.Finding.{EntryValue, LibraryValue}
use Rattle.gk_report.specs.ReportTexts.{line_feed}
use Rattle.gk_explain.specs.Shown.{literal_shown}

-- The word for the steps that an entry is for. (behave's documentation: step implementations)
abbrev pub type_word : Option StepType → List ℕ
type_word None = codes "step"
type_word (Some types.Given) = codes "given"
type_word (Some types.When) = codes "when"
type_word (Some types.Then) = codes "then"

-- A field as it is written in a pattern.
abbrev pub field_shown : List ℕ → FieldKind → List ℕ
field_shown name Plain = codes "{" ++ (name ++ codes "}")
field_shown name Decimal = codes "{" ++ (name ++ codes ":d}")

-- A piece of a pattern: a literal or a field.
abbrev pub piece_shown : PieceValue → List ℕ
piece_shown (Literal text) = literal_shown text
piece_shown (FieldPiece name kind) = field_shown name kind

-- A pattern as it is shown, piece by piece.
abbrev pub pattern_shown : List PieceValue → List ℕ
pattern_shown ps = flat_map piece_shown ps

-- An entry as it is shown: the steps that it is for, and its pattern.
abbrev pub entry_shown : EntryValue → List ℕ
entry_shown e = type_word e.step_type ++ (codes " " ++ pattern_shown e.pattern)

-- The words before the nearest entry.
unfoldable pub before_nearest : List ℕ
before_nearest = codes "      the nearest entry is: "

-- The line that names the nearest entry.
abbrev pub nearest_line : EntryValue → List ℕ
nearest_line e = before_nearest ++ (entry_shown e ++ line_feed)

-- The line that names an entry for steps of another type.
unfoldable pub other_type_line : EntryValue → List ℕ
other_type_line e = codes "      an entry of another type matches: " ++ (entry_shown e ++ codes "; step would match every keyword\n")

-- The line for a hint, if it names an entry.
abbrev pub hint_text : HintValue → List ℕ
hint_text (Nearest e) = nearest_line e
hint_text (OtherType e) = other_type_line e
hint_text hint = []

-- The line that names the entry that the author of an undefined step with this text may have meant: one for steps of another type that matches, and otherwise the nearest, as `--lint` finds it.
abbrev pub nearest_text : LibraryValue → List ℕ → List ℕ
nearest_text library text = hint_text (entry_hint library text)
