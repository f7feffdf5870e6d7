-- Worked examples of the definitions.
use Rattle.std.specs.Prelude.{codes, ◌≡◌, ℕ, pos, neg_ℤ, true, false, List, [], ◌∷◌, map, flat_map, Some, None, refl}
use Rattle.std.specs.Str.{chars, is_utf8}
use lib.Utf8
use Rattle.std.proofs.Common.{arith, inl}
use Rattle.gk_gherkin.specs.Lines.{LineValue, line_at}
use Rattle.gk_gherkin.specs.declared.feature.StepType.TheVariants.{Given, Then}
use Rattle.gk_steps.specs.declared.action.Action.TheVariants as actions
use Rattle.gk_steps.specs.declared.pattern.FieldKind.{FieldKind}
use Rattle.gk_steps.specs.declared.pattern.FieldKind.TheVariants.{Plain, Decimal}
use Rattle.gk_steps.specs.Pattern.{PieceValue, Literal, FieldPiece, spelled_piece, is_field_name, SpellsPattern}
use Rattle.gk_steps.specs.Matching.{IsPreferred, TextField, NumberField, match_of}
use Rattle.gk_steps.specs.Action.{ActionRowValue, action_row, row_of}
use Rattle.gk_steps.specs.Finding.{LibraryValue, found, found_at, action_of, text_field, number_field}
use Rattle.gk_steps.specs.LibraryFile.{type_of, sides_of, last_arrow, HasNeededFields, HasRightKinds}
use Rattle.gk_steps.specs.DefaultFile.{any_entry}

abbrev line : List ℕ → LineValue
line text = line_at 1 text

-- Spelling.
braces : flat_map spelled_piece (Literal (codes "{") ∷ FieldPiece (codes "a") Plain ∷ Literal (codes "}") ∷ []) ≡ codes "{{{a}}}"
braces = refl

names : map is_field_name (codes "_a1" ∷ codes "1a" ∷ [] ∷ codes "a b" ∷ []) ≡ true ∷ false ∷ false ∷ false ∷ []
names = refl

spelled : SpellsPattern (codes "{{{a}}}") (Literal (codes "{") ∷ FieldPiece (codes "a") Plain ∷ Literal (codes "}") ∷ [])
spelled = record { spelled = refl; names = search; distinct = search; runs = (omega arith, (omega arith, tt)); some = omega arith }

-- Matching.
abbrev two_fields : List PieceValue
two_fields = FieldPiece (codes "a") Plain ∷ Literal (codes " and ") ∷ FieldPiece (codes "b") Plain ∷ []

abbrev two_numbers : List PieceValue
two_numbers = FieldPiece (codes "n") Decimal ∷ FieldPiece (codes "m") Decimal ∷ []

abbrev one_number : List PieceValue
one_number = FieldPiece (codes "n") Decimal ∷ []

shortest_first : match_of two_fields (codes "x and y and z") ≡ Some (TextField (codes "x") ∷ TextField (codes "y and z") ∷ [])
unfolding match_of is_utf8 chars lib.Utf8.encode
shortest_first = refl

short_preferred : IsPreferred two_fields (codes "x" ∷ codes "y and z" ∷ []) (codes "x and y" ∷ codes "z" ∷ [])
short_preferred = inl (omega arith)

longest_first : match_of two_numbers (codes "123") ≡ Some (NumberField (pos 12) ∷ NumberField (pos 3) ∷ [])
unfolding match_of
longest_first = refl

largest : match_of one_number (codes "9223372036854775807") ≡ Some (NumberField (pos 9223372036854775807) ∷ [])
unfolding match_of
largest = refl

smallest : match_of one_number (codes "-9223372036854775808") ≡ Some (NumberField (neg_ℤ (pos 9223372036854775808)) ∷ [])
unfolding match_of
smallest = refl

too_large : match_of one_number (codes "9223372036854775808") ≡ None
unfolding match_of
too_large = refl

in_braces : match_of (Literal (codes "{") ∷ FieldPiece (codes "a") Plain ∷ Literal (codes "}") ∷ []) (codes "{x}") ≡ Some (TextField (codes "x") ∷ [])
unfolding match_of is_utf8 chars lib.Utf8.encode
in_braces = refl

-- Finding.
abbrev small_library : LibraryValue
small_library =
    any_entry 1 (Literal (codes "number ") ∷ FieldPiece (codes "name") Plain ∷ Literal (codes " grows by ") ∷ FieldPiece (codes "n") Decimal ∷ []) actions.AddNumber
    ∷ any_entry 2 (Literal (codes "it passes") ∷ []) actions.Pass
    ∷ []

number_found : found small_library Given (codes "number a grows by -5") ≡ Some (found_at 0 (TextField (codes "a") ∷ NumberField (neg_ℤ (pos 5)) ∷ []))
unfolding found match_of is_utf8 chars lib.Utf8.encode
number_found = refl

pass_found : found small_library Then (codes "it passes") ≡ Some (found_at 1 [])
unfolding found match_of is_utf8 chars lib.Utf8.encode
pass_found = refl

nothing_found : found small_library Then (codes "it dances") ≡ None
unfolding found match_of is_utf8 chars lib.Utf8.encode
nothing_found = refl

number_of_it : number_field small_library (found_at 0 (TextField (codes "a") ∷ NumberField (pos 5) ∷ [])) (codes "n") ≡ Some (pos 5)
number_of_it = refl

text_of_it : text_field small_library (found_at 0 (TextField (codes "a") ∷ NumberField (pos 5) ∷ [])) (codes "name") ≡ Some (codes "a")
text_of_it = refl

action_of_it : action_of small_library (found_at 0 (TextField (codes "a") ∷ NumberField (pos 5) ∷ [])) ≡ actions.AddNumber
action_of_it = refl

-- Lines of a library.
type_alone : (type_of (line (codes "step")) ≡ Some None) × (sides_of (line (codes "step")) ≡ None)
unfolding type_of sides_of last_arrow
type_alone = (refl, refl)

without_blank : type_of (line (codes "step=>pass")) ≡ None
unfolding type_of
without_blank = refl

without_pattern : sides_of (line (codes "step => pass")) ≡ Some (record { pattern = []; action = codes "pass" })
unfolding sides_of last_arrow
without_pattern = refl

without_action : sides_of (line (codes "step a =>")) ≡ Some (record { pattern = codes "a"; action = [] })
unfolding sides_of last_arrow
without_action = refl

last_of_two : sides_of (line (codes " given  a => b  =>  pass ")) ≡ Some (record { pattern = codes "a => b"; action = codes "pass" })
unfolding sides_of last_arrow
last_of_two = refl

given_type : type_of (line (codes " given  a => b  =>  pass ")) ≡ Some (Some Given)
unfolding type_of
given_type = refl

unknown : (action_row (codes "dance") ≡ None) × (action_row [] ≡ None)
unfolding action_row
unknown = (refl, refl)

-- Rows of the table of actions.
abbrev cleanup_row : ActionRowValue
cleanup_row = row_of actions.AtCleanup

cleanup_named : action_row (codes "at_cleanup") ≡ Some cleanup_row
unfolding action_row
cleanup_named = refl

skip_named : action_row (codes "skip_scenario") ≡ Some (row_of actions.SkipScenario)
unfolding action_row
skip_named = refl

without_step : HasNeededFields cleanup_row (Literal (codes "later ") ∷ FieldPiece (codes "text") Plain ∷ []) → ⊥
without_step needs = let missing : false ≡ true = needs.0 in let bad : ⊥ = cc in bad

step_as_number : HasRightKinds cleanup_row (Literal (codes "later ") ∷ FieldPiece (codes "step") Decimal ∷ []) → ⊥
step_as_number kinds = let same : ◌≡◌ {A = FieldKind} Decimal Plain = kinds.0 Decimal refl in let bad : ⊥ = cc in bad
