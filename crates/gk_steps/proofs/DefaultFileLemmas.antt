-- The default library is what its text says.
use Rattle.gk_steps.proofs.Common.{◌≡◌, ℕ, zero, suc, ◌<◌, ◌≤◌, Bool, true, false, not, nat_lt, ◌&&◌, List, [], ◌∷◌, ◌++◌, length, map, option_map, flat_map, IsTrue, Option, Some, None, refl, arith, lit≤, common_steps, ⊤, is_some, filter, AllByRecursion, list_all, bytes_eq, chars, is_utf8, nat_tests, bytes_eq-Decides, StepType, LineValue, Lines, limit, lines_of, Action, PieceValue, Literal, FieldPiece, spelled_piece, is_field_name, field_names, field_kind, AreLongestRuns, SpellsPattern, MatchesNot, best_match, ActionRowValue, action_row, kind_of_field, EntryValue, LibraryValue, is_of_type, Sides, is_ignored, type_of, sides_of, last_arrow, NoneFound, SpellsEntry, SpellEntries, ReadsLibrary, is_none_or_kind, is_pattern, default_text, default_entries}
use lib.Utf8
use Rattle.gk_steps.proofs.BestMatchLemmas.{best_match_is}
use Rattle.gk_steps.proofs.SpellingLemmas.{spells}
use Rattle.gk_steps.proofs.LibraryStagesLemmas.{some_same}
use Rattle.gk_steps.proofs.LibraryLineLemmas.{needed_so, kinds_so}

and_so : (a b : Bool) → (a && b) ≡ true → (a ≡ true) × (b ≡ true)
and_so true b e = (refl, e)
and_so false b e = let bad : ⊥ = cc in absurd bad

-- tests
names_so : (names : List (List ℕ)) → list_all is_field_name names ≡ true → AllByRecursion (λ name. IsTrue (is_field_name name)) names
names_so [] e = tt
names_so (n ∷ ns) e = let parts = and_so (is_field_name n) (list_all is_field_name ns) e in (parts.0, names_so ns parts.1)

unfoldable pub runs_ok : List PieceValue → Bool
runs_ok [] = true
runs_ok (Literal text ∷ Literal other ∷ ps) = false
runs_ok (Literal text ∷ ps) = nat_lt 0 (length text) && runs_ok ps
runs_ok (FieldPiece name kind ∷ ps) = runs_ok ps

less_so : (a b : ℕ) → nat_lt a b ≡ true → a < b
less_so a b e = grind (arith, nat_tests)

runs_so : (ps : List PieceValue) → runs_ok ps ≡ true → AreLongestRuns ps
unfolding runs_ok
runs_so [] e = tt
runs_so (Literal text ∷ []) e = (less_so 0 (length text) (and_so (nat_lt 0 (length text)) true e).0, tt)
runs_so (Literal text ∷ Literal other ∷ ps) e = let bad : ⊥ = cc in absurd bad
runs_so (Literal text ∷ FieldPiece name kind ∷ ps) e = let parts = and_so (nat_lt 0 (length text)) (runs_ok (FieldPiece name kind ∷ ps)) e in (less_so 0 (length text) parts.0, runs_so (FieldPiece name kind ∷ ps) parts.1)
runs_so (FieldPiece name kind ∷ ps) e = runs_so ps e

unfoldable pub spells_ok : List ℕ → List PieceValue → Bool
spells_ok text ps = bytes_eq text (flat_map spelled_piece ps) && (list_all is_field_name (field_names ps) && (runs_ok ps && is_pattern ps))

spells_so : (text : List ℕ) (ps : List PieceValue) → spells_ok text ps ≡ true → SpellsPattern text ps
unfolding spells_ok
spells_so text ps e = grind (arith, common_steps, and_so, flat_map, bytes_eq-Decides, names_so, runs_so, spells)

unfoldable pub passes : Option StepType → List ℕ → EntryValue → Bool
passes step_type text e = not (is_of_type e.step_type step_type && is_some (best_match e.pattern text))

passes_so : (step_type : Option StepType) (text : List ℕ) (e : EntryValue) → passes step_type text e ≡ true → e.step_type ≡ step_type → MatchesNot e.pattern text
unfolding passes
passes_so step_type text e is same = grind (arith, common_steps, best_match_is)

none_so : (earlier : LibraryValue) (step_type : Option StepType) (text : List ℕ) → list_all (passes step_type text) earlier ≡ true → NoneFound earlier step_type text
none_so [] step_type text e position entry is = let bad : ⊥ = cc in absurd bad
none_so (x ∷ xs) step_type text e zero entry is = grind (arith, common_steps, and_so, passes_so)
none_so (x ∷ xs) step_type text e (suc position) entry is = none_so xs step_type text (and_so (passes step_type text x) (list_all (passes step_type text) xs) e).1 position entry is

-- a line that is good
good : (earlier : LibraryValue) (line : LineValue) (e : EntryValue) (sides : Sides) (row : ActionRowValue) → e.line ≡ line.line → type_of line ≡ Some e.step_type → sides_of line ≡ Some sides → action_row sides.action ≡ Some row → e.action ≡ row.action
    → spells_ok sides.pattern e.pattern ≡ true → list_all (λ name. is_some (field_kind e.pattern name)) row.needs ≡ true → list_all (λ name. is_none_or_kind (field_kind e.pattern name) (kind_of_field name)) row.uses ≡ true
    → list_all (passes e.step_type sides.pattern) earlier ≡ true → SpellsEntry earlier line e
good earlier line e sides row is_line is_type is_cut is_action action spelled needs kinds none = grind (arith, common_steps, spells_so, needed_so, kinds_so, none_so)

-- lines that are good, each after the entries of those before
unfoldable pub option_action : Option Sides → Option Action
option_action None = None
option_action (Some sides) = option_map (λ (row : ActionRowValue). row.action) (action_row sides.action)

unfoldable pub row_ok : LibraryValue → EntryValue → Sides → Option ActionRowValue → Bool
row_ok earlier e sides None = false
row_ok earlier e sides (Some row) =
    spells_ok sides.pattern e.pattern
    && (list_all (λ name. is_some (field_kind e.pattern name)) row.needs
    && (list_all (λ name. is_none_or_kind (field_kind e.pattern name) (kind_of_field name)) row.uses && list_all (passes e.step_type sides.pattern) earlier))

unfoldable pub sides_ok : LibraryValue → EntryValue → Option Sides → Bool
sides_ok earlier e None = false
sides_ok earlier e (Some sides) = row_ok earlier e sides (action_row sides.action)

unfoldable pub all_ok : LibraryValue → Lines → LibraryValue → Bool
all_ok earlier [] [] = true
all_ok earlier (line ∷ ls) (e ∷ es) = sides_ok earlier e (sides_of line) && all_ok (earlier ++ e ∷ []) ls es
all_ok earlier _ _ = false

row_so : (earlier : LibraryValue) (line : LineValue) (e : EntryValue) (sides : Sides) (row : Option ActionRowValue) → action_row sides.action ≡ row → e.line ≡ line.line → type_of line ≡ Some e.step_type → sides_of line ≡ Some sides → option_map (λ (r : ActionRowValue). r.action) row ≡ Some e.action → row_ok earlier e sides row ≡ true
    → SpellsEntry earlier line e
unfolding row_ok
row_so earlier line e sides None is at typed cut action ok = let bad : ⊥ = cc in absurd bad
row_so earlier line e sides (Some row) is at typed cut action ok = grind (arith, common_steps, and_so, some_same, good)

sides_so : (earlier : LibraryValue) (line : LineValue) (e : EntryValue) (sides : Option Sides) → sides_of line ≡ sides → e.line ≡ line.line → type_of line ≡ Some e.step_type → option_action sides ≡ Some e.action → sides_ok earlier e sides ≡ true → SpellsEntry earlier line e
unfolding option_action sides_ok
sides_so earlier line e None cut at typed action ok = let bad : ⊥ = cc in absurd bad
sides_so earlier line e (Some sides) cut at typed action ok = row_so earlier line e sides (action_row sides.action) refl at typed cut action ok

same_first : {A : Type 0} (x y : A) (xs ys : List A) → x ∷ xs ≡ y ∷ ys → x ≡ y
same_first x y xs ys e = cc

same_rest : {A : Type 0} (x y : A) (xs ys : List A) → x ∷ xs ≡ y ∷ ys → xs ≡ ys
same_rest x y xs ys e = cc

all_so : (earlier : LibraryValue) (ls : Lines) (es : LibraryValue) → map (λ (e : EntryValue). e.line) es ≡ map (λ (line : LineValue). line.line) ls → map type_of ls ≡ map (λ (e : EntryValue). Some e.step_type) es → map (λ line. option_action (sides_of line)) ls ≡ map (λ (e : EntryValue). Some e.action) es → all_ok earlier ls es ≡ true → SpellEntries earlier ls es
unfolding all_ok
all_so earlier [] [] numbers types actions ok = tt
all_so earlier [] (e ∷ es) numbers types actions ok = let bad : ⊥ = cc in absurd bad
all_so earlier (line ∷ ls) [] numbers types actions ok = let bad : ⊥ = cc in absurd bad
all_so earlier (line ∷ ls) (e ∷ es) numbers types actions ok =
    let parts = and_so (sides_ok earlier e (sides_of line)) (all_ok (earlier ++ e ∷ []) ls es) ok in (
      sides_so earlier line e (sides_of line) refl (same_first _ _ _ _ numbers) (same_first _ _ _ _ types) (same_first _ _ _ _ actions) parts.0,
      all_so (earlier ++ e ∷ []) ls es (same_rest _ _ _ _ numbers) (same_rest _ _ _ _ types) (same_rest _ _ _ _ actions) parts.1,
    )

-- the lines of a text that are not ignored
unfoldable pub lines_left : List ℕ → Lines
lines_left text = filter (λ line. not (is_ignored line)) (lines_of text)

-- a text whose lines spell entries, by computation: their numbers, their types, their actions, and what else makes them good
pub reads_so : (text : List ℕ) (es : LibraryValue) → map (λ (e : EntryValue). e.line) es ≡ map (λ (line : LineValue). line.line) (lines_left text) → map type_of (lines_left text) ≡ map (λ (e : EntryValue). Some e.step_type) es
    → map (λ line. option_action (sides_of line)) (lines_left text) ≡ map (λ (e : EntryValue). Some e.action) es → all_ok [] (lines_left text) es ≡ true → ReadsLibrary (lines_of text) es
unfolding lines_left
reads_so text es numbers types actions ok = all_so [] (lines_left text) es numbers types actions ok

-- what a proof unfolds to compute that a text reads so
unfoldable pub library_on_literals : ⊤
unfolding lines_left type_of option_action sides_of last_arrow action_row all_ok sides_ok row_ok spells_ok runs_ok passes is_utf8 chars lib.Utf8.encode
library_on_literals = tt

pub default_reads : ReadsLibrary (lines_of default_text) default_entries
unfolding library_on_literals default_text
default_reads = reads_so default_text default_entries refl refl refl refl

pub default_short : length default_text ≤ limit
unfolding default_text
default_short = lit≤ tt
