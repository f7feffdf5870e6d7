-- Which texts a pattern matches, and how.
use Rattle.std.specs.Prelude.{◌≡◌, ◌<◌, ◌⊎◌, ◌&&◌, nat_lt, nat_eq, ℕ, ℤ, Bool, true, false, List, [], ◌∷◌, ◌++◌, length, drop, map, string_bytes, Vec, IsUtf8, Option, Some, None, option_map}
use Rattle.std.specs.List.{starts_with}
use Rattle.std.specs.declared.alloc.Global.{Global}
use Rattle.std.specs.Str.{is_utf8}
use Rattle.std.specs.Str.Parse.{signed_digits_value}
use Rattle.gk_steps.specs.declared.pattern.FieldKind.{FieldKind}
use Rattle.gk_steps.specs.declared.pattern.FieldKind.TheVariants.{Plain, Decimal}
use Rattle.gk_steps.specs.declared.pattern.Field.{Field}
use Rattle.gk_steps.specs.declared.pattern.Field.TheVariants as fields
use Rattle.gk_steps.specs.Decimal.{IsNumber, is_number}
use Rattle.gk_steps.specs.Pattern.{PieceValue, Literal, FieldPiece}

-- The texts that a field can take. `{name}` takes one or more characters. `{name:d}` takes an optional sign and ASCII digits with a value in i64. (behave's documentation: step parameters; the form of a number is this project's profile)
abbrev pub IsSpan : FieldKind → List ℕ → Type 0
IsSpan Plain span = IsUtf8 span × (0 < length span)
IsSpan Decimal span = IsNumber span

-- The spans of a pattern: one for each field, in the pattern's order. (behave's documentation: step parameters)
abbrev pub AreSpans : List PieceValue → List (List ℕ) → Type 0
AreSpans [] [] = Unit {0}
AreSpans [] (span ∷ spans) = ⊥
AreSpans (Literal text ∷ ps) spans = AreSpans ps spans
AreSpans (FieldPiece name kind ∷ ps) [] = ⊥
AreSpans (FieldPiece name kind ∷ ps) (span ∷ spans) = IsSpan kind span × AreSpans ps spans

-- Literals and spans, joined in the pattern's order.
abbrev pub woven : List PieceValue → List (List ℕ) → List ℕ
woven [] spans = []
woven (Literal text ∷ ps) spans = text ++ woven ps spans
woven (FieldPiece name kind ∷ ps) [] = []
woven (FieldPiece name kind ∷ ps) (span ∷ spans) = span ++ woven ps spans

-- A match: literals and spans concatenate to the whole text. (behave's documentation: step parameters)
pub record Matches (ps : List PieceValue) (text : List ℕ) (spans : List (List ℕ)) : Type 0 where
  pub spans_fit : AreSpans ps spans
  pub whole : text ≡ woven ps spans

-- A pattern doesn't match a text.
abbrev pub MatchesNot : List PieceValue → List ℕ → Type 0
MatchesNot ps text = (spans : List (List ℕ)) → Matches ps text spans → ⊥

-- The preferred of two spans of a field: the shorter one for `{name}`, the longer one for `{name:d}`.
abbrev pub IsPreferredSpan : FieldKind → List ℕ → List ℕ → Type 0
IsPreferredSpan Plain a b = length a < length b
IsPreferredSpan Decimal a b = length b < length a

-- The preferred of two matches: the one with the preferred span at the first field whose spans differ in length.
abbrev pub IsPreferred : List PieceValue → List (List ℕ) → List (List ℕ) → Type 0
IsPreferred (Literal text ∷ ps) xs ys = IsPreferred ps xs ys
IsPreferred (FieldPiece name kind ∷ ps) (x ∷ xs) (y ∷ ys) = IsPreferredSpan kind x y ⊎ ((length x ≡ length y) × IsPreferred ps xs ys)
IsPreferred _ xs ys = ⊥

-- The preferred match: it is preferred to every other match.
pub record IsBestMatch (ps : List PieceValue) (text : List ℕ) (spans : List (List ℕ)) : Type 0 where
  pub matches : Matches ps text spans
  pub best : (others : List (List ℕ)) → Matches ps text others → (others ≡ spans) ⊎ IsPreferred ps spans others

-- The value of a field: a text or a number. (behave's documentation: step parameters)
pub data FieldValue : Type 0 where
  TextField : List ℕ → FieldValue
  NumberField : ℤ → FieldValue

-- The value of a `Field`.
abbrev pub field_value : Field → FieldValue
field_value (fields.Text text) = TextField (string_bytes text)
field_value (fields.Number n) = NumberField n

-- The values of fields, if there are any.
abbrev pub field_values : Option (Vec Field Global) → Option (List FieldValue)
field_values found = option_map (λ (fields : Vec Field Global). map field_value fields.items) found

-- The value of a field's span.
abbrev pub span_value : FieldKind → List ℕ → FieldValue
span_value Plain span = TextField span
span_value Decimal span = NumberField (signed_digits_value 10 span)

-- The values of a pattern's spans, in the pattern's order.
abbrev pub span_values : List PieceValue → List (List ℕ) → List FieldValue
span_values (Literal text ∷ ps) spans = span_values ps spans
span_values (FieldPiece name kind ∷ ps) (span ∷ spans) = span_value kind span ∷ span_values ps spans
span_values _ spans = []

-- What a pattern finds in a text: the fields of the preferred match, or nothing if there is no match. (behave's documentation: step parameters)
abbrev pub IsMatchResult : List PieceValue → List ℕ → Option (List FieldValue) → Type 0
IsMatchResult ps text None = MatchesNot ps text
IsMatchResult ps text (Some found) = (spans : List (List ℕ)) × IsBestMatch ps text spans × (found ≡ span_values ps spans)

-- Whether a field can take a span. (behave's documentation: step parameters)
abbrev pub is_span : FieldKind → List ℕ → Bool
is_span Plain span = is_utf8 span && nat_lt 0 (length span)
is_span Decimal span = is_number span

-- The spans of the rest of a pattern in the rest of a text, if the test before them holds.
abbrev pub rest_where : Bool → (List ℕ → Option (List (List ℕ))) → List ℕ → Option (List (List ℕ))
rest_where true rest_match rest = rest_match rest
rest_where false rest_match rest = None

-- The spans of a field that takes this span, and of the rest of its pattern. None if the field can't take it, or if the rest doesn't match.
abbrev pub spans_with : (List ℕ → Option (List (List ℕ))) → FieldKind → List ℕ → List ℕ → Option (List (List ℕ))
spans_with rest_match kind span rest = option_map (λ spans. span ∷ spans) (rest_where (is_span kind span) rest_match rest)

-- The spans of a field and of the rest of its pattern. The field takes the shortest span that is longer than what is taken already and after which the rest matches.
abbrev pub shortest_match : (List ℕ → Option (List (List ℕ))) → FieldKind → List ℕ → List ℕ → Option (List (List ℕ))
shortest_match rest_match kind taken [] = None
shortest_match rest_match kind taken (b ∷ rest) = elim (spans_with rest_match kind (taken ++ b ∷ []) rest) [ Some spans ↦ Some spans | None ↦ shortest_match rest_match kind (taken ++ b ∷ []) rest ]

-- The spans of a field and of the rest of its pattern. The field takes the longest such span.
abbrev pub longest_match : (List ℕ → Option (List (List ℕ))) → FieldKind → List ℕ → List ℕ → Option (List (List ℕ))
longest_match rest_match kind taken [] = None
longest_match rest_match kind taken (b ∷ rest) = elim (longest_match rest_match kind (taken ++ b ∷ []) rest) [ Some spans ↦ Some spans | None ↦ spans_with rest_match kind (taken ++ b ∷ []) rest ]

-- The match that a field prefers.
abbrev pub field_match : FieldKind → (List ℕ → Option (List (List ℕ))) → List ℕ → Option (List (List ℕ))
field_match Plain rest_match text = shortest_match rest_match Plain [] text
field_match Decimal rest_match text = longest_match rest_match Decimal [] text

-- The spans of the preferred match, computed.
abbrev pub best_match : List PieceValue → List ℕ → Option (List (List ℕ))
best_match [] [] = Some []
best_match [] (b ∷ text) = None
best_match (Literal literal ∷ ps) text = rest_where (starts_with nat_eq text literal) (best_match ps) (drop (length literal) text)
best_match (FieldPiece name kind ∷ ps) text = field_match kind (best_match ps) text

-- What a pattern finds in a text, computed: the fields of the preferred match.
unfoldable pub match_of : List PieceValue → List ℕ → Option (List FieldValue)
match_of ps text = option_map (span_values ps) (best_match ps text)

-- What patterns match is determined: there is at most one preferred match and one result, and the computed result is it.
pub record MatchesAreDetermined : Type 0 where
  pub one_match : (ps : List PieceValue) (text : List ℕ) (a b : List (List ℕ)) → IsBestMatch ps text a → IsBestMatch ps text b → a ≡ b
  pub one_result : (ps : List PieceValue) (text : List ℕ) (a b : Option (List FieldValue)) → IsMatchResult ps text a → IsMatchResult ps text b → a ≡ b
  pub computed : (ps : List PieceValue) (text : List ℕ) → IsMatchResult ps text (match_of ps text)
