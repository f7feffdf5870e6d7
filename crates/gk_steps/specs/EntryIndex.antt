-- How an index lists the entries of a library by the literals of their patterns, and which entries it passes over.
use Rattle.std.specs.Prelude.{◌≡◌, ◌⊎◌, ◌+◌, ◌*◌, ◌/◌, ◌%◌, ◌^◌, ◌<◌, ◌≤◌, nat_lt, ℕ, IsTrue, List, [], ◌∷◌, length, take, drop, slice_get, Option, Some, None, if◌then◌else◌}
use Rattle.std.specs.Int.{w32, from_le_bytes}
use Rattle.gk_steps.specs.declared.library.Entry.{Entry}
use Rattle.gk_steps.specs.declared.entry_index.Index.{Index}
use Rattle.gk_steps.specs.declared.entry_index.Ends.{Ends}
use Rattle.gk_steps.specs.KeyedNumbers.{IsUnder, NoneIsLess}
use Rattle.gk_steps.specs.Pattern.{PieceValue, Literal, FieldPiece, pattern_value}
use Rattle.gk_steps.specs.Matching.{MatchesNot}

-- The bytes of a literal; empty for a field.
abbrev pub literal_of : PieceValue → List ℕ
literal_of (Literal text) = text
literal_of (FieldPiece name kind) = []

-- The literal that a pattern begins with; empty if it begins with a field.
abbrev pub first_literal : List PieceValue → List ℕ
first_literal [] = []
first_literal (p ∷ ps) = literal_of p

-- The literal that a pattern ends with; empty if it ends with a field.
abbrev pub last_literal : List PieceValue → List ℕ
last_literal [] = []
last_literal (p ∷ []) = literal_of p
last_literal (p ∷ q ∷ ps) = last_literal (q ∷ ps)

-- The last of some bytes; 0 if there is none.
abbrev pub last_byte : List ℕ → ℕ
last_byte [] = 0
last_byte (b ∷ []) = b
last_byte (b ∷ c ∷ bs) = last_byte (c ∷ bs)

-- The window of some bytes at a position: four bytes as one number.
abbrev pub window_at : List ℕ → ℕ → ℕ
window_at bytes start = from_le_bytes w32 (take 4 (drop start bytes))

-- The key of the ends of a text that begins with some bytes and ends with one: the first four bytes, the three after them and the last one as one number.
abbrev pub ends_key : List ℕ → ℕ → ℕ
ends_key bytes last = window_at bytes 0 + (window_at bytes 3 / 2 ^ 8) * 2 ^ 32 + last * 2 ^ 56

-- The keys of a text's ends for patterns that end with a literal and for those that end with a field, where 0 is in place of the last byte; none if the text is too short.
abbrev pub ends_of : List ℕ → Option Ends
ends_of text = if nat_lt (length text) 7 then None else Some (record { by_literal = ends_key text (last_byte text); by_field = ends_key text 0 })

-- A key extended by some bytes.
abbrev pub key_over : ℕ → List ℕ → ℕ
key_over key [] = key
key_over key (b ∷ bs) = key_over ((key * 11400714819323198485 % 2 ^ 64 + b) % 2 ^ 64) bs

-- A pattern has a literal that is long enough for a window.
pub record HasLongLiteral (literal : List ℕ) (ps : List PieceValue) : Type 0 where
  pub place : ℕ
  pub piece : PieceValue
  pub there : slice_get ps place ≡ Some piece
  pub same : literal ≡ literal_of piece
  pub long : 4 ≤ length literal

-- A key is that of a pattern's ends. The pattern begins with a literal that is long enough.
pub record IsEndsKey (key : ℕ) (ps : List PieceValue) : Type 0 where
  pub long : 7 ≤ length (first_literal ps)
  pub key_is : key ≡ ends_key (first_literal ps) (last_byte (last_literal ps))

-- A key is that of a pattern that is one literal.
abbrev pub IsWholeKey : ℕ → List PieceValue → Type 0
IsWholeKey key ps = (literal : List ℕ) × (ps ≡ Literal literal ∷ []) × (key ≡ key_over 0 literal)

-- A key is that of a literal of a pattern, whose length the index has under the literal's window.
pub record IsLiteralKey (index : Index) (key : ℕ) (ps : List PieceValue) : Type 0 where
  pub literal : List ℕ
  pub has : HasLongLiteral literal ps
  pub key_is : key ≡ key_over 0 literal
  pub length_is : IsUnder index.lengths.buckets.items (window_at literal 0) (length literal)

-- A key under which an index may list a pattern. The key of a whole or a literal is one only if the index looks inside.
abbrev pub IsKeyOf : Index → ℕ → List PieceValue → Type 0
IsKeyOf index key ps = (key ≡ 0) ⊎ (IsEndsKey key ps ⊎ (IsTrue index.looks_inside × (IsWholeKey key ps ⊎ IsLiteralKey index key ps)))

-- An index lists a pattern at a position, under one of its keys.
abbrev pub Lists : Index → ℕ → List PieceValue → Type 0
Lists index position ps = (key : ℕ) × IsKeyOf index key ps × IsUnder index.positions.buckets.items key position

-- Lengths may be added to an index, and nothing else changes, except that it may look inside from now on.
pub record GrowsLengths (old new : Index) : Type 0 where
  pub kept : (k n : ℕ) → IsUnder old.lengths.buckets.items k n → IsUnder new.lengths.buckets.items k n
  pub count : length new.lengths.buckets.items ≡ length old.lengths.buckets.items
  pub inside : IsTrue old.looks_inside → IsTrue new.looks_inside
  pub positions : new.positions ≡ old.positions
  pub listed : new.listed ≡ old.listed

-- An index lists each of these entries whose position is below the number of entries that it lists. The statement is doubly negated, so that it is a fact that a type can keep.
abbrev pub AreListed : Index → List Entry → Type 0
AreListed index entries = (position : ℕ) (entry : Entry) → position < index.listed → slice_get entries position ≡ Some entry → (Lists index position (pattern_value entry.pattern) → ⊥) → ⊥

-- An index lists the first of these entries, and knows how many.
pub record IsIndexOf (index : Index) (entries : List Entry) : Type 0 where
  pub within : index.listed ≤ length entries
  pub listed : AreListed index entries

-- No position from `from` on that is listed under a key is less.
abbrev pub IsLeast : Index → ℕ → ℕ → ℕ → Type 0
IsLeast index key from least = NoneIsLess index.positions.buckets.items key from least

-- No position from `from` on that is listed under 0 or a text's ends is less.
pub record SkipsByEnds (index : Index) (from most : ℕ) (ends : Option Ends) (result : ℕ) : Type 0 where
  pub low : from ≤ most → from ≤ result
  pub high : result ≤ most
  pub other : IsLeast index 0 from result
  pub by_literal : (e : Ends) → ends ≡ Some e → IsLeast index e.by_literal from result
  pub by_field : (e : Ends) → ends ≡ Some e → IsLeast index e.by_field from result

-- No position from `from` on that is listed under a literal at this place is less.
abbrev pub NoneIsLessAt : Index → ℕ → ℕ → List ℕ → ℕ → Type 0
NoneIsLessAt index start from bytes least = (size : ℕ) → IsUnder index.lengths.buckets.items (window_at bytes start) size → start + size ≤ length bytes → IsLeast index (key_over 0 (take size (drop start bytes))) from least

-- The least position from `from` on that is listed under a literal at this place, or `most` if none is less.
pub record SkipsAt (index : Index) (start from most : ℕ) (bytes : List ℕ) (result : ℕ) : Type 0 where
  pub low : from ≤ most → from ≤ result
  pub high : result ≤ most
  pub least : NoneIsLessAt index start from bytes result

-- No position from `from` on that is listed under a text's whole or one of its literals is less.
pub record SkipsInside (index : Index) (from most : ℕ) (text : List ℕ) (result : ℕ) : Type 0 where
  pub low : from ≤ most → from ≤ result
  pub high : result ≤ most
  pub whole : IsLeast index (key_over 0 text) from result
  pub literals : (start : ℕ) → start + 4 ≤ length text → NoneIsLessAt index start from text result

-- No listed pattern matches at a position between two.
pub record Skips (index : Index) (from most : ℕ) (text : List ℕ) (result : ℕ) : Type 0 where
  pub low : from ≤ most → from ≤ result
  pub high : result ≤ most
  pub skipped : (position : ℕ) (ps : List PieceValue) → Lists index position ps → from ≤ position → position < result → MatchesNot ps text

-- No entry matches at a position between two.
pub record SkipsEntries (entries : List Entry) (from : ℕ) (text : List ℕ) (result : ℕ) : Type 0 where
  pub low : from ≤ length entries → from ≤ result
  pub skipped : (position : ℕ) (entry : Entry) → slice_get entries position ≡ Some entry → from ≤ position → position < result → MatchesNot (pattern_value entry.pattern) text
