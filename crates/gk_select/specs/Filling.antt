-- Texts and steps, filled from a row of Examples.
use Rattle.std.specs.Prelude.{codes, not, ◌≡◌, ℕ, zero, suc, ◌+◌, Bool, true, ◌==◌, ◌&&◌, nat_eq, List, [], ◌∷◌, ◌++◌, length, map, find, flat_map, Contains, Option, Some, None, unwrap_or, if◌then◌else◌}
use Rattle.std.specs.List.{list_all, starts_with}
use Rattle.std.specs.Str.{bytes_eq}
use Rattle.gk_gherkin.specs.Feature.{BlockValue, Empty, Text, Table, StepValue}

-- A header's placeholder: `<`, the header, `>`. (Cucumber's Gherkin reference: scenario outline)
abbrev pub placeholder : List ℕ → List ℕ
placeholder header = codes "<" ++ header ++ codes ">"

-- Whether a header has no `>`, so that its placeholder is looked up in texts.
abbrev pub can_stand : List ℕ → Bool
can_stand header = list_all (λ b. not (b == 62)) header

-- The header whose placeholder begins a text. There is at most one, because no header that counts has a `>`.
abbrev pub header_at : List (List ℕ) → List ℕ → Option (List ℕ)
header_at headers text = find (λ header. can_stand header && starts_with nat_eq text (placeholder header)) headers

-- The cell of a row under the first header that equals a name, if any.
unfoldable pub cell_of : List (List ℕ) → List (List ℕ) → List ℕ → Option (List ℕ)
cell_of (h ∷ headers) (cell ∷ cells) name = if bytes_eq h name then Some cell else cell_of headers cells name
cell_of _ _ name = None

-- The cell of a row under a header. Of equal headers the first counts.
abbrev pub cell_under : List (List ℕ) → List (List ℕ) → List ℕ → List ℕ
cell_under headers cells header = unwrap_or (cell_of headers cells header) []

-- A filled text: the cell of the placeholder that begins it, or its first byte, and then the rest of it, filled.
abbrev pub filled_at : (List ℕ → List ℕ) → Option (List ℕ) → (ℕ → List ℕ) → ℕ → List ℕ
filled_at cell None rest b = b ∷ rest 0
filled_at cell (Some header) rest b = cell header ++ rest (length header + 1)

-- A text filled, without its first `skip` bytes, which belong to a placeholder that was filled.
unfoldable pub filled_from : List (List ℕ) → List (List ℕ) → ℕ → List ℕ → List ℕ
filled_from headers cells skip [] = []
filled_from headers cells (suc skip) (b ∷ bs) = filled_from headers cells skip bs
filled_from headers cells zero (b ∷ bs) =
    filled_at (cell_under headers cells) (header_at headers (b ∷ bs)) (λ skip. filled_from headers cells skip bs) b

-- A text with the row's cell in place of each placeholder whose header can stand in one, from left to right. The text of a cell isn't filled again. (Cucumber's Gherkin reference: scenario outline)
unfoldable pub filled : List (List ℕ) → List (List ℕ) → List ℕ → List ℕ
filled headers cells text = filled_from headers cells 0 text

-- A part of a text: a placeholder, or one byte at which no placeholder begins.
pub data TextPart : Type 0 where
  Placeholder : List ℕ → TextPart
  Byte : ℕ → TextPart

-- A header of the row whose placeholder is looked up in texts.
abbrev pub IsPlaceholder : List (List ℕ) → List ℕ → Type 0
IsPlaceholder headers header = Contains headers header × (can_stand header ≡ true)

-- A text that begins with no placeholder.
abbrev pub BeginsWithNone : List (List ℕ) → List ℕ → Type 0
BeginsWithNone headers text = (header rest : List ℕ) → IsPlaceholder headers header → text ≡ placeholder header ++ rest → ⊥

-- The cut of a text for a header row: parts that concatenate to it.
abbrev pub IsCut : List (List ℕ) → List ℕ → List TextPart → Type 0
IsCut headers text [] = text ≡ []
IsCut headers text (Placeholder header ∷ parts) = IsPlaceholder headers header × ((rest : List ℕ) × (text ≡ placeholder header ++ rest) × IsCut headers rest parts)
IsCut headers text (Byte b ∷ parts) = BeginsWithNone headers text × ((rest : List ℕ) × (text ≡ b ∷ rest) × IsCut headers rest parts)

-- The filled part: a placeholder is replaced by the row's cell.
abbrev pub filled_part : List (List ℕ) → List (List ℕ) → TextPart → List ℕ
filled_part headers cells (Placeholder header) = cell_under headers cells header
filled_part headers cells (Byte b) = b ∷ []

-- A text has exactly one cut, and the filled text is made of the filled parts.
pub record FillsByCut (headers cells : List (List ℕ)) (text : List ℕ) : Type 0 where
  pub parts : List TextPart
  pub cut : IsCut headers text parts
  pub only : (others : List TextPart) → IsCut headers text others → others ≡ parts
  pub says : filled headers cells text ≡ flat_map (filled_part headers cells) parts

-- A block filled from a row: its text, or the cells of its table. (Cucumber's Gherkin reference: scenario outline)
abbrev pub filled_block : (List ℕ → List ℕ) → BlockValue → BlockValue
filled_block fill Empty = Empty
filled_block fill (Text text) = Text (fill text)
filled_block fill (Table rows) = Table (map (map fill) rows)

-- A step filled from a row: its text and its block. (Cucumber's Gherkin reference: scenario outline)
abbrev pub filled_step : (List ℕ → List ℕ) → StepValue → StepValue
filled_step fill s = record { keyword = s.keyword; step_type = s.step_type; text = fill s.text; block = filled_block fill s.block; line = s.line }

-- Proof machinery, from here on: what one call of the code fills.

-- A cell if one was found; otherwise a byte and what follows it.
abbrev pub cell_or_byte : Option (List ℕ) → ℕ → List ℕ → List ℕ
cell_or_byte (Some cell) b after = cell
cell_or_byte None b after = b ∷ after

-- The filled text of a piece and the `>` after it. The piece itself has no `>`.
unfoldable pub filled_piece : List (List ℕ) → List (List ℕ) → List ℕ → List ℕ
filled_piece headers cells [] = 62 ∷ []
filled_piece headers cells (b ∷ bs) = cell_or_byte (if b == 60 then cell_of headers cells bs else None) b (filled_piece headers cells bs)
