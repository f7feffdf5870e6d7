-- The text of a doc string.
use Rattle.std.specs.Prelude.{codes, ◌≡◌, ℕ, zero, suc, ◌-◌, Bool, false, ◌==◌, ◌&&◌, List, [], ◌∷◌, ◌++◌, length, map, drop, min, if◌then◌else◌}
use Rattle.std.specs.List.{prefix_len, join_with_byte}
use Rattle.gk_gherkin.specs.Lines.{LineValue, Lines}
use Rattle.gk_gherkin.specs.Text.{is_blank, trim}
use Rattle.gk_gherkin.specs.declared.class.Fence.{Fence}
use Rattle.gk_gherkin.specs.declared.class.Fence.TheVariants.{Quotes, Backticks}
use Rattle.gk_gherkin.specs.Class.{fence_text}
use Rattle.gk_gherkin.specs.Text.{begins}

-- Whether a line closes the doc string that a fence opened: its trimmed text is that fence alone. (Cucumber's Gherkin reference: doc strings; that nothing may follow is this project's profile)
unfoldable pub closes : Fence → LineValue → Bool
closes fence line = begins (trim line.text) (fence_text fence) && (length (trim line.text) == 3)

-- A fence with a backslash before each of its characters. (Cucumber's Gherkin reference: doc strings)
abbrev pub escaped_fence : Fence → List ℕ
escaped_fence Quotes = codes "\\\"\\\"\\\""
escaped_fence Backticks = codes "\\`\\`\\`"

-- A text with each escaped fence read as that fence, from left to right. The first `skip` bytes are left out; they belong to an escaped fence that was read. (Cucumber's Gherkin reference: doc strings)
abbrev pub fences_read : Fence → ℕ → List ℕ → List ℕ
fences_read fence skip [] = []
fences_read fence (suc skip) (b ∷ bs) = fences_read fence skip bs
fences_read fence zero (b ∷ bs) =
    if begins (b ∷ bs) (escaped_fence fence) then fence_text fence ++ fences_read fence (length (escaped_fence fence) - 1) bs else b ∷ fences_read fence zero bs

-- A text and what it reads as: an escaped fence as the fence, and any other byte as itself. (Cucumber's Gherkin reference: doc strings)
pub data ReadsFences (fence : Fence) : List ℕ → List ℕ → Type 0 where
  nothing : ReadsFences fence [] []
  a_fence : {text said : List ℕ} → ReadsFences fence text said → ReadsFences fence (escaped_fence fence ++ text) (fence_text fence ++ said)
  a_byte : {b : ℕ} {text said : List ℕ} → begins (b ∷ text) (escaped_fence fence) ≡ false → ReadsFences fence text said → ReadsFences fence (b ∷ text) (b ∷ said)

-- A text reads as one text, which `fences_read` computes.
pub record ReadsOneWay (fence : Fence) (text : List ℕ) : Type 0 where
  pub reads : ReadsFences fence text (fences_read fence 0 text)
  pub only : (said : List ℕ) → ReadsFences fence text said → said ≡ fences_read fence 0 text

-- A content line without its leading spaces and tabs, at most `indent` of them, and with its escaped fences read. `indent` is their number before the opening fence. (Cucumber's Gherkin reference: doc strings)
unfoldable pub content_of : Fence → ℕ → LineValue → List ℕ
content_of fence indent line = fences_read fence 0 (drop (min indent (prefix_len is_blank line.text)) line.text)

-- The text of the content lines after an opening line, joined by LF, without one at the end. (Cucumber's Gherkin reference: doc strings)
unfoldable pub doc_string : Fence → LineValue → Lines → List ℕ
doc_string fence opening content = join_with_byte 10 (map (content_of fence (opening.column - 1)) content)
