-- Comments that name a language.
use Rattle.std.specs.Prelude.{codes, not, ◌≡◌, ◌≢◌, ℕ, Bool, ◌==◌, ◌||◌, ◌&&◌, nat_le, List, length, drop, Option, Some, None, option_and_then, if◌then◌else◌}
use Rattle.std.specs.List.{list_all}
use Rattle.gk_gherkin.specs.Lines.{LineValue}
use Rattle.gk_gherkin.specs.Text.{trim, trim_front}
use Rattle.gk_gherkin.specs.Text.{begins}

-- The rest of a text after a word that it begins with, without leading spaces and tabs; `None` if it doesn't begin with the word.
abbrev pub rest_after : List ℕ → List ℕ → Option (List ℕ)
rest_after word text = if begins text word then Some (trim_front (drop (length word) text)) else None

-- An ASCII letter, `-` or `_`.
abbrev pub is_language_letter : ℕ → Bool
is_language_letter b = (nat_le 65 b && nat_le b 90) || ((nat_le 97 b && nat_le b 122) || ((b == 45) || (b == 95)))

-- The text, if it isn't empty and consists of such letters.
abbrev pub language_word : List ℕ → Option (List ℕ)
language_word text = if not (length text == 0) && list_all is_language_letter text then Some text else None

-- The language that a comment names: one `#`, `language`, `:` and a word, with any spaces and tabs around each of them; `None` for any other comment. (Cucumber's Gherkin reference: spoken languages)
unfoldable pub language_of : LineValue → Option (List ℕ)
language_of line =
    option_and_then language_word
    (option_and_then (rest_after (codes ":"))
    (option_and_then (rest_after (codes "language"))
    (rest_after (codes "#") (trim line.text))))

-- No language, or English.
abbrev pub IsEnglishOrNone : Option (List ℕ) → Type 0
IsEnglishOrNone None = Unit {0}
IsEnglishOrNone (Some word) = word ≡ codes "en"

-- A comment that names a language other than English.
abbrev pub NamesOtherLanguage : LineValue → Type 0
NamesOtherLanguage line = (word : List ℕ) × (language_of line ≡ Some word) × (word ≢ codes "en")
