-- The words of a tag expression.
use Rattle.std.specs.Prelude.{codes, not, ◌≡◌, ℕ, map, Bool, ◌==◌, ◌||◌, ◌&&◌, List, [], ◌∷◌, length, Option, Some, None, if◌then◌else◌}
use Rattle.std.specs.List.{list_any}
use Rattle.std.specs.Str.{bytes_eq}
use Rattle.std.specs.String.{string_bytes}
use Rattle.gk_gherkin.specs.Text.{is_blank}
use Rattle.gk_gherkin.specs.Tags.{is_tag}
use Rattle.gk_select.specs.declared.tag_words.Word.{Word}
use Rattle.gk_select.specs.declared.tag_words.Word.TheVariants as words

-- A word of a tag expression. (Cucumber's tag expressions)
pub data WordValue : Type 0 where
  open_word : WordValue
  close_word : WordValue
  not_word : WordValue
  and_word : WordValue
  or_word : WordValue
  tag_word : List ℕ → WordValue
  deriving IsSet as word_value_set

-- The value of a `Word`.
abbrev pub word_value : Word → WordValue
word_value words.Open = open_word
word_value words.Close = close_word
word_value words.Not = not_word
word_value words.And = and_word
word_value words.Or = or_word
word_value (words.Tag tag) = tag_word (string_bytes tag)

-- A byte that is a word by itself: a parenthesis. (Cucumber's tag expressions)
abbrev pub is_parenthesis : ℕ → Bool
is_parenthesis b = (b == 40) || (b == 41)

-- A byte that ends a word, and that only a text of the new form has: a space, a tab or a parenthesis.
abbrev pub is_of_new_form : ℕ → Bool
is_of_new_form b = is_blank b || is_parenthesis b

-- The word at the front of a text, which is empty if no word begins there, and the words after it.
pub record FirstWord : Type 0 where
  pub front : List ℕ
  pub after : List (List ℕ)

-- The words of a text that begins with this first word.
abbrev pub words_with_first : FirstWord → List (List ℕ)
words_with_first word = if length word.front == 0 then word.after else word.front ∷ word.after

-- The first word of a text with one more byte before it: a space or a tab ends a word, a parenthesis is a word, and any other byte belongs to the word that follows. (Cucumber's tag expressions)
abbrev pub with_byte_before : ℕ → FirstWord → FirstWord
with_byte_before b word =
    if is_blank b then record { front = []; after = words_with_first word } else
    (if is_parenthesis b then record { front = []; after = (b ∷ []) ∷ words_with_first word } else record { front = b ∷ word.front; after = word.after })

-- The first word of a text.
unfoldable pub first_word : List ℕ → FirstWord
first_word [] = record { front = []; after = [] }
first_word (b ∷ text) = with_byte_before b (first_word text)

-- The words of a text: it is cut at spaces and tabs, and each parenthesis is a word. (Cucumber's tag expressions)
abbrev pub words_of_text : List ℕ → List (List ℕ)
words_of_text text = words_with_first (first_word text)

-- A byte that no tag of an expression has: a comma or a backslash.
abbrev pub is_left_out : ℕ → Bool
is_left_out b = (b == 44) || (b == 92)

-- The value of a word of a text, if it is valid in an expression. A tag is `@` and at least one byte, none of them a comma or a backslash. (Cucumber's tag expressions; what a tag has is this project's profile)
abbrev pub word_said : List ℕ → Option WordValue
word_said word =
    if bytes_eq word (codes "(") then Some open_word else
    (if bytes_eq word (codes ")") then Some close_word else
    (if bytes_eq word (codes "not") then Some not_word else
    (if bytes_eq word (codes "and") then Some and_word else
    (if bytes_eq word (codes "or") then Some or_word else
    (if is_tag word && not (list_any is_left_out word) then Some (tag_word word) else None)))))

-- The words of a text, all of them valid in an expression. (Cucumber's tag expressions)
abbrev pub AreWords : List ℕ → List WordValue → Type 0
AreWords text words = map word_said (words_of_text text) ≡ map Some words

-- Proof machinery: the tags among words.
abbrev pub tags_among : List WordValue → List (List ℕ)
tags_among [] = []
tags_among (tag_word tag ∷ words) = tag ∷ tags_among words
tags_among (open_word ∷ words) = tags_among words
tags_among (close_word ∷ words) = tags_among words
tags_among (not_word ∷ words) = tags_among words
tags_among (and_word ∷ words) = tags_among words
tags_among (or_word ∷ words) = tags_among words
