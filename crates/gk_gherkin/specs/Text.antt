-- Texts: trimming, prefixes and substrings.
use Rattle.std.specs.Prelude.{ℕ, ◌-◌, Bool, ◌==◌, nat_eq, ◌||◌, List, [], ◌∷◌, length, drop, take}
use Rattle.std.specs.List.{prefix_len, suffix_len, starts_with}

-- A blank is a space or a tab.
abbrev pub is_blank : ℕ → Bool
is_blank b = (b == 32) || (b == 9)

-- A text without its leading blanks.
abbrev pub trim_front : List ℕ → List ℕ
trim_front text = drop (prefix_len is_blank text) text

-- A text without its trailing blanks.
abbrev pub trim_back : List ℕ → List ℕ
trim_back text = take (length text - suffix_len is_blank text) text

-- A text without its leading and trailing blanks.
abbrev pub trim : List ℕ → List ℕ
trim text = trim_back (trim_front text)

-- Whether a text begins with a word.
abbrev pub begins : List ℕ → List ℕ → Bool
begins text word = starts_with nat_eq text word

-- Whether a text contains another: some suffix of the text begins with the other.
abbrev pub contains : List ℕ → List ℕ → Bool
contains [] text = length text == 0
contains (b ∷ bs) text = begins (b ∷ bs) text || contains bs text
