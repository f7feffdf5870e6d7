-- Texts as they are shown below an event.
use Rattle.std.specs.Prelude.{ℕ, ◌+◌, ◌-◌, Bool, true, false, cond, not, ◌&&◌, ◌||◌, ◌==◌, nat_lt, List, [], ◌∷◌, Option, Some, None, ◌++◌, length, take, drop, flat_map, codes, chars, encode_utf8}
use Rattle.std.specs.Fmt.{decimal, digits}
use Rattle.std.specs.List.{slice_split}
use Rattle.gk_explain.specs.declared.differences.Position.{Position}
use Rattle.gk_explain.specs.declared.shown.Form.{Form}
use Rattle.gk_explain.specs.declared.shown.Form.TheVariants as forms
use Rattle.gk_explain.specs.declared.shown.Before.{Before}
use Rattle.gk_explain.specs.declared.shown.Before.TheVariants as befores

-- Whether a number is at least `first` and less than `end`.
abbrev pub is_within : ℕ → ℕ → ℕ → Bool
is_within first end c = not (nat_lt c first) && nat_lt c end

-- Whether a character is a control character: one of Unicode's general category Cc, one that ends a line, or one that turns the direction of the text, of Unicode's property Bidi_Control.
abbrev pub is_control : ℕ → Bool
is_control c = nat_lt c 0x20 || (is_within 0x7F 0xA0 c || ((c == 0x61C) || (is_within 0x200E 0x2010 c || (is_within 0x2028 0x202F c || is_within 0x2066 0x206A c))))

-- Whether a character looks like ASCII's space but is another character: one of Unicode's property White_Space that is no control character, or the pattern of Braille without a dot.
abbrev pub is_unicode_space : ℕ → Bool
is_unicode_space c = (c == 0xA0) || ((c == 0x1680) || (is_within 0x2000 0x200B c || (is_within 0x2028 0x202A c || ((c == 0x202F) || ((c == 0x205F) || ((c == 0x2800) || (c == 0x3000)))))))

-- Whether a character below U+10000 is invisible: one of Unicode's property Default_Ignorable_Code_Point, such as marks of no width and variation selectors, or a mark of annotations.
abbrev pub is_low_ignorable : ℕ → Bool
is_low_ignorable c = (c == 0xAD) || ((c == 0x34F) || ((c == 0x61C) || (is_within 0x115F 0x1161 c || (is_within 0x17B4 0x17B6 c || (is_within 0x180B 0x1810 c || (is_within 0x200B 0x2010 c || (is_within 0x202A 0x202F c || (is_within 0x2060 0x2070 c || ((c == 0x3164) || (is_within 0xFE00 0xFE10 c || ((c == 0xFEFF) || ((c == 0xFFA0) || is_within 0xFFF0 0xFFFC c))))))))))))

-- The same for characters from U+10000 on.
abbrev pub is_high_ignorable : ℕ → Bool
is_high_ignorable c = is_within 0x1BCA0 0x1BCA4 c || (is_within 0x1D173 0x1D17B c || is_within 0xE0000 0xE1000 c)

-- Whether a character is invisible or looks like a space that it isn't. No control character is among these.
abbrev pub is_disguised : ℕ → Bool
is_disguised c = is_unicode_space c || (is_low_ignorable c || is_high_ignorable c)

-- A character by its number, in hexadecimal.
abbrev pub numbered : ℕ → List ℕ
numbered c = codes "\\u{" ++ digits 16 false c ++ codes "}"

-- Whether a form shows a character by its number: a control character, and except in names a disguised one.
abbrev pub is_numbered : Form → ℕ → Bool
is_numbered forms.File c = is_control c
is_numbered forms.Name c = is_control c
is_numbered form c = is_control c || is_disguised c

-- Whether a form doubles a character: a backslash between quotes, and in a literal a brace, too. (Python's format strings)
abbrev pub is_doubled : Form → ℕ → Bool
is_doubled forms.Quoted c = c == 92
is_doubled forms.Literal c = (c == 92) || ((c == 123) || (c == 125))
is_doubled form c = false

-- A character as a form shows it: a tab, a line feed and a carriage return by a letter, and any other by its number, doubled or as itself.
abbrev pub char_in : Form → ℕ → List ℕ
char_in form c =
    cond (c == 9) (codes "\\t")
    (cond (c == 10) (codes "\\n")
    (cond (c == 13) (codes "\\r")
    (cond (is_numbered form c) (numbered c)
    (cond (is_doubled form c) (encode_utf8 c ++ encode_utf8 c) (encode_utf8 c)))))

-- Whether a character is a letter of ASCII.
abbrev pub is_letter : ℕ → Bool
is_letter c = is_within 65 91 c || is_within 97 123 c

-- Whether `##` is before a character, and perhaps letters between them.
abbrev pub are_hashes : Before → Bool
are_hashes befores.Hashes = true
are_hashes before = false

-- What is before the next character if `before` is before a `#`.
abbrev pub past_hash : Before → Before
past_hash befores.Other = befores.Hash
past_hash befores.Colon = befores.Hash
past_hash before = befores.Hashes

-- What is before the next character if `before` is before `c`.
abbrev pub past_char : Before → ℕ → Before
past_char before c =
    cond (c == 35) (past_hash before)
    (cond (c == 58) befores.Colon
    (cond (are_hashes before && is_letter c) befores.Hashes befores.Other))

-- Whether a colon is before a character that is in the name of a file. Such a name may begin a line; texts of other forms follow some words.
abbrev pub follows_colon : Form → Before → Bool
follows_colon forms.File befores.Colon = true
follows_colon form before = false

-- Whether a character completes what the log of a CI reads as the beginning of a command: `##[` or `##vso[` anywhere in a line, and `::` at its start. (Azure's logging commands, GitHub's workflow commands)
abbrev pub is_commanding : Form → Before → ℕ → Bool
is_commanding form before c = cond (c == 91) (are_hashes before) (cond (c == 58) (follows_colon form before) false)

-- A character as a form shows it, but by its number if it completes the beginning of a command.
abbrev pub char_after : Form → Before → ℕ → List ℕ
char_after form before c = cond (is_commanding form before c) (numbered c) (char_in form c)

-- Characters as a form shows them, one after the other.
abbrev pub chars_after : Form → Before → List ℕ → List ℕ
chars_after form before [] = []
chars_after form before (c ∷ rest) = char_after form before c ++ chars_after form (past_char before c) rest

-- A text as a form shows it. What is shown ends no line, and commands neither a terminal nor a CI.
abbrev pub text_as : Form → List ℕ → List ℕ
text_as form text = chars_after form befores.Other (chars text)

-- The name of a file, which may begin a line.
unfoldable pub file_shown : List ℕ → List ℕ
file_shown name = text_as forms.File name

-- A name or a text on one line.
unfoldable pub escaped : List ℕ → List ℕ
escaped text = text_as forms.Name text

-- A text as it is shown without quotes.
abbrev pub unquoted : List ℕ → List ℕ
unquoted text = text_as forms.Unquoted text

-- A text as it is shown between quotes.
abbrev pub shown : List ℕ → List ℕ
shown text = text_as forms.Quoted text

-- A literal as it is written in a pattern.
abbrev pub literal_shown : List ℕ → List ℕ
literal_shown text = text_as forms.Literal text

-- Proof machinery: whether the character of a byte may not be shown as it is in a name. The control characters from U+0080 on begin with 0xC2, 0xD8 or 0xE2.
abbrev pub is_suspect : ℕ → Bool
is_suspect b = nat_lt b 0x20 || ((b == 0x3A) || ((b == 0x5B) || ((b == 0x7F) || ((b == 0xC2) || ((b == 0xD8) || (b == 0xE2))))))

-- The lines of a text: the parts between its line feeds. A text that ends with a line feed has an empty last line.
abbrev pub text_lines : List ℕ → List (List ℕ)
text_lines text = slice_split (λ b. b == 10) text

-- A line of a text after a mark, between quotes, so that spaces and tabs at its end are visible.
unfoldable pub marked_line : List ℕ → List ℕ → List ℕ
marked_line mark line = codes "      " ++ (mark ++ (codes " \"" ++ (shown line ++ codes "\"\n")))

-- The number of characters that are cut from the start of a line with `count` characters: those more than thirty before a column, as long as sixty remain.
abbrev pub cut_before : ℕ → ℕ → ℕ
cut_before column count = cond (nat_lt (column - 31) (count - 60)) (column - 31) (count - 60)

-- The characters of a line that are shown around a column: at most sixty. A line with up to sixty is shown whole.
abbrev pub window : ℕ → List ℕ → List ℕ
window column line = take 60 (drop (cut_before column (length line)) line)

-- The mark on a side of a line on which characters are cut.
abbrev pub cut_mark : Bool → List ℕ
cut_mark cut = cond cut (codes "...") []

-- The characters of a line around a column, between quotes. Outside the quotes is a mark on each side on which characters are cut.
unfoldable pub quoted_window : ℕ → List ℕ → List ℕ
quoted_window column line = let before = cut_before column (length line) in cut_mark (nat_lt 0 before) ++ (codes "\"" ++ (chars_after forms.Quoted befores.Other (window column line) ++ (codes "\"" ++ cut_mark (nat_lt before (length line - 60)))))

-- A line after a mark, cut to the characters around a column.
unfoldable pub cut_line : List ℕ → ℕ → List ℕ → List ℕ
cut_line mark column line = codes "      " ++ (mark ++ (codes " " ++ (quoted_window column line ++ codes "\n")))

-- A line of a text after a mark: whole, or cut to the characters around a column, counted from 1.
abbrev pub row : List ℕ → Option ℕ → List ℕ → List ℕ
row mark None line = marked_line mark line
row mark (Some column) line = cut_line mark column (chars line)

-- Lines of a text, each shown in the same way.
abbrev pub marked_lines : (List ℕ → List ℕ) → List (List ℕ) → List ℕ
marked_lines show lines = flat_map show lines

-- The row that replaces lines that are left out.
abbrev pub left_out : ℕ → List ℕ
left_out count = codes "      ... " ++ (decimal count ++ codes " more lines ...\n")

-- Lines in at most twenty rows. Up to twenty lines are all shown; of more, the first ten, the number of those left out, and the last nine.
abbrev pub few_lines : (List ℕ → List ℕ) → List (List ℕ) → List ℕ
few_lines show lines =
    cond (nat_lt 20 (length lines)) (marked_lines show (take 10 lines) ++ (left_out (length lines - 19) ++ marked_lines show (drop (length lines - 9) lines))) (marked_lines show lines)

-- A text after a mark, in at most twenty rows.
unfoldable pub marked_text : List ℕ → List ℕ → List ℕ
marked_text mark text = few_lines (row mark None) (text_lines text)

-- Whether a line, counted from 1, is one of those left out of `count` lines: there are more than twenty, and it is none of the first ten or the last nine.
abbrev pub is_left_out : ℕ → ℕ → Bool
is_left_out line count = nat_lt 20 count && (nat_lt 10 line && nat_lt line (count - 8))

-- Lines around one: the first five, this line with three on either side, and the last four, each time with the number of lines left out between.
abbrev pub lines_round : (List ℕ → List ℕ) → ℕ → List (List ℕ) → List ℕ
lines_round show line lines =
    marked_lines show (take 5 lines) ++ (left_out (line - 9) ++ (marked_lines show (take 7 (drop (line - 4) lines)) ++ (left_out (length lines - (line + 7)) ++ marked_lines show (drop (length lines - 4) lines))))

-- Lines in at most twenty rows, with one that has to be shown: if it would be left out, lines around it.
abbrev pub few_lines_with : (List ℕ → List ℕ) → ℕ → List (List ℕ) → List ℕ
few_lines_with show line lines = cond (is_left_out line (length lines)) (lines_round show line lines) (few_lines show lines)

-- A text after a mark, in at most twenty rows, each cut to the characters around the column of a position. The line of the position is among those that are shown.
unfoldable pub marked_text_with : List ℕ → Position → List ℕ → List ℕ
marked_text_with mark p text = few_lines_with (row mark (Some p.column)) p.line (text_lines text)
