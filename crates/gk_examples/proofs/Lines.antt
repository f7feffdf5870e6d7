-- Worked examples of lines and their parts, each by computation.
use Rattle.std.specs.Prelude.{codes, ◌≡◌, ℕ, List, [], ◌∷◌, map, Some, None, refl, true, false}
use Rattle.gk_gherkin.specs.declared.class.Class.TheVariants.{Blank, Comment, TagLine, FeatureHeading, RuleHeading, BackgroundHeading, ScenarioHeading, ExamplesHeading, StepLine, RowLine, FenceLine, Other}
use Rattle.gk_gherkin.specs.declared.class.Fence.TheVariants.{Quotes, Backticks}
use Rattle.gk_gherkin.specs.declared.feature.StepType.TheVariants.{Given, When, Then}
use Rattle.gk_gherkin.specs.declared.read_fault.ReadFault.TheVariants as faults
use Rattle.gk_gherkin.specs.Lines.{LineValue, lines_of, line_at}
use Rattle.gk_gherkin.specs.Class.{class, class_of, class_of_words, heading_keyword, heading_name, step_keyword, step_text}
use Rattle.gk_gherkin.specs.Tags.{tags_of}
use Rattle.gk_gherkin.specs.Rows.{cells_of, parts_of, unescaped}
use Rattle.gk_gherkin.specs.DocStrings.{closes, content_of, doc_string}
use Rattle.gk_gherkin.specs.Language.{language_of}
use Rattle.gk_gherkin.specs.StepTypes.{type_after}
use Rattle.gk_gherkin.specs.ReadFault.{line_of_fault, text_of_fault}

-- a line of this text
abbrev line : List ℕ → LineValue
line text = line_at 1 text

-- LF and CRLF end lines, a CR alone does not, and after the last end there is no further line.
lines_and_ends : map (λ l. l.text) (lines_of (codes "a\r\n  b\rc\n\nd\n")) ≡ codes "a" ∷ codes "  b\rc" ∷ [] ∷ codes "d" ∷ []
lines_and_ends = refl

lines_numbered : lines_of (codes "a\n\tb") ≡ record { line = 1; column = 1; text = codes "a" } ∷ record { line = 2; column = 2; text = codes "\tb" } ∷ []
lines_numbered = refl

no_line : lines_of [] ≡ []
no_line = refl

mark_alone : lines_of (0xEF ∷ 0xBB ∷ 0xBF ∷ []) ≡ []
mark_alone = refl

-- Classes.
blank_line : class (line (codes " \t ")) ≡ Blank
unfolding class class_of
blank_line = refl

comment_line : class (line (codes " # Feature: a")) ≡ Comment
unfolding class class_of
comment_line = refl

tag_line : class (line (codes " @a")) ≡ TagLine
unfolding class class_of
tag_line = refl

feature_heading : class (line (codes "Feature: f")) ≡ FeatureHeading
unfolding class class_of class_of_words
feature_heading = refl

rule_heading : class (line (codes "\tRule: r")) ≡ RuleHeading
unfolding class class_of class_of_words
rule_heading = refl

background_heading : class (line (codes "Background:")) ≡ BackgroundHeading
unfolding class class_of class_of_words
background_heading = refl

scenario_heading : class (line (codes "Scenario: s")) ≡ ScenarioHeading
unfolding class class_of class_of_words
scenario_heading = refl

example_heading : class (line (codes "Example: e")) ≡ ScenarioHeading
unfolding class class_of class_of_words
example_heading = refl

outline_heading : class (line (codes "  Scenario Outline: s")) ≡ ScenarioHeading
unfolding class class_of class_of_words
outline_heading = refl

template_heading : class (line (codes "Scenario Template:")) ≡ ScenarioHeading
unfolding class class_of class_of_words
template_heading = refl

examples_heading : class (line (codes "Examples:")) ≡ ExamplesHeading
unfolding class class_of class_of_words
examples_heading = refl

scenarios_heading : class (line (codes "Scenarios: x")) ≡ ExamplesHeading
unfolding class class_of class_of_words
scenarios_heading = refl

heading_without_colon : class (line (codes "Feature f")) ≡ Other
unfolding class class_of class_of_words
heading_without_colon = refl

colon_after_blank : class (line (codes "Feature : f")) ≡ Other
unfolding class class_of class_of_words
colon_after_blank = refl

given_step : class (line (codes "\tGiven\tx")) ≡ StepLine
unfolding class class_of class_of_words
given_step = refl

when_step : class (line (codes "When x")) ≡ StepLine
unfolding class class_of class_of_words
when_step = refl

then_step : class (line (codes "Then x")) ≡ StepLine
unfolding class class_of class_of_words
then_step = refl

and_step : class (line (codes "And x")) ≡ StepLine
unfolding class class_of class_of_words
and_step = refl

but_step : class (line (codes "But x")) ≡ StepLine
unfolding class class_of class_of_words
but_step = refl

any_step : class (line (codes "* x")) ≡ StepLine
unfolding class class_of class_of_words
any_step = refl

given_alone : class (line (codes " Given ")) ≡ Other
unfolding class class_of class_of_words
given_alone = refl

longer_word : class (line (codes "Givens x")) ≡ Other
unfolding class class_of class_of_words
longer_word = refl

small_letters : class (line (codes "given x")) ≡ Other
unfolding class class_of class_of_words
small_letters = refl

row_line : class (line (codes " | a")) ≡ RowLine
unfolding class class_of class_of_words
row_line = refl

quotes_line : class (line (codes " \"\"\" md")) ≡ FenceLine Quotes
unfolding class class_of class_of_words
quotes_line = refl

backticks_line : class (line (codes "```")) ≡ FenceLine Backticks
unfolding class class_of class_of_words
backticks_line = refl

two_quotes : class (line (codes "\"\"")) ≡ Other
unfolding class class_of class_of_words
two_quotes = refl

-- Headings and steps.
outline_parts : (heading_keyword (line (codes "  Scenario Outline: a: b ")) ≡ codes "Scenario Outline") × (heading_name (line (codes "  Scenario Outline: a: b ")) ≡ codes "a: b")
unfolding heading_keyword heading_name
outline_parts = (refl, refl)

star_step : (step_keyword (line (codes "* the  x ")) ≡ codes "*") × (step_text (line (codes "* the  x ")) ≡ codes "the  x")
unfolding step_keyword step_text
star_step = (refl, refl)

-- Tags.
two_ats : tags_of (line (codes " @a@b\t@c")) ≡ Some (codes "@a@b" ∷ codes "@c" ∷ [])
unfolding tags_of
two_ats = refl

comment_after_tags : tags_of (line (codes "@a #b c")) ≡ Some (codes "@a" ∷ [])
unfolding tags_of
comment_after_tags = refl

mark_in_tag : tags_of (line (codes "@a#b")) ≡ Some (codes "@a#b" ∷ [])
unfolding tags_of
mark_in_tag = refl

no_at : tags_of (line (codes "@x y")) ≡ None
unfolding tags_of
no_at = refl

at_alone : tags_of (line (codes "@x @")) ≡ None
unfolding tags_of
at_alone = refl

bad_before_comment : tags_of (line (codes "@x y # c")) ≡ None
unfolding tags_of
bad_before_comment = refl

-- Cells.
escaped_cells : cells_of (line (codes "| a\\|b | c\\\\d | e\\nf | g\\xh |")) ≡ Some (codes "a|b" ∷ codes "c\\d" ∷ codes "e\nf" ∷ codes "g\\xh" ∷ [])
unfolding cells_of parts_of unescaped
escaped_cells = refl

escaped_bar : cells_of (line (codes "| a\\|b |")) ≡ Some (codes "a|b" ∷ [])
unfolding cells_of parts_of unescaped
escaped_bar = refl

escaped_backslash : cells_of (line (codes "|\\\\|")) ≡ Some (codes "\\" ∷ [])
unfolding cells_of parts_of unescaped
escaped_backslash = refl

empty_cell : cells_of (line (codes "||")) ≡ Some ([] ∷ [])
unfolding cells_of parts_of unescaped
empty_cell = refl

blank_cell : cells_of (line (codes "|  |")) ≡ Some ([] ∷ [])
unfolding cells_of parts_of unescaped
blank_cell = refl

two_cells : cells_of (line (codes "|a|b|")) ≡ Some (codes "a" ∷ codes "b" ∷ [])
unfolding cells_of parts_of unescaped
two_cells = refl

one_bar : cells_of (line (codes " | ")) ≡ None
unfolding cells_of parts_of unescaped
one_bar = refl

open_row : cells_of (line (codes "| x")) ≡ None
unfolding cells_of parts_of unescaped
open_row = refl

escaped_end : cells_of (line (codes "| x \\|")) ≡ None
unfolding cells_of parts_of unescaped
escaped_end = refl

escaped_backslash_end : cells_of (line (codes "| x \\\\|")) ≡ Some (codes "x \\" ∷ [])
unfolding cells_of parts_of unescaped
escaped_backslash_end = refl

backslash_in_cell : cells_of (line (codes "| a\\ |")) ≡ Some (codes "a\\" ∷ [])
unfolding cells_of parts_of unescaped
backslash_in_cell = refl

two_escapes : cells_of (line (codes "|\\\\n|")) ≡ Some (codes "\\n" ∷ [])
unfolding cells_of parts_of unescaped
two_escapes = refl

-- Doc strings: as many blanks are dropped as stand before the fence, or as there are.
text_of_doc_string : doc_string Quotes (line (codes "    \"\"\"")) (line (codes "  a") ∷ line (codes "      b\\\"\\\"\\\"c") ∷ line (codes "    ") ∷ []) ≡ codes "a\n  b\"\"\"c\n"
unfolding doc_string content_of
text_of_doc_string = refl

no_content : doc_string Quotes (line (codes "\"\"\"")) [] ≡ []
unfolding doc_string content_of
no_content = refl

no_margin : doc_string Quotes (line (codes "\"\"\"")) (line (codes " a ") ∷ []) ≡ codes " a "
unfolding doc_string content_of
no_margin = refl

margin_of_a_tab : doc_string Quotes (line (codes "\t\"\"\"")) (line (codes "  a") ∷ line (codes "\tb") ∷ []) ≡ codes " a\nb"
unfolding doc_string content_of
margin_of_a_tab = refl

fences_inside : doc_string Quotes (line (codes "\"\"\"")) (line (codes "```") ∷ line (codes "\\`\\`\\`") ∷ line (codes "# c") ∷ line (codes "@x y") ∷ []) ≡ codes "```\n\\`\\`\\`\n# c\n@x y"
unfolding doc_string content_of
fences_inside = refl

backticks_escaped : doc_string Backticks (line (codes "```md")) (line (codes "\\`\\`\\`\\`\\`\\` \\\"\\\"\\\" \"\"\"") ∷ []) ≡ codes "`````` \\\"\\\"\\\" \"\"\""
unfolding doc_string content_of
backticks_escaped = refl

half_escaped : doc_string Quotes (line (codes "\"\"\"")) (line (codes "\\\"\\\" \\\"\"\" \\\\\"\\\"\\\"") ∷ []) ≡ codes "\\\"\\\" \\\"\"\" \\\"\"\""
unfolding doc_string content_of
half_escaped = refl

closing : (closes Quotes (line (codes " \"\"\" ")) ≡ true) × ((closes Quotes (line (codes "\"\"\"x")) ≡ false) × (closes Quotes (line (codes "```")) ≡ false))
unfolding closes
closing = (refl, (refl, refl))

closing_backticks : (closes Backticks (line (codes "```")) ≡ true) × (closes Backticks (line (codes "\"\"\"")) ≡ false)
unfolding closes
closing_backticks = (refl, refl)

-- Languages.
german : language_of (line (codes " # language : de ")) ≡ Some (codes "de")
unfolding language_of
german = refl

no_blanks : language_of (line (codes "#language:en")) ≡ Some (codes "en")
unfolding language_of
no_blanks = refl

letters : language_of (line (codes "# language: en-Scouse_x")) ≡ Some (codes "en-Scouse_x")
unfolding language_of
letters = refl

no_word : language_of (line (codes "# language:")) ≡ None
unfolding language_of
no_word = refl

two_marks : language_of (line (codes "## language: de")) ≡ None
unfolding language_of
two_marks = refl

two_words : language_of (line (codes "#language: d e")) ≡ None
unfolding language_of
two_words = refl

a_digit : language_of (line (codes "# language: d3")) ≡ None
unfolding language_of
a_digit = refl

-- Types.
own_types : (type_after When (codes "Given") ≡ Given) × ((type_after Given (codes "When") ≡ When) × (type_after Given (codes "Then") ≡ Then))
unfolding type_after
own_types = (refl, (refl, refl))

types_before : (type_after When (codes "And") ≡ When) × ((type_after Then (codes "But") ≡ Then) × (type_after When (codes "*") ≡ When))
unfolding type_after
types_before = (refl, (refl, refl))

-- The line and the text of each fault.
not_utf8_says : (line_of_fault (faults.NotUtf8 7) ≡ Some 7) × (text_of_fault (faults.NotUtf8 7) ≡ codes "not UTF-8")
not_utf8_says = (refl, refl)

unexpected_says : (line_of_fault (faults.Unexpected 7) ≡ Some 7) × (text_of_fault (faults.Unexpected 7) ≡ codes "unexpected line")
unexpected_says = (refl, refl)

bad_tag_says : (line_of_fault (faults.BadTag 7) ≡ Some 7) × (text_of_fault (faults.BadTag 7) ≡ codes "bad tag")
bad_tag_says = (refl, refl)

cell_count_says : (line_of_fault (faults.CellCount 7) ≡ Some 7) × (text_of_fault (faults.CellCount 7) ≡ codes "row with another number of cells")
cell_count_says = (refl, refl)

unclosed_text_says : (line_of_fault (faults.UnclosedText 7) ≡ Some 7) × (text_of_fault (faults.UnclosedText 7) ≡ codes "doc string without end")
unclosed_text_says = (refl, refl)

tags_at_end_says : (line_of_fault (faults.TagsAtEnd 7) ≡ Some 7) × (text_of_fault (faults.TagsAtEnd 7) ≡ codes "tags before nothing")
tags_at_end_says = (refl, refl)

language_says : (line_of_fault (faults.Language 7) ≡ Some 7) × (text_of_fault (faults.Language 7) ≡ codes "language not known")
language_says = (refl, refl)

bad_row_says : (line_of_fault (faults.BadRow 7) ≡ Some 7) × (text_of_fault (faults.BadRow 7) ≡ codes "row without closing bar")
bad_row_says = (refl, refl)

too_long_says : (line_of_fault faults.TooLong ≡ None) × (text_of_fault faults.TooLong ≡ codes "longer than 16777216 bytes")
too_long_says = (refl, refl)

memory_says : (line_of_fault faults.Memory ≡ None) × (text_of_fault faults.Memory ≡ codes "out of memory")
memory_says = (refl, refl)
