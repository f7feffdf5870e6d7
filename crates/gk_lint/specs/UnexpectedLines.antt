-- Causes of an unexpected line of a feature file, and what to do about each.
use Rattle.std.specs.Prelude.{codes, ℕ, Bool, true, false, List, [], ◌∷◌, ◌++◌, length, take, find, reverse, slice_get, Option, Some, None, if◌then◌else◌}
use Rattle.gk_gherkin.specs.declared.class.Class.{Class}
use Rattle.gk_gherkin.specs.declared.class.Class.TheVariants.{Blank, Comment, TagLine, FeatureHeading, RuleHeading, BackgroundHeading, ScenarioHeading, ExamplesHeading, RowLine, FenceLine, Other}
use Rattle.gk_gherkin.specs.Text.{begins, trim}
use Rattle.gk_gherkin.specs.declared.keyword.Keyword.{Keyword}
use Rattle.gk_lint.specs.declared.line_context.LineContext.{LineContext}
use Rattle.gk_lint.specs.declared.line_context.LineContext.TheVariants.{Elsewhere}
use Rattle.gk_lint.specs.declared.unexpected_lines.Cause.{Cause}
use Rattle.gk_lint.specs.declared.unexpected_lines.Cause.TheVariants.{NoFeature, SecondFeature, LateBackground, SecondBackground, TaggedBackground, ExamplesAlone, BelowTags, BelowRows, SecondBlock, BelowText, SingleQuotes, OpenKeyword, OtherCase, Misspelt, FreeText}
use Rattle.gk_gherkin.specs.Keyword.{spelling}
use Rattle.gk_lint.specs.Likeness.{like, same_letters}
use Rattle.gk_lint.specs.LineContext.{after, class_in}

-- What to do about a line, by its cause, without the keyword that is named behind it.
unfoldable pub cause_words : Cause → List ℕ
cause_words NoFeature = codes "begin the file with Feature: and a name"
cause_words SecondFeature = codes "a file has one feature: move this one into another file"
cause_words LateBackground = codes "move the Background above the first scenario"
cause_words SecondBackground = codes "a feature or a rule has one Background: join the two"
cause_words TaggedBackground = codes "a Background has no tags: take out those above it"
cause_words ExamplesAlone = codes "Examples: or Scenarios: belongs below the steps of a scenario"
cause_words BelowTags = codes "tags belong above a heading: move those above this line"
cause_words BelowRows = codes "write steps and texts above the Examples, not below their rows"
cause_words SecondBlock = codes "a step has one doc string or one table: take out the other"
cause_words BelowText = codes "a doc string ends above: begin this line with a keyword, or close an earlier one"
cause_words SingleQuotes = codes "write three double quotes, or three backticks"
cause_words (OpenKeyword keyword) = codes "write a plain space and a text directly after "
cause_words (OtherCase keyword) = codes "upper and lower case count: write "
cause_words (Misspelt keyword) = codes "the keyword is misspelt: write "
cause_words FreeText = codes "a description ends at the first step: begin this line with a keyword, or with #"

-- The keyword that is named behind these words, if one is.
unfoldable pub keyword_named : Cause → List ℕ
keyword_named (OpenKeyword keyword) = spelling keyword
keyword_named (OtherCase keyword) = spelling keyword
keyword_named (Misspelt keyword) = spelling keyword
keyword_named cause = []

-- What to do about a line, by its cause.
abbrev pub cause_text : Cause → List ℕ
cause_text cause = cause_words cause ++ keyword_named cause

-- The classes of lines with these texts. The first of them is in this context.
abbrev pub classes_from : LineContext → List (List ℕ) → List Class
classes_from context [] = []
classes_from context (text ∷ texts) = let class = class_in context text in class ∷ classes_from (after context class text) texts

-- Whether a line of this class is a heading. (Cucumber's Gherkin reference: keywords)
abbrev pub is_heading : Class → Bool
is_heading FeatureHeading = true
is_heading RuleHeading = true
is_heading BackgroundHeading = true
is_heading ScenarioHeading = true
is_heading ExamplesHeading = true
is_heading class = false

-- Whether a line of this class is neither blank nor a comment.
abbrev pub is_seen : Class → Bool
is_seen Blank = false
is_seen Comment = false
is_seen class = true

-- The heading nearest to a line, by the classes of the lines above it.
abbrev pub heading_above : List Class → Option Class
heading_above above = find is_heading (reverse above)

-- The class of the line directly above a line, apart from blank lines and comments, by the classes of the lines above it. Of a doc string it is the fence that opens it, since its other lines count as blank.
abbrev pub seen_above : List Class → Option Class
seen_above above = find is_seen (reverse above)

-- The cause of an unexpected Background below this heading. (Cucumber's Gherkin reference: background)
abbrev pub background_below : Class → Cause
background_below BackgroundHeading = SecondBackground
background_below ScenarioHeading = LateBackground
background_below ExamplesHeading = LateBackground
background_below heading = TaggedBackground

-- The cause of an unexpected text, by the line directly above it. (Cucumber's Gherkin reference: doc strings)
abbrev pub text_below : Option Class → Cause
text_below (Some (FenceLine fence)) = BelowText
text_below seen = FreeText

-- The cause of an unexpected line below this heading that is no heading and isn't directly below tags. (Cucumber's Gherkin reference: steps, step arguments, examples)
abbrev pub part_below : Class → Option Class → Class → Cause
part_below ExamplesHeading seen class = BelowRows
part_below heading seen RowLine = SecondBlock
part_below heading seen (FenceLine fence) = SecondBlock
part_below heading seen class = text_below seen

-- The cause of an unexpected line below this heading that is no heading itself, by the line directly above it. (Cucumber's Gherkin reference: tags)
abbrev pub line_below : Class → Option Class → Class → Cause
line_below heading (Some TagLine) class = BelowTags
line_below heading seen class = part_below heading seen class

-- The cause of an unexpected line below this heading. (Cucumber's Gherkin reference: feature, examples)
abbrev pub below : Class → Option Class → Class → Cause
below heading seen FeatureHeading = SecondFeature
below heading seen BackgroundHeading = background_below heading
below heading seen ExamplesHeading = ExamplesAlone
below heading seen class = line_below heading seen class

-- The cause of an unexpected line, by the nearest heading above it and by the line directly above it. (Cucumber's Gherkin reference: feature)
abbrev pub cause_by_place : Option Class → Option Class → Class → Cause
cause_by_place None seen class = NoFeature
cause_by_place (Some heading) seen class = below heading seen class

-- Whether a text begins with this spelling in any case.
abbrev pub begins_in_any_case : List ℕ → List ℕ → Bool
begins_in_any_case text word = same_letters (take (length word) text) word

-- The cause of an unexpected text that begins like this keyword. One that begins with the spelling of a keyword lacks the space and the text of a step. (Cucumber's Gherkin reference: keywords)
abbrev pub cause_by_keyword : List ℕ → Keyword → Cause
cause_by_keyword text keyword =
    if begins text (spelling keyword) then OpenKeyword keyword else
    (if begins_in_any_case text (spelling keyword) then OtherCase keyword else Misspelt keyword)

-- The cause of an unexpected text, by the keyword that it begins like, if any; by its own characters; and otherwise by its place.
abbrev pub cause_by_text : List ℕ → Option Keyword → Cause → Cause
cause_by_text text (Some keyword) otherwise = cause_by_keyword text keyword
cause_by_text text None otherwise = if begins text (codes "'''") then SingleQuotes else otherwise

-- The cause of an unexpected line below lines of these classes.
abbrev pub cause_below : List Class → Class → List ℕ → Cause
cause_below above Other text = cause_by_text text (like text) (cause_by_place (heading_above above) (seen_above above) Other)
cause_below above class text = cause_by_place (heading_above above) (seen_above above) class

-- The cause of the line at a position, if the lines have these classes.
abbrev pub cause_in : List Class → ℕ → Option (List ℕ) → Option Class → Option Cause
cause_in all position (Some text) (Some class) = Some (cause_below (take position all) class (trim text))
cause_in all position (Some text) None = None
cause_in all position None class = None

-- The cause of an unexpected line at a position among lines with these texts, if there is a line at it.
abbrev pub cause_at : List (List ℕ) → ℕ → Option Cause
cause_at texts position = let all = classes_from Elsewhere texts in cause_in all position (slice_get texts position) (slice_get all position)
