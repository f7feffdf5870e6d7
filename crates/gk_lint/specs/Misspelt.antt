-- Description lines that were probably not meant as descriptions: those that begin like a keyword, and steps outside of scenarios.
use Rattle.std.specs.Prelude.{◌≡◌, ◌+◌, ℕ, Bool, true, false, ◌&&◌, not, List, [], ◌∷◌, ◌++◌, length, slice_index, Option, Some, None}
use Rattle.std.specs.List.{list_any}
use Rattle.gk_gherkin.specs.declared.class.Class.{Class}
use Rattle.gk_gherkin.specs.declared.class.Class.TheVariants as classes
use Rattle.gk_gherkin.specs.Keyword.{keyword_text}
use Rattle.gk_gherkin.specs.Text.{begins, is_blank, trim}
use Rattle.gk_gherkin.specs.declared.keyword.Keyword.{Keyword}
use Rattle.gk_gherkin.specs.declared.keyword.Keyword.TheVariants.{Given, When, Then}
use Rattle.gk_lint.specs.declared.findings.FindingKind.TheVariants.{LikeKeyword, StepOutside}
use Rattle.gk_lint.specs.declared.line_context.LineContext.{LineContext}
use Rattle.gk_lint.specs.declared.line_context.LineContext.TheVariants.{Elsewhere}
use Rattle.gk_lint.specs.declared.misspelt.Wording.{Wording}
use Rattle.gk_lint.specs.declared.misspelt.Wording.TheVariants.{Prose, Heading, Like, Outside, Step, Other}
use Rattle.gk_lint.specs.declared.misspelt.Above.{Above}
use Rattle.gk_lint.specs.declared.misspelt.WordedLine.{WordedLine}
use Rattle.gk_lint.specs.Findings.{FindingValue, at_line, found_if}
use Rattle.gk_lint.specs.Likeness.{like, is_like_heading}
use Rattle.gk_lint.specs.LineContext.{after, class_in}

-- The wording of a description line that begins like a keyword, by whether it is a heading with its colon.
abbrev pub like_keyword : Bool → Keyword → Wording
like_keyword true keyword = Heading keyword
like_keyword false keyword = Like keyword

-- The wording of a description line, by the keyword that it begins like, if any.
abbrev pub likened : List ℕ → Option Keyword → Wording
likened text None = Prose
likened text (Some keyword) = like_keyword (is_like_heading text) keyword

-- The keywords that a group of steps begins with. `And`, `But` and `*` add further steps to it, but they also begin sentences and bullets.
abbrev pub opening_words : List Keyword
opening_words = Given ∷ When ∷ Then ∷ []

-- Whether a text begins with one of some keywords that a space or tab follows. (Cucumber's Gherkin reference: steps)
abbrev pub begins_with_one_of : List Keyword → List ℕ → Bool
begins_with_one_of words text = list_any (λ k. begins text (keyword_text k) && is_blank (slice_index text (length (keyword_text k)))) words

-- The wording of a step line in this context: a step, or words of a step where no step is possible.
abbrev pub of_step : LineContext → List ℕ → Wording
of_step Elsewhere text = Outside (begins_with_one_of opening_words text)
of_step context text = Step

-- The wording of a line of this class in this context, by its trimmed text. A line of a doc string counts as blank.
abbrev pub wording : LineContext → Class → List ℕ → Wording
wording context classes.Other text = likened text (like text)
wording context classes.StepLine text = of_step context text
wording context class text = Other

-- Lines with these texts and their wordings. The first of them is in this context, and has this number.
abbrev pub worded : LineContext → ℕ → List (List ℕ) → List WordedLine
worded context n [] = []
worded context n (text ∷ texts) = let class = class_in context text in record { line = n; wording = wording context class (trim text) } ∷ worded (after context class text) (n + 1) texts

-- Whether a line is prose by the wording of the next, by whether prose is directly above it, and by whether the next is prose if it begins like a keyword, too.
abbrev pub prose_by : Wording → Bool → Bool → Bool
prose_by Prose above next = true
prose_by Step above next = false
prose_by (Heading keyword) above next = above
prose_by Other above next = above
prose_by (Like keyword) above next = next
prose_by (Outside opens) above next = next

-- Whether lines that begin like keywords, one directly below the other, are prose, by the lines below the first of them and by whether prose is directly above it. They are if prose is directly below them. A single line is prose, too, if prose is directly above it, unless a step is directly below it.
abbrev pub is_prose : Bool → List WordedLine → Bool
is_prose above [] = above
is_prose above (next ∷ lines) = prose_by next.wording above (is_prose false lines)

-- The findings of a line with this wording, by whether it is prose if it begins like a keyword: a description that begins like a keyword, or a step outside of a scenario. A heading with its colon is found in prose, too.
abbrev pub meant : Bool → ℕ → Wording → List FindingValue
meant prose line (Heading keyword) = at_line line (LikeKeyword keyword) ∷ []
meant prose line (Like keyword) = found_if (not prose) line (LikeKeyword keyword)
meant prose line (Outside opens) = found_if (not prose && opens) line StepOutside
meant prose line _ = []

-- Whether a wording is prose.
abbrev pub is_plain : Wording → Bool
is_plain Prose = true
is_plain wording = false

-- Proof machinery: whether a line that begins like a keyword may be prose.
abbrev pub begins_like : Wording → Bool
begins_like (Like keyword) = true
begins_like (Outside opens) = true
begins_like wording = false

-- The findings of lines, by whether prose is directly above them.
abbrev pub of_worded : Bool → List WordedLine → List FindingValue
of_worded above [] = []
of_worded above (line ∷ lines) = meant (is_prose above lines) line.line line.wording ++ of_worded (is_plain line.wording) lines

-- The findings of a file's lines.
abbrev pub misspelt : List (List ℕ) → List FindingValue
misspelt lines = of_worded false (worded Elsewhere 1 lines)

-- Proof machinery: if the line above begins like a keyword, it is prose as these lines below it say, and no plain prose.
abbrev pub IsGroup : Option Bool → Bool → List WordedLine → Type 0
IsGroup None plain lines = Unit {0}
IsGroup (Some prose) plain lines = (plain ≡ false) × (first : Bool) × (prose ≡ is_prose first lines)

-- Proof machinery: what is known of the line above, by these lines below it.
abbrev pub IsAbove : Above → List WordedLine → Type 0
IsAbove above lines = IsGroup above.group above.plain lines
