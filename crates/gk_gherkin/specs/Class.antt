-- The class of a line.
use Rattle.std.specs.Prelude.{codes, ℕ, Bool, ◌==◌, ◌&&◌, List, [], ◌∷◌, length, slice_index, if◌then◌else◌}
use Rattle.std.specs.List.{list_any, before_first, after_first}
use Rattle.gk_gherkin.specs.declared.class.Class.{Class}
use Rattle.gk_gherkin.specs.declared.class.Class.TheVariants.{Blank, Comment, TagLine, FeatureHeading, RuleHeading, BackgroundHeading, ScenarioHeading, ExamplesHeading, StepLine, RowLine, FenceLine, Other}
use Rattle.gk_gherkin.specs.declared.class.Fence.{Fence}
use Rattle.gk_gherkin.specs.declared.class.Fence.TheVariants.{Quotes, Backticks}
use Rattle.gk_gherkin.specs.Lines.{LineValue}
use Rattle.gk_gherkin.specs.Text.{begins, is_blank, trim}

-- The three characters of a fence.
abbrev pub fence_text : Fence → List ℕ
fence_text Quotes = codes "\"\"\""
fence_text Backticks = codes "```"

-- Whether a text begins with any of these words.
abbrev pub begins_with_one : List ℕ → List (List ℕ) → Bool
begins_with_one text words = list_any (begins text) words

-- The keyword of a feature, with its colon. (Cucumber's Gherkin reference: keywords)
abbrev pub feature_keywords : List (List ℕ)
feature_keywords = codes "Feature:" ∷ []

-- The keyword of a rule. (Cucumber's Gherkin reference: keywords)
abbrev pub rule_keywords : List (List ℕ)
rule_keywords = codes "Rule:" ∷ []

-- The keyword of a background. (Cucumber's Gherkin reference: keywords)
abbrev pub background_keywords : List (List ℕ)
background_keywords = codes "Background:" ∷ []

-- The keywords of a scenario and of an outline. (Cucumber's Gherkin reference: keywords)
abbrev pub scenario_keywords : List (List ℕ)
scenario_keywords = codes "Scenario:" ∷ codes "Example:" ∷ codes "Scenario Outline:" ∷ codes "Scenario Template:" ∷ []

-- The same without their colons.
abbrev pub scenario_words : List (List ℕ)
scenario_words = codes "Scenario" ∷ codes "Example" ∷ codes "Scenario Outline" ∷ codes "Scenario Template" ∷ []

-- The keywords of examples. (Cucumber's Gherkin reference: keywords)
abbrev pub examples_keywords : List (List ℕ)
examples_keywords = codes "Examples:" ∷ codes "Scenarios:" ∷ []

-- The keywords of steps. (Cucumber's Gherkin reference: keywords)
abbrev pub step_keywords : List (List ℕ)
step_keywords = codes "Given" ∷ codes "When" ∷ codes "Then" ∷ codes "And" ∷ codes "But" ∷ codes "*" ∷ []

-- Whether a text begins with a step keyword followed by a space or a tab.
abbrev pub begins_as_step : List ℕ → Bool
begins_as_step text = list_any (λ word. begins text word && is_blank (slice_index text (length word))) step_keywords

-- The class of a trimmed text that isn't empty, a comment or tags: the first that fits of headings, steps, rows and fences.
unfoldable pub class_of_words : List ℕ → Class
class_of_words text =
    if begins_with_one text feature_keywords then FeatureHeading else
    (if begins_with_one text rule_keywords then RuleHeading else
    (if begins_with_one text background_keywords then BackgroundHeading else
    (if begins_with_one text scenario_keywords then ScenarioHeading else
    (if begins_with_one text examples_keywords then ExamplesHeading else
    (if begins_as_step text then StepLine else
    (if begins text (codes "|") then RowLine else
    (if begins text (fence_text Quotes) then FenceLine Quotes else
    (if begins text (fence_text Backticks) then FenceLine Backticks else Other))))))))

-- The class of a trimmed text: the first that fits.
unfoldable pub class_of : List ℕ → Class
class_of text =
    if length text == 0 then Blank else
    (if begins text (codes "#") then Comment else
    (if begins text (codes "@") then TagLine else class_of_words text))

-- The class of a line: that of its trimmed text.
unfoldable pub class : LineValue → Class
class line = class_of (trim line.text)

-- A colon.
abbrev pub is_colon : ℕ → Bool
is_colon b = b == 58

-- A heading's keyword: the part of the trimmed line before its first colon. (Cucumber's Gherkin reference: keywords)
unfoldable pub heading_keyword : LineValue → List ℕ
heading_keyword line = before_first is_colon (trim line.text)

-- A heading's name: the part of the line after its first colon, trimmed. (Cucumber's Gherkin reference: keywords)
unfoldable pub heading_name : LineValue → List ℕ
heading_name line = trim (after_first is_colon (trim line.text))

-- A step's keyword: the part of the trimmed line before its first space or tab. (Cucumber's Gherkin reference: steps; a tab is this project's profile)
unfoldable pub step_keyword : LineValue → List ℕ
step_keyword line = before_first is_blank (trim line.text)

-- A step's text: the part of the trimmed line after its first space or tab, trimmed again. (as for its keyword)
unfoldable pub step_text : LineValue → List ℕ
step_text line = trim (after_first is_blank (trim line.text))
