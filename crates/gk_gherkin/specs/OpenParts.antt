-- Proof machinery: the effect of a line on the last parts of what was read so far. No public contract cites it.
-- The last part of a background or a scenario is its last step, or its last examples. That of a feature or a rule is its last scenario, or its background if it has no scenario.
pub mod Views
use Rattle.std.specs.Prelude.{ℕ, Bool, true, false, ◌==◌, if◌then◌else◌, List, [], ◌∷◌, ◌++◌, length, Option, Some, None, option_map, Result, Ok, Err}
use Rattle.std.specs.List.{last_or}
use Rattle.gk_gherkin.specs.declared.class.Class.{Class}
use Rattle.gk_gherkin.specs.declared.class.Class.TheVariants.{Blank, Comment, TagLine, FeatureHeading, RuleHeading, BackgroundHeading, ScenarioHeading, ExamplesHeading, StepLine, RowLine, FenceLine, Other}
use Rattle.gk_gherkin.specs.declared.read_fault.ReadFault.{ReadFault}
use Rattle.gk_gherkin.specs.declared.read_fault.ReadFault.TheVariants.{Unexpected, BadRow, CellCount}
use Rattle.gk_gherkin.specs.declared.feature.StepType.{StepType}
use Rattle.gk_gherkin.specs.declared.feature.StepType.TheVariants.{Given}
use Rattle.gk_gherkin.specs.Lines.{LineValue}
use Rattle.gk_gherkin.specs.Class.{heading_keyword, heading_name, step_keyword, step_text}
use Rattle.gk_gherkin.specs.Rows.{cells_of}
use Rattle.gk_gherkin.specs.StepTypes.{type_after}
use Rattle.gk_gherkin.specs.Feature.{BlockValue, Empty, Text, Table, StepValue, RowValue, ExamplesValue, BackgroundValue, ScenarioValue}
use Rattle.gk_gherkin.specs.Results.{◌>>=◌}

-- The background and the scenarios of a feature or a rule.
pub record ChildrenValue : Type 0 where
  pub background : Option BackgroundValue
  pub scenarios : List ScenarioValue

-- A list with its last item replaced. An empty list stays.
unfoldable pub with_last : {A : Type 0} → A → List A → List A
with_last y [] = []
with_last y (x ∷ []) = y ∷ []
with_last y (x ∷ z ∷ xs) = x ∷ with_last y (z ∷ xs)

-- The step that a line spells, after a step of this type.
abbrev pub step_from : StepType → LineValue → StepValue
step_from before line = record { keyword = step_keyword line; step_type = type_after before (step_keyword line); text = step_text line; block = Empty; line = line.line }

-- The cells of a row with this width, or with any width if none is given; or the row's fault.
abbrev pub row_of : Option ℕ → LineValue → Option (List (List ℕ)) → Result (List (List ℕ)) ReadFault
row_of None line None = Err (BadRow line.line)
row_of None line (Some cells) = Ok cells
row_of (Some width) line None = Err (BadRow line.line)
row_of (Some width) line (Some cells) = if length cells == width then Ok cells else Err (CellCount line.line)

-- The cells that a line spells, with this width, or with any width if none is given; or the row's fault.
unfoldable pub on_row : Option ℕ → LineValue → Result (List (List ℕ)) ReadFault
on_row width line = row_of width line (cells_of line)

-- The width of a table, if it has a row.
abbrev pub width_of : List (List (List ℕ)) → Option ℕ
width_of [] = None
width_of (first ∷ rows) = Some (length first)

-- A step with this block.
abbrev pub with_block : StepValue → BlockValue → StepValue
with_block step block = record { keyword = step.keyword; step_type = step.step_type; text = step.text; block = block; line = step.line }

-- The block of a step after a row, or the row's fault.
unfoldable pub on_block : BlockValue → LineValue → Result BlockValue ReadFault
on_block Empty line = on_row None line >>= λ cells. Ok (Table (cells ∷ []))
on_block (Table rows) line = on_row (width_of rows) line >>= λ cells. Ok (Table (rows ++ cells ∷ []))
on_block (Text text) line = Err (Unexpected line.line)

-- The type of this last step, or `Given` if there is none.
abbrev pub type_of_last : Option StepValue → StepType
type_of_last None = Given
type_of_last (Some step) = step.step_type

-- The type of the last of these steps, or `Given` if there is none.
abbrev pub last_type : List StepValue → StepType
last_type steps = type_of_last (last_or None steps)

-- These steps with a row under this last one, or the row's fault. There is no row before the first step.
abbrev pub row_under_last : Option StepValue → List StepValue → LineValue → Result (List StepValue) ReadFault
row_under_last None steps line = Err (Unexpected line.line)
row_under_last (Some step) steps line = on_block step.block line >>= λ block. Ok (with_last (with_block step block) steps)

-- These steps after a line, or the line's fault.
unfoldable pub on_steps : List StepValue → LineValue → Class → Result (List StepValue) ReadFault
on_steps steps line StepLine = Ok (steps ++ step_from (last_type steps) line ∷ [])
on_steps steps line RowLine = row_under_last (last_or None steps) steps line
on_steps steps line _ = Err (Unexpected line.line)

-- The steps of a background or a scenario after a line. Lines of a description may come before the first step.
unfoldable pub on_body : List StepValue → LineValue → Class → Result (List StepValue) ReadFault
on_body [] line RowLine = Ok []
on_body [] line (FenceLine fence) = Ok []
on_body [] line Other = Ok []
on_body steps line class = on_steps steps line class

-- A row of examples.
abbrev pub row_from : LineValue → List (List ℕ) → RowValue
row_from line cells = record { line = line.line; cells = cells }

-- Examples with this header and these rows.
abbrev pub with_table : ExamplesValue → List (List ℕ) → List RowValue → ExamplesValue
with_table e header rows = record { name = e.name; line = e.line; tags = e.tags; header = header; rows = rows }

-- Examples with this header and a row under it, or the row's fault. If there is no header, the row is the header.
abbrev pub row_in : List (List ℕ) → ExamplesValue → LineValue → Result ExamplesValue ReadFault
row_in [] e line = on_row None line >>= λ cells. Ok (with_table e cells e.rows)
row_in (cell ∷ cells) e line = on_row (Some (length (cell ∷ cells))) line >>= λ found. Ok (with_table e e.header (e.rows ++ row_from line found ∷ []))

-- Examples with a line of their description. After the header there is none.
abbrev pub described_in : List (List ℕ) → ExamplesValue → LineValue → Result ExamplesValue ReadFault
described_in [] e line = Ok e
described_in (cell ∷ cells) e line = Err (Unexpected line.line)

-- Examples after a line, or the line's fault.
unfoldable pub on_examples : ExamplesValue → LineValue → Class → Result ExamplesValue ReadFault
on_examples e line RowLine = row_in e.header e line
on_examples e line StepLine = described_in e.header e line
on_examples e line (FenceLine fence) = described_in e.header e line
on_examples e line Other = described_in e.header e line
on_examples e line _ = Err (Unexpected line.line)

-- A scenario with these steps.
abbrev pub with_steps : ScenarioValue → List StepValue → ScenarioValue
with_steps s steps = record { keyword = s.keyword; name = s.name; line = s.line; tags = s.tags; steps = steps; examples = s.examples }

-- A scenario with these examples.
abbrev pub with_examples : ScenarioValue → List ExamplesValue → ScenarioValue
with_examples s examples = record { keyword = s.keyword; name = s.name; line = s.line; tags = s.tags; steps = s.steps; examples = examples }

-- A scenario with these last examples after a line, or the line's fault.
abbrev pub in_examples : Option ExamplesValue → ScenarioValue → LineValue → Class → Result ScenarioValue ReadFault
in_examples None s line class = on_body s.steps line class >>= λ steps. Ok (with_steps s steps)
in_examples (Some e) s line class = on_examples e line class >>= λ e. Ok (with_examples s (with_last e s.examples))

-- A scenario after a line, or the line's fault.
abbrev pub on_scenario : ScenarioValue → LineValue → Class → Result ScenarioValue ReadFault
on_scenario s line class = in_examples (last_or None s.examples) s line class

-- A background with these steps.
abbrev pub background_with : BackgroundValue → List StepValue → BackgroundValue
background_with b steps = record { line = b.line; steps = steps }

-- The background of a feature or a rule after a line, or the line's fault. Lines of a description may come before the background.
unfoldable pub on_background : Option BackgroundValue → LineValue → Class → Result (Option BackgroundValue) ReadFault
on_background None line BackgroundHeading = Ok (Some (record { line = line.line; steps = [] }))
on_background None line StepLine = Ok None
on_background None line RowLine = Ok None
on_background None line (FenceLine fence) = Ok None
on_background None line Other = Ok None
on_background None line _ = Err (Unexpected line.line)
on_background (Some b) line class = on_body b.steps line class >>= λ steps. Ok (Some (background_with b steps))

-- Children with this background.
abbrev pub with_background : ChildrenValue → Option BackgroundValue → ChildrenValue
with_background children background = record { background = background; scenarios = children.scenarios }

-- Children with these scenarios.
abbrev pub with_scenarios : ChildrenValue → List ScenarioValue → ChildrenValue
with_scenarios children scenarios = record { background = children.background; scenarios = scenarios }

-- Children with this last scenario after a line, or the line's fault.
abbrev pub in_scenario : Option ScenarioValue → ChildrenValue → LineValue → Class → Result ChildrenValue ReadFault
in_scenario None children line class = on_background children.background line class >>= λ background. Ok (with_background children background)
in_scenario (Some s) children line class = on_scenario s line class >>= λ s. Ok (with_scenarios children (with_last s children.scenarios))

-- Children after a line that takes no tags, or the line's fault.
abbrev pub on_children : ChildrenValue → LineValue → Class → Result ChildrenValue ReadFault
on_children children line class = in_scenario (last_or None children.scenarios) children line class

-- The scenario that a heading begins, with these tags.
abbrev pub scenario_from : List (List ℕ) → LineValue → ScenarioValue
scenario_from tags line = record { keyword = heading_keyword line; name = heading_name line; line = line.line; tags = tags; steps = []; examples = [] }

-- The examples that a heading begins, with these tags.
abbrev pub examples_from : List (List ℕ) → LineValue → ExamplesValue
examples_from tags line = record { name = heading_name line; line = line.line; tags = tags; header = []; rows = [] }

-- Scenarios with examples under this last one, or the fault of the heading of examples. There are none before the first scenario.
abbrev pub examples_under : Option ScenarioValue → List ScenarioValue → List (List ℕ) → LineValue → Result (List ScenarioValue) ReadFault
examples_under None scenarios tags line = Err (Unexpected line.line)
examples_under (Some s) scenarios tags line = Ok (with_last (with_examples s (s.examples ++ examples_from tags line ∷ [])) scenarios)

-- Scenarios after a heading with these tags, or its fault.
unfoldable pub heading_in : List ScenarioValue → List (List ℕ) → LineValue → Class → Result (List ScenarioValue) ReadFault
heading_in scenarios tags line ScenarioHeading = Ok (scenarios ++ scenario_from tags line ∷ [])
heading_in scenarios tags line ExamplesHeading = examples_under (last_or None scenarios) scenarios tags line
heading_in scenarios tags line _ = Err (Unexpected line.line)

-- Whether a step has no block yet.
abbrev pub is_empty : BlockValue → Bool
is_empty Empty = true
is_empty _ = false

-- Whether a doc string is allowed under this last step.
abbrev pub takes_text_under : Option StepValue → Bool
takes_text_under None = false
takes_text_under (Some step) = is_empty step.block

-- Whether a doc string is allowed under the last of these steps.
abbrev pub steps_take_text : List StepValue → Bool
steps_take_text steps = takes_text_under (last_or None steps)

-- These steps with this doc string under this last one.
abbrev pub text_under_last : Option StepValue → List StepValue → List ℕ → List StepValue
text_under_last None steps text = steps
text_under_last (Some step) steps text = with_last (with_block step (Text text)) steps

-- These steps with this doc string under the last of them.
abbrev pub steps_with_text : List StepValue → List ℕ → List StepValue
steps_with_text steps text = text_under_last (last_or None steps) steps text

-- Whether a doc string is allowed under the steps of a scenario with these examples.
abbrev pub scenario_takes_text : List ExamplesValue → ScenarioValue → Bool
scenario_takes_text [] s = steps_take_text s.steps
scenario_takes_text (e ∷ examples) s = false

-- Whether a doc string is allowed under the steps of this background.
abbrev pub background_takes_text : Option BackgroundValue → Bool
background_takes_text None = false
background_takes_text (Some b) = steps_take_text b.steps

-- Whether a doc string is allowed under the last step of children with this last scenario.
abbrev pub last_takes_text : Option ScenarioValue → ChildrenValue → Bool
last_takes_text None children = background_takes_text children.background
last_takes_text (Some s) children = scenario_takes_text s.examples s

-- Whether a doc string is allowed under the last step of children.
abbrev pub children_take_text : ChildrenValue → Bool
children_take_text children = last_takes_text (last_or None children.scenarios) children

-- A background with this doc string under its last step.
abbrev pub background_with_text : List ℕ → BackgroundValue → BackgroundValue
background_with_text text b = background_with b (steps_with_text b.steps text)

-- Children with this doc string under the last step of this last scenario, or of the background if there is no scenario.
abbrev pub last_with_text : Option ScenarioValue → ChildrenValue → List ℕ → ChildrenValue
last_with_text None children text = with_background children (option_map (background_with_text text) children.background)
last_with_text (Some s) children text = with_scenarios children (with_last (with_steps s (steps_with_text s.steps text)) children.scenarios)

-- Children with this doc string under their last step.
abbrev pub children_with_text : ChildrenValue → List ℕ → ChildrenValue
children_with_text children text = last_with_text (last_or None children.scenarios) children text
