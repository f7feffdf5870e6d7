-- The contents of a feature file as plain values. Texts are lists of bytes. Tags include their `@`, and keywords don't include their colon.
use Rattle.std.specs.Prelude.{ℕ, List, map, Option, option_map, String, Vec}
use Rattle.std.specs.String.{string_bytes}
use Rattle.gk_gherkin.specs.declared.feature.StepType.{StepType}
use Rattle.gk_gherkin.specs.declared.feature.Block.{Block}
use Rattle.gk_gherkin.specs.declared.feature.Block.TheVariants as blocks
use Rattle.gk_gherkin.specs.declared.feature.Step.{Step}
use Rattle.gk_gherkin.specs.declared.feature.Row.{Row}
use Rattle.gk_gherkin.specs.declared.feature.Examples.{Examples}
use Rattle.gk_gherkin.specs.declared.feature.Background.{Background}
use Rattle.gk_gherkin.specs.declared.feature.Scenario.{Scenario}
use Rattle.gk_gherkin.specs.declared.feature.Rule.{Rule}
use Rattle.gk_gherkin.specs.declared.feature.Feature.{Feature}
use Rattle.gk_gherkin.specs.Keyword.{keyword_text}

-- The block under a step: nothing, the text of a doc string, or the cells of a table. (Cucumber's Gherkin reference: step arguments)
pub data BlockValue : Type 0 where
  Empty : BlockValue
  Text : List ℕ → BlockValue
  Table : List (List (List ℕ)) → BlockValue

-- A step. (Cucumber's Gherkin reference: steps)
pub record StepValue : Type 0 where
  pub keyword : List ℕ
  pub step_type : StepType
  pub text : List ℕ
  pub block : BlockValue
  pub line : ℕ

-- A row of a table. (Cucumber's Gherkin reference: data tables)
pub record RowValue : Type 0 where
  pub line : ℕ
  pub cells : List (List ℕ)

-- Examples: a header and the rows under it. If there is no table, the header has no cells and there are no rows. (Cucumber's Gherkin reference: examples)
pub record ExamplesValue : Type 0 where
  pub name : List ℕ
  pub line : ℕ
  pub tags : List (List ℕ)
  pub header : List (List ℕ)
  pub rows : List RowValue

-- A scenario or an outline. (Cucumber's Gherkin reference: example, scenario outline)
pub record ScenarioValue : Type 0 where
  pub keyword : List ℕ
  pub name : List ℕ
  pub line : ℕ
  pub tags : List (List ℕ)
  pub steps : List StepValue
  pub examples : List ExamplesValue

-- A background. (Cucumber's Gherkin reference: background)
pub record BackgroundValue : Type 0 where
  pub line : ℕ
  pub steps : List StepValue

-- A rule. (Cucumber's Gherkin reference: rule)
pub record RuleValue : Type 0 where
  pub name : List ℕ
  pub line : ℕ
  pub tags : List (List ℕ)
  pub background : Option BackgroundValue
  pub scenarios : List ScenarioValue

-- A feature. (Cucumber's Gherkin reference: feature)
pub record FeatureValue : Type 0 where
  pub name : List ℕ
  pub line : ℕ
  pub tags : List (List ℕ)
  pub background : Option BackgroundValue
  pub scenarios : List ScenarioValue
  pub rules : List RuleValue

-- A container of a background and scenarios: the common part of features and rules.
pub record ContainerValue : Type 0 where
  pub name : List ℕ
  pub line : ℕ
  pub tags : List (List ℕ)
  pub background : Option BackgroundValue
  pub scenarios : List ScenarioValue

-- A rule as a container. It has nothing more.
abbrev pub rule_container : RuleValue → ContainerValue
rule_container rule = record { name = rule.name; line = rule.line; tags = rule.tags; background = rule.background; scenarios = rule.scenarios }

-- A feature as a container, without its rules.
abbrev pub feature_container : FeatureValue → ContainerValue
feature_container feature = record { name = feature.name; line = feature.line; tags = feature.tags; background = feature.background; scenarios = feature.scenarios }

-- The texts of a list of strings.
abbrev pub texts : {Z : Type 0} → List (String Z) → List (List ℕ)
texts strings = map string_bytes strings

-- The texts of a list of strings, if there is a list.
abbrev pub found_texts : {Y Z : Type 0} → Option (Vec (String Z) Y) → Option (List (List ℕ))
found_texts found = option_map (λ v. texts v.items) found

-- The value of a `Block`.
abbrev pub block_value : Block → BlockValue
block_value blocks.Empty = Empty
block_value (blocks.Text text) = Text (string_bytes text)
block_value (blocks.Table rows) = Table (map (λ row. texts row.items) rows.items)

-- The value of a `Step`.
abbrev pub step_value : Step → StepValue
step_value s = record { keyword = keyword_text s.keyword; step_type = s.step_type; text = string_bytes s.text; block = block_value s.block; line = s.line }

-- The value of a `Row`.
abbrev pub row_value : Row → RowValue
row_value r = record { line = r.line; cells = texts r.cells.items }

-- The value of an `Examples`.
abbrev pub examples_value : Examples → ExamplesValue
examples_value e = record { name = string_bytes e.name; line = e.line; tags = texts e.tags.items; header = texts e.header.items; rows = map row_value e.rows.items }

-- The value of a `Background`.
abbrev pub background_value : Background → BackgroundValue
background_value b = record { line = b.line; steps = map step_value b.steps.items }

-- The value of a `Scenario`.
abbrev pub scenario_value : Scenario → ScenarioValue
scenario_value s = record { keyword = keyword_text s.keyword; name = string_bytes s.name; line = s.line; tags = texts s.tags.items; steps = map step_value s.steps.items; examples = map examples_value s.examples.items }

-- The value of a `Rule`.
abbrev pub rule_value : Rule → RuleValue
rule_value r = record { name = string_bytes r.name; line = r.line; tags = texts r.tags.items; background = option_map background_value r.background; scenarios = map scenario_value r.scenarios.items }

-- The value of a `Feature`.
abbrev pub feature_value : Feature → FeatureValue
feature_value f = record { name = string_bytes f.name; line = f.line; tags = texts f.tags.items; background = option_map background_value f.background; scenarios = map scenario_value f.scenarios.items; rules = map rule_value f.rules.items }
