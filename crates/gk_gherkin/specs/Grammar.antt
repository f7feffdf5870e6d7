-- The grammar of a feature file. Each part is a relation between three things: the lines from its beginning on, what the part says, and the lines after it.
-- Blank lines and comments are allowed before, between and after the pieces of a part. In a doc string every line is content.
use Rattle.std.specs.Prelude.{◌≡◌, ◌↔◌, ◌⊎◌, ℕ, true, false, List, [], ◌∷◌, ◌++◌, length, map, Option, Some, None}
use Rattle.std.specs.List.{AllByRecursion}
use Rattle.gk_gherkin.specs.Lines.{LineValue, Lines}
use Rattle.gk_gherkin.specs.declared.class.Class.{Class}
use Rattle.gk_gherkin.specs.declared.class.Class.TheVariants.{Blank, Comment, TagLine, FeatureHeading, RuleHeading, BackgroundHeading, ScenarioHeading, ExamplesHeading, StepLine, RowLine, FenceLine, Other}
use Rattle.gk_gherkin.specs.declared.class.Fence.{Fence}
use Rattle.gk_gherkin.specs.Class.{class, heading_keyword, heading_name, step_keyword, step_text}
use Rattle.gk_gherkin.specs.Tags.{tags_of}
use Rattle.gk_gherkin.specs.Rows.{cells_of}
use Rattle.gk_gherkin.specs.DocStrings.{closes, doc_string}
use Rattle.gk_gherkin.specs.Language.{language_of, IsEnglishOrNone}
use Rattle.gk_gherkin.specs.StepTypes.{AreTyped}
use Rattle.gk_gherkin.specs.Feature.{BlockValue, Empty, Text, Table, StepValue, RowValue, ExamplesValue, BackgroundValue, ScenarioValue, RuleValue, FeatureValue, ContainerValue, rule_container, feature_container}

-- The classes of ignored lines: blank lines and comments. (Cucumber's Gherkin reference: comments)
abbrev pub IsIgnoredClass : Class → Type 0
IsIgnoredClass Blank = Unit {0}
IsIgnoredClass Comment = Unit {0}
IsIgnoredClass _ = ⊥

-- An ignored line: a blank line or a comment. (Cucumber's Gherkin reference: comments)
abbrev pub IsIgnored : LineValue → Type 0
IsIgnored line = IsIgnoredClass (class line)

-- A line that is ignored above the Feature line. A comment there names no language other than English. (this project's profile)
abbrev pub IsIgnoredAbove : LineValue → Type 0
IsIgnoredAbove line = IsIgnored line × IsEnglishOrNone (language_of line)

-- Any number of ignored lines.
pub data Skips (Ignored : LineValue → Type 0) : Lines → Lines → Type 0 where
  skip_none : {ls : Lines} → Skips Ignored ls ls
  skip : {l : LineValue} {ls rest : Lines} → Ignored l → Skips Ignored ls rest → Skips Ignored (l ∷ ls) rest

-- One line, after any number of ignored lines.
abbrev pub Next : (LineValue → Type 0) → Lines → LineValue → Lines → Type 0
Next Ignored ls line rest = Skips Ignored ls (line ∷ rest)

-- X*: any number of parts of one shape, one after another.
pub data Many {A : Type 0} (Part : Lines → A → Lines → Type 0) : Lines → List A → Lines → Type 0 where
  none : {ls : Lines} → Many Part ls [] ls
  more : {ls mid rest : Lines} {x : A} {xs : List A} → Part ls x mid → Many Part mid xs rest → Many Part ls (x ∷ xs) rest

-- An optional X, [X]: a part, or nothing.
abbrev pub Perhaps : {A : Type 0} → (Lines → A → Lines → Type 0) → Lines → Option A → Lines → Type 0
Perhaps Part ls None rest = ls ≡ rest
Perhaps Part ls (Some x) rest = Part ls x rest

-- A tag line whose words before any comment are all tags. (Cucumber's Gherkin reference: tags)
pub record IsTagLine (Ignored : LineValue → Type 0) (ls : Lines) (tags : List (List ℕ)) (rest : Lines) : Type 0 where
  pub line : LineValue
  pub next : Next Ignored ls line rest
  pub is : class line ≡ TagLine
  pub words : tags_of line ≡ Some tags

-- Tags = tags*: any number of tag lines, with their tags joined. (Cucumber's Gherkin reference: tags)
pub data AreTags (Ignored : LineValue → Type 0) : Lines → List (List ℕ) → Lines → Type 0 where
  untagged : {ls : Lines} → AreTags Ignored ls [] ls
  tagged : {ls mid rest : Lines} {some others : List (List ℕ)} → IsTagLine Ignored ls some mid → AreTags Ignored mid others rest → AreTags Ignored ls (some ++ others) rest

-- A heading of the class `kind`. (Cucumber's Gherkin reference: keywords)
pub record IsHeading (Ignored : LineValue → Type 0) (kind : Class) (ls : Lines) (line : LineValue) (rest : Lines) : Type 0 where
  pub next : Next Ignored ls line rest
  pub is : class line ≡ kind

-- A heading of the class `kind`, with the tags above it. (Cucumber's Gherkin reference: tags)
pub record IsTaggedHeading (Ignored : LineValue → Type 0) (kind : Class) (ls : Lines) (tags : List (List ℕ)) (line : LineValue) (rest : Lines) : Type 0 where
  pub after_tags : Lines
  pub above : AreTags Ignored ls tags after_tags
  pub heading : IsHeading Ignored kind after_tags line rest

-- DescA: the classes of lines allowed in the description of a feature or a rule. (Cucumber's Gherkin reference: descriptions; that steps, rows and fences are is this project's profile)
abbrev pub MayDescribeFeature : Class → Type 0
MayDescribeFeature StepLine = Unit {0}
MayDescribeFeature RowLine = Unit {0}
MayDescribeFeature (FenceLine fence) = Unit {0}
MayDescribeFeature Other = Unit {0}
MayDescribeFeature _ = ⊥

-- DescB: the classes of lines allowed in the description of a background or a scenario. (as for DescA)
abbrev pub MayDescribeScenario : Class → Type 0
MayDescribeScenario RowLine = Unit {0}
MayDescribeScenario (FenceLine fence) = Unit {0}
MayDescribeScenario Other = Unit {0}
MayDescribeScenario _ = ⊥

-- DescC: the classes of lines allowed in the description of examples. (as for DescA)
abbrev pub MayDescribeExamples : Class → Type 0
MayDescribeExamples StepLine = Unit {0}
MayDescribeExamples (FenceLine fence) = Unit {0}
MayDescribeExamples Other = Unit {0}
MayDescribeExamples _ = ⊥

-- A description: any number of lines of the classes allowed in it. Its lines aren't kept, and a fence opens nothing here. (Cucumber's Gherkin reference: descriptions)
pub data Describes (May : Class → Type 0) : Lines → Lines → Type 0 where
  described : {ls : Lines} → Describes May ls ls
  describe : {l : LineValue} {ls mid rest : Lines} → Next IsIgnored ls l mid → May (class l) → Describes May mid rest → Describes May ls rest

-- A row. (Cucumber's Gherkin reference: data tables)
pub record IsRow (ls : Lines) (row : RowValue) (rest : Lines) : Type 0 where
  pub line : LineValue
  pub next : Next IsIgnored ls line rest
  pub is : class line ≡ RowLine
  pub number : row.line ≡ line.line
  pub cells : cells_of line ≡ Some row.cells

-- There is at least one row, and all rows have the same number of cells.
abbrev pub AreOfOneWidth : List RowValue → Type 0
AreOfOneWidth [] = ⊥
AreOfOneWidth (first ∷ others) = AllByRecursion (λ (row : RowValue). length row.cells ≡ length first.cells) others

-- A table: row+. (Cucumber's Gherkin reference: data tables)
pub record IsTable (ls : Lines) (rows : List RowValue) (rest : Lines) : Type 0 where
  pub lines : Many IsRow ls rows rest
  pub width : AreOfOneWidth rows

-- A doc string: fence content* fence. Every line between its opening fence and the first line that closes it is content. (Cucumber's Gherkin reference: doc strings)
pub record IsDocString (ls : Lines) (text : List ℕ) (rest : Lines) : Type 0 where
  pub fence : Fence
  pub opening : LineValue
  pub content : Lines
  pub closing : LineValue
  pub next : Next IsIgnored ls opening (content ++ closing ∷ rest)
  pub is : class opening ≡ FenceLine fence
  pub inside : AllByRecursion (λ line. closes fence line ≡ false) content
  pub closed : closes fence closing ≡ true
  pub says : text ≡ doc_string fence opening content

-- The block under a step: nothing, a table or a doc string. (Cucumber's Gherkin reference: step arguments)
abbrev pub IsBlock : Lines → BlockValue → Lines → Type 0
IsBlock ls Empty rest = ls ≡ rest
IsBlock ls (Text text) rest = IsDocString ls text rest
IsBlock ls (Table cells) rest = (rows : List RowValue) × IsTable ls rows rest × (cells ≡ map (λ row. row.cells) rows)

-- A step's line: its keyword, its text and its number. The step's type depends on the steps before it; see `AreSteps`. (Cucumber's Gherkin reference: steps)
pub record IsStepLine (ls : Lines) (step : StepValue) (rest : Lines) : Type 0 where
  pub line : LineValue
  pub next : Next IsIgnored ls line rest
  pub is : class line ≡ StepLine
  pub keyword : step.keyword ≡ step_keyword line
  pub text : step.text ≡ step_text line
  pub number : step.line ≡ line.line

-- StepPart = step, or step row+, or step fence content* fence. (Cucumber's Gherkin reference: steps)
pub record IsStep (ls : Lines) (step : StepValue) (rest : Lines) : Type 0 where
  pub after_line : Lines
  pub line : IsStepLine ls step after_line
  pub block : IsBlock after_line step.block rest

-- StepPart*: consecutive steps, each with its type. (Cucumber's Gherkin reference: steps)
pub record AreSteps (ls : Lines) (steps : List StepValue) (rest : Lines) : Type 0 where
  pub parts : Many IsStep ls steps rest
  pub types : AreTyped steps

-- Back = Background DescB StepPart*. (Cucumber's Gherkin reference: background)
pub record IsBackground (ls : Lines) (background : BackgroundValue) (rest : Lines) : Type 0 where
  pub line : LineValue
  pub after_heading : Lines
  pub after_description : Lines
  pub heading : IsHeading IsIgnored BackgroundHeading ls line after_heading
  pub number : background.line ≡ line.line
  pub description : Describes MayDescribeScenario after_heading after_description
  pub steps : AreSteps after_description background.steps rest

-- The table under an Examples heading, if there is one: [row+]. Its first row is the header. (Cucumber's Gherkin reference: examples)
abbrev pub HasTable : Lines → List (List ℕ) → List RowValue → Lines → Type 0
HasTable ls header rows rest =
    ((header ≡ []) × (rows ≡ []) × (ls ≡ rest))
    ⊎ ((first : RowValue) × (header ≡ first.cells) × IsTable ls (first ∷ rows) rest)

-- ExPart = Tags Examples DescC [row+]. (Cucumber's Gherkin reference: examples)
pub record AreExamples (ls : Lines) (examples : ExamplesValue) (rest : Lines) : Type 0 where
  pub line : LineValue
  pub after_heading : Lines
  pub after_description : Lines
  pub heading : IsTaggedHeading IsIgnored ExamplesHeading ls examples.tags line after_heading
  pub name : examples.name ≡ heading_name line
  pub number : examples.line ≡ line.line
  pub description : Describes MayDescribeExamples after_heading after_description
  pub table : HasTable after_description examples.header examples.rows rest

-- Scen = Tags ScenarioOrOutline DescB StepPart* ExPart*. (Cucumber's Gherkin reference: example, scenario outline)
pub record IsScenario (ls : Lines) (scenario : ScenarioValue) (rest : Lines) : Type 0 where
  pub line : LineValue
  pub after_heading : Lines
  pub after_description : Lines
  pub after_steps : Lines
  pub heading : IsTaggedHeading IsIgnored ScenarioHeading ls scenario.tags line after_heading
  pub keyword : scenario.keyword ≡ heading_keyword line
  pub name : scenario.name ≡ heading_name line
  pub number : scenario.line ≡ line.line
  pub description : Describes MayDescribeScenario after_heading after_description
  pub steps : AreSteps after_description scenario.steps after_steps
  pub examples : Many AreExamples after_steps scenario.examples rest

-- Tags Heading DescA [Back] Scen*: a container under a heading of the class `kind`. (Cucumber's Gherkin reference: feature, rule)
pub record IsContainer (Ignored : LineValue → Type 0) (kind : Class) (ls : Lines) (container : ContainerValue) (rest : Lines) : Type 0 where
  pub line : LineValue
  pub after_heading : Lines
  pub after_description : Lines
  pub after_background : Lines
  pub heading : IsTaggedHeading Ignored kind ls container.tags line after_heading
  pub name : container.name ≡ heading_name line
  pub number : container.line ≡ line.line
  pub description : Describes MayDescribeFeature after_heading after_description
  pub background : Perhaps IsBackground after_description container.background after_background
  pub scenarios : Many IsScenario after_background container.scenarios rest

-- RulePart = Tags Rule DescA [Back] Scen*. (Cucumber's Gherkin reference: rule)
abbrev pub IsRule : Lines → RuleValue → Lines → Type 0
IsRule ls rule rest = IsContainer IsIgnored RuleHeading ls (rule_container rule) rest

-- Tags Feature DescA [Back] Scen* RulePart*. (Cucumber's Gherkin reference: feature)
pub record IsFeature (ls : Lines) (feature : FeatureValue) (rest : Lines) : Type 0 where
  pub after_scenarios : Lines
  pub container : IsContainer IsIgnoredAbove FeatureHeading ls (feature_container feature) after_scenarios
  pub rules : Many IsRule after_scenarios feature.rules rest

-- File = nothing, or one feature. (Cucumber's Gherkin reference: feature)
abbrev pub Reads : Lines → Option FeatureValue → Type 0
Reads ls None = Skips IsIgnoredAbove ls []
Reads ls (Some feature) = (tail : Lines) × IsFeature ls feature tail × Skips IsIgnored tail []

-- A readable list of lines: it has a reading.
abbrev pub IsReadable : Lines → Type 0
IsReadable ls = (feature : Option FeatureValue) × Reads ls feature

-- Reading a part is concatenation: `Part` leads from `ls` to `rest` exactly if `ls` is some lines `own` followed by `rest`, and `Part` leads from `own` to no lines.
abbrev pub IsConcatenation : {A : Type 0} → (Lines → A → Lines → Type 0) → Type 0
IsConcatenation {A} Part = (ls rest : Lines) (x : A) → Part ls x rest ↔ ((own : Lines) × (ls ≡ own ++ rest) × Part own x [])

-- No list of lines has two readings.
abbrev pub HasOneReading : Type 0
HasOneReading = (ls : Lines) (one other : Option FeatureValue) → Reads ls one → Reads ls other → one ≡ other
