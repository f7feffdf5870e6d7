-- The inputs that a request spells.
use Rattle.std.specs.Prelude.{◌≡◌, ◌≤◌, ℕ, Bool, true, false, List, [], ◌∷◌, ◌++◌, map, Option, Some, None}
use Rattle.std.specs.List.{AllByRecursion}
use Rattle.gk_gherkin.specs.Lines.{lines_of, IsText}
use Rattle.gk_gherkin.specs.Feature.{FeatureValue, RuleValue}
use Rattle.gk_gherkin.specs.Grammar.{Reads}
use Rattle.gk_gherkin.specs.Hooks.{HookValue, hooks_value}
use Rattle.gk_gherkin.specs.HooksGrammar.{ReadsHooks}
use Rattle.gk_select.specs.Case.{CaseValue}
use Rattle.gk_select.specs.ExampleRows.{ExampleRowValue, outline_rows, row_lists}
use Rattle.gk_select.specs.Expansion.{cases, step_count, step_limit}
use Rattle.gk_select.specs.OwnTags.{with_own_tags}
use Rattle.gk_select.specs.TagGrammar.{Expression}
use Rattle.gk_select.specs.TagRules.{ReadsTags}
use Rattle.gk_select.specs.Choice.{is_chosen}
use Rattle.gk_steps.specs.LibraryFile.{ReadsLibrary}
use Rattle.gk_steps.specs.DefaultFile.{default_text}
use Rattle.gk_steps.specs.Finding.{LibraryValue, library_value}
use Rattle.gk_run.specs.Chosen.{HeadValue, MemberValue, ChosenValue, chosen_value, IsFormed}
use Rattle.gk_request.specs.declared.inputs.ReadBefore.{ReadBefore}
use Rattle.gk_request.specs.declared.inputs.ReadInputs.{ReadInputs}
use Rattle.gk_request.specs.declared.inputs.ReadSources.{ReadSources}
use Rattle.gk_request.specs.Source.{SourceValue}
use Rattle.gk_request.specs.Request.{Request}

-- The inputs of a run: the library, the hooks, and the sources' features with their cases and the choice among them.
pub record Inputs : Type 0 where
  pub library : LibraryValue
  pub hooks : List HookValue
  pub features : List ChosenValue

-- The texts of tags spell these rules, one each, in order. (behave's documentation and Cucumber's reference: tag expressions)
abbrev pub AreRules : List (List ℕ) → List Expression → Type 0
AreRules [] rules = rules ≡ []
AreRules (text ∷ more) rules = (rule : Expression) × (others : List Expression) × ReadsTags text rule × AreRules more others × (rules ≡ rule ∷ others)

-- The library file spells these entries; if none is given, the default library does.
abbrev pub IsLibrary : Option (List ℕ) → LibraryValue → Type 0
IsLibrary None entries = ReadsLibrary (lines_of default_text) entries
IsLibrary (Some bytes) entries = IsText bytes × ReadsLibrary (lines_of bytes) entries

-- The hooks file spells these hooks; if none is given, there are none.
abbrev pub AreHooks : Option (List ℕ) → List HookValue → Type 0
AreHooks None hooks = hooks ≡ []
AreHooks (Some bytes) hooks = IsText bytes × ReadsHooks (lines_of bytes) hooks

-- A case that has only its own tags, with whether it is chosen by all of its tags. (behave's documentation and Cucumber's reference: tag expressions)
abbrev pub member_by : (CaseValue → Bool) → CaseValue → MemberValue
member_by chooses case = record { scenario = with_own_tags case; selected = chooses case }

-- The heading of a rule. (Cucumber's Gherkin reference: rule)
abbrev pub head_of : RuleValue → HeadValue
head_of r = record { line = r.line; tags = r.tags }

-- A feature from a source, with its rules, its cases and the choice among them.
abbrev pub chosen_of : (CaseValue → Bool) → List ℕ → FeatureValue → ChosenValue
chosen_of chooses source f = record { source = source; name = f.name; line = f.line; tags = f.tags; rules = map head_of f.rules; members = map (member_by chooses) (cases f) }

-- The feature of a source before others; a source without one adds nothing.
abbrev pub with_reading : (CaseValue → Bool) → List ℕ → Option FeatureValue → List ChosenValue → List ChosenValue
with_reading chooses source None others = others
with_reading chooses source (Some f) others = chosen_of chooses source f ∷ others

-- The cases of a source's feature, if it has one, have no more steps than the limit.
abbrev pub IsWithinLimit : Option FeatureValue → Type 0
IsWithinLimit None = Unit {0}
IsWithinLimit (Some f) = step_count f ≤ step_limit

-- These bytes are a text whose lines have this reading, within the limit of steps.
pub record IsReadAs (bytes : List ℕ) (reading : Option FeatureValue) : Type 0 where
  pub text : IsText bytes
  pub reads : Reads (lines_of bytes) reading
  pub limit : IsWithinLimit reading

-- The sources read as these features, in order. Each source's bytes are a text whose lines have a reading within the limit of steps.
abbrev pub AreRead : (CaseValue → Bool) → List SourceValue → List ChosenValue → Type 0
AreRead chooses [] features = features ≡ []
AreRead chooses (s ∷ ss) features =
    (reading : Option FeatureValue) × (others : List ChosenValue) × IsReadAs s.bytes reading × AreRead chooses ss others × (features ≡ with_reading chooses s.name reading others)

-- The rows of the cases of a source's feature, before those of others; a source without a feature adds no list.
abbrev pub with_rows : Option FeatureValue → List (List (Option ExampleRowValue)) → List (List (Option ExampleRowValue))
with_rows None others = others
with_rows (Some f) others = outline_rows f ∷ others

-- For each feature that the sources read as, in order, there is a list with the rows of its cases.
abbrev pub AreRowsOf : List SourceValue → List (List (Option ExampleRowValue)) → Type 0
AreRowsOf [] rows = rows ≡ []
AreRowsOf (s ∷ ss) rows =
    (reading : Option FeatureValue) × (others : List (List (Option ExampleRowValue)))
    × Reads (lines_of s.bytes) reading × AreRowsOf ss others × (rows ≡ with_rows reading others)

-- The rows of the sources' cases if they are wanted; otherwise there is no list.
abbrev pub AreRowsIf : Bool → List SourceValue → List (List (Option ExampleRowValue)) → Type 0
AreRowsIf true sources rows = AreRowsOf sources rows
AreRowsIf false sources rows = rows ≡ []

-- The request, apart from its sources, reads as these tag rules, this library and these hooks.
pub record IsReadBefore (r : Request) (before : ReadBefore) : Type 0 where
  pub tags : AreRules r.tags before.rules.items
  pub library : IsLibrary r.library (library_value before.library)
  pub hooks : AreHooks r.hooks (hooks_value before.hooks)

-- The request reads as these inputs.
pub record AreInputs (r : Request) (inputs : Inputs) : Type 0 where
  pub rules : List Expression
  pub tags : AreRules r.tags rules
  pub library : IsLibrary r.library inputs.library
  pub hooks : AreHooks r.hooks inputs.hooks
  pub features : AreRead (is_chosen rules r.lines) r.sources inputs.features

-- A request reads in only one way.
abbrev pub InputsAreUnique : Type 0
InputsAreUnique = (r : Request) (one other : Inputs) → AreInputs r one → AreInputs r other → one ≡ other

-- This text of tags is the first that spells no rule.
pub record IsFirstBadText (tags : List (List ℕ)) (text : List ℕ) : Type 0 where
  pub before : List (List ℕ)
  pub after : List (List ℕ)
  pub whole : tags ≡ before ++ text ∷ after
  pub rules : List Expression
  pub read : AreRules before rules
  pub bad : (rule : Expression) → ReadsTags text rule → ⊥

-- This is the first of the texts of tags that spells no rule, or each spells one.
abbrev pub IsBadText : List (List ℕ) → Option (List ℕ) → Type 0
IsBadText tags (Some text) = IsFirstBadText tags text
IsBadText tags None = (rules : List Expression) × AreRules tags rules

-- The value of a `ReadInputs`.
abbrev pub inputs_value : ReadInputs → Inputs
inputs_value inputs = record { library = library_value inputs.library; hooks = hooks_value inputs.hooks; features = map chosen_value inputs.features.items }

-- Proof machinery, from here on: rows of outlines after one more source, whose feature has these if they are wanted.
abbrev pub rows_onto : Bool → Option FeatureValue → List (List (Option ExampleRowValue)) → List (List (Option ExampleRowValue))
rows_onto true reading rows = rows ++ with_rows reading []
rows_onto false reading rows = rows

-- A source reads, and its feature, if it has one, is added after the others, with the rows of its cases if they are wanted.
pub record IsReadOnto (chooses : CaseValue → Bool) (wanted : Bool) (source : SourceValue) (old new : ReadSources) : Type 0 where
  pub reading : Option FeatureValue
  pub read : IsReadAs source.bytes reading
  pub added : map chosen_value new.features.items ≡ map chosen_value old.features.items ++ with_reading chooses source.name reading []
  pub rows : row_lists new.rows.items ≡ rows_onto wanted reading (row_lists old.rows.items)
  pub formed : AllByRecursion IsFormed old.features.items → AllByRecursion IsFormed new.features.items
