-- The findings of sources.
use Rattle.std.specs.Prelude.{◌≡◌, ℕ, Bool, List, [], ◌∷◌, ◌++◌, map, flat_map, Option, Some, None, option_to_list, string_bytes, if◌then◌else◌}
use Rattle.std.specs.Str.Lines.{lines}
use Rattle.gk_gherkin.specs.Lines.{without_mark}
use Rattle.gk_gherkin.specs.Feature.{FeatureValue, feature_value}
use Rattle.gk_select.specs.Case.{CaseValue}
use Rattle.gk_select.specs.Expansion.{IsExpandable}
use Rattle.gk_lint.specs.Findings.{AreInOrder, FindingValue}
use Rattle.gk_lint.specs.FeatureFile.{file_findings}
use Rattle.gk_lint.specs.WrittenSteps.{WrittenStep, of_feature, found_in, used_in}
use Rattle.gk_findings.specs.declared.linted_sources.LintSoFar.{LintSoFar}
use Rattle.gk_request.specs.declared.run_fault.RunFault.{RunFault}
use Rattle.gk_request.specs.Source.{SourceValue}
use Rattle.gk_request.specs.Inputs.{IsReadAs}
use Rattle.gk_request.specs.RunFault.{SaysSources}
use Rattle.gk_findings.specs.FindingLines.{NotedLibraryValue, noted_lines}

-- The features among the readings of sources.
abbrev pub features_in : List (Option FeatureValue) → List FeatureValue
features_in readings = flat_map option_to_list readings

-- The steps that are looked up, of these: all or none.
abbrev pub looked_up : Bool → List WrittenStep → List WrittenStep
looked_up steps written = if steps then written else []

-- The findings of the steps of a feature, if there is one.
abbrev pub step_findings : NotedLibraryValue → Option FeatureValue → List FindingValue
step_findings library None = []
step_findings library (Some f) = found_in library.entries (looked_up library.steps (of_feature f))

-- The places of the entries that the steps of features use.
abbrev pub used_by : NotedLibraryValue → List FeatureValue → List ℕ
used_by library features = flat_map (λ (f : FeatureValue). used_in library.entries (looked_up library.steps (of_feature f))) features

-- The findings of a source with this reading and these lines: those of its file, and those of its steps.
abbrev pub source_findings : NotedLibraryValue → Option FeatureValue → List (List ℕ) → List FindingValue
source_findings library reading lines = file_findings reading lines ++ step_findings library reading

-- A source has this reading, and this is the text of all its findings with their notes, in the order of lines.
pub record IsLintedAs (library : NotedLibraryValue) (source : SourceValue) (reading : Option FeatureValue) (text : List ℕ) : Type 0 where
  pub read : IsReadAs source.bytes reading
  pub ordered : List FindingValue
  pub in_order : AreInOrder (source_findings library reading (lines (without_mark source.bytes))) ordered
  pub whole : text ≡ noted_lines library.name source.name (lines (without_mark source.bytes)) ordered

-- Sources have these readings, one each, and this is the text of their findings, one source after the other.
abbrev pub AreLinted : NotedLibraryValue → List SourceValue → List (Option FeatureValue) → List ℕ → Type 0
AreLinted library [] readings text = (readings ≡ []) × (text ≡ [])
AreLinted library (s ∷ ss) readings text =
    (reading : Option FeatureValue) × (others : List (Option FeatureValue)) × (this later : List ℕ)
    × IsLintedAs library s reading this × AreLinted library ss others later × (readings ≡ reading ∷ others) × (text ≡ this ++ later)

-- Proof machinery, from here on: what a `LintSoFar` has of these sources.
pub record IsLintOf (library : NotedLibraryValue) (sources : List SourceValue) (l : LintSoFar) : Type 0 where
  pub readings : List (Option FeatureValue)
  pub linted : AreLinted library sources readings (string_bytes l.text)
  pub features : map feature_value l.features.items ≡ features_in readings
  pub used : l.used.items ≡ used_by library (features_in readings)

-- The text of a source with this reading was appended to another one.
pub record IsAppended (library : NotedLibraryValue) (source : SourceValue) (reading : Option FeatureValue) (old new : List ℕ) : Type 0 where
  pub this : List ℕ
  pub linted : IsLintedAs library source reading this
  pub text : new ≡ old ++ this

-- A source was linted after others.
pub record IsLintedOnto (library : NotedLibraryValue) (source : SourceValue) (old new : LintSoFar) : Type 0 where
  pub reading : Option FeatureValue
  pub text : IsAppended library source reading (string_bytes old.text) (string_bytes new.text)
  pub features : map feature_value new.features.items ≡ map feature_value old.features.items ++ option_to_list reading
  pub used : new.used.items ≡ old.used.items ++ used_by library (option_to_list reading)

-- Whichever cases are chosen, this is the fault of the sources.
abbrev pub SaysOfSources : List SourceValue → RunFault → Type 0
SaysOfSources sources fault = (chooses : CaseValue → Bool) → SaysSources chooses sources fault

-- The feature of a source, if there is one, can be expanded.
abbrev pub AreExpandable : Option FeatureValue → Type 0
AreExpandable None = Unit {0}
AreExpandable (Some f) = IsExpandable f
