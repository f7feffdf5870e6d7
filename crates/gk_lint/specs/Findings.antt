-- Findings, their texts and their order.
use Rattle.std.specs.Prelude.{codes, ◌≡◌, ℕ, Bool, ◌==◌, List, [], ◌∷◌, ◌++◌, map, filter, flat_map, Option, Some, None, if◌then◌else◌}
use Rattle.std.specs.List.Sorted.{IsNonDecreasingBy}
use Rattle.gk_lint.specs.declared.findings.Finding.{Finding}
use Rattle.gk_lint.specs.declared.findings.FindingKind.{FindingKind}
use Rattle.gk_lint.specs.declared.findings.FindingKind.TheVariants.{CrAlone, FileWithoutFeature, FeatureWithoutScenarios, ScenarioWithoutSteps, OutlineWithoutRows, LikeKeyword, StepOutside, NameTwice, NoColumn, UndefinedStep, CleanupWithoutStep, OfStep, UnusedEntry, HookOfNoTag}
use Rattle.gk_lint.specs.declared.findings.Hint.{Hint}
use Rattle.gk_lint.specs.declared.findings.Hint.TheVariants as hints
use Rattle.gk_lint.specs.declared.step_faults.StepFault.{StepFault}
use Rattle.gk_gherkin.specs.Keyword.{spelling}
use Rattle.gk_steps.specs.Finding.{EntryValue, entry_value}
use Rattle.gk_lint.specs.StepFaults.{fault_text, has_fault}

-- What the author of a line may have meant: nothing that is known, a column of the outline, an entry that the text finds as a step of another type, or the nearest entry.
pub data HintValue : Type 0 where
  Nothing : HintValue
  Column : List ℕ → HintValue
  OtherType : EntryValue → HintValue
  Nearest : EntryValue → HintValue

-- The value of a `Hint`.
abbrev pub hint_value : Hint → HintValue
hint_value hints.Nothing = Nothing
hint_value (hints.Column text) = Column text.now
hint_value (hints.OtherType entry) = OtherType (entry_value entry.now)
hint_value (hints.Nearest entry) = Nearest (entry_value entry.now)

-- A finding: its line, its kind and its hint.
pub record FindingValue : Type 0 where
  pub line : ℕ
  pub kind : FindingKind
  pub hint : HintValue

-- The value of a `Finding`.
abbrev pub finding_value : Finding → FindingValue
finding_value f = record { line = f.line; kind = f.kind; hint = hint_value f.hint }

-- The values of findings, in order.
abbrev pub finding_values : List Finding → List FindingValue
finding_values findings = map finding_value findings

-- A finding at a line, without a hint.
abbrev pub at_line : ℕ → FindingKind → FindingValue
at_line line kind = record { line = line; kind = kind; hint = Nothing }

-- A finding at a line if a test holds, and otherwise none.
abbrev pub found_if : Bool → ℕ → FindingKind → List FindingValue
found_if holds line kind = if holds then at_line line kind ∷ [] else []

-- The finding at a line with this hint, if there is one.
abbrev pub with_hint : ℕ → FindingKind → Option HintValue → List FindingValue
with_hint line kind None = []
with_hint line kind (Some hint) = record { line = line; kind = kind; hint = hint } ∷ []

-- The findings at a line with some faults: one for each fault of `these` that is among `faults`, even if it is there several times.
abbrev pub named_once : List StepFault → ℕ → List StepFault → List FindingValue
named_once these line faults = flat_map (λ fault. found_if (has_fault faults fault) line (OfStep fault)) these

-- The text of a finding. It names a keyword by its correct spelling.
unfoldable pub finding_text : FindingKind → List ℕ
finding_text CrAlone = codes "file whose lines end with CR alone"
finding_text FileWithoutFeature = codes "file without feature"
finding_text FeatureWithoutScenarios = codes "feature without scenarios"
finding_text ScenarioWithoutSteps = codes "scenario without steps"
finding_text OutlineWithoutRows = codes "outline without rows"
finding_text StepOutside = codes "step outside of a scenario"
finding_text NameTwice = codes "scenario with the name of one before it"
finding_text NoColumn = codes "placeholder that no column has"
finding_text UndefinedStep = codes "undefined step"
finding_text CleanupWithoutStep = codes "cleanup without step"
finding_text (OfStep fault) = fault_text fault
finding_text HookOfNoTag = codes "hook for a tag that isn't used"
finding_text UnusedEntry = codes "entry that no step finds"
finding_text (LikeKeyword keyword) = codes "description begins like the keyword " ++ spelling keyword

-- The same findings in the order of their lines: the line numbers never decrease, and each line has the same findings in the same order.
pub record AreInOrder (findings ordered : List FindingValue) : Type 0 where
  pub by_line : IsNonDecreasingBy (λ (f : FindingValue). f.line) ordered
  pub of_each_line : (n : ℕ) → filter (λ (f : FindingValue). f.line == n) ordered ≡ filter (λ (f : FindingValue). f.line == n) findings
