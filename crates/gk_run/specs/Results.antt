-- The results of running, independent of their place in memory.
use Rattle.std.specs.Prelude.{ℕ, Bool, true, false, List, map, Option, string_bytes}
use Rattle.gk_gherkin.specs.Keyword.{keyword_text}
use Rattle.gk_run.specs.declared.results.Status.{Status}
use Rattle.gk_run.specs.declared.results.Status.TheVariants as statuses
use Rattle.gk_run.specs.declared.results.Reason.{Reason}
use Rattle.gk_run.specs.declared.results.Outcome.{Outcome}
use Rattle.gk_run.specs.declared.results.StepResult.{StepResult}
use Rattle.gk_run.specs.declared.results.CaseResult.{CaseResult}
use Rattle.gk_run.specs.declared.results.RuleResult.{RuleResult}
use Rattle.gk_run.specs.declared.results.FeatureResult.{FeatureResult}

-- The result of a step: its keyword, text and line; its status; and the reason if it failed.
pub record StepRow : Type 0 where
  pub keyword : List ℕ
  pub text : List ℕ
  pub line : ℕ
  pub status : Status
  pub reason : Option Reason

-- The result of a case: its verdict, how its hooks and cleanups ended, the outcome of each cleanup in running order, and its steps.
pub record CaseRow : Type 0 where
  pub keyword : List ℕ
  pub name : List ℕ
  pub line : ℕ
  pub status : Status
  pub around : Status
  pub cleanups : List Outcome
  pub steps : List StepRow

-- The result of a rule without its cases: its line, and how its hooks and cleanups ended.
pub record RuleRow : Type 0 where
  pub line : ℕ
  pub around : Status

-- The result of a feature: its verdict, how its own hooks and cleanups ended, its rules, and its cases in file order.
pub record FeatureRow : Type 0 where
  pub source : List ℕ
  pub name : List ℕ
  pub line : ℕ
  pub status : Status
  pub around : Status
  pub rules : List RuleRow
  pub cases : List CaseRow

-- The results of a run: its features in order, and how its own hooks and cleanups ended.
pub record Results : Type 0 where
  pub features : List FeatureRow
  pub around : Status

-- The value of a `StepResult`.
abbrev pub step_row : StepResult → StepRow
step_row r = record { keyword = keyword_text r.keyword; text = string_bytes r.text; line = r.line; status = r.status; reason = r.reason }

-- The value of a `CaseResult`.
abbrev pub case_row : CaseResult → CaseRow
case_row r = record { keyword = keyword_text r.keyword; name = string_bytes r.name; line = r.line; status = r.status; around = r.around; cleanups = r.cleanups.items; steps = map step_row r.steps.items }

-- The value of a `RuleResult`.
abbrev pub rule_row : RuleResult → RuleRow
rule_row r = record { line = r.line; around = r.around }

-- The value of a `FeatureResult`.
abbrev pub feature_row : FeatureResult → FeatureRow
feature_row r = record { source = string_bytes r.source; name = string_bytes r.name; line = r.line; status = r.status; around = r.around; rules = map rule_row r.rules.items; cases = map case_row r.cases.items }

-- Whether the second status is the first, the one asked for.
abbrev pub is_status : Status → Status → Bool
is_status statuses.Passed statuses.Passed = true
is_status statuses.Failed statuses.Failed = true
is_status statuses.Skipped statuses.Skipped = true
is_status statuses.Undefined statuses.Undefined = true
is_status statuses.Untested statuses.Untested = true
is_status statuses.Memory statuses.Memory = true
is_status _ _ = false

-- Whether the status is passed.
abbrev pub is_passed : Status → Bool
is_passed = is_status statuses.Passed

-- Whether the status is failed.
abbrev pub is_failed : Status → Bool
is_failed = is_status statuses.Failed

-- Whether the status is skipped.
abbrev pub is_skipped : Status → Bool
is_skipped = is_status statuses.Skipped

-- Whether the status is undefined.
abbrev pub is_undefined : Status → Bool
is_undefined = is_status statuses.Undefined

-- Whether the status is untested.
abbrev pub is_untested : Status → Bool
is_untested = is_status statuses.Untested

-- Whether the status is memory.
abbrev pub is_memory : Status → Bool
is_memory = is_status statuses.Memory
