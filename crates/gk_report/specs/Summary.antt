-- What a report counts, and the status that a run ends with.
use Rattle.std.specs.Prelude.{◌≡◌, ℕ, ◌+◌, ◌-◌, ◌^◌, ◌||◌, min, cond, nat_lt, Bool, List, [], ◌∷◌, ◌++◌, map, flat_map, fold, count_by}
use Rattle.std.specs.List.{list_any}
use Rattle.gk_run.specs.declared.results.Status.{Status}
use Rattle.gk_run.specs.declared.results.Status.TheVariants as statuses
use Rattle.gk_run.specs.Running.{case_statuses}
use Rattle.gk_report.specs.declared.summary.Counts.{Counts}
use Rattle.gk_report.specs.declared.summary.Summary.{Summary}
use Rattle.gk_run.specs.Results.{CaseRow, FeatureRow, Results, is_passed, is_failed, is_skipped, is_undefined, is_untested, is_memory}

-- The greatest value of a count.
abbrev pub greatest : ℕ
greatest = 2 ^ 64 - 1

-- The number of statuses in a list that pass a test. It stops rising at the greatest value.
abbrev pub count_of : (Status → Bool) → List Status → ℕ
count_of test statuses = min greatest (count_by test statuses)

-- The counts of each status in a list.
abbrev pub counts_of : List Status → Counts
counts_of statuses = record {
  passed = count_of is_passed statuses;
  failed = count_of is_failed statuses;
  skipped = count_of is_skipped statuses;
  undefined = count_of is_undefined statuses;
  untested = count_of is_untested statuses;
  memory = count_of is_memory statuses;
}

-- The verdicts of the features.
abbrev pub feature_statuses : List FeatureRow → List Status
feature_statuses rows = map (λ (f : FeatureRow). f.status) rows

-- The verdicts of all scenarios.
abbrev pub scenario_statuses : List FeatureRow → List Status
scenario_statuses rows = flat_map (λ (f : FeatureRow). case_statuses f.cases) rows

-- The statuses of the steps of a scenario.
abbrev pub statuses_of_case : CaseRow → List Status
statuses_of_case c = map (λ s. s.status) c.steps

-- The statuses of the steps of a feature.
abbrev pub statuses_of_feature : FeatureRow → List Status
statuses_of_feature f = flat_map statuses_of_case f.cases

-- The statuses of all steps of all scenarios. The steps of hooks and cleanups are not among them. (behave's documentation: summary)
abbrev pub step_statuses : List FeatureRow → List Status
step_statuses rows = flat_map statuses_of_feature rows

-- The counts over a list of results. (behave's documentation: summary)
abbrev pub summary_of : List FeatureRow → Summary
summary_of rows = record { features = counts_of (feature_statuses rows); scenarios = counts_of (scenario_statuses rows); steps = counts_of (step_statuses rows) }

-- How the run's own hooks and cleanups ended, and every verdict.
abbrev pub verdicts : List FeatureRow → Status → List Status
verdicts rows around = around ∷ feature_statuses rows ++ scenario_statuses rows

-- The status of a run: 4 if one of these verdicts is memory; otherwise 1 if one is failed or a step is undefined; otherwise 0. The hooks and cleanups of a scenario or a feature count through its verdict, those of a rule through its feature's verdict.
abbrev pub status_of : List FeatureRow → Status → ℕ
status_of rows around =
    cond (list_any is_memory (verdicts rows around)) 4
    (cond (list_any is_failed (verdicts rows around) || list_any is_undefined (step_statuses rows)) 1 0)

-- The status that a run with these results ends with.
abbrev pub status : Results → ℕ
status results = status_of results.features results.around

-- For all results that have this summary, the number is their status, if the run's own hooks and cleanups ended with this status.
abbrev pub IsStatusOf : Summary → Status → ℕ → Type 0
IsStatusOf summary around number = (rows : List FeatureRow) → summary ≡ summary_of rows → number ≡ status_of rows around

-- For all results that have the old summary, the new one is that of these results and one more.
abbrev pub CountsOneMore : Summary → FeatureRow → Summary → Type 0
CountsOneMore old row new = (rows : List FeatureRow) → old ≡ summary_of rows → new ≡ summary_of (rows ++ row ∷ [])

-- A count plus one, up to the greatest value.
abbrev pub raised : ℕ → ℕ
raised n = min (n + 1) greatest

-- The counts after one more status.
abbrev pub one_status_more : Counts → Status → Counts
one_status_more c statuses.Passed = record c { passed = raised c.passed }
one_status_more c statuses.Failed = record c { failed = raised c.failed }
one_status_more c statuses.Skipped = record c { skipped = raised c.skipped }
one_status_more c statuses.Undefined = record c { undefined = raised c.undefined }
one_status_more c statuses.Untested = record c { untested = raised c.untested }
one_status_more c statuses.Memory = record c { memory = raised c.memory }

-- The summary after one more scenario.
abbrev pub one_case_more : Summary → CaseRow → Summary
one_case_more s c = record s { scenarios = one_status_more s.scenarios c.status; steps = fold one_status_more s.steps (statuses_of_case c) }

-- The summary after one more feature.
abbrev pub one_feature_more : Summary → FeatureRow → Summary
one_feature_more s f = fold one_case_more (record s { features = one_status_more s.features f.status }) f.cases

-- The status of a run, from the counts and from how its own hooks and cleanups ended.
abbrev pub status_by : Summary → Status → ℕ
status_by s around =
    cond (is_memory around || nat_lt 0 s.features.memory || nat_lt 0 s.scenarios.memory) 4
    (cond ((is_failed around || nat_lt 0 s.features.failed || nat_lt 0 s.scenarios.failed) || nat_lt 0 s.steps.undefined) 1 0)
