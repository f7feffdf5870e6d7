-- A run whose report is written part by part.
use Rattle.std.specs.Prelude.{◌≡◌, ◌&&◌, ℕ, List}
use Rattle.gk_world.specs.State.{Contents}
use Rattle.gk_run.specs.Chosen.{ChosenValue}
use Rattle.gk_run.specs.Judged.{Judged}
use Rattle.gk_run.specs.OpenSection.{Run}
use Rattle.gk_run.specs.Results.{FeatureRow, Results}
use Rattle.gk_report.specs.declared.report.Style.{Style}
use Rattle.gk_report.specs.Report.{part, report, tail, is_empty}
use Rattle.gk_request.specs.declared.run_fault.RunFault.{RunFault}
use Rattle.gk_cli.specs.Suite.{IsReported}
use Rattle.gk_cli.specs.Writing.{Device, IsStopped}
use Rattle.gk_cli.specs.declared.report_run.GrowingReport.{GrowingReport}

-- Proof machinery, from here on: what an event leaves of a report: all.
abbrev pub Stays : {T : Type 0} → GrowingReport → T → GrowingReport → Type 0
Stays old notified new = new ≡ old

-- The text of a feature is its part. The report remembers whether all parts were empty.
pub record AddsPart (old : GrowingReport) (row : FeatureRow) (text : List ℕ) (new : GrowingReport) : Type 0 where
  pub is : text ≡ part old.style old.is_first row
  pub style : new.style ≡ old.style
  pub first : new.is_first ≡ (old.is_first && is_empty text)

-- The last text of a report is its tail.
abbrev pub ClosesByTail : GrowingReport → Results → List ℕ → Type 0
ClosesByTail g results text = text ≡ tail g.style results.features results.around

-- The report of a judged list was written, and its status is returned.
abbrev pub IsWhole : Run → Contents → List ChosenValue → Style → Device → Device → ℕ → Type 0
IsWhole run contents features style old new status = (results : Results) × Judged run contents features results × IsReported style old new status results

-- A prefix of the report of a judged list was written.
abbrev pub IsPrefix : Run → Contents → List ChosenValue → Style → Device → Device → RunFault → Type 0
IsPrefix run contents features style old new fault = (results : Results) × Judged run contents features results × IsStopped old new (report style results) fault
