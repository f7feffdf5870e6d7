-- What a whole run can return and write.
use Rattle.std.specs.Prelude.{◌≡◌, ◌≢◌, ◌⊎◌, ℕ, false, [], None}
use Rattle.gk_world.specs.State.{Contents}
use Rattle.gk_run.specs.Results.{Results}
use Rattle.gk_run.specs.OpenSection.{Run}
use Rattle.gk_run.specs.Judged.{Judged, plain_results, has_memory}
use Rattle.gk_report.specs.declared.report.Style.{Style}
use Rattle.gk_report.specs.Report.{report}
use Rattle.gk_report.specs.Summary.{status}
use Rattle.gk_request.specs.declared.request.Options.{Options}
use Rattle.gk_request.specs.declared.run_fault.RunFault.{RunFault}
use Rattle.gk_request.specs.declared.run_fault.RunFault.TheVariants.{Write, Memory}
use Rattle.gk_request.specs.Inputs.{Inputs, AreInputs}
use Rattle.gk_request.specs.Request.{Request, request_of}
use Rattle.gk_request.specs.RunFault.{IsUnread}
use Rattle.gk_cli.specs.Writing.{Device, IsStopped, IsUntouched, IsWritten}

-- What stays constant during a run of these inputs.
abbrev pub run_with : Request → Inputs → Run
run_with r inputs = record { library = inputs.library; hooks = inputs.hooks; dry_run = r.dry_run; stop = r.stop }

-- The report of these results was written, and their status is returned.
pub record IsReported (style : Style) (old new : Device) (answer : ℕ) (results : Results) : Type 0 where
  pub written : IsWritten old new (report style results)
  pub returned : answer ≡ status results

-- The report of some list of results was written, and its status is returned.
abbrev pub Reported : Style → Device → Device → ℕ → Type 0
Reported style old new answer = (results : Results) × IsReported style old new answer results

-- The results are judged for the request. Each selected scenario that was reached has in them the verdict and the step statuses that plain maps give it alone from its section's state. Rows marked memory are excepted.
pub record AreJudged (r : Request) (contents : Contents) (results : Results) : Type 0 where
  pub inputs : Inputs
  pub read : AreInputs r inputs
  pub judged : Judged (run_with r inputs) contents inputs.features results

-- The list whose report was written and whose status is returned is judged.
abbrev pub JudgedReport : Request → Contents → Device → Device → ℕ → Type 0
JudgedReport r contents old new answer = (results : Results) × IsReported r.style old new answer results × AreJudged r contents results

-- That list is the one that plain maps give. Nothing in it is marked memory, neither a scenario nor hooks and cleanups. The request has no other judged list with this status.
pub record IsOnlyReport (r : Request) (contents : Contents) (old new : Device) (answer : ℕ) : Type 0 where
  pub inputs : Inputs
  pub read : AreInputs r inputs
  pub reported : IsReported r.style old new answer (plain_results (run_with r inputs) contents inputs.features)
  pub unmarked : has_memory (plain_results (run_with r inputs) contents inputs.features) ≡ false
  pub only : (results : Results) → AreJudged r contents results → answer ≡ status results → results ≡ plain_results (run_with r inputs) contents inputs.features

-- At each status other than 4, the report is the only one.
abbrev pub OnlyReport : Request → Contents → Device → Device → ℕ → Type 0
OnlyReport r contents old new answer = answer ≢ 4 → IsOnlyReport r contents old new answer

-- What each fault of a run says, given what it says if a prefix of the output was written. If the writer failed, such a prefix was written; if memory was refused, such a prefix or nothing. Otherwise the request doesn't read, and nothing was written.
abbrev pub SaysFaultBy : (RunFault → Type 0) → Request → Device → Device → RunFault → Type 0
SaysFaultBy IsCut r old new Write = IsCut Write
SaysFaultBy IsCut r old new Memory = IsUntouched old new ⊎ IsCut Memory
SaysFaultBy IsCut r old new fault = IsUnread r fault × IsUntouched old new

-- A prefix of the report of some judged list was written.
abbrev pub ReportedInPart : Request → Contents → Device → Device → RunFault → Type 0
ReportedInPart r contents old new fault = (results : Results) × AreJudged r contents results × IsStopped old new (report r.style results) fault

-- What each fault of a run with its report says.
abbrev pub SaysFault : Request → Contents → Device → Device → RunFault → Type 0
SaysFault r contents old new fault = SaysFaultBy (ReportedInPart r contents old new) r old new fault

-- Proof machinery: what stays constant during a run with these options, for any files and sources.
abbrev pub run_by : Options → Inputs → Run
run_by options inputs = run_with (request_of options None None []) inputs
