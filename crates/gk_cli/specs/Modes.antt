-- What is written for a suite in each mode.
use Rattle.std.specs.Prelude.{◌≡◌, ℕ, Bool, List, [], ◌∷◌}
use Rattle.gk_world.specs.State.{Contents}
use Rattle.gk_cli.specs.declared.arguments.Mode.{Mode}
use Rattle.gk_cli.specs.declared.arguments.Mode.TheVariants.{Report, Explanation, Findings}
use Rattle.gk_request.specs.declared.run_fault.RunFault.{RunFault}
use Rattle.gk_request.specs.declared.run_fault.RunFault.TheVariants as faults
use Rattle.gk_cli.specs.ExplainRun.{Explained, ExplainedInPart}
use Rattle.gk_request.specs.Request.{Request, FilesValue, hooks_name, library_name}
use Rattle.gk_findings.specs.LintedSuite.{IsLinted}
use Rattle.gk_cli.specs.Suite.{JudgedReport, OnlyReport, ReportedInPart, SaysFaultBy}
use Rattle.gk_cli.specs.Writing.{Device, IsStopped, IsWritten}

-- The status of a lint that writes this text: 0 if nothing was found, and 1 otherwise.
abbrev pub lint_status : List ℕ → ℕ
lint_status [] = 0
lint_status (byte ∷ more) = 1

-- The request reads, the text of all its findings was written, and the status says whether there are any.
abbrev pub Linted : Bool → Request → List ℕ → List ℕ → Device → Device → ℕ → Type 0
Linted steps r library hooks old new answer = (text : List ℕ) × IsLinted steps r library hooks text × IsWritten old new text × (answer ≡ lint_status text)

-- The request reads, and the writer failed after a prefix of the text of its findings. Memory isn't refused once a part is written.
abbrev pub LintedInPart : Bool → Request → List ℕ → List ℕ → Device → Device → RunFault → Type 0
LintedInPart steps r library hooks old new fault = (text : List ℕ) × IsLinted steps r library hooks text × IsStopped old new text fault × (fault ≡ faults.Write)

-- The output of a suite was written, and its status is returned. The output is the report of a judged list, which at each status other than 4 is the one that plain maps give; or the explanation of a run with judged results; or all that is found before a run.
abbrev pub IsWrittenAs : Mode → FilesValue → Request → Contents → Device → Device → ℕ → Type 0
IsWrittenAs Report files request contents old new status = JudgedReport request contents old new status × OnlyReport request contents old new status
IsWrittenAs Explanation files request contents old new status = Explained request (hooks_name files) contents old new status
IsWrittenAs (Findings steps) files request contents old new status = Linted steps request (library_name files) (hooks_name files) old new status

-- What each fault of a suite says.
abbrev pub SaysFaultAs : Mode → FilesValue → Request → Contents → Device → Device → RunFault → Type 0
SaysFaultAs Report files request contents old new = SaysFaultBy (ReportedInPart request contents old new) request old new
SaysFaultAs Explanation files request contents old new = SaysFaultBy (ExplainedInPart request (hooks_name files) contents old new) request old new
SaysFaultAs (Findings steps) files request contents old new = SaysFaultBy (LintedInPart steps request (library_name files) (hooks_name files) old new) request old new
