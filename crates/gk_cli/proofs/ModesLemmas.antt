-- What is written for a suite, in a mode that is known.
use Rattle.gk_cli.proofs.Common.{◌≡◌, ℕ, Bool, List, Result, IfErr, IfOk, subst, sym, Contents, Mode, RunFault, Request, FilesValue, IsLinted, IsWrittenAs, LintedInPart, SaysFaultAs, SaysFaultBy, Device, IsStopped}
use Rattle.gk_request.specs.declared.run_fault.RunFault.TheVariants as faults
use Rattle.gk_cli.proofs.SuiteLemmas.{cut_says}

pub in_mode : (mode known : Mode) (files : FilesValue) (r : Request) (c : Contents) (old new : Device) (result : Result ℕ RunFault) → mode ≡ known → IfOk result (IsWrittenAs known files r c old new) → IfOk result (IsWrittenAs mode files r c old new)
in_mode mode known files r c old new result is written = subst (λ (m : Mode). IfOk result (IsWrittenAs m files r c old new)) (sym is) written

pub fault_in_mode : (mode known : Mode) (files : FilesValue) (r : Request) (c : Contents) (old new : Device) (result : Result ℕ RunFault) → mode ≡ known → IfErr result (SaysFaultAs known files r c old new) → IfErr result (SaysFaultAs mode files r c old new)
fault_in_mode mode known files r c old new result is says = subst (λ (m : Mode). IfErr result (SaysFaultAs m files r c old new)) (sym is) says

-- A text cut short is what the one fault of a writer says.
pub part_of_lint : (steps : Bool) (r : Request) (library hooks : List ℕ) (old new : Device) (text : List ℕ) (fault : RunFault) → fault ≡ faults.Write → IsLinted steps r library hooks text → IsStopped old new text fault → SaysFaultBy (LintedInPart steps r library hooks old new) r old new fault
part_of_lint steps r library hooks old new text fault named linted stopped = cut_says (LintedInPart steps r library hooks old new) r old new fault stopped.why (text, linted, stopped, named)
