-- A text that is shown, and a run of words.
use Rattle.gk_program.proofs.Common.{◌≡◌, ◌∙◌, ap, inl, inr, refl, subst, arith, ℕ, List, map, Option, Some, None, Result, Ok, Err, IfErr, IfOk, IsErrAnd, option_map, string_bytes, Appends, Keeps, common_steps, source_value, Contents, SandboxValue, new_sandbox, Source, Device, UsesWriter, IsWrittenAs, SaysFaultAs, SuiteFiles, Words, RunFault, files_value, request_of_files, name_of, AreRead, Reading, files_in_order, files_to_put, AreGiven, ArePut, AreTaken, with_variables, variables_given, IsPrepared, IsResultOf, SaysFlush, SaysRun, StopsBefore, Fault, Faults, alone}
use Rattle.gk_cli.proofs.ReportRunLemmas.{untouched}
use Rattle.gk_program.proofs.FilesLemmas.{names_of_values}

-- what was appended stays so
pub kept : (a b c : Option (List ℕ)) (xs : List ℕ) → Appends a b xs → Keeps b c → Appends a c xs
kept None b c xs wrote same = tt
kept (Some x) None c xs wrote same = absurd wrote
kept (Some x) (Some y) None xs wrote same = absurd same
kept (Some x) (Some y) (Some z) xs wrote same = same ∙ wrote

name_given : (file : Option Source) → option_map (λ s. s.name) (option_map source_value file) ≡ option_map name_of file
name_given None = refl
name_given (Some x) = refl

pub are_given : (w : Words) (files : SuiteFiles) → option_map name_of files.library ≡ option_map string_bytes w.library → option_map name_of files.hooks ≡ option_map string_bytes w.hooks
    → map name_of files.sources.items ≡ map string_bytes w.files.items → AreGiven w (files_value files)
are_given w files l h s = grind (arith, common_steps, names_of_values, name_given)

-- a run that isn't begun
pub not_begun : {S : Type 0} (r : Reading S) (w : Words) (a b : S) (d : Device) (fault : Fault) (done : Result ℕ Faults) → StopsBefore r w a b fault → IsErrAnd done (λ e. e ≡ alone fault) → SaysRun r w a b d d done
not_begun r w a b d fault (Ok status) stops is = absurd is
not_begun r w a b d fault (Err faults) stops is = inl (fault, stops, (untouched d, ap Err is))

-- the world before a run
pub prepared : {S : Type 0} (r : Reading S) (w : Words) (a b : S) (start middle new : SandboxValue) → start ≡ new_sandbox → middle.now ≡ with_variables start.now (variables_given w) → AreTaken (variables_given w)
    → ArePut r (files_to_put w) a b middle.now new.now → IsPrepared r w a b new.now
prepared r w a b start middle new fresh put taken files = record {
  taken = taken;
  put = subst (λ c. ArePut r (files_to_put w) a b c new.now) (put ∙ ap (λ (s : SandboxValue). with_variables s.now (variables_given w)) fresh) files;
}

-- a run that is begun
pub ran : {S : Type 0} (r : Reading S) (w : Words) (a b e : S) (contents : Contents) (files : SuiteFiles) (old between new : Device) (written result : Result ℕ RunFault) (done : Result ℕ Faults)
    → IsPrepared r w a b contents → AreGiven w (files_value files) → AreRead r b (files_in_order (files_value files)) e
    → IfOk written (IsWrittenAs w.mode (files_value files) (request_of_files w.options (files_value files)) contents old between)
    → IfErr written (SaysFaultAs w.mode (files_value files) (request_of_files w.options (files_value files)) contents old between)
    → UsesWriter written old between → SaysFlush written between new result → IsResultOf w (files_value files) result done → SaysRun r w a e old new done
ran r w a b e contents files old between new written result done ready given read is fault used flush so = inr record {
  start = b;
  contents = contents;
  prepared = ready;
  files = files_value files;
  given = given;
  read = read;
  result = result;
  output = record { written = written; between = between; suite = is; stopped = fault; used = used; flush = flush };
  done_is = so;
}
