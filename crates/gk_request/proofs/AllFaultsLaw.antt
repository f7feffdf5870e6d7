-- The first fault and those of the files after it are the faults of all files.
use Rattle.gk_request.proofs.Common.{◌≡◌, ℕ, suc, zero, List, [], ◌∷◌, take, drop, slice_get, Some, None, refl, subst, sym, inl, inr, AllByRecursion, RunFault, Library, Hooks, Read, Select, Write, Memory, RunFile, DoesRead, IsFaultOf, AreFaultsOf, AllFaultsAreFound, run_files}
use Rattle.gk_request.proofs.InputsLemmas.{same_some}

-- The files before the one at a numbered read, and that one doesn't.
stops_there : (n : ℕ) (files : List RunFile) (file : RunFile) (fault : RunFault) (later : List RunFault) →
    AllByRecursion DoesRead (take n files) → slice_get files n ≡ Some file → IsFaultOf file fault → AreFaultsOf (drop (suc n) files) later → AreFaultsOf files (fault ∷ later)
stops_there n [] file fault later read numbered says rest = let no : ⊥ = cc in absurd no
stops_there zero (f ∷ fs) file fault later read numbered says rest = inr (fault, later, subst (λ x. IsFaultOf x fault) (sym (same_some f file numbered)) says, rest, refl)
stops_there (suc n) (f ∷ fs) file fault later read numbered says rest = inl (read.0, stops_there n fs file fault later read.1 numbered says rest)

pub all_found : AllFaultsAreFound
all_found options files (Select None fault) later named unread h = h
all_found options files Write later named unread h = absurd unread
all_found options files Memory later named unread h = absurd (named refl)
all_found options files (Library fault) later named unread h = stops_there 0 (run_files files) unread.file (Library fault) later unread.before unread.numbered unread.says h
all_found options files (Hooks fault) later named unread h = stops_there 1 (run_files files) unread.file (Hooks fault) later unread.before unread.numbered unread.says h
all_found options files (Read input fault) later named unread h = stops_there (suc (suc input)) (run_files files) unread.file (Read input fault) later unread.before unread.numbered unread.says h
all_found options files (Select (Some input) fault) later named unread h = stops_there (suc (suc input)) (run_files files) unread.file (Select (Some input) fault) later unread.before unread.numbered unread.says h
