-- The faults of files, one file after another.
use Rattle.gk_request.proofs.Common.{◌≡◌, ◌<◌, ◌+◌, ◌-◌, ◌^◌, ℕ, suc, zero, arith, drop_all, length, min, List, [], ◌∷◌, ◌++◌, drop, Some, refl, ap, sym, subst, ◌∙◌, inl, inr, append_assoc, slice_get, SourceValue, sources_from, RunFault, RunFile, Result, Ok, Err, IsErrAnd, SaysFile, SaysOfFile, AreFaultsOf, IsFoundIn}
use Rattle.gk_request.proofs.InputsLemmas.{same_some}

-- The files from a number on are the one of that number and those after it.
pub file_next : (files : List RunFile) (number : ℕ) (file : RunFile) → slice_get files number ≡ Some file → drop number files ≡ file ∷ drop (suc number) files
file_next [] number file is = let no : ⊥ = cc in absurd no
file_next (f ∷ fs) zero file is = ap (λ x. x ∷ fs) (same_some f file is)
file_next (f ∷ fs) (suc number) file is = file_next fs number file is

-- There is a file of each number.
pub file_at : (files : List RunFile) (number : ℕ) → number < length files → (file : RunFile) × (slice_get files number ≡ Some file)
file_at [] number less = absurd (omega arith)
file_at (f ∷ fs) zero less = (f, refl)
file_at (f ∷ fs) (suc number) less = file_at fs number (omega arith)

pub length_sources : (number : ℕ) (sources : List SourceValue) → length (sources_from number sources) ≡ length sources
length_sources number [] = refl
length_sources number (s ∷ ss) = ap suc (length_sources (suc number) ss)

-- Past the largest `usize`, no file is left.
drop_same : (n m : ℕ) (files : List RunFile) → min n (length files) ≡ min m (length files) → drop n files ≡ drop m files
drop_same n m [] same = drop_all n [] (omega arith) ∙ sym (drop_all m [] (omega arith))
drop_same zero zero (f ∷ fs) same = refl
drop_same zero (suc m) (f ∷ fs) same = absurd (omega (arith, same))
drop_same (suc n) zero (f ∷ fs) same = absurd (omega (arith, same))
drop_same (suc n) (suc m) (f ∷ fs) same = drop_same n m fs (omega (arith, same))

pub drop_saturated : (files : List RunFile) (n number : ℕ) → length files < 2 ^ 64 → n ≡ min (number + 3) (2 ^ 64 - 1) → drop n files ≡ drop (suc (suc (suc number))) files
drop_saturated files n number short is = drop_same n (suc (suc (suc number))) files (omega (arith, short, is))

-- A file isn't read, for this reason.
pub says_err : {Q : RunFault → Type 0} (file : RunFile) (r : Result (Unit {0}) RunFault) → IsErrAnd r Q → ((fault : RunFault) → Q fault → SaysFile file fault) → SaysOfFile file r
says_err file (Ok u) h f = absurd h
says_err file (Err fault) h f = f fault h

-- One file more was looked at.
pub one_more : (P : List RunFault → Type 0) (file : RunFile) (files : List RunFile) (old new : List RunFault) →
    ((later : List RunFault) → AreFaultsOf (file ∷ files) later → P (old ++ later)) → IsFoundIn file old new → (later : List RunFault) → AreFaultsOf files later → P (new ++ later)
one_more P file files old new before (inl h) later rest = subst (λ l. P (l ++ later)) (sym h.1) (before later (inl (h.0, rest)))
one_more P file files old new before (inr h) later rest =
    subst P (sym (append_assoc old (h.0 ∷ []) later) ∙ ap (λ l. l ++ later) (sym h.2)) (before (h.0 ∷ later) (inr (h.0, later, h.1, rest, refl)))
