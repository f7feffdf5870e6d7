use Rattle.gk_request.proofs.Common.{◌≡◌, ◌-◌, ◌^◌, [], ap, drop, inl, inr, subst, sym, ◌∙◌, arith, drop_all, Select, files_after, run_files}
use Rattle.gk_request.proofs.AllFaultsLemmas.{drop_saturated}
use Rattle.gk_request.proofs.all_faults.files_until.Goals as goal

pub returns-in-Read : goal.returns-in-Read
returns-in-Read c = λ files short.
    subst (λ fault. drop c.saturating_add-in-Read.result (run_files files) ≡ files_after files fault) (sym c.in-Read.is)
    (drop_saturated (run_files files) c.saturating_add-in-Read.result c.in-Read.input short c.saturating_add-in-Read.ensures)

pub returns-in-Select-Some-default : goal.returns-in-Select-Some-default
returns-in-Select-Some-default c = λ files short.
    let first = c.in-Select-Some-default in
    let input = rw first.is at first.input-is in
    subst (λ fault. drop c.saturating_add.result (run_files files) ≡ files_after files fault) (sym (first.is ∙ ap (λ input. Select input first.fault) input))
    (drop_saturated (run_files files) c.saturating_add.result first.input short c.saturating_add.ensures)

pub returns-in-Write : goal.returns-in-Write
returns-in-Write c = λ files short.
    let none : drop (2 ^ 64 - 1) (run_files files) ≡ [] = drop_all (2 ^ 64 - 1) (run_files files) (omega (arith, short)) in
    elim c.in-Write.is [
      | inl write ↦ subst (λ fault. drop (2 ^ 64 - 1) (run_files files) ≡ files_after files fault) (sym write) none
      | inr memory ↦ subst (λ fault. drop (2 ^ 64 - 1) (run_files files) ≡ files_after files fault) (sym memory) none
    ]
