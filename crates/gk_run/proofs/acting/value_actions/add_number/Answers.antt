use Rattle.gk_run.proofs.Common.{signed_decimal, rules, ◌≡◌, ◌∙◌, ap, sym, subst, Some, w64, to_z, of_z, option_copied, ℤ, ◌+ℤ◌, FitsSigned, to_z-of_z, number_of, state_of, IsActed, passes, with_own}
use Rattle.gk_run.proofs.ActingLemmas.{sum_acted, out_of_range_acted, not_in_range, number_fits}
use Rattle.gk_run.proofs.acting.value_actions.add_number.Goals as goal

pub returns-in_default-checked_add : goal.returns-in_default-checked_add
returns-in_default-checked_add c =
    let n = c.args.arguments.now.number in
    let m = c.in-Some-number_of.number in
    let text = c.in-Some.held.now in
    let is : number_of text ≡ Some m = sym c.number_of.ensures ∙ c.in-Some-number_of.is in
    let n_fits : FitsSigned w64 n = search rules in
    let m_fits : FitsSigned w64 m = number_fits text m is in
    let A : ℤ → Type 0 = λ z. FitsSigned w64 (z +ℤ n) in
    let B : ℤ → Type 0 = λ z. FitsSigned w64 (to_z w64 (of_z w64 m) +ℤ z) in
    let never : FitsSigned w64 (m +ℤ n) → ⊥ = λ fits. c.in_default-checked_add.ensures (subst B (sym (to_z-of_z n_fits)) (subst A (sym (to_z-of_z m_fits)) fits)) in
    out_of_range_acted c.args.sandbox.now c.args.arguments.now.name.now text _ n m (sym c.is_bad_name.ensures ∙ c.if-is_bad_name.false) (ap option_copied (sym c.in-Some.is) ∙ c.value.ensures) is (not_in_range (m +ℤ n) never)

pub returns : goal.returns
returns c =
    let n = c.args.arguments.now.number in
    let m = c.in-Some-number_of.number in
    let sum = c.in-Some-checked_add.sum in
    let text = c.in-Some.held.now in
    let is : number_of text ≡ Some m = sym c.number_of.ensures ∙ c.in-Some-number_of.is in
    let same : sum ≡ m +ℤ n = search rules in
    let fits : FitsSigned w64 sum = search rules in
    let S : ℤ → Type 0 = λ z. IsActed (passes (with_own (state_of c.args.sandbox.now.now) c.args.arguments.now.name.now (signed_decimal z))) c.args.sandbox.now c.put_number.result c.put_number.new.sandbox in
    sum_acted c.args.sandbox.now c.put_number.new.sandbox c.put_number.result c.args.arguments.now.name.now text _ n m sum (sym c.is_bad_name.ensures ∙ c.if-is_bad_name.false) (ap option_copied (sym c.in-Some.is) ∙ c.value.ensures) is same fits (subst S (to_z-of_z fits) c.put_number.ensures)
