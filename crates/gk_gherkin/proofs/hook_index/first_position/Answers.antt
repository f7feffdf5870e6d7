use Rattle.gk_gherkin.proofs.Common.{◌≡◌, ◌+◌, ◌<◌, ◌∙◌, Bool, get_or, length, Some, subst, sym, option_copied, arith, slice_get, Hook, hook_value, is_for, IsFirst}
use Rattle.gk_gherkin.proofs.HookIndexed.{first_taken, first_passed, get_number, got_at, never_both}
use Rattle.gk_gherkin.proofs.hook_index.first_position.Goals.{then-position-first+then-is_for, else-position-first, else-position-first-via-then-position-first+else-is_for, else-position-first-via-else-position-first}
use Rattle.gk_gherkin.proofs.hook_index.first_position.Goals as goal

pub loop-k-preserved : goal.loop-k-preserved
loop-k-preserved c =
    let test : Hook → Bool = λ hook. is_for (hook_value hook) c.args.kind (option_copied c.args.tag) in
    let hooks = c.args.hooks.now in
    let positions = c.args.positions.now in
    let k = c.loop-k.k in
    let position = get_or positions k 0 in
    let here : slice_get positions k ≡ Some position = get_number positions k c.loop-k-test.true in
    elim c.if-position-first.branch [
      | then-position-first+then-is_for w ↦
          let hook = w.index-hooks-position.result in
          let within : position < length hooks = omega (arith, w.if-position-first.true, c.loop-k.invariant.within) in
          subst (λ first. IsFirst test hooks positions (k + 1) first) (sym w.first-is)
          (first_taken test hooks positions k c.loop-k.first position hook here (got_at hooks position hook within w.index-hooks-position.is) (sym w.is_for.ensures ∙ w.if-is_for.true) w.if-position-first.true c.loop-k.invariant)
      | else-position-first w ↦
          subst (λ first. IsFirst test hooks positions (k + 1) first) (sym w.first-is)
          (first_passed test hooks positions k c.loop-k.first position here
          (elim w.else-position-first.branch [
            | else-position-first-via-then-position-first+else-is_for v ↦ λ other less at good.
                let hook = v.index-hooks-position.result in
                let within : position < length hooks = omega (arith, v.if-position-first.true, c.loop-k.invariant.within) in
                never_both test hooks position hook other (got_at hooks position hook within v.index-hooks-position.is) (sym v.is_for.ensures ∙ v.if-is_for.false) at good
            | else-position-first-via-else-position-first v ↦ λ other less at good. omega (arith, less, v.if-position-first.false)
          ])
          c.loop-k.invariant)
    ]
