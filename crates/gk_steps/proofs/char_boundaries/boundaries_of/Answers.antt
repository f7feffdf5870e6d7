use Rattle.gk_steps.proofs.Common.{◌≡◌, true, false, refl, ◌∙◌, ◌+◌, ◌-◌, ◌++◌, ◌∷◌, [], ap, sym, subst, length, arith, AreBoundariesFrom}
use Rattle.gk_steps.proofs.CharBoundaryLemmas.{end_only, pushed, skipped}
use Rattle.gk_steps.proofs.char_boundaries.boundaries_of.Goals as goal
use Rattle.gk_steps.proofs.char_boundaries.boundaries_of.Goals.{then-is_char_boundary+in_ok-push-2, else-is_char_boundary}

pub loop-after-init : goal.loop-after-init
loop-after-init c =
    let text = c.args.text.now in
    let items : c.push.new.self.items ≡ length text ∷ [] = c.in_ok-push.ensures.items ∙ ap (λ xs. xs ++ length text ∷ []) c.new-boundaries.ensures.items in
    let low : length text ≡ length text - 0 = omega arith in
    subst (λ k. AreBoundariesFrom k text c.push.new.self.items) low (subst (AreBoundariesFrom (length text) text) (sym items) (end_only text))

pub loop-after-preserved : goal.loop-after-preserved
loop-after-preserved c =
    let text = c.args.text.now in
    let q = length text - 1 - c.loop-after.after in
    let low : length text - c.loop-after.after ≡ q + 1 = omega (arith, c.loop-after-test.true) in
    let next : q ≡ length text - (c.loop-after.after + 1) = omega arith in
    elim c.if-is_char_boundary.branch [
      | then-is_char_boundary+in_ok-push-2 w ↦
          let items : c.if-is_char_boundary.boundaries.items ≡ c.loop-after.boundaries.items ++ q ∷ [] = ap (λ v. v.items) w.boundaries-is ∙ w.in_ok-push-2.ensures.items in
          subst (λ k. AreBoundariesFrom k text c.if-is_char_boundary.boundaries.items) next
          (subst (AreBoundariesFrom q text) (sym items) (pushed (length text - c.loop-after.after) text c.loop-after.boundaries.items q c.utf8.text low c.loop-after.invariant (w.if-is_char_boundary.ensures.test.0 refl)))
      | else-is_char_boundary w ↦
          let items : c.if-is_char_boundary.boundaries.items ≡ c.loop-after.boundaries.items = ap (λ v. v.items) w.boundaries-is in
          subst (λ k. AreBoundariesFrom k text c.if-is_char_boundary.boundaries.items) next
          (subst (AreBoundariesFrom q text) (sym items) (skipped (length text - c.loop-after.after) text c.loop-after.boundaries.items q low c.loop-after.invariant (λ at. let bad : false ≡ true = w.if-is_char_boundary.ensures.test.1 at in let none : ⊥ = cc in none)))
    ]
