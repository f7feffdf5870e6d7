use Rattle.gk_steps.proofs.Common.{◌≡◌, ◌∷◌, [], ◌-◌, length, ap, subst, arith, length-append, Plain, Literal, FieldPiece, TakesUpTo}
use Rattle.gk_steps.proofs.LeftmostLemmas.{last_end}
use Rattle.gk_steps.proofs.leftmost.end_before_last.Goals as goal

pub returns-then-ends_with : goal.returns-then-ends_with
returns-then-ends_with c = λ name.
    let text = c.args.text.now in
    let literal = c.args.literal.now in
    let found = c.if-ends_with.ensures in
    let size : length found.0 ≡ length text - length literal = omega (arith, ap length found.1, length-append found.0 literal) in
    subst (TakesUpTo (FieldPiece name Plain) (Literal literal ∷ []) text) size (last_end name literal text found.0 c.utf8.text c.utf8.literal c.if-literal-text.true found.1)
