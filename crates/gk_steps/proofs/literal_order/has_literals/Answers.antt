use Rattle.gk_steps.proofs.Common.{◌∙◌, List, map, rules, ap, sym, subst, PieceValue, Literal, piece_value, HasLiterals}
use Rattle.gk_steps.proofs.LeftmostLemmas.{first_and_rest}
use Rattle.gk_steps.proofs.LiteralOrderLemmas.{cut_of, not_cut, nowhere, cut_has, cut_first}
use Rattle.gk_steps.proofs.literal_order.has_literals.Goals as goal

pub returns-in-None : goal.returns-in-None
returns-in-None c =
    let rest = c.pieces.rest.now in
    let literal = c.as_str.result.now in
    let is = first_and_rest c.pieces.left.now c.in-Some.piece.now c.in-Some.after.now (Literal literal) c.in-Some.ensures.cases.0 (ap piece_value c.in-Literal.is ∙ ap Literal (sym c.as_str.ensures.value)) in
    λ h. nowhere literal (map piece_value c.in-Some.after.now) rest (not_cut literal rest c.split_once.result c.split_once.ensures.cases c.in-None.is) (subst (λ (ps : List PieceValue). HasLiterals ps rest) is (c.pieces.invariant.1.0 h))

pub pieces-preserved-in-Some-split_once : goal.pieces-preserved-in-Some-split_once
pieces-preserved-in-Some-split_once c =
    let rest = c.pieces.rest.now in
    let literal = c.as_str.result.now in
    let others = map piece_value c.in-Some.after.now in
    let is = first_and_rest c.pieces.left.now c.in-Some.piece.now c.in-Some.after.now (Literal literal) c.in-Some.ensures.cases.0 (ap piece_value c.in-Literal.is ∙ ap Literal (sym c.as_str.ensures.value)) in
    let cut = cut_of literal rest c.split_once.result _ c.split_once.ensures.cases c.in-Some-split_once.is in (
      search rules,
      (
        λ h. cut_first literal others rest _ _ cut (subst (λ (ps : List PieceValue). HasLiterals ps rest) is (c.pieces.invariant.1.0 h)),
        λ h. c.pieces.invariant.1.1 (subst (λ (ps : List PieceValue). HasLiterals ps rest) (sym is) (cut_has literal others rest _ _ cut h)),
      ),
    )
