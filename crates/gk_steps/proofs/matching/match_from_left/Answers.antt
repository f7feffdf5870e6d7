use Rattle.gk_steps.proofs.Common.{rules, ◌≡◌, ◌∷◌, ◌++◌, ◌-◌, length, drop, None, [], take, map, refl, ap, subst, sym, ◌∙◌, arith, common_steps, chars, append-nil, piece_value, MatchesNot, values_of, FindsRest}
use Rattle.std.proofs.lemmas.List.{append_assoc}
use Rattle.gk_steps.proofs.FindingLemmas.{of_fault}
use Rattle.gk_steps.proofs.LeftmostLemmas.{none_left, finds_more, table_after}
use Rattle.gk_steps.proofs.LiteralOrderLemmas.{lacks}
use Rattle.gk_steps.proofs.FilledCellsLemmas.{fewer_chars}
use Rattle.gk_steps.proofs.CaptureLemmas.{done_more, done_all, rest_over}
use Rattle.gk_steps.proofs.matching.match_from_left.Goals as goal

pub pieces-init : goal.pieces-init
pieces-init g c = (c.utf8.text, ([], refl, λ done before is. (before, subst (λ ps. g.K.Captures.keeps ps c.args.kept.now before) (sym (append-nil done)) is, λ found h. h)), omega arith, omega arith, search rules)

pub pieces-preserved : goal.pieces-preserved
pieces-preserved g c =
    let rest = c.pieces.rest.now in
    let gone = c.pieces.invariant.1.0 in
    let piece = piece_value c.in-Some.piece.now in
    let others = map piece_value c.in-Some.after.now in
    let size : c.in-At.position - 0 ≡ c.in-At.position = omega arith in
    let taken : c.range.result.now ≡ take c.in-At.position rest = c.range.ensures.value ∙ ap (λ n. take n rest) size in (
      c.range_from-rest.utf8,
      (
        gone ++ piece ∷ [],
        done_more gone (map piece_value c.pieces.left.now) (map piece_value c.args.pieces.now) others piece c.pieces.invariant.1.1 (ap (map piece_value) c.in-Some.ensures.cases.0),
        λ done before is.
            let so_far = c.pieces.invariant.1.2 done before is in
            let after = so_far.0 ++ values_of piece c.range.result.now in (
              after,
              subst (λ ps. g.K.Captures.keeps ps c.add.new.self after) (append_assoc done gone (piece ∷ [])) (c.in_ok-add-in-At.ensures.kept (done ++ gone) so_far.0 so_far.1),
              λ found h. so_far.2 found (subst (λ ps. FindsRest so_far.0 ps rest found) (sym (ap (map piece_value) c.in-Some.ensures.cases.0))
                  (finds_more so_far.0 after piece others rest c.in-At.position c.in-At.ensures (ap (λ x. so_far.0 ++ values_of piece x) taken) found (subst (λ r. FindsRest after others r found) c.range_from-rest.ensures.value h))),
            ),
      ),
      omega (arith, ap length c.in-Some.ensures.cases.0, c.pieces.invariant.2),
      let back : length (chars c.range_from-rest.result.now) ≡ length (chars (drop c.in-At.position rest)) = ap (λ t. length (chars t)) c.range_from-rest.ensures.value in
          omega (arith, back, fewer_chars rest c.in-At.position c.pieces.invariant.0 c.in-At.ensures.boundary, c.pieces.invariant.3),
      c.pieces.invariant.4,
    )

pub returns-in-Nowhere-clause-found : goal.returns-in-Nowhere-clause-found
returns-in-Nowhere-clause-found g c = λ done before is.
    let so_far = c.pieces.invariant.1.2 done before is in
    let none = subst (λ ps. MatchesNot ps c.pieces.rest.now) (sym (ap (map piece_value) c.in-Some.ensures.cases.0)) c.in-Nowhere.ensures in
    (None, tt, so_far.2 None (λ ps text known. known None none))

pub returns-then-not-has_literals-clause-found : goal.returns-then-not-has_literals-clause-found
returns-then-not-has_literals-clause-found g c = λ done before is.
    let so_far = c.pieces.invariant.1.2 done before is in
    let none = lacks (map piece_value c.pieces.left.now) c.pieces.rest.now c.if-not-has_literals.ensures in
    (None, tt, so_far.2 None (λ ps text known. known None none))

pub returns-in-Unknown-clause-table : goal.returns-in-Unknown-clause-table
returns-in-Unknown-clause-table g c = grind (arith, common_steps, of_fault, table_after)

pub returns-clause-found : goal.returns-clause-found
returns-clause-found g c = λ done before is.
    let so_far = c.pieces.invariant.1.2 done before is in
    let all = map piece_value c.args.pieces.now in
    let none = ap (map piece_value) (none_left c.pieces.left.now c.in_default.ensures.cases) in
    let gone : c.pieces.invariant.1.0 ≡ all = done_all c.pieces.invariant.1.0 (map piece_value c.pieces.left.now) all c.pieces.invariant.1.1 none in
    rest_over g.K.Captures.keeps done before so_far.0 all c.args.text.now c.pieces.rest.now c.pieces.kept c.is_empty.result c.is_empty.ensures
    (subst (λ ps. g.K.Captures.keeps (done ++ ps) c.pieces.kept so_far.0) gone so_far.1) (λ found h. so_far.2 found (subst (λ ls. FindsRest so_far.0 ls c.pieces.rest.now found) (sym none) h))
