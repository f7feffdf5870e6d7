use Rattle.gk_steps.proofs.Common.{◌≡◌, ◌+◌, ◌++◌, ◌∷◌, [], Some, refl, ap, subst, ◌∙◌, length, map, drop, get_or, arith, piece_value, Matches, IsAdvance, IsMatchedTo, values_of, length-map, drop-length}
use Rattle.gk_steps.proofs.TableLemmas.{is_step}
use Rattle.gk_steps.proofs.AdvanceLemmas.{text_piece}
use Rattle.gk_steps.proofs.TableReadLemmas.{read_start, read_more, read_end, here_at, row_under}
use Rattle.gk_steps.proofs.CaptureLemmas.{done_more, done_all}
use Rattle.gk_steps.proofs.matching.read.Goals as goal

pub loop-taken-init : goal.loop-taken-init
loop-taken-init g c = ([], ([], refl, c.empty-kept.ensures.none), read_start (map piece_value c.args.pieces.now) c.args.text.now c.args.boundaries.now c.utf8.text c.requires.boundaries c.requires.matched)

pub unwrap-next-requires : goal.unwrap-next-requires
unwrap-next-requires g c =
    let ps = map piece_value c.args.pieces.now in
    let text = c.args.text.now in
    let boundaries = c.args.boundaries.now in
    let taken = c.loop-taken.taken in
    let column = c.loop-taken.column in
    let here : drop taken ps ≡ piece_value c.index-pieces-taken.result ∷ drop (taken + 1) ps = here_at c.args.pieces.now taken c.index-pieces-taken.result c.loop-taken-test.true c.index-pieces-taken.is in
    is_step (piece_value c.index-pieces-taken.result) (drop (taken + 1) ps) text boundaries c.deref.result.now column c.advance.result c.utf8.text (text_piece c.index-pieces-taken.result) c.requires.boundaries
    (row_under c.args.pieces.now text boundaries c.args.rows.now taken c.index-rows-pieces.result c.deref.result.now c.requires.table c.loop-taken-test.true c.index-rows-pieces.is c.deref.ensures.value)
    c.loop-taken.invariant.2.known c.advance.ensures (c.loop-taken.invariant.2.matched.0, subst (λ ws. Matches ws (drop (get_or boundaries column 0) text) c.loop-taken.invariant.2.matched.0) here c.loop-taken.invariant.2.matched.1)

pub loop-taken-preserved : goal.loop-taken-preserved
loop-taken-preserved g c =
    let ps = map piece_value c.args.pieces.now in
    let text = c.args.text.now in
    let boundaries = c.args.boundaries.now in
    let taken = c.loop-taken.taken in
    let column = c.loop-taken.column in
    let here : drop taken ps ≡ piece_value c.index-pieces-taken.result ∷ drop (taken + 1) ps = here_at c.args.pieces.now taken c.index-pieces-taken.result c.loop-taken-test.true c.index-pieces-taken.is in
    let stepped : IsAdvance (piece_value c.index-pieces-taken.result) text boundaries c.deref.result.now column (Some c.unwrap-next.result) = subst (IsAdvance (piece_value c.index-pieces-taken.result) text boundaries c.deref.result.now column) c.unwrap-next.ensures c.advance.ensures in
    let before = c.loop-taken.invariant.0 in
    let done = c.loop-taken.invariant.1.0 in
    let after = before ++ values_of (piece_value c.index-pieces-taken.result) c.range.result.now in (
      after,
      (
        done ++ piece_value c.index-pieces-taken.result ∷ [],
        done_more done (drop taken ps) ps (drop (taken + 1) ps) (piece_value c.index-pieces-taken.result) c.loop-taken.invariant.1.1 here,
        c.in_ok-add.ensures.kept done before c.loop-taken.invariant.1.2,
      ),
      read_more ps (drop (taken + 1) ps) (piece_value c.index-pieces-taken.result) text boundaries c.deref.result.now taken column c.unwrap-next.result before after c.utf8.text (text_piece c.index-pieces-taken.result) c.requires.boundaries here (λ i. drop (taken + 1) ps)
          (row_under c.args.pieces.now text boundaries c.args.rows.now taken c.index-rows-pieces.result c.deref.result.now c.requires.table c.loop-taken-test.true c.index-rows-pieces.is c.deref.ensures.value)
          stepped (ap (λ x. before ++ values_of (piece_value c.index-pieces-taken.result) x) c.range.ensures.value) c.loop-taken.invariant.2,
    )

pub returns : goal.returns
returns g c =
    let ps = map piece_value c.args.pieces.now in
    let size : length ps ≡ length c.args.pieces.now = length-map c.args.pieces.now piece_value in
    let all : c.loop-taken.taken ≡ length ps = omega arith in
    let fields = c.loop-taken.invariant.0 in
    let gone : c.loop-taken.invariant.1.0 ≡ ps = done_all c.loop-taken.invariant.1.0 (drop c.loop-taken.taken ps) ps c.loop-taken.invariant.1.1 (ap (λ k. drop k ps) all ∙ drop-length ps) in
    (Some fields, subst (λ done. g.K.Captures.keeps done c.loop-taken.kept fields) gone c.loop-taken.invariant.1.2, read_end ps c.args.text.now c.args.boundaries.now c.loop-taken.column fields (subst (λ k. IsMatchedTo k c.loop-taken.column ps c.args.text.now c.args.boundaries.now fields) all c.loop-taken.invariant.2))
