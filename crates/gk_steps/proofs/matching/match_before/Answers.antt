use Rattle.gk_steps.proofs.Common.{◌≡◌, ℕ, ◌≤◌, ◌+◌, ◌-◌, ◌++◌, ◌∷◌, [], List, None, take, map, length, subst, arith, common_steps, take-append-drop, PieceValue, piece_value, values_of, KeepsRest, kept_if, table_cells, EndsWith}
use Rattle.std.specs.Str.{IsUtf8}
use Rattle.gk_steps.proofs.LeftmostLemmas.{cut_before, last_too_long}
use Rattle.gk_steps.proofs.CaptureLemmas.{rest_last, rest_last_none}
use Rattle.gk_steps.proofs.FilledCellsLemmas.{fewer_before, fewer_cells}
use Rattle.gk_steps.proofs.matching.match_before.Goals as goal

-- the table of what comes before the literal has no more cells than that of the whole text
before_most : (ps : List PieceValue) (text literal part : List ℕ) (old new : ℕ) → IsUtf8 text → IsUtf8 literal → EndsWith text literal → part ≡ take (length text - length literal - 0) text → new ≤ old + table_cells ps part → new ≤ old + table_cells ps text
before_most ps text literal part old new u l ends is most = grind (arith, common_steps, fewer_before, cut_before, fewer_cells)

-- the text is what comes before the literal, and the literal
whole_of : (text literal part : List ℕ) → IsUtf8 literal → EndsWith text literal → part ≡ take (length text - length literal - 0) text → text ≡ part ++ literal
whole_of text literal part l ends is = grind (arith, common_steps, take-append-drop, cut_before)

pub returns-then-text-literal-clause-found : goal.returns-then-text-literal-clause-found
returns-then-text-literal-clause-found g c = λ done before is. (None, tt, λ ps text known. known None (last_too_long (map piece_value c.args.pieces.now) c.args.literal.now c.args.text.now (omega (arith, c.if-text-literal.true))))

pub range-requires-clause-end_boundary : goal.range-requires-clause-end_boundary
range-requires-clause-end_boundary g c = let cut = cut_before c.args.text.now c.args.literal.now c.utf8.literal (c.requires.ends (omega (arith, c.if-text-literal.false))) in cut.0

pub range_from-requires : goal.range_from-requires
range_from-requires g c = λ some. let cut = cut_before c.args.text.now c.args.literal.now c.utf8.literal (c.requires.ends (omega (arith, c.if-text-literal.false))) in cut.0

pub returns-in_err-match_from_left-clause-most : goal.returns-in_err-match_from_left-clause-most
returns-in_err-match_from_left-clause-most g c = before_most (map piece_value c.args.pieces.now) c.args.text.now c.args.literal.now c.range.result.now _ _ c.utf8.text c.utf8.literal (c.requires.ends (omega (arith, c.if-text-literal.false))) c.range.ensures.value c.match_from_left.ensures.most

pub returns-then-not-branch-clause-most : goal.returns-then-not-branch-clause-most
returns-then-not-branch-clause-most g c = before_most (map piece_value c.args.pieces.now) c.args.text.now c.args.literal.now c.range.result.now _ _ c.utf8.text c.utf8.literal (c.requires.ends (omega (arith, c.if-text-literal.false))) c.range.ensures.value c.match_from_left.ensures.most

pub returns-in_err-add-clause-most : goal.returns-in_err-add-clause-most
returns-in_err-add-clause-most g c = before_most (map piece_value c.args.pieces.now) c.args.text.now c.args.literal.now c.range.result.now _ _ c.utf8.text c.utf8.literal (c.requires.ends (omega (arith, c.if-text-literal.false))) c.range.ensures.value c.match_from_left.ensures.most

pub returns-clause-most : goal.returns-clause-most
returns-clause-most g c = before_most (map piece_value c.args.pieces.now) c.args.text.now c.args.literal.now c.range.result.now _ _ c.utf8.text c.utf8.literal (c.requires.ends (omega (arith, c.if-text-literal.false))) c.range.ensures.value c.match_from_left.ensures.most

pub returns-then-not-branch-clause-found : goal.returns-then-not-branch-clause-found
returns-then-not-branch-clause-found g c = λ done before is.
    let ps = map piece_value c.args.pieces.now in
    let more = subst (λ b. KeepsRest g.K.Captures.keeps done before ps c.range.result.now (kept_if b c.match_from_left.new.kept)) c.if-not-branch.true (c.in_ok-match_from_left.ensures.found done before is) in
    rest_last_none g.K.Captures.keeps done before ps c.args.literal.now c.range.result.now c.args.text.now (whole_of c.args.text.now c.args.literal.now c.range.result.now c.utf8.literal (c.requires.ends (omega (arith, c.if-text-literal.false))) c.range.ensures.value) more

pub returns-clause-found : goal.returns-clause-found
returns-clause-found g c = λ done before is.
    let ps = map piece_value c.args.pieces.now in
    let more = subst (λ b. KeepsRest g.K.Captures.keeps done before ps c.range.result.now (kept_if b c.match_from_left.new.kept)) c.if-not-branch.false (c.in_ok-match_from_left.ensures.found done before is) in
    rest_last g.K.Captures.keeps done before ps c.args.literal.now c.range.result.now c.args.text.now c.match_from_left.new.kept c.add.new.self (whole_of c.args.text.now c.args.literal.now c.range.result.now c.utf8.literal (c.requires.ends (omega (arith, c.if-text-literal.false))) c.range.ensures.value)
    (λ qs fields k. subst (λ p. g.K.Captures.keeps (qs ++ p ∷ []) c.add.new.self (fields ++ values_of p c.range_from.result.now)) c.requires.last (c.in_ok-add.ensures.kept qs fields k)) more
