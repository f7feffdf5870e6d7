use Rattle.gk_steps.proofs.Common.{◌≡◌, ℕ, ◌++◌, ◌∷◌, [], ◌∙◌, List, refl, map, ap, sym, subst, arith, common_steps, map-append, Piece, PieceValue, Literal, piece_value, IsKeptResult, KeepsMore, kept_if}
use Rattle.gk_steps.proofs.TableRowLemmas.{if_ok}
use Rattle.gk_steps.proofs.FindingLemmas.{either_more}
use Rattle.gk_steps.proofs.LeftmostLemmas.{cut_or_whole, ends_after, table_more, table_of_left}
use Rattle.gk_steps.proofs.CaptureLemmas.{after_literal}
use Rattle.gk_steps.proofs.FilledCellsLemmas.{fewer_cells, fewer_pieces}
use Rattle.gk_steps.proofs.matching.match_fitting.Goals as goal

-- pieces that end with a literal
ending : (pieces middle : List Piece) (last : Piece) (literal : List ℕ) → pieces ≡ middle ++ last ∷ [] → piece_value last ≡ Literal literal → map piece_value pieces ≡ map piece_value middle ++ Literal literal ∷ []
ending pieces middle last literal are is = ap (map piece_value) are ∙ map-append piece_value middle (last ∷ []) ∙ ap (λ (p : PieceValue). map piece_value middle ++ p ∷ []) is

pub match_before-requires : goal.match_before-requires
match_before-requires g c =
    let literal = c.deref.result.now in
    let is : piece_value c.in-Some.last.now ≡ Literal literal = ap piece_value c.in-Literal.is ∙ ap Literal (sym c.deref.ensures) in
    let left = ending c.after_start.result.0.now c.in-Some.middle.now c.in-Some.last.now literal c.in-Some.ensures.cases.0 is in
    λ k. ((refl, tt), (is, λ le. ends_after (map piece_value c.args.pieces.now) c.args.text.now (map piece_value c.after_start.result.0.now) c.after_start.result.1.now (map piece_value c.in-Some.middle.now) literal (cut_or_whole (map piece_value c.args.pieces.now) c.args.text.now (map piece_value c.after_start.result.0.now) c.after_start.result.1.now c.after_start.ensures.cut) left c.requires.back le))

pub returns-in-Literal-clause-found : goal.returns-in-Literal-clause-found
returns-in-Literal-clause-found g c =
    let ps = map piece_value c.args.pieces.now in
    let left = map piece_value c.after_start.result.0.now in
    let rest = c.after_start.result.1.now in
    let kept = c.match_before.new.kept in
    let is : piece_value c.in-Some.last.now ≡ Literal c.deref.result.now = ap piece_value c.in-Literal.is ∙ ap Literal (sym c.deref.ensures) in
    let all = ending c.after_start.result.0.now c.in-Some.middle.now c.in-Some.last.now c.deref.result.now c.in-Some.ensures.cases.0 is in
    if_ok c.match_before.result (λ found. KeepsMore g.K.Captures.keeps c.empty.result (map piece_value c.in-Some.middle.now ++ Literal c.deref.result.now ∷ []) rest (kept_if found kept)) (λ found. IsKeptResult g.K.Captures.keeps ps c.args.text.now (kept_if found kept))
    (λ found more. after_literal g.K.Captures.keeps ps c.args.text.now left rest c.empty.result (kept_if found kept) (cut_or_whole (map piece_value c.args.pieces.now) c.args.text.now (map piece_value c.after_start.result.0.now) c.after_start.result.1.now c.after_start.ensures.cut) c.empty.ensures.none c.empty.ensures.literal
    (subst (λ qs. KeepsMore g.K.Captures.keeps c.empty.result qs rest (kept_if found kept)) (sym all) more)) c.match_before.ensures.found

pub returns-in-Literal-clause-table : goal.returns-in-Literal-clause-table
returns-in-Literal-clause-table g c = grind (arith, common_steps, ending, either_more, table_of_left, cut_or_whole, table_more)

pub returns-clause-found : goal.returns-clause-found
returns-clause-found g c =
    let ps = map piece_value c.args.pieces.now in
    let left = map piece_value c.after_start.result.0.now in
    let rest = c.after_start.result.1.now in
    let kept = c.match_from_left.new.kept in
    if_ok c.match_from_left.result (λ found. KeepsMore g.K.Captures.keeps c.empty.result left rest (kept_if found kept)) (λ found. IsKeptResult g.K.Captures.keeps ps c.args.text.now (kept_if found kept))
    (λ found more. after_literal g.K.Captures.keeps ps c.args.text.now left rest c.empty.result (kept_if found kept) (cut_or_whole (map piece_value c.args.pieces.now) c.args.text.now (map piece_value c.after_start.result.0.now) c.after_start.result.1.now c.after_start.ensures.cut) c.empty.ensures.none c.empty.ensures.literal more) c.match_from_left.ensures.found

pub returns-clause-most : goal.returns-clause-most
returns-clause-most g c = grind (arith, common_steps, fewer_cells, fewer_pieces, cut_or_whole)
