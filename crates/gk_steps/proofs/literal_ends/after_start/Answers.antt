use Rattle.gk_steps.proofs.Common.{◌≡◌, ℕ, ◌≤◌, ◌∷◌, List, map, ap, sym, subst, length, arith, common_steps, chars, IsCharBoundary, IsUtf8-string_bytes, Piece, Literal, piece_value, FitsStart}
use Rattle.std.specs.Str.{IsUtf8}
use Rattle.gk_steps.proofs.LeftmostLemmas.{boundary_after, first_and_rest}
use Rattle.gk_steps.proofs.FilledCellsLemmas.{fewer_chars}
use Rattle.gk_steps.proofs.literal_ends.after_start.Goals as goal

-- a text may be cut after the literal that it begins with
cut : (pieces : List Piece) (first : Piece) (after : List Piece) (text literal : List ℕ) (size : ℕ) → pieces ≡ first ∷ after → piece_value first ≡ Literal literal → FitsStart (map piece_value pieces) text → IsUtf8 text → IsUtf8 literal → length literal ≡ size → IsCharBoundary text size
cut pieces first after text literal size are is fits whole part same = grind (arith, common_steps, first_and_rest, boundary_after)

pub range_from-requires : goal.range_from-requires
range_from-requires c = λ some.
    let literal = c.in-Some-Literal-default.literal in
    cut c.args.pieces.now c.in-Some-Literal-default.field-0-0.now c.in-Some-Literal-default.after.now c.args.text.now literal.bytes.items c.len.result c.in-Some-Literal-default.ensures.cases.0 (ap piece_value c.in-Some-Literal-default.field-0-0-is) c.requires c.utf8.text (IsUtf8-string_bytes literal)
    (omega (arith, c.len.ensures, literal.bytes.ok.0))

pub returns-in-Some-Literal-default-clause-fewer : goal.returns-in-Some-Literal-default-clause-fewer
returns-in-Some-Literal-default-clause-fewer c =
    let literal = c.in-Some-Literal-default.literal in
    let boundary = cut c.args.pieces.now c.in-Some-Literal-default.field-0-0.now c.in-Some-Literal-default.after.now c.args.text.now literal.bytes.items c.len.result c.in-Some-Literal-default.ensures.cases.0 (ap piece_value c.in-Some-Literal-default.field-0-0-is) c.requires c.utf8.text (IsUtf8-string_bytes literal)
    (omega (arith, c.len.ensures, literal.bytes.ok.0)) in
    subst (λ r. length (chars r) ≤ length (chars c.args.text.now)) (sym c.range_from.ensures.value) (fewer_chars c.args.text.now c.len.result c.utf8.text boundary)
