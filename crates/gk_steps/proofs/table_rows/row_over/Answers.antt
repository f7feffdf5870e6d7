use Rattle.gk_steps.proofs.Common.{◌≡◌, ◌∷◌, subst, sym, string_bytes, length, arith, Plain, Decimal, IsRow, IsRowTo, IsRowOver, IsPlainRow, IsNumberRow, piece_value}
use Rattle.gk_steps.proofs.AdvanceLemmas.{field_piece, text_piece}
use Rattle.gk_steps.proofs.TableRowLemmas.{if_ok, plain_field_row, number_row, step_more}
use Rattle.gk_steps.proofs.FilledCellsLemmas.{one_more}
use Rattle.gk_steps.proofs.table_rows.row_over.Goals as goal

pub returns-in-Plain-clause-row : goal.returns-in-Plain-clause-row
returns-in-Plain-clause-row c =
    if_ok c.plain_field_row.result (λ row. IsPlainRow (length c.args.below.now) c.args.below.now row.items) (λ row. IsRowOver (piece_value c.args.piece.now) c.args.text.now c.args.boundaries.now c.args.below.now row.items)
    (λ row p ps r. subst (λ piece. IsRow (piece ∷ ps) c.args.text.now c.args.boundaries.now row.items) (sym (field_piece c.args.piece.now c.in-Field.name c.in-Field.kind Plain c.in-Field.is c.in-Plain.is))
    (plain_field_row (string_bytes c.in-Field.name) ps c.args.text.now c.args.boundaries.now c.args.below.now row.items c.utf8.text c.requires.boundaries r p))
    c.plain_field_row.ensures.row

pub returns-in-Decimal-clause-row : goal.returns-in-Decimal-clause-row
returns-in-Decimal-clause-row c =
    if_ok c.decimal_row.result (λ row. IsNumberRow (length c.args.boundaries.now) c.args.text.now c.args.boundaries.now c.args.below.now row.items) (λ row. IsRowOver (piece_value c.args.piece.now) c.args.text.now c.args.boundaries.now c.args.below.now row.items)
    (λ row p ps r. subst (λ piece. IsRow (piece ∷ ps) c.args.text.now c.args.boundaries.now row.items) (sym (field_piece c.args.piece.now c.in-Field.name c.in-Field.kind Decimal c.in-Field.is c.in-Decimal.is))
    (number_row (string_bytes c.in-Field.name) ps c.args.text.now c.args.boundaries.now c.args.below.now row.items c.utf8.text c.requires.boundaries r p))
    c.decimal_row.ensures.row

pub loop-column-preserved : goal.loop-column-preserved
loop-column-preserved c = record {
  row = λ ps r. step_more (piece_value c.args.piece.now) ps c.args.text.now c.args.boundaries.now c.args.below.now c.loop-column.column c.advance.result c.is_some-cell.result c.loop-column.row.items c.fill.new.row.items c.utf8.text (text_piece c.args.piece.now) c.requires.boundaries r c.loop-column-test.true c.advance.ensures c.is_some-cell.ensures c.in_ok-fill.ensures.items (c.loop-column.invariant.row ps r);
  most = omega (arith, c.loop-column.invariant.most, c.in_ok-fill.ensures.most);
  least = omega (arith, c.loop-column.invariant.least, c.in_ok-fill.ensures.least);
  filled = one_more c.args.cells.now.filled c.loop-column.cells.filled c.fill.new.self.filled c.loop-column.column c.loop-column.invariant.filled c.in_ok-fill.ensures.filled;
}

pub returns-clause-row : goal.returns-clause-row
returns-clause-row c = λ ps r. let end : c.loop-column.column ≡ length c.args.boundaries.now = omega arith in subst (λ k. IsRowTo k (piece_value c.args.piece.now ∷ ps) c.args.text.now c.args.boundaries.now c.loop-column.row.items) end (c.loop-column.invariant.row ps r)
