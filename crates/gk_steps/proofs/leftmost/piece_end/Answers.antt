use Rattle.gk_steps.proofs.Common.{map, subst, sym, string_bytes, Plain, Decimal, piece_value, IsPieceEnd}
use Rattle.gk_steps.proofs.AdvanceLemmas.{field_piece}
use Rattle.gk_steps.proofs.leftmost.piece_end.Goals as goal

pub returns-in-Plain : goal.returns-in-Plain
returns-in-Plain c =
    subst (λ p. IsPieceEnd p (map piece_value c.args.after.now) c.args.text.now c.plain_end.result) (sym (field_piece c.args.piece.now c.in-Field.name c.in-Field.kind Plain c.in-Field.is c.in-Plain.is)) (c.plain_end.ensures (string_bytes c.in-Field.name))

pub returns-in-Decimal : goal.returns-in-Decimal
returns-in-Decimal c =
    subst (λ p. IsPieceEnd p (map piece_value c.args.after.now) c.args.text.now c.decimal_end.result) (sym (field_piece c.args.piece.now c.in-Field.name c.in-Field.kind Decimal c.in-Field.is c.in-Decimal.is)) (c.decimal_end.ensures (string_bytes c.in-Field.name))
