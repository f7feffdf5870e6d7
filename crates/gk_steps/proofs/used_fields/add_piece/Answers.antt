use Rattle.gk_steps.proofs.Common.{◌++◌, ◌∷◌, [], subst, sym, piece_value, span_value, values_of, IsAdded, KeepsFirst}
use Rattle.gk_steps.proofs.UsedFieldsLemmas.{with_literal, with_named}
use Rattle.gk_steps.proofs.used_fields.add_piece.Goals as goal

pub returns-in_default : goal.returns-in_default
returns-in_default c = λ ps before h. subst (λ p. KeepsFirst (ps ++ piece_value p ∷ []) c.args.firsts.now (before ++ values_of (piece_value p) c.args.span.now)) (sym c.in_default.is) (with_literal ps before c.in_default.field-0.bytes.items c.args.firsts.now h)

pub returns-in-Field : goal.returns-in-Field
returns-in-Field c =
    let f = span_value c.in-Field.kind c.args.span.now in
    let known : IsAdded c.as_str.result.now f c.args.firsts.now c.add_field.new.firsts = subst (λ f. IsAdded c.as_str.result.now f c.args.firsts.now c.add_field.new.firsts) c.capture_of.ensures c.add_field.ensures in
    let added : IsAdded c.in-Field.name.bytes.items f c.args.firsts.now c.add_field.new.firsts = subst (λ name. IsAdded name f c.args.firsts.now c.add_field.new.firsts) c.as_str.ensures.value known in
    λ ps before h. subst (λ p. KeepsFirst (ps ++ piece_value p ∷ []) c.add_field.new.firsts (before ++ values_of (piece_value p) c.args.span.now)) (sym c.in-Field.is) (with_named ps before c.in-Field.name.bytes.items c.args.span.now c.in-Field.kind c.args.firsts.now c.add_field.new.firsts added h)
