-- The first fields of the names that actions use.
use Rattle.gk_steps.proofs.Common.{◌≡◌, ℕ, ◌++◌, List, [], ◌∷◌, Option, Some, None, refl, ap, subst, ◌∙◌, arith, common_steps, slice_get, option_or, FieldKind, Plain, Decimal, FirstFields, FoundUse, PieceValue, Literal, FieldPiece, FieldValue, TextField, NumberField, span_value, EntryValue, FoundValue, LibraryValue, HasUsedFields, HaveKindsOf, IsUseOf, action_of, field_named, field_of, found_at, Hit, IsHit, AreFirst, AreJoined, IsAdded, KeepsFirst}

-- fields of pieces, and those of the pieces after them
kinds_more : (ps qs : List PieceValue) (fs gs : List FieldValue) → HaveKindsOf ps fs → HaveKindsOf qs gs → HaveKindsOf (ps ++ qs) (fs ++ gs)
kinds_more [] qs [] gs h k = k
kinds_more [] qs (f ∷ fs) gs h k = absurd h
kinds_more (Literal text ∷ ps) qs fs gs h k = kinds_more ps qs fs gs h k
kinds_more (FieldPiece name Plain ∷ ps) qs [] gs h k = absurd h
kinds_more (FieldPiece name Plain ∷ ps) qs (TextField text ∷ fs) gs h k = kinds_more ps qs fs gs h k
kinds_more (FieldPiece name Plain ∷ ps) qs (NumberField n ∷ fs) gs h k = absurd h
kinds_more (FieldPiece name Decimal ∷ ps) qs [] gs h k = absurd h
kinds_more (FieldPiece name Decimal ∷ ps) qs (TextField text ∷ fs) gs h k = absurd h
kinds_more (FieldPiece name Decimal ∷ ps) qs (NumberField n ∷ fs) gs h k = kinds_more ps qs fs gs h k

named_more : (n : List ℕ) (ps qs : List PieceValue) (fs gs : List FieldValue) → HaveKindsOf ps fs → field_named n (ps ++ qs) (fs ++ gs) ≡ option_or (field_named n ps fs) (field_named n qs gs)
named_more n [] qs [] gs h = refl
named_more n [] qs (f ∷ fs) gs h = absurd h
named_more n (Literal text ∷ ps) qs fs gs h = named_more n ps qs fs gs h
named_more n (FieldPiece name Plain ∷ ps) qs [] gs h = absurd h
named_more n (FieldPiece name Plain ∷ ps) qs (TextField text ∷ fs) gs h = grind (arith, common_steps, named_more n ps qs fs gs h)
named_more n (FieldPiece name Plain ∷ ps) qs (NumberField i ∷ fs) gs h = absurd h
named_more n (FieldPiece name Decimal ∷ ps) qs [] gs h = absurd h
named_more n (FieldPiece name Decimal ∷ ps) qs (TextField text ∷ fs) gs h = absurd h
named_more n (FieldPiece name Decimal ∷ ps) qs (NumberField i ∷ fs) gs h = grind (arith, common_steps, named_more n ps qs fs gs h)

-- the first fields of pieces and of those after them
or_both : {x y a b : Option FieldValue} → x ≡ a → y ≡ b → option_or x y ≡ option_or a b
or_both {y = y} {a = a} e f = ap (λ o. option_or o y) e ∙ ap (option_or a) f

pub joined_first : (ps qs : List PieceValue) (fs gs : List FieldValue) (old later new : FirstFields) → AreJoined old later new → KeepsFirst ps old fs → KeepsFirst qs later gs → KeepsFirst (ps ++ qs) new (fs ++ gs)
joined_first ps qs fs gs old later new is h k = grind (arith, common_steps, kinds_more, or_both, named_more)

-- with a literal, and with a field
or_none : (n : List ℕ) (ps : List PieceValue) (fs : List FieldValue) (literal : List ℕ) → HaveKindsOf ps fs → field_named n (ps ++ Literal literal ∷ []) (fs ++ []) ≡ field_named n ps fs
or_none n ps fs literal h = grind (arith, common_steps, named_more)

pub with_literal : (ps : List PieceValue) (fs : List FieldValue) (literal : List ℕ) (firsts : FirstFields) → KeepsFirst ps firsts fs → KeepsFirst (ps ++ Literal literal ∷ []) firsts (fs ++ [])
with_literal ps fs literal firsts h = grind (arith, common_steps, kinds_more, or_none)

pub with_named : (ps : List PieceValue) (fs : List FieldValue) (name span : List ℕ) (kind : FieldKind) (old new : FirstFields) → IsAdded name (span_value kind span) old new → KeepsFirst ps old fs → KeepsFirst (ps ++ FieldPiece name kind ∷ []) new (fs ++ span_value kind span ∷ [])
with_named ps fs name span kind old new is h = grind (arith, common_steps, kinds_more, or_both, named_more)

-- what a step's action works with, where there is a hit
first_in : (library : LibraryValue) (f : FoundValue) (e : EntryValue) (firsts : FirstFields) → slice_get library f.entry ≡ Some e → AreFirst (λ n. field_named n e.pattern f.fields) firsts → AreFirst (field_of library f) firsts
first_in library f e firsts stands h = grind (arith, common_steps)

pub use_some : (library : LibraryValue) (o : Option FoundValue) (hit : Hit FirstFields) (u : FoundUse) → IsHit KeepsFirst library (Some hit) o → ((fields : List FieldValue) → u.action ≡ action_of library (found_at hit.entry fields)) → ((f : FoundValue) → AreFirst (field_of library f) hit.kept → HasUsedFields library f u.fields) → IsUseOf library o (Some u)
use_some library None hit u is action fields = absurd is
use_some library (Some f) hit u is action fields = record { action = subst (λ (n : ℕ). u.action ≡ action_of library (found_at n f.fields)) is.position (action f.fields); fields = fields f (first_in library f is.entry hit.kept is.stands is.kept.first) }
