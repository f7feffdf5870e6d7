-- How far a line of a library is good before its fault, and that no line has two faults.
use Rattle.gk_steps.proofs.Common.{◌≡◌, ℕ, zero, suc, ◌<◌, ◌≤◌, inl, inr, List, [], ◌∷◌, ◌++◌, Option, Some, refl, sym, subst, ◌∙◌, arith, common_steps, eq-or-lt_of_le, StepType, LineValue, PieceValue, Matches, MatchesNot, ActionRowValue, action_row, EntryValue, LibraryValue, Sides, type_of, sides_of, HasNeededFields, HasRightKinds, NoneFound, SpellsEntry, HasPattern, IsBadType, IsBadPattern, IsUnknownAction, IsMissingField, IsOtherKind, IsAmbiguous}
use Rattle.gk_steps.proofs.SpellingLemmas.{spelling}

pub some_same : {A : Type 0} (x y : A) → ◌≡◌ {A = Option A} (Some x) (Some y) → x ≡ y
some_same x y e = cc

-- a line that is good up to its action, up to the fields that this needs, and up to their kinds
record HasAction (line : LineValue) : Type 0 where
  pub step_type : Option StepType
  pub sides : Sides
  pub ps : List PieceValue
  pub row : ActionRowValue
  pub good : HasPattern line step_type sides ps
  pub is_action : action_row sides.action ≡ Some row

record HasFields (line : LineValue) : Type 0 where
  pub before : HasAction line
  pub needs : HasNeededFields before.row before.ps

record HasKinds (line : LineValue) : Type 0 where
  pub before : HasFields line
  pub kinds : HasRightKinds before.before.row before.before.ps

-- how far a line is good, from nothing to an entry that it spells
abbrev Reaches : ℕ → LibraryValue → LineValue → Type 0
Reaches zero earlier line = Unit {0}
Reaches (suc zero) earlier line = (step_type : Option StepType) × (type_of line ≡ Some step_type)
Reaches (suc (suc zero)) earlier line = (step_type : Option StepType) × (sides : Sides) × (ps : List PieceValue) × HasPattern line step_type sides ps
Reaches (suc (suc (suc zero))) earlier line = HasAction line
Reaches (suc (suc (suc (suc zero)))) earlier line = HasFields line
Reaches (suc (suc (suc (suc (suc zero))))) earlier line = HasKinds line
Reaches (suc (suc (suc (suc (suc (suc zero)))))) earlier line = (entry : EntryValue) × SpellsEntry earlier line entry
Reaches _ earlier line = ⊥

-- the fault of a line that is good so far and no further
abbrev pub FaultAfter : ℕ → LibraryValue → LineValue → Type 0
FaultAfter zero earlier line = IsBadType earlier line
FaultAfter (suc zero) earlier line = IsBadPattern earlier line
FaultAfter (suc (suc zero)) earlier line = IsUnknownAction earlier line
FaultAfter (suc (suc (suc zero))) earlier line = IsMissingField earlier line
FaultAfter (suc (suc (suc (suc zero)))) earlier line = IsOtherKind earlier line
FaultAfter (suc (suc (suc (suc (suc zero))))) earlier line = IsAmbiguous earlier line
FaultAfter _ earlier line = ⊥

reached : (k : ℕ) (earlier : LibraryValue) (line : LineValue) → FaultAfter k earlier line → Reaches k earlier line
reached zero earlier line f = tt
reached (suc zero) earlier line f = (f.step_type, f.is_type)
reached (suc (suc zero)) earlier line f = (f.step_type, f.sides, f.ps, f.good)
reached (suc (suc (suc zero))) earlier line f = record { step_type = f.step_type; sides = f.sides; ps = f.ps; row = f.row; good = f.good; is_action = f.is_action }
reached (suc (suc (suc (suc zero)))) earlier line f = record { before = record { step_type = f.step_type; sides = f.sides; ps = f.ps; row = f.row; good = f.good; is_action = f.is_action }; needs = f.needs }
reached (suc (suc (suc (suc (suc zero))))) earlier line f = record { before = record { before = record { step_type = f.step_type; sides = f.sides; ps = f.ps; row = f.row; good = f.good; is_action = f.is_action }; needs = f.needs }; kinds = f.kinds }
reached (suc (suc (suc (suc (suc (suc k)))))) earlier line f = absurd f

spelled_so : (earlier : LibraryValue) (line : LineValue) (entry : EntryValue) → SpellsEntry earlier line entry → HasKinds line
spelled_so earlier line entry s = record {
  before = record {
    before = record { step_type = entry.step_type; sides = s.sides; ps = entry.pattern; row = s.row; good = record { is_type = s.is_type; is_cut = s.is_cut; is_pattern = s.is_pattern }; is_action = s.is_action };
    needs = s.needs;
  };
  kinds = s.kinds;
}

one_less : (k : ℕ) (earlier : LibraryValue) (line : LineValue) → Reaches (suc k) earlier line → Reaches k earlier line
one_less zero earlier line r = tt
one_less (suc zero) earlier line r = (r.0, r.3.is_type)
one_less (suc (suc zero)) earlier line r = (r.step_type, r.sides, r.ps, r.good)
one_less (suc (suc (suc zero))) earlier line r = r.before
one_less (suc (suc (suc (suc zero)))) earlier line r = r.before
one_less (suc (suc (suc (suc (suc zero))))) earlier line r = spelled_so earlier line r.0 r.1
one_less (suc (suc (suc (suc (suc (suc k)))))) earlier line r = absurd r

less : (m k : ℕ) (earlier : LibraryValue) (line : LineValue) → k ≤ m → Reaches m earlier line → Reaches k earlier line
less zero k earlier line le r = let same : 0 ≡ k = omega arith in subst (λ j. Reaches j earlier line) same r
less (suc m) k earlier line le r = elim (eq-or-lt_of_le le) [
  | inl same ↦ subst (λ j. Reaches j earlier line) (sym same) r
  | inr under ↦ less m k earlier line (omega arith) (one_less m earlier line r)
]

-- what is good in a line is determined
sides_same : (line : LineValue) (step_type : Option StepType) (a b : Sides) (ps : List PieceValue) → HasPattern line step_type a ps → sides_of line ≡ Some b → a ≡ b
sides_same line step_type a b ps g cut = some_same a b (sym g.is_cut ∙ cut)

record IsSame (line : LineValue) (ps : List PieceValue) (row : ActionRowValue) (h : HasAction line) : Type 0 where
  pub pieces : h.ps ≡ ps
  pub rows : h.row ≡ row

same_action : (line : LineValue) (step_type : Option StepType) (sides : Sides) (ps : List PieceValue) (row : ActionRowValue) → HasPattern line step_type sides ps → action_row sides.action ≡ Some row → (h : HasAction line) → IsSame line ps row h
same_action line step_type sides ps row g a h = grind (arith, common_steps, sides_same, spelling, some_same)

none_there : (before : LibraryValue) (x : EntryValue) (after : LibraryValue) (step_type : Option StepType) (text : List ℕ) → NoneFound (before ++ x ∷ after) step_type text → x.step_type ≡ step_type → MatchesNot x.pattern text
none_there [] x after step_type text h = h 0 x refl
none_there (b ∷ before) x after step_type text h = none_there before x after step_type text (λ position. h (suc position))

unambiguous : (earlier : LibraryValue) (line : LineValue) → IsAmbiguous earlier line → (e : EntryValue) → SpellsEntry earlier line e → ⊥
unambiguous earlier line f e s =
    let types : f.step_type ≡ e.step_type = some_same f.step_type e.step_type (sym f.good.is_type ∙ s.is_type) in
    let sides : f.sides ≡ s.sides = sides_same line f.step_type f.sides s.sides f.ps f.good s.is_cut in
    none_there f.before f.entry f.after e.step_type s.sides.pattern (subst (λ (es : LibraryValue). NoneFound es e.step_type s.sides.pattern) f.whole s.unambiguous) (f.same ∙ types)
    f.spans (subst (λ (q : Sides). Matches f.entry.pattern q.pattern f.spans) sides f.matches)

denied : (k : ℕ) (earlier : LibraryValue) (line : LineValue) → FaultAfter k earlier line → Reaches (suc k) earlier line → ⊥
denied zero earlier line f r = grind (arith, common_steps)
denied (suc zero) earlier line f r = f.bad r.1 r.2 r.3.is_cut r.3.is_pattern
denied (suc (suc zero)) earlier line f r = grind (arith, common_steps, sides_same)
denied (suc (suc (suc zero))) earlier line f r =
    let same = same_action line f.step_type f.sides f.ps f.row f.good f.is_action r.before in
    f.bad (subst (λ (q : List PieceValue). HasNeededFields f.row q) same.pieces (subst (λ (x : ActionRowValue). HasNeededFields x r.before.ps) same.rows r.needs))
denied (suc (suc (suc (suc zero)))) earlier line f r =
    let same = same_action line f.step_type f.sides f.ps f.row f.good f.is_action r.before.before in
    f.bad (subst (λ (q : List PieceValue). HasRightKinds f.row q) same.pieces (subst (λ (x : ActionRowValue). HasRightKinds x r.before.before.ps) same.rows r.kinds))
denied (suc (suc (suc (suc (suc zero))))) earlier line f r = unambiguous earlier line f r.0 r.1
denied (suc (suc (suc (suc (suc (suc k)))))) earlier line f r = f

-- no line with a fault spells an entry, nor has it a second fault
pub never_spelled : (k : ℕ) (earlier : LibraryValue) (line : LineValue) → k < 6 → FaultAfter k earlier line → (e : EntryValue) → SpellsEntry earlier line e → ⊥
never_spelled k earlier line within f e s = denied k earlier line f (less 6 (suc k) earlier line (omega arith) (e, s))

never_both : (k m : ℕ) (earlier : LibraryValue) (line : LineValue) → FaultAfter k earlier line → FaultAfter m earlier line → k < m → ⊥
never_both k m earlier line f g under = denied k earlier line f (less m (suc k) earlier line (omega arith) (reached m earlier line g))

pub same_stage : (k m : ℕ) (earlier : LibraryValue) (line : LineValue) → FaultAfter k earlier line → FaultAfter m earlier line → k ≡ m
same_stage k m earlier line f g = grind (arith, common_steps, never_both, eq-or-lt_of_le)
