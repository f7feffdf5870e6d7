-- One line of a step library.
use Rattle.gk_steps.proofs.Common.{◌≡◌, ℕ, zero, suc, ◌+◌, ◌-◌, ◌<◌, ◌≤◌, Bool, true, false, ◌&&◌, nat_eq, List, [], ◌∷◌, ◌++◌, length, take, drop, get_or, codes, Option, Some, None, refl, ap, sym, subst, arith, Bor, length-drop, common_steps, is_some, IsSome, slice_get, Result, Ok, Err, IfErr, IsErrAnd, AllByRecursion, list_all, IsCharBoundary, nat_tests, take_all, drop_all, IsCharBoundary-after_ascii, IsCharBoundary-before_ascii, StepType, LineValue, begins, Action, FieldKind, LibraryFault, PieceValue, SpellsPattern, field_kind, ActionRowValue, action_row, kind_of_field, word_texts, EntryValue, LibraryValue, FoundValue, NoneFound, IsFirstFound, IsFoundOf, Sides, last_arrow, SpellsEntry, HasPattern, IsAmbiguous, EntryNeedsMemory, is_none_or_kind, has_needed, has_right_kinds, FitsAction, LacksField, HasOtherKind, IsEntryText, EntryTextFaultSays, EntryFaultSays}
use Rattle.std.specs.Str.{IsUtf8}
use Rattle.gk_steps.specs.declared.library_fault.LibraryFault.TheVariants as faults
use Rattle.gk_steps.proofs.SpellingLemmas.{pattern_begins}

-- the last arrow

pub arrow_none : (text : List ℕ) (i : ℕ) → i < length text → last_arrow (drop (suc i) text) ≡ None → begins (drop i text) (codes "=>") ≡ false → last_arrow (drop i text) ≡ None
unfolding last_arrow
arrow_none [] i l h e = absurd (omega arith)
arrow_none (b ∷ bs) zero l h e = grind (arith, common_steps)
arrow_none (b ∷ bs) (suc i) l h e = arrow_none bs i (omega arith) h e

pub arrow_some : (text : List ℕ) (i : ℕ) → i < length text → last_arrow (drop (suc i) text) ≡ None → begins (drop i text) (codes "=>") ≡ true → last_arrow text ≡ Some (record { pattern = take i text; action = drop (i + 2) text })
unfolding last_arrow
arrow_some [] i l h e = absurd (omega arith)
arrow_some (b ∷ bs) zero l h e = grind (arith, common_steps)
arrow_some (b ∷ bs) (suc i) l h e = grind (arith, common_steps, arrow_some bs i (omega arith) h e)

-- tests
and_so : (a b : Bool) → (a && b) ≡ true → (a ≡ true) × (b ≡ true)
and_so true b e = (refl, e)
and_so false b e = let bad : ⊥ = cc in absurd bad

and_both : (a b : Bool) → a ≡ true → b ≡ true → (a && b) ≡ true
and_both true b e f = f
and_both false b e f = let bad : ⊥ = cc in absurd bad

pub needed_so : (ps : List PieceValue) (names : List (List ℕ)) → list_all (λ name. is_some (field_kind ps name)) names ≡ true → AllByRecursion (λ name. IsSome (field_kind ps name)) names
needed_so ps [] e = tt
needed_so ps (name ∷ names) e =
    let parts = and_so (is_some (field_kind ps name)) (list_all (λ n. is_some (field_kind ps n)) names) e in
    (parts.0, needed_so ps names parts.1)

needed_test : (ps : List PieceValue) (names : List (List ℕ)) → AllByRecursion (λ name. IsSome (field_kind ps name)) names → list_all (λ name. is_some (field_kind ps name)) names ≡ true
needed_test ps [] h = refl
needed_test ps (name ∷ names) h = and_both (is_some (field_kind ps name)) (list_all (λ n. is_some (field_kind ps n)) names) h.0 (needed_test ps names h.1)

kind_so : (o : Option FieldKind) (kind : FieldKind) → is_none_or_kind o kind ≡ true → (k : FieldKind) → o ≡ Some k → k ≡ kind
kind_so None kind e k is = let bad : ⊥ = cc in absurd bad
kind_so (Some other) kind e k is = grind (arith, common_steps)

pub kinds_so : (ps : List PieceValue) (names : List (List ℕ)) → list_all (λ name. is_none_or_kind (field_kind ps name) (kind_of_field name)) names ≡ true
    → AllByRecursion (λ name. (kind : FieldKind) → field_kind ps name ≡ Some kind → kind ≡ kind_of_field name) names
kinds_so ps [] e = tt
kinds_so ps (name ∷ names) e =
    let parts = and_so (is_none_or_kind (field_kind ps name) (kind_of_field name)) (list_all (λ n. is_none_or_kind (field_kind ps n) (kind_of_field n)) names) e in
    (kind_so (field_kind ps name) (kind_of_field name) parts.0, kinds_so ps names parts.1)

kinds_test : (ps : List PieceValue) (names : List (List ℕ)) → AllByRecursion (λ name. (kind : FieldKind) → field_kind ps name ≡ Some kind → kind ≡ kind_of_field name) names
    → list_all (λ name. is_none_or_kind (field_kind ps name) (kind_of_field name)) names ≡ true
kinds_test ps [] h = refl
kinds_test ps (name ∷ names) h = grind (arith, common_steps, kinds_test ps names h.1)

-- a test of borrowed words
pub words_pass : (p : List ℕ → Bool) (words : List (Bor (List ℕ))) → list_all (λ word. p word.now) words ≡ list_all p (word_texts words)
words_pass p [] = refl
words_pass p (word ∷ words) = ap (λ v. p word.now && v) (words_pass p words)

-- the action of a row
true_not_false : (b : Bool) → b ≡ true → b ≡ false → ⊥
true_not_false true e f = let bad : ⊥ = cc in bad
true_not_false false e f = let bad : ⊥ = cc in bad

pub action_fits : (name : List ℕ) (ps : List PieceValue) (row : ActionRowValue) → action_row name ≡ Some row → has_needed row.needs ps ≡ true → has_right_kinds row.uses ps ≡ true → FitsAction name ps row.action
action_fits name ps row e needs kinds = record { row = row; is_action = e; action_is = refl; needs = needed_so ps row.needs needs; kinds = kinds_so ps row.uses kinds }

pub lacks_field : (name : List ℕ) (ps : List PieceValue) (row : ActionRowValue) → action_row name ≡ Some row → has_needed row.needs ps ≡ false → LacksField name ps
lacks_field name ps row e needs = record { row = row; is_action = e; bad = λ h. true_not_false (has_needed row.needs ps) (needed_test ps row.needs h) needs }

pub other_kind : (name : List ℕ) (ps : List PieceValue) (row : ActionRowValue) → action_row name ≡ Some row → has_needed row.needs ps ≡ true → has_right_kinds row.uses ps ≡ false → HasOtherKind name ps
other_kind name ps row e needs kinds = record { row = row; is_action = e; needs = needed_so ps row.needs needs; bad = λ h. true_not_false (has_right_kinds row.uses ps) (kinds_test ps row.uses h) kinds }

pub cut_fault : (f : LibraryFault) (earlier : LibraryValue) (line : LineValue) → EntryTextFaultSays f line → EntryFaultSays f earlier line
cut_fault (faults.BadType n) earlier line h = h
cut_fault (faults.BadPattern n) earlier line h = grind (arith, common_steps)
cut_fault (faults.NotUtf8 n) earlier line h = absurd h
cut_fault (faults.UnknownAction n) earlier line h = absurd h
cut_fault (faults.MissingField n) earlier line h = absurd h
cut_fault (faults.FieldKind n) earlier line h = absurd h
cut_fault (faults.Ambiguous n) earlier line h = absurd h
cut_fault faults.TooLong earlier line h = absurd h
cut_fault faults.Memory earlier line h = absurd h

good_so : (line : LineValue) (step_type : Option StepType) (text name : List ℕ) (ps : List PieceValue) → IsEntryText line step_type text name → SpellsPattern text ps → HasPattern line step_type (record { pattern = text; action = name }) ps
good_so line step_type text name ps c s = record { is_type = c.is_type; is_cut = c.is_cut; is_pattern = s }

-- an earlier entry
pub record IsAt (xs : LibraryValue) (x : EntryValue) : Type 0 where
  pub before : LibraryValue
  pub after : LibraryValue
  pub whole : xs ≡ before ++ x ∷ after

at_position : (xs : LibraryValue) (i : ℕ) (x : EntryValue) → slice_get xs i ≡ Some x → IsAt xs x
at_position [] i x e = let bad : ⊥ = cc in absurd bad
at_position (y ∷ ys) zero x e = let same : y ≡ x = cc in record { before = []; after = ys; whole = ap (λ (z : EntryValue). z ∷ ys) same }
at_position (y ∷ ys) (suc i) x e = let more = at_position ys i x e in record { before = y ∷ more.before; after = more.after; whole = ap (λ (zs : LibraryValue). y ∷ zs) more.whole }

pub ambiguous : (earlier : LibraryValue) (line : LineValue) (step_type : Option StepType) (text name : List ℕ) (ps : List PieceValue) (action : Action) (f : FoundValue) → IsEntryText line step_type text name → SpellsPattern text ps → FitsAction name ps action → IsFirstFound earlier step_type text f → IsAmbiguous earlier line
ambiguous earlier line step_type text name ps action f c s a first =
    let position = at_position earlier f.entry first.entry first.position in
    record {
      step_type = step_type;
      sides = record { pattern = text; action = name };
      ps = ps;
      row = a.row;
      good = good_so line step_type text name ps c s;
      is_action = a.is_action;
      needs = a.needs;
      kinds = a.kinds;
      before = position.before;
      entry = first.entry;
      after = position.after;
      whole = position.whole;
      same = first.is_type;
      spans = first.fields.0;
      matches = first.fields.1.matches;
    }

pub spells_entry : (earlier : LibraryValue) (line : LineValue) (step_type : Option StepType) (text name : List ℕ) (ps : List PieceValue) (action : Action) → IsEntryText line step_type text name → SpellsPattern text ps → FitsAction name ps action → NoneFound earlier step_type text
    → SpellsEntry earlier line (record { line = line.line; step_type = step_type; pattern = ps; action = action })
spells_entry earlier line step_type text name ps action c s a none = grind (arith, common_steps)

-- the arrow at a position of the loop
pub arrow_end : (text : List ℕ) (n : ℕ) → length text ≤ n → last_arrow (drop n text) ≡ None
unfolding last_arrow
arrow_end text n h = ap last_arrow (drop_all n text h)

pub none_at : (text : List ℕ) (n : ℕ) → 0 < n → n ≤ length text → last_arrow (drop n text) ≡ None → begins (drop (n - 1) text) (codes "=>") ≡ false → last_arrow (drop (n - 1) text) ≡ None
none_at text n some within h e =
    let next : n ≡ suc (n - 1) = omega arith in
    arrow_none text (n - 1) (omega arith) (subst (λ (k : ℕ). last_arrow (drop k text) ≡ None) next h) e

pub some_at : (text : List ℕ) (n : ℕ) → 0 < n → n ≤ length text → last_arrow (drop n text) ≡ None → begins (drop (n - 1) text) (codes "=>") ≡ true → last_arrow text ≡ Some (record { pattern = take (n - 1) text; action = drop (n - 1 + 2) text })
some_at text n some within h e = grind (arith, common_steps, arrow_some)

pub record HasArrowBytes (text : List ℕ) (p : ℕ) : Type 0 where
  pub within : p + 1 < length text
  pub first : get_or text p 0 < 128
  pub second : get_or text (p + 1) 0 < 128

two_bytes : (b c : ℕ) (cs : List ℕ) → (nat_eq 61 b && (nat_eq 62 c && true)) ≡ true → (b < 128) × (c < 128)
two_bytes b c cs e =
    let first = and_so (nat_eq 61 b) (nat_eq 62 c && true) e in
    let second = and_so (nat_eq 62 c) true first.1 in
    (let same : 61 ≡ b = eq_so 61 b first.0 in omega arith, let same : 62 ≡ c = eq_so 62 c second.0 in omega arith)
  where
    eq_so : (x y : ℕ) → nat_eq x y ≡ true → x ≡ y
    eq_so x y e = grind (arith, nat_tests)

pub arrow_bytes : (text : List ℕ) (p : ℕ) → begins (drop p text) (codes "=>") ≡ true → HasArrowBytes text p
arrow_bytes [] zero e = let bad : ⊥ = cc in absurd bad
arrow_bytes [] (suc p) e = let bad : ⊥ = cc in absurd bad
arrow_bytes (b ∷ []) zero e = grind (arith, common_steps)
arrow_bytes (b ∷ c ∷ cs) zero e = let h = two_bytes b c cs e in record { within = omega arith; first = h.0; second = h.1 }
arrow_bytes (b ∷ bs) (suc p) e = grind (arith, common_steps, arrow_bytes bs p e)

pub arrow_boundary : (text : List ℕ) (p : ℕ) → begins (drop p text) (codes "=>") ≡ true → IsCharBoundary text p
arrow_boundary text p e = let h = arrow_bytes text p e in IsCharBoundary-before_ascii text p (omega (arith, h.within)) h.first

pub arrow_after : (text : List ℕ) (p : ℕ) → IsUtf8 text → begins (drop p text) (codes "=>") ≡ true → IsCharBoundary text (p + 2)
arrow_after text p u e =
    let h = arrow_bytes text p e in
    let next : p + 1 + 1 ≡ p + 2 = omega arith in
    subst (IsCharBoundary text) next (IsCharBoundary-after_ascii text (p + 1) u h.within h.second)

pub sides_from : (text bytes first second : List ℕ) (p : ℕ) → bytes ≡ text → first ≡ take (p - 0) text → second ≡ drop (p + 2) text → last_arrow bytes ≡ Some (record { pattern = take p bytes; action = drop (p + 2) bytes })
    → ◌≡◌ {A = Option Sides} (Some (record { pattern = first; action = second })) (last_arrow text)
sides_from text bytes first second p same a b e = grind (arith, common_steps)

pub whole_rest : (xs : List ℕ) (p : ℕ) → take (length xs - p) (drop p xs) ≡ drop p xs
whole_rest xs p = take_all (length xs - p) (drop p xs) (omega (arith, length-drop p xs))

-- what was found among the earlier entries
pub ambiguous_with : (earlier : LibraryValue) (line : LineValue) (step_type : Option StepType) (text name : List ℕ) (ps : List PieceValue) (action : Action) (o : Option FoundValue) (f : FoundValue) → o ≡ Some f → IsEntryText line step_type text name → SpellsPattern text ps → FitsAction name ps action → IsFoundOf earlier step_type text o → IsAmbiguous earlier line
ambiguous_with earlier line step_type text name ps action o f e c s a h = ambiguous earlier line step_type text name ps action f c s a (subst (λ (x : Option FoundValue). IsFoundOf earlier step_type text x) e h)

pub entry_with : (earlier : LibraryValue) (line : LineValue) (step_type : Option StepType) (text name : List ℕ) (ps : List PieceValue) (action : Action) (o : Option FoundValue) → o ≡ None → IsEntryText line step_type text name → SpellsPattern text ps → FitsAction name ps action → IsFoundOf earlier step_type text o → SpellsEntry earlier line (record { line = line.line; step_type = step_type; pattern = ps; action = action })
entry_with earlier line step_type text name ps action o e c s a h = spells_entry earlier line step_type text name ps action c s a (subst (λ (x : Option FoundValue). IsFoundOf earlier step_type text x) e h)

-- refused memory
pub memory_fault : {T : Type 0} (r : Result T LibraryFault) (earlier : LibraryValue) (line : LineValue) → IsErrAnd r (λ f. f ≡ faults.Memory) → EntryNeedsMemory line → IfErr r (λ f. EntryFaultSays f earlier line)
memory_fault (Ok x) earlier line e needs = tt
memory_fault (Err f) earlier line e needs = subst (λ g. EntryFaultSays g earlier line) (sym e) needs

pub pattern_needs : (line : LineValue) (step_type : Option StepType) (text name : List ℕ) (ps : List PieceValue) → IsEntryText line step_type text name → SpellsPattern text ps → EntryNeedsMemory line
pattern_needs line step_type text name ps c s = record { step_type = step_type; sides = record { pattern = text; action = name }; is_type = c.is_type; is_cut = c.is_cut; needs = pattern_begins text ps s }

pub entry_needs : (earlier : LibraryValue) (line : LineValue) (entry : EntryValue) → SpellsEntry earlier line entry → EntryNeedsMemory line
entry_needs earlier line entry s = record { step_type = entry.step_type; sides = s.sides; is_type = s.is_type; is_cut = s.is_cut; needs = pattern_begins s.sides.pattern entry.pattern s.is_pattern }
