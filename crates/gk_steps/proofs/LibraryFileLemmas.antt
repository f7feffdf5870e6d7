-- The lines of a step library.
use Rattle.gk_steps.proofs.Common.{◌≡◌, ℕ, zero, suc, ◌+◌, ◌<◌, Bool, true, false, cond, not, List, [], ◌∷◌, ◌++◌, length, take, drop, get_or, Option, Some, refl, ap, sym, subst, ◌∙◌, arith, append_assoc, common_steps, filter, filter-append, StepType, LineValue, Lines, lines_of, IsText, Action, LibraryFault, PieceValue, ActionRowValue, action_row, EntryValue, LibraryValue, Sides, is_ignored, SpellsEntry, SpellEntries, ReadsLibrary, IsReadableLibrary, IsBadType, IsBadPattern, IsUnknownAction, IsMissingField, IsOtherKind, IsAmbiguous, StopsLibraryAt, LibraryReadingIsUnique, EntryNeedsMemory, LibraryNeedsMemory, LibraryFaultSays, EntryFaultSays, AddsLine, Ignored, Spelled, LineFaultSays, LibraryLinesFaultSays}
use Rattle.gk_steps.specs.declared.library_fault.LibraryFault.TheVariants as faults
use Rattle.gk_steps.proofs.SpellingLemmas.{spelling}
use Rattle.gk_steps.proofs.LibraryStagesLemmas.{some_same, never_spelled}
use Rattle.gk_steps.proofs.LibraryLineLemmas.{entry_needs}

-- what a line spells is determined
abbrev entry_from : ℕ → Option StepType → List PieceValue → Action → EntryValue
entry_from line step_type ps action = record { line = line; step_type = step_type; pattern = ps; action = action }

same_row : (a b : Sides) (r s : ActionRowValue) → a ≡ b → action_row a.action ≡ Some r → action_row b.action ≡ Some s → r ≡ s
same_row a b r s e h k = some_same r s (sym h ∙ ap (λ (x : Sides). action_row x.action) e ∙ k)

one_entry : (earlier : LibraryValue) (line : LineValue) (a b : EntryValue) → SpellsEntry earlier line a → SpellsEntry earlier line b → a ≡ b
one_entry earlier line a b h k = grind (arith, common_steps, some_same, spelling, same_row)

one_by_one : (earlier : LibraryValue) (ls : Lines) (a b : LibraryValue) → SpellEntries earlier ls a → SpellEntries earlier ls b → a ≡ b
one_by_one earlier [] [] [] h k = refl
one_by_one earlier [] [] (y ∷ ys) h k = absurd k
one_by_one earlier [] (x ∷ xs) b h k = absurd h
one_by_one earlier (l ∷ ls) [] b h k = absurd h
one_by_one earlier (l ∷ ls) (x ∷ xs) [] h k = absurd k
one_by_one earlier (l ∷ ls) (x ∷ xs) (y ∷ ys) h k =
    let first : x ≡ y = one_entry earlier l x y h.0 k.0 in
    ap (λ (e : EntryValue). e ∷ xs) first ∙ ap (λ (es : LibraryValue). y ∷ es) (one_by_one (earlier ++ y ∷ []) ls xs ys (subst (λ (e : EntryValue). SpellEntries (earlier ++ e ∷ []) ls xs) first h.1) k.1)

pub one_reading : LibraryReadingIsUnique
one_reading ls a b h k = one_by_one [] (filter (λ line. not (is_ignored line)) ls) a b h k

-- lines one after the other
pub record IsSplitAt (earlier : LibraryValue) (xs : Lines) (ys : Lines) (es : LibraryValue) : Type 0 where
  pub first : LibraryValue
  pub second : LibraryValue
  pub whole : es ≡ first ++ second
  pub before : SpellEntries earlier xs first
  pub after : SpellEntries (earlier ++ first) ys second

all_of : (es : LibraryValue) → es ++ [] ≡ es
all_of [] = refl
all_of (e ∷ es) = ap (λ (q : LibraryValue). e ∷ q) (all_of es)

split_at : (earlier : LibraryValue) (xs ys : Lines) (es : LibraryValue) → SpellEntries earlier (xs ++ ys) es → IsSplitAt earlier xs ys es
split_at earlier [] ys es h = record { first = []; second = es; whole = refl; before = tt; after = subst (λ (q : LibraryValue). SpellEntries q ys es) (sym (all_of earlier)) h }
split_at earlier (x ∷ xs) ys [] h = absurd h
split_at earlier (x ∷ xs) ys (e ∷ es) h = grind (arith, common_steps, split_at (earlier ++ e ∷ []) xs ys es h.1)

one_more : (earlier : LibraryValue) (xs : Lines) (es : LibraryValue) (l : LineValue) (e : EntryValue) → SpellEntries earlier xs es → SpellsEntry (earlier ++ es) l e → SpellEntries earlier (xs ++ l ∷ []) (es ++ e ∷ [])
one_more earlier [] [] l e h s = (subst (λ (q : LibraryValue). SpellsEntry q l e) (all_of earlier) s, tt)
one_more earlier [] (x ∷ xs) l e h s = absurd h
one_more earlier (y ∷ ys) [] l e h s = absurd h
one_more earlier (y ∷ ys) (x ∷ xs) l e h s = (h.0, one_more (earlier ++ x ∷ []) ys xs l e h.1 (subst (λ (q : LibraryValue). SpellsEntry q l e) (sym (append_assoc earlier (x ∷ []) xs)) s))

-- a line more
kept_line : (b : Bool) (l : LineValue) → is_ignored l ≡ b → filter (λ line. not (is_ignored line)) (l ∷ []) ≡ cond b [] (l ∷ [])
kept_line true l e = ap (λ v. cond (not v) (l ∷ []) []) e
kept_line false l e = ap (λ v. cond (not v) (l ∷ []) []) e

kept : (xs : Lines) (l : LineValue) (b : Bool) → is_ignored l ≡ b → filter (λ line. not (is_ignored line)) (xs ++ l ∷ []) ≡ filter (λ line. not (is_ignored line)) xs ++ cond b [] (l ∷ [])
kept xs l b e = filter-append (λ line. not (is_ignored line)) xs (l ∷ []) ∙ ap (λ (q : Lines). filter (λ line. not (is_ignored line)) xs ++ q) (kept_line b l e)

none_more : (xs : Lines) → xs ++ [] ≡ xs
none_more [] = refl
none_more (x ∷ xs) = grind (arith, common_steps)

entry_more : (xs : Lines) (l : LineValue) (es : LibraryValue) (x : EntryValue) → is_ignored l ≡ false → ReadsLibrary xs es → SpellsEntry es l x → ReadsLibrary (xs ++ l ∷ []) (es ++ x ∷ [])
entry_more xs l es x e h s = subst (λ (q : Lines). SpellEntries [] q (es ++ x ∷ [])) (sym (kept xs l false e)) (one_more [] (filter (λ line. not (is_ignored line)) xs) es l x h s)

pub record IsCutAt (ls : Lines) (i : ℕ) (x : LineValue) : Type 0 where
  pub whole : ls ≡ take i ls ++ x ∷ drop (suc i) ls
  pub more : take (suc i) ls ≡ take i ls ++ x ∷ []

cut_at : (ls : Lines) (i : ℕ) (x : LineValue) → i < length ls → x ≡ get_or ls i x → IsCutAt ls i x
cut_at [] i x l e = absurd (omega arith)
cut_at (y ∷ ys) zero x l e = record { whole = ap (λ (z : LineValue). z ∷ ys) (sym e); more = ap (λ (z : LineValue). z ∷ []) (sym e) }
cut_at (y ∷ ys) (suc i) x l e = let c = cut_at ys i x (omega arith) e in record { whole = ap (λ (zs : Lines). y ∷ zs) c.whole; more = ap (λ (zs : Lines). y ∷ zs) c.more }

values_more : (ls : Lines) (i : ℕ) (x : LineValue) → i < length ls → x ≡ get_or ls i x → take (i + 1) ls ≡ take i ls ++ x ∷ []
values_more ls i x l e = grind (arith, common_steps)

pub entry_at : (ls : Lines) (i : ℕ) (x : LineValue) (es : LibraryValue) (entry : EntryValue) → i < length ls → x ≡ get_or ls i x → is_ignored x ≡ false → ReadsLibrary (take i ls) es → SpellsEntry es x entry → ReadsLibrary (take (i + 1) ls) (es ++ entry ∷ [])
entry_at ls i x es entry l e counts h s = subst (λ (q : Lines). ReadsLibrary q (es ++ entry ∷ [])) (sym (values_more ls i x l e)) (entry_more (take i ls) x es entry counts h s)

-- a faulty line ends every reading
kept_rest : (xs : Lines) (l : LineValue) (more : Lines) → is_ignored l ≡ false → filter (λ line. not (is_ignored line)) (xs ++ l ∷ more) ≡ filter (λ line. not (is_ignored line)) xs ++ l ∷ filter (λ line. not (is_ignored line)) more
kept_rest xs l more e = grind (arith, common_steps)

first_spelled : (earlier : LibraryValue) (l : LineValue) (ls : Lines) (es : LibraryValue) → SpellEntries earlier (l ∷ ls) es → (e : EntryValue) × SpellsEntry earlier l e
first_spelled earlier l ls [] h = absurd h
first_spelled earlier l ls (e ∷ es) h = (e, h.0)

stopped : (before : Lines) (line : LineValue) (entries : LibraryValue) → ReadsLibrary before entries → is_ignored line ≡ false → ((e : EntryValue) → SpellsEntry entries line e → ⊥) → (more : Lines) → IsReadableLibrary (before ++ line ∷ more) → ⊥
stopped before line entries fits counts never more r =
    let cut = split_at [] (filter (λ l. not (is_ignored l)) before) (line ∷ filter (λ l. not (is_ignored l)) more) r.0 (subst (λ (q : Lines). SpellEntries [] q r.0) (kept_rest before line more counts) r.1) in
    let same : cut.first ≡ entries = one_by_one [] (filter (λ l. not (is_ignored l)) before) cut.first entries cut.before fits in
    let first = first_spelled cut.first line (filter (λ l. not (is_ignored l)) more) cut.second cut.after in
    never first.0 (subst (λ (q : LibraryValue). SpellsEntry q line first.0) same first.1)

stop_at : (Fault : LibraryValue → LineValue → Type 0) (n : ℕ) (ls : Lines) (i : ℕ) (x : LineValue) (es : LibraryValue) → i < length ls → x ≡ get_or ls i x → is_ignored x ≡ false → ReadsLibrary (take i ls) es
    → n ≡ x.line → Fault es x → ((e : EntryValue) → SpellsEntry es x e → ⊥) → StopsLibraryAt (ls) n Fault
stop_at Fault n ls i x es l e counts h number fault never = record {
  before = take i ls;
  line = x;
  after = drop (suc i) ls;
  whole = (cut_at ls i x l e).whole;
  number = sym number;
  entries = es;
  fits = h;
  counts = counts;
  stops = stopped (take i ls) x es h counts never;
  fault = fault;
}

-- a line with a fault is where a library stops
-- lines that ask for memory
first_needs : (kept_before kept_after : Lines) (x : LineValue) (es : LibraryValue) → SpellEntries [] kept_before es → EntryNeedsMemory x → (line : LineValue) × (rest : Lines) × (kept_before ++ x ∷ kept_after ≡ line ∷ rest) × EntryNeedsMemory line
first_needs [] after x es h needs = (x, after, refl, needs)
first_needs (y ∷ ys) after x [] h needs = absurd h
first_needs (y ∷ ys) after x (e ∷ es) h needs = (y, ys ++ x ∷ after, refl, entry_needs [] y e h.0)

needs_at : (ls : Lines) (i : ℕ) (x : LineValue) (es : LibraryValue) → i < length ls → x ≡ get_or ls i x → is_ignored x ≡ false → ReadsLibrary (take i ls) es → EntryNeedsMemory x → LibraryNeedsMemory ls
needs_at ls i x es l e counts h needs =
    let whole : filter (λ line. not (is_ignored line)) ls ≡ filter (λ line. not (is_ignored line)) (take i ls) ++ x ∷ filter (λ line. not (is_ignored line)) (drop (suc i) ls) =
    ap (filter (λ line. not (is_ignored line))) (cut_at ls i x l e).whole ∙ kept_rest (take i ls) x (drop (suc i) ls) counts in
    let first = first_needs (filter (λ line. not (is_ignored line)) (take i ls)) (filter (λ line. not (is_ignored line)) (drop (suc i) ls)) x es h needs in
    record { line = first.0; rest = first.1; first = whole ∙ first.2; needs = first.3 }

pub fault_at : (f : LibraryFault) (ls : Lines) (i : ℕ) (x : LineValue) (es : LibraryValue) → i < length ls → x ≡ get_or ls i x → is_ignored x ≡ false → ReadsLibrary (take i ls) es → EntryFaultSays f es x → LibraryLinesFaultSays f (ls)
fault_at faults.Memory ls i x es l e counts h f = needs_at ls i x es l e counts h f
fault_at (faults.BadType n) ls i x es l e counts h f = stop_at IsBadType n ls i x es l e counts h f.0 f.1 (never_spelled 0 es x (omega arith) f.1)
fault_at (faults.BadPattern n) ls i x es l e counts h f = stop_at IsBadPattern n ls i x es l e counts h f.0 f.1 (never_spelled 1 es x (omega arith) f.1)
fault_at (faults.UnknownAction n) ls i x es l e counts h f = stop_at IsUnknownAction n ls i x es l e counts h f.0 f.1 (never_spelled 2 es x (omega arith) f.1)
fault_at (faults.MissingField n) ls i x es l e counts h f = stop_at IsMissingField n ls i x es l e counts h f.0 f.1 (never_spelled 3 es x (omega arith) f.1)
fault_at (faults.FieldKind n) ls i x es l e counts h f = stop_at IsOtherKind n ls i x es l e counts h f.0 f.1 (never_spelled 4 es x (omega arith) f.1)
fault_at (faults.Ambiguous n) ls i x es l e counts h f = stop_at IsAmbiguous n ls i x es l e counts h f.0 f.1 (never_spelled 5 es x (omega arith) f.1)
fault_at (faults.NotUtf8 n) ls i x es l e counts h f = absurd f
fault_at faults.TooLong ls i x es l e counts h f = absurd f

-- the whole file
stops_whole : (Fault : LibraryValue → LineValue → Type 0) (n : ℕ) (ls : Lines) (es : LibraryValue) → StopsLibraryAt ls n Fault → ReadsLibrary ls es → ⊥
stops_whole Fault n ls es s h = s.stops s.after (es, subst (λ (q : Lines). ReadsLibrary q es) s.whole h)

pub only_memory : (f : LibraryFault) (ls : Lines) (es : LibraryValue) → LibraryLinesFaultSays f ls → ReadsLibrary ls es → f ≡ faults.Memory
only_memory faults.Memory ls es f h = refl
only_memory (faults.BadType n) ls es f h = absurd (stops_whole IsBadType n ls es f h)
only_memory (faults.BadPattern n) ls es f h = absurd (stops_whole IsBadPattern n ls es f h)
only_memory (faults.UnknownAction n) ls es f h = absurd (stops_whole IsUnknownAction n ls es f h)
only_memory (faults.MissingField n) ls es f h = absurd (stops_whole IsMissingField n ls es f h)
only_memory (faults.FieldKind n) ls es f h = absurd (stops_whole IsOtherKind n ls es f h)
only_memory (faults.Ambiguous n) ls es f h = absurd (stops_whole IsAmbiguous n ls es f h)
only_memory (faults.NotUtf8 n) ls es f h = absurd f
only_memory faults.TooLong ls es f h = absurd f

-- a line more
pub added_at : (ls : Lines) (i : ℕ) (x : LineValue) (es after : LibraryValue) → i < length ls → x ≡ get_or ls i x → ReadsLibrary (take i ls) es → AddsLine es x after → ReadsLibrary (take (i + 1) ls) after
added_at ls i x es after l e h (Ignored ignored same) = grind (arith, common_steps)
added_at ls i x es after l e h (Spelled counts a) = subst (λ (q : LibraryValue). ReadsLibrary (take (i + 1) ls) q) (sym a.added) (entry_at ls i x es a.entry l e counts h a.spells)

pub stopped_at : (f : LibraryFault) (ls : Lines) (i : ℕ) (x : LineValue) (es : LibraryValue) → i < length ls → x ≡ get_or ls i x → ReadsLibrary (take i ls) es → LineFaultSays f es x → LibraryLinesFaultSays f (ls)
stopped_at f ls i x es l e h s = fault_at f ls i x es l e s.counts h s.fault_is

-- the whole file
pub file_only : (bytes : List ℕ) (ls : Lines) (a : LibraryValue) → ls ≡ lines_of bytes → ReadsLibrary ls a → (b : LibraryValue) → ReadsLibrary (lines_of bytes) b → a ≡ b
file_only bytes ls a e h b k = one_reading (lines_of bytes) a b (subst (λ (q : Lines). ReadsLibrary q a) e h) k

pub file_fault : (f : LibraryFault) (bytes : List ℕ) (ls : Lines) → IsText bytes → ls ≡ lines_of bytes → LibraryLinesFaultSays f ls → LibraryFaultSays f bytes
file_fault f bytes ls is e h = grind (arith, common_steps)

pub file_memory : (f : LibraryFault) (bytes : List ℕ) (ls : Lines) → ls ≡ lines_of bytes → LibraryLinesFaultSays f ls → (b : LibraryValue) → ReadsLibrary (lines_of bytes) b → f ≡ faults.Memory
file_memory f bytes ls e h b k = only_memory f (lines_of bytes) b (subst (λ (q : Lines). LibraryLinesFaultSays f q) e h) k
