-- What is kept of a match, and of what is found.
use Rattle.gk_steps.proofs.Common.{◌≡◌, ◌<◌, inl, inr, ℕ, ◌++◌, Bool, true, false, List, [], ◌∷◌, length, ap, map, take, Option, Some, None, refl, sym, subst, ◌∙◌, arith, common_steps, nat_tests, append-nil, take-map, Result, Ok, Err, IfOk, ◌==◌, AllocError, StepType, Entry, PieceValue, Literal, are_for_each_from, FieldValue, IsMatchResult, FoundValue, LibraryValue, entry_value, found, found_any, AreKept, Hit, IsKeptResult, KeepsMore, KeepsRest, IsHit, HitsWhatIsFound, hit_of, kept_if, FindsRest}
use Rattle.std.proofs.lemmas.List.{append_assoc}
use Rattle.gk_steps.proofs.LibraryLemmas.{get_before, get_taken, typed_found}
use Rattle.gk_steps.proofs.LeftmostLemmas.{finds_last, left_after_start, left_nothing, left_over, IsCutOrWhole}
use Rattle.gk_steps.proofs.FindingLemmas.{own_computed, any_computed, found_as_any}

-- pieces that are gone through one by one, with those that are left
pub done_more : (done left all after : List PieceValue) (p : PieceValue) → done ++ left ≡ all → left ≡ p ∷ after → (done ++ p ∷ []) ++ after ≡ all
done_more done left all after p e is = append_assoc done (p ∷ []) after ∙ ap (λ x. done ++ x) (sym is) ∙ e

pub done_all : (done left all : List PieceValue) → done ++ left ≡ all → left ≡ [] → done ≡ all
done_all done left all e is = sym (append-nil done) ∙ ap (λ x. done ++ x) (sym is) ∙ e

-- what is kept of a result that is known to be there, or not
pub kept_some : {K : Type 0} (keeps : List PieceValue → K → List FieldValue → Type 0) (ps : List PieceValue) (text : List ℕ) (kept : K) → IsKeptResult keeps ps text (Some kept) → (fields : List FieldValue) × keeps ps kept fields × IsMatchResult ps text (Some fields)
kept_some keeps ps text kept (None, are, is) = absurd are
kept_some keeps ps text kept (Some fields, are, is) = (fields, are, is)

pub kept_none : {K : Type 0} (keeps : List PieceValue → K → List FieldValue → Type 0) (ps : List PieceValue) (text : List ℕ) → IsKeptResult keeps ps text None → IsMatchResult ps text None
kept_none keeps ps text (None, are, is) = is
kept_none keeps ps text (Some fields, are, is) = absurd are

-- what is kept of what is found in the rest
pub rest_none : {K : Type 0} (keeps : List PieceValue → K → List FieldValue → Type 0) (done : List PieceValue) (before : List FieldValue) (left : List PieceValue) (rest : List ℕ) → IsKeptResult keeps left rest None → KeepsRest keeps done before left rest None
rest_none keeps done before left rest (None, are, is) = (None, tt, λ ps text known. known None is)
rest_none keeps done before left rest (Some fields, are, is) = absurd are

pub rest_some : {K : Type 0} (keeps : List PieceValue → K → List FieldValue → Type 0) (done : List PieceValue) (before : List FieldValue) (left : List PieceValue) (rest : List ℕ) (later both : K) → ((after : List FieldValue) → keeps left later after → keeps (done ++ left) both (before ++ after)) → IsKeptResult keeps left rest (Some later) → KeepsRest keeps done before left rest (Some both)
rest_some keeps done before left rest later both joined (None, are, is) = absurd are
rest_some keeps done before left rest later both joined (Some after, are, is) = (Some (before ++ after), joined after are, λ ps text known. known (Some after) is)

pub rest_over : {K : Type 0} (keeps : List PieceValue → K → List FieldValue → Type 0) (done : List PieceValue) (before fields : List FieldValue) (left : List PieceValue) (text rest : List ℕ) (kept : K) (over : Bool) → over ≡ (length rest == 0)
    → keeps (done ++ left) kept fields → ((found : Option (List FieldValue)) → FindsRest fields [] rest found → FindsRest before left text found) → KeepsRest keeps done before left text (kept_if over kept)
rest_over keeps done before fields left text rest kept true e is h =
    let none : length rest ≡ 0 = grind (arith, nat_tests) in
    (Some fields, is, h (Some fields) (λ ps whole known. left_nothing ps whole fields rest known none))
rest_over keeps done before fields left text rest kept false e is h =
    let some : 0 < length rest = grind (arith, nat_tests) in
    (None, tt, h None (λ ps whole known. left_over ps whole fields rest known some))

-- what is kept with a literal after all pieces
pub rest_last : {K : Type 0} (keeps : List PieceValue → K → List FieldValue → Type 0) (done : List PieceValue) (before : List FieldValue) (ps : List PieceValue) (literal text whole : List ℕ) (kept new : K) → whole ≡ text ++ literal → ((qs : List PieceValue) (fields : List FieldValue) → keeps qs kept fields → keeps (qs ++ Literal literal ∷ []) new (fields ++ []))
    → KeepsRest keeps done before ps text (Some kept) → KeepsRest keeps done before (ps ++ Literal literal ∷ []) whole (Some new)
rest_last keeps done before ps literal text whole kept new e added (None, are, is) = absurd are
rest_last keeps done before ps literal text whole kept new e added (Some fields, are, is) =
    (Some fields, subst (λ qs. keeps qs new fields) (append_assoc done ps (Literal literal ∷ [])) (subst (keeps ((done ++ ps) ++ Literal literal ∷ []) new) (append-nil fields) (added (done ++ ps) fields are)), finds_last before ps literal text whole e (Some fields) is)

pub rest_last_none : {K : Type 0} (keeps : List PieceValue → K → List FieldValue → Type 0) (done : List PieceValue) (before : List FieldValue) (ps : List PieceValue) (literal text whole : List ℕ) → whole ≡ text ++ literal → KeepsRest keeps done before ps text None → KeepsRest keeps done before (ps ++ Literal literal ∷ []) whole None
rest_last_none keeps done before ps literal text whole e (None, are, is) = (None, tt, finds_last before ps literal text whole e None is)
rest_last_none keeps done before ps literal text whole e (Some fields, are, is) = absurd are

-- what is kept of all pieces is that of the pieces after the literal at their beginning
pub after_literal : {K : Type 0} (keeps : List PieceValue → K → List FieldValue → Type 0) (ps : List PieceValue) (text : List ℕ) (left : List PieceValue) (rest : List ℕ) (old : K) (kept : Option K) → IsCutOrWhole ps text left rest → keeps [] old [] → ((literal : List ℕ) → keeps (Literal literal ∷ []) old []) → KeepsMore keeps old left rest kept → IsKeptResult keeps ps text kept
after_literal keeps ps text left rest old kept (inl same) none literal more =
    let r = more [] [] none in
    (r.0, subst (λ qs. AreKept (keeps qs) kept r.0) same.0 r.1, r.2 ps text (left_after_start ps text left rest (inl same)))
after_literal keeps ps text left rest old kept (inr cut) none literal more =
    let r = more (Literal cut.0 ∷ []) [] (literal cut.0) in
    (r.0, subst (λ qs. AreKept (keeps qs) kept r.0) (sym cut.1) r.1, r.2 ps text (left_after_start ps text left rest (inr cut)))

-- hits
pub hit_some : {K : Type 0} (keeps : List PieceValue → K → List FieldValue → Type 0) (es : LibraryValue) (hit : Hit K) (o : Option FoundValue) → IsHit keeps es (Some hit) o → (f : FoundValue) × (o ≡ Some f)
hit_some keeps es hit None h = absurd h
hit_some keeps es hit (Some f) h = (f, refl)

pub hit_none : {K : Type 0} (keeps : List PieceValue → K → List FieldValue → Type 0) (es : LibraryValue) (o : Option FoundValue) → IsHit keeps es None o → o ≡ None
hit_none keeps es None h = refl
hit_none keeps es (Some f) h = absurd h

-- what is found among the entries up to the last for steps of one type
hit_before : {K : Type 0} (keeps : List PieceValue → K → List FieldValue → Type 0) (es : LibraryValue) (n : ℕ) (hit : Option (Hit K)) (o : Option FoundValue) → IsHit keeps (take n es) hit o → IsHit keeps es hit o
hit_before keeps es n None None h = h
hit_before keeps es n None (Some f) h = absurd h
hit_before keeps es n (Some hit) None h = absurd h
hit_before keeps es n (Some hit) (Some f) h = grind (arith, common_steps, get_before, get_taken)

pub typed_hit : {K : Type 0} (keeps : List PieceValue → K → List FieldValue → Type 0) (entries : List Entry) (typed : ℕ) (t : StepType) (text : List ℕ) (hit : Option (Hit K)) → are_for_each_from typed entries ≡ true → HitsWhatIsFound keeps (map entry_value (take typed entries)) (Some t) text hit → HitsWhatIsFound keeps (map entry_value entries) (Some t) text hit
typed_hit keeps entries typed t text hit all h =
    (h.0, hit_before keeps (map entry_value entries) typed hit h.0 (subst (λ es. IsHit keeps es hit h.0) (sym (take-map entry_value typed entries)) h.1), typed_found entries typed t text h.0 all h.2)

pub none_typed : {K : Type 0} (keeps : List PieceValue → K → List FieldValue → Type 0) (entries : List Entry) (typed : ℕ) (t : StepType) (text : List ℕ) → are_for_each_from typed entries ≡ true → typed ≡ 0 → HitsWhatIsFound keeps (map entry_value entries) (Some t) text None
none_typed keeps entries typed t text all none = typed_hit keeps entries 0 t text None (subst (λ n. are_for_each_from n entries ≡ true) none all) (None, tt, λ position entry is same. let bad : ⊥ = cc in absurd bad)

-- the hit of what is computed
pub own_hit : {K : Type 0} (keeps : List PieceValue → K → List FieldValue → Type 0) (es : LibraryValue) (step_type : StepType) (text : List ℕ) (hit : Hit K) → HitsWhatIsFound keeps es (Some step_type) text (Some hit) → IsHit keeps es (Some hit) (found es step_type text)
own_hit keeps es step_type text hit (None, is, of) = absurd is
own_hit keeps es step_type text hit (Some f, is, of) = subst (IsHit keeps es (Some hit)) (own_computed es step_type text f of) is

pub any_hit : {K : Type 0} (keeps : List PieceValue → K → List FieldValue → Type 0) (es : LibraryValue) (text : List ℕ) (kept : K) (r : Result (Option ℕ) AllocError) → IfOk r (λ entry. HitsWhatIsFound keeps es None text (hit_of kept entry)) → IfOk r (λ entry. IsHit keeps es (hit_of kept entry) (found_any es text))
any_hit keeps es text kept (Err e) h = tt
any_hit keeps es text kept (Ok entry) h = subst (IsHit keeps es (hit_of kept entry)) (any_computed es text h.0 h.2) h.1

-- where no entry of the own type has a match, what is found is what the entries of type `step` give
pub other_hit : {K : Type 0} (keeps : List PieceValue → K → List FieldValue → Type 0) (es : LibraryValue) (step_type : StepType) (text : List ℕ) (kept : K) (r : Result (Option ℕ) AllocError) → HitsWhatIsFound keeps es (Some step_type) text None → IfOk r (λ entry. IsHit keeps es (hit_of kept entry) (found_any es text)) → IfOk r (λ entry. IsHit keeps es (hit_of kept entry) (found es step_type text))
other_hit keeps es step_type text kept (Err e) none h = tt
other_hit keeps es step_type text kept (Ok entry) none h = grind (arith, common_steps, found_as_any, hit_none)
