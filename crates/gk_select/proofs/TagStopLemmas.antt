-- A text that spells a tag rule stops nowhere, and the words of any other are followed to where it stops.
use Rattle.gk_select.proofs.Common.{◌≡◌, ◌+◌, ◌-◌, ◌==◌, ◌<◌, ℕ, suc, Bool, true, false, not, if◌then◌else◌, List, [], ◌∷◌, ◌++◌, map, length, take, drop, get_or, Option, Some, None, option_and_then, option_map, refl, ap, sym, ◌∙◌, arith, append_assoc, append-nil, drop-cons, inl, inr, common_steps, is_some, find, take-append-drop, AlternativeValue, alternative, pieces, Expression, one_term, or_terms, Term, one_factor, and_factors, Factor, tagged, negated, grouped, spelling, term_spelling, factor_spelling, ReadsTags, StopValue, first_place, place_after, wanted_at, stop_at_end, unless_after, stop_in, stop_in_pieces, tag_stop, WordValue, close_word, and_word, or_word, words_of_text, word_said, first_word, TagPlace, Alternative}

-- One word more: it may stand there, or the text stops at it.
pub goes_on : (place next : TagPlace) (rest after word : List ℕ) → words_of_text rest ≡ word ∷ words_of_text after → Some next ≡ place_after place (word_said word) → stop_in place (words_of_text rest) ≡ stop_in next (words_of_text after)
goes_on place next rest after word e said = grind (arith, common_steps)

pub stops_here : (place : TagPlace) (rest after word : List ℕ) → words_of_text rest ≡ word ∷ words_of_text after → None ≡ place_after place (word_said word) → stop_in place (words_of_text rest) ≡ Some (record { at = Some word; wanted = wanted_at place })
stops_here place rest after word e said = grind (arith, common_steps)

-- The cut at a word, or at a blank.
pub at_word : (blank : Bool) (n : ℕ) (rest word : List ℕ) → words_of_text rest ≡ (if blank then [] else take n rest ∷ []) ++ words_of_text (drop n rest) → blank ≡ false → word ≡ take (n - 0) rest → words_of_text rest ≡ word ∷ words_of_text (drop n rest)
at_word blank n rest word cut is taken = grind (arith, common_steps)

pub at_blank : (blank : Bool) (n : ℕ) (rest : List ℕ) → words_of_text rest ≡ (if blank then [] else take n rest ∷ []) ++ words_of_text (drop n rest) → blank ≡ true → words_of_text rest ≡ words_of_text (drop n rest)
at_blank blank n rest cut is = cut ∙ ap (λ (v : Bool). (if v then [] else take n rest ∷ []) ++ words_of_text (drop n rest)) is

pub stops_at_end : (place : TagPlace) (rest : List ℕ) → length rest ≡ 0 → stop_in place (words_of_text rest) ≡ stop_at_end place
unfolding first_word
stops_at_end place [] none = refl
stops_at_end place (b ∷ rest) none = absurd (omega arith)

-- The places through which words of an expression lead.
abbrev goes : TagPlace → List WordValue → Option TagPlace
goes place [] = Some place
goes place (w ∷ ws) = option_and_then (λ next. goes next ws) (place_after place (Some w))

abbrev wants : ℕ → TagPlace
wants groups = record { operand = true; groups = groups }

abbrev given : ℕ → TagPlace
given groups = record { operand = false; groups = groups }

goes_further : (o : Option TagPlace) (xs ys : List WordValue) (last : TagPlace) → ((p : TagPlace) → goes p xs ≡ Some last → goes p (xs ++ ys) ≡ goes last ys) → option_and_then (λ p. goes p xs) o ≡ Some last
    → option_and_then (λ p. goes p (xs ++ ys)) o ≡ goes last ys
goes_further None xs ys last further e = let no : ⊥ = cc e in absurd no
goes_further (Some p) xs ys last further e = further p e

goes_both : (xs ys : List WordValue) (last p : TagPlace) → goes p xs ≡ Some last → goes p (xs ++ ys) ≡ goes last ys
goes_both [] ys last p e = let same : p ≡ last = cc e in ap (λ q. goes q ys) same
goes_both (x ∷ xs) ys last p e = goes_further (place_after p (Some x)) xs ys last (goes_both xs ys last) e

closes : (n : ℕ) → (if n + 1 == 0 then None else Some (given (n + 1 - 1))) ≡ Some (given n)
closes n = grind (arith, common_steps)

mutual
  expression_goes : (e : Expression) (n : ℕ) → goes (wants n) (spelling e) ≡ Some (given n)
  expression_goes (one_term t) n = term_goes t n
  expression_goes (or_terms t e) n = goes_both (term_spelling t) (or_word ∷ spelling e) (given n) (wants n) (term_goes t n) ∙ expression_goes e n

  term_goes : (t : Term) (n : ℕ) → goes (wants n) (term_spelling t) ≡ Some (given n)
  term_goes (one_factor f) n = factor_goes f n
  term_goes (and_factors f t) n = goes_both (factor_spelling f) (and_word ∷ term_spelling t) (given n) (wants n) (factor_goes f n) ∙ term_goes t n

  factor_goes : (f : Factor) (n : ℕ) → goes (wants n) (factor_spelling f) ≡ Some (given n)
  factor_goes (tagged tag) n = refl
  factor_goes (negated f) n = factor_goes f n
  factor_goes (grouped e) n = goes_both (spelling e) (close_word ∷ []) (given (n + 1)) (wants (n + 1)) (expression_goes e (n + 1)) ∙ ap (option_and_then (λ p. goes p [])) (closes n)

after_word : (o : Option TagPlace) (stop : StopValue) (ws : List WordValue) (texts : List (List ℕ)) (last : TagPlace) → ((p : TagPlace) → goes p ws ≡ Some last → stop_in p texts ≡ stop_at_end last) → option_and_then (λ p. goes p ws) o ≡ Some last
    → unless_after stop o (λ p. stop_in p texts) ≡ stop_at_end last
after_word None stop ws texts last further e = let no : ⊥ = cc e in absurd no
after_word (Some p) stop ws texts last further e = further p e

-- Texts of words that lead somewhere stop there at the end.
leads : (texts : List (List ℕ)) (ws : List WordValue) (last p : TagPlace) → map word_said texts ≡ map Some ws → goes p ws ≡ Some last → stop_in p texts ≡ stop_at_end last
leads [] [] last p says e = let same : p ≡ last = cc e in ap stop_at_end same
leads [] (w ∷ ws) last p says e = let no : ⊥ = cc says in absurd no
leads (t ∷ texts) [] last p says e = let no : ⊥ = cc says in absurd no
leads (t ∷ texts) (w ∷ ws) last p says e =
    let said : word_said t ≡ Some w = cc says in
    let after : map word_said texts ≡ map Some ws = cc says in
    ap (λ (o : Option WordValue). unless_after (record { at = Some t; wanted = wanted_at p }) (place_after p o) (λ q. stop_in q texts)) said
    ∙ after_word (place_after p (Some w)) (record { at = Some t; wanted = wanted_at p }) ws texts last (λ q. leads texts ws last q after) e

none_bad : (texts : List (List ℕ)) (said : List AlternativeValue) → map alternative texts ≡ map Some said → find (λ text. not (is_some (alternative text))) texts ≡ None
none_bad [] said says = refl
none_bad (t ∷ texts) [] says = let no : ⊥ = cc says in absurd no
none_bad (t ∷ texts) (a ∷ said) says =
    let is : alternative t ≡ Some a = cc says in
    let after : map alternative texts ≡ map Some said = cc says in
    ap (λ (o : Option AlternativeValue). if not (is_some o) then Some t else find (λ text. not (is_some (alternative text))) texts) is ∙ none_bad texts said after

-- Pieces that are alternatives are passed, and another one is the stop.
abbrev Passes : List (List ℕ) → Type 0
Passes texts = (others : List (List ℕ)) → stop_in_pieces (texts ++ others) ≡ stop_in_pieces others

piece_stops : (v : Bool) (piece : List ℕ) (others : List (List ℕ)) → v ≡ is_some (alternative piece) → v ≡ false → stop_in_pieces (piece ∷ others) ≡ Some (record { at = Some piece; wanted = Alternative })
piece_stops v piece others is none = ap (λ (b : Bool). option_map (λ (p : List ℕ). record { at = Some p; wanted = Alternative }) (if not b then Some piece else find (λ text. not (is_some (alternative text))) others)) (sym is ∙ none)

pub stops_at_piece : (texts so_far : List (List ℕ)) (k : ℕ) (piece : List ℕ) → so_far ≡ take k texts → k < length texts → piece ≡ get_or texts k piece → Passes so_far → (v : Bool) → v ≡ is_some (alternative piece) → v ≡ false
    → stop_in_pieces texts ≡ Some (record { at = Some piece; wanted = Alternative })
stops_at_piece texts so_far k piece taken within is passes v of none =
    ap stop_in_pieces (sym (take-append-drop k texts) ∙ ap (λ (ts : List (List ℕ)). ts ++ drop k texts) (sym taken)) ∙ passes (drop k texts)
    ∙ ap stop_in_pieces (drop-cons texts k piece within ∙ ap (λ (p : List ℕ). p ∷ drop (suc k) texts) (sym is)) ∙ piece_stops v piece (drop (suc k) texts) of none

pub passes_piece : (so_far more : List (List ℕ)) (piece : List ℕ) → Passes so_far → more ≡ so_far ++ piece ∷ [] → (v : Bool) → v ≡ is_some (alternative piece) → v ≡ true → Passes more
passes_piece so_far more piece passes is v of one = grind (arith, common_steps, append_assoc)

pub passes_all : (text : List ℕ) (so_far : List (List ℕ)) → so_far ≡ pieces text → Passes so_far → None ≡ stop_in_pieces (pieces text)
passes_all text so_far is passes = sym (ap stop_in_pieces (sym is ∙ sym (append-nil so_far)) ∙ passes [])

-- A text that spells a tag rule stops nowhere.
pub no_stop : (text : List ℕ) (rule : Expression) → ReadsTags text rule → tag_stop text ≡ None
no_stop text rule (inl old) =
    ap (λ (v : Bool). if v then stop_in first_place (words_of_text text) else stop_in_pieces (pieces text)) old.reads.old_form
    ∙ ap (option_map (λ (piece : List ℕ). record { at = Some piece; wanted = Alternative })) (none_bad (pieces text) (old.first ∷ old.others) old.reads.says)
no_stop text rule (inr new) =
    ap (λ (v : Bool). if v then stop_in first_place (words_of_text text) else stop_in_pieces (pieces text)) new.new_form
    ∙ leads (words_of_text text) (spelling rule) (given 0) first_place new.says (expression_goes rule 0)
