-- What a text of alternatives says, piece after piece, and the words of it.
use Rattle.gk_select.proofs.Common.{◌≡◌, ◌≢◌, ◌⊎◌, ◌<◌, ◌==◌, ℕ, zero, suc, Bool, true, false, not, ◌||◌, if◌then◌else◌, List, [], ◌∷◌, ◌++◌, length, map, take, get_or, Option, Some, None, IsSome, is_some, option_map, Err, refl, sym, ap, subst, ◌∙◌, arith, append_assoc, append-nil, inl, inr, common_steps, cond-false, nat_tests, length-map, map-append, length-slice_split, list_any, bytes_eq, SelectFault, TooMany, BadTagText, Memory, AnswersOrLacksMemory, AlternativeValue, alternative_value, alternative_holds, tag_named, alternative, pieces, or_of, alternative_words, words_with, tagged, negated, spelling, holds, factor_holds, WordValue, not_word, or_word, tag_word}

-- A text without `~` before it says what its tag says.
pub plain_alternative : (text : List ℕ) → ((rest : List ℕ) → text ≢ 126 ∷ rest) → alternative text ≡ option_map (λ (tag : List ℕ). record { negated = false; tag = tag }) (tag_named text)
plain_alternative text n = grind (arith, common_steps, cond-false)

pub same_some : {X Y : Type 0} (f : X → Y) (o : Option X) → is_some (option_map f o) ≡ is_some o
same_some f None = refl
same_some f (Some x) = refl

-- A fault is handed on.
pub handed_on : {X Y V W : Type 0} (v : X → V) (w : Y → W) (f : V → W) (e : SelectFault) (o : Option V) (p : Option W) → p ≡ option_map f o → AnswersOrLacksMemory v (Err e) o → AnswersOrLacksMemory w (Err e) p
handed_on {W = W} v w f Memory (Some x) p is g = subst (λ (q : Option W). IsSome q) (sym is) refl
handed_on v w f Memory None p is g = let no : ⊥ = cc g in absurd no
handed_on v w f BadTagText o p is g = is ∙ ap (option_map f) g
handed_on v w f TooMany o p is g = g

-- Where one piece says nothing, the text has no alternatives.
nothing_said : (texts : List (List ℕ)) (rule : List AlternativeValue) (k : ℕ) (piece : List ℕ) → k < length texts → piece ≡ get_or texts k piece → alternative piece ≡ None → map alternative texts ≡ map Some rule → ⊥
nothing_said [] rule k piece l is n e = omega arith
nothing_said (t ∷ texts) [] k piece l is n e = let no : ⊥ = cc e in no
nothing_said (t ∷ texts) (a ∷ rule) zero piece l is n e = grind (arith, common_steps)
nothing_said (t ∷ texts) (a ∷ rule) (suc k) piece l is n e = let after : map alternative texts ≡ map Some rule = cc e in nothing_said texts rule k piece (omega arith) is n after

-- Where the pieces so far and the next one say something, the first does.
first_says : (texts : List (List ℕ)) (k : ℕ) (so_far : List (List ℕ)) (read : List AlternativeValue) (piece : List ℕ) → so_far ≡ take k texts → map alternative so_far ≡ map Some read
    → k < length texts → piece ≡ get_or texts k piece → IsSome (alternative piece) → IsSome (alternative (get_or texts 0 []))
first_says [] k so_far read piece taken says within is some = absurd (omega arith)
first_says (t ∷ texts) zero so_far read piece taken says within is some = subst (λ (p : List ℕ). IsSome (alternative p)) is some
first_says (t ∷ texts) (suc k) so_far [] piece taken says within is some = let no : ⊥ = cc (ap (map alternative) (sym taken) ∙ says) in absurd no
first_says (t ∷ texts) (suc k) so_far (a ∷ read) piece taken says within is some = let e : alternative t ≡ Some a = cc (ap (map alternative) (sym taken) ∙ says) in subst (λ (o : Option AlternativeValue). IsSome o) (sym e) refl

-- The words of alternatives.
abbrev or_words : List AlternativeValue → List WordValue
or_words [] = []
or_words (a ∷ more) = or_word ∷ (alternative_words a ++ or_words more)

abbrev joined : List AlternativeValue → List WordValue
joined [] = []
joined (a ∷ more) = alternative_words a ++ or_words more

or_spelling : (a : AlternativeValue) (more : List AlternativeValue) → spelling (or_of a more) ≡ joined (a ∷ more)
or_spelling a [] = grind (arith, common_steps, append-nil)
or_spelling a (b ∷ more) = grind (arith, common_steps, or_spelling b more)

or_words_more : (read : List AlternativeValue) (a : AlternativeValue) → or_words (read ++ a ∷ []) ≡ or_words read ++ or_word ∷ alternative_words a
or_words_more [] a = ap (λ (ws : List WordValue). or_word ∷ ws) (append-nil (alternative_words a))
or_words_more (b ∷ read) a = grind (arith, common_steps, or_words_more read a)

some_words : (absent : Bool) (tag : List ℕ) (more : List WordValue) → (length ((if absent then not_word ∷ tag_word tag ∷ [] else tag_word tag ∷ []) ++ more) == 0) ≡ false
some_words true tag more = grind (arith, nat_tests)
some_words false tag more = grind (arith, nat_tests)

words_more : (read : List AlternativeValue) (a : AlternativeValue) → joined (read ++ a ∷ []) ≡ words_with (joined read) a
words_more [] a = append-nil (alternative_words a)
words_more (b ∷ read) a = grind (arith, common_steps, or_words_more, append_assoc, some_words)

-- Pieces so far, and the words pushed for them.
pub record ReadSo (texts : List (List ℕ)) (words : List WordValue) : Type 0 where
  pub read : List AlternativeValue
  pub says : map alternative texts ≡ map Some read
  pub pushed : words ≡ joined read

pub read_more : (texts longer : List (List ℕ)) (words pushed : List WordValue) (piece : List ℕ) (a : AlternativeValue) → ReadSo texts words → longer ≡ texts ++ piece ∷ [] → alternative piece ≡ Some a → pushed ≡ words_with words a → ReadSo longer pushed
read_more texts longer words pushed piece a r is said with_it =
    record {
      read = r.read ++ a ∷ [];
      says = ap (map alternative) is ∙ map-append alternative texts (piece ∷ []) ∙ ap (λ (os : List (Option AlternativeValue)). os ++ alternative piece ∷ []) r.says ∙ ap (λ (o : Option AlternativeValue). map Some r.read ++ o ∷ []) said
          ∙ sym (map-append Some r.read (a ∷ []));
      pushed = with_it ∙ ap (λ (ws : List WordValue). words_with ws a) r.pushed ∙ sym (words_more r.read a);
    }

-- What all pieces say.
abbrev pub Said : List ℕ → List WordValue → Type 0
Said text words = (first : AlternativeValue) × (others : List AlternativeValue) × (map alternative (pieces text) ≡ map Some (first ∷ others)) × (spelling (or_of first others) ≡ words)

pub no_pieces : (text : List ℕ) → map alternative (pieces text) ≡ [] → ⊥
no_pieces text none =
    let some = length-slice_split (λ (b : ℕ). b == 44) text in
    let many : length (map alternative (pieces text)) ≡ 0 = ap length none in
    omega (arith, some, many, length-map (pieces text) alternative)

all_said : (text : List ℕ) (words : List WordValue) (read : List AlternativeValue) → map alternative (pieces text) ≡ map Some read → words ≡ joined read → Said text words
all_said text words [] says is = absurd (no_pieces text says)
all_said text words (a ∷ more) says is = (a, more, says, or_spelling a more ∙ sym is)

pub said : (text : List ℕ) (texts : List (List ℕ)) (words : List WordValue) → texts ≡ pieces text → ReadSo texts words → Said text words
said text texts words all r = all_said text words r.read (ap (map alternative) (sym all) ∙ r.says) r.pushed

module _ (text piece : List ℕ) (k : ℕ) (within : k < length (pieces text)) (is : piece ≡ get_or (pieces text) k piece) where
  pub piece_needs_memory : (so_far : List (List ℕ)) (words : List WordValue) → so_far ≡ take k (pieces text) → ReadSo so_far words → IsSome (alternative piece) → IsSome (alternative (get_or (pieces text) 0 []))
  piece_needs_memory so_far words taken r some = first_says (pieces text) k so_far r.read piece taken r.says within is some

  pub memory_fails : (e : SelectFault) (so_far : List (List ℕ)) (words : List WordValue) → so_far ≡ take k (pieces text) → ReadSo so_far words → AnswersOrLacksMemory alternative_value (Err e) (alternative piece) → e ≡ Memory
      → IsSome (alternative (get_or (pieces text) 0 []))
  memory_fails Memory so_far words taken r g is_memory = piece_needs_memory so_far words taken r g
  memory_fails BadTagText so_far words taken r g is_memory = let no : ⊥ = cc is_memory in absurd no
  memory_fails TooMany so_far words taken r g is_memory = absurd g

  pub fault_fails : (e : SelectFault) → AnswersOrLacksMemory alternative_value (Err e) (alternative piece) → (e ≡ Memory) ⊎ ((e ≡ BadTagText) × ((alternatives : List AlternativeValue) → map alternative (pieces text) ≡ map Some alternatives → ⊥))
  fault_fails Memory g = inl refl
  fault_fails BadTagText g = inr (refl, λ alternatives says. nothing_said (pieces text) alternatives k piece within is g says)
  fault_fails TooMany g = absurd g

-- A text has one list of alternatives.
pub one_list : (a b : List AlternativeValue) → map Some a ≡ map Some b → a ≡ b
one_list [] [] e = refl
one_list [] (b ∷ bs) e = let no : ⊥ = cc in absurd no
one_list (a ∷ more) [] e = let no : ⊥ = cc in absurd no
one_list (a ∷ more) (b ∷ others) e =
    let same : a ≡ b = cc in
    let after : map Some more ≡ map Some others = cc in
    rw (same, one_list more others after) refl

-- The `or` of alternatives holds where one of them does.
factor_value : (absent : Bool) (tag : List ℕ) (tags : List (List ℕ)) → factor_holds (if absent then negated (tagged tag) else tagged tag) tags ≡ (if absent then not (list_any (bytes_eq tag) tags) else list_any (bytes_eq tag) tags)
factor_value true tag tags = refl
factor_value false tag tags = refl

or_false : (b : Bool) → b ≡ b || false
or_false true = refl
or_false false = refl

pub or_value : (a : AlternativeValue) (more : List AlternativeValue) (tags : List (List ℕ)) → holds (or_of a more) tags ≡ list_any (alternative_holds tags) (a ∷ more)
or_value a [] tags = grind (arith, common_steps)
or_value a (b ∷ more) tags = ap (λ (x : Bool). x || holds (or_of b more) tags) (factor_value a.negated a.tag tags) ∙ ap (λ (x : Bool). alternative_holds tags a || x) (or_value b more tags)
