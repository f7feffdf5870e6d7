-- The words of a text, one after the other.
use Rattle.gk_select.proofs.Common.{SelectFault, TooMany, BadTagText, Memory, AnswersOrLacksMemory, Err, inl, inr, ◌≡◌, ◌⊎◌, ℕ, zero, suc, ◌<◌, ◌≤◌, Bool, true, false, ◌||◌, if◌then◌else◌, List, [], ◌∷◌, ◌++◌, length, map, take, drop, get_or, Option, Some, None, IsSome, refl, ap, sym, subst, ◌∙◌, arith, append-nil, common_steps, IsCharBoundary-after_ascii, IsUtf8, IsCharBoundary, is_blank, FirstWord, first_word, words_with_first, words_of_text, is_parenthesis, is_of_new_form, WordValue, word_value, word_said, AreWords}

-- What a byte does, by the tests of it.
abbrev by_tests : Bool → Bool → ℕ → FirstWord → FirstWord
by_tests x y b word =
    if x then record { front = []; after = words_with_first word } else
    (if y then record { front = []; after = (b ∷ []) ∷ words_with_first word } else record { front = b ∷ word.front; after = word.after })

goes_on : (x y : Bool) (b : ℕ) (c : FirstWord) → x || y ≡ false → by_tests x y b c ≡ record { front = b ∷ c.front; after = c.after }
goes_on true y b c h = let no : ⊥ = cc h in absurd no
goes_on false true b c h = let no : ⊥ = cc h in absurd no
goes_on false false b c h = refl

-- Up to the first byte that ends a word, a text is the word at its front.
front_at : (t : List ℕ) (n : ℕ) → n ≤ length t → ((k : ℕ) → k < n → is_of_new_form (get_or t k 0) ≡ false) → (n < length t → is_of_new_form (get_or t n 0) ≡ true)
    → (first_word t ≡ record { front = take n t; after = (first_word (drop n t)).after }) × (first_word (drop n t) ≡ record { front = []; after = (first_word (drop n t)).after })
unfolding first_word
front_at [] zero le before at = (refl, refl)
front_at [] (suc n) le before at = absurd (omega arith)
front_at (b ∷ t) zero le before at = grind (arith, common_steps)
front_at (b ∷ t) (suc n) le before at =
    let r = front_at t n (omega arith) (λ k l. before (suc k) (omega arith)) (λ l. at (omega arith)) in
    (goes_on (is_blank b) (is_parenthesis b) b (first_word t) (before 0 (omega arith)) ∙ ap (λ (c : FirstWord). record { front = b ∷ c.front; after = c.after }) r.0, r.1)

-- The word up to there, or the byte that ends one.
some_word : (t : List ℕ) (n : ℕ) → 0 < n → n ≤ length t → (c : FirstWord) → first_word t ≡ record { front = take n t; after = c.after } → c ≡ record { front = []; after = c.after } → words_of_text t ≡ take n t ∷ words_with_first c
some_word [] n some le c e f = absurd (omega arith)
some_word (b ∷ t) zero some le c e f = absurd (omega arith)
some_word (b ∷ t) (suc n) some le c e f = grind (arith, common_steps)

one_byte : (x y : Bool) (b : ℕ) (c : FirstWord) → x || y ≡ true → words_with_first (by_tests x y b c) ≡ (if x then [] else (b ∷ []) ∷ []) ++ words_with_first c
one_byte true y b c h = refl
one_byte false true b c h = refl
one_byte false false b c h = let no : ⊥ = cc h in absurd no

left_of_or : (x y : Bool) → x || y ≡ false → x ≡ false
left_of_or true y h = let no : ⊥ = cc h in absurd no
left_of_or false y h = refl

pub word_is : (t : List ℕ) (n : ℕ) → 0 < n → n ≤ length t → ((k : ℕ) → k < n → is_of_new_form (get_or t k 0) ≡ false) → (n < length t → is_of_new_form (get_or t n 0) ≡ true)
    → words_of_text t ≡ (if is_blank (get_or t 0 0) then [] else take n t ∷ []) ++ words_of_text (drop n t)
word_is t n some le before at = grind (arith, common_steps, front_at, some_word, left_of_or)

pub byte_is : (t : List ℕ) → 0 < length t → is_of_new_form (get_or t 0 0) ≡ true → words_of_text t ≡ (if is_blank (get_or t 0 0) then [] else take 1 t ∷ []) ++ words_of_text (drop 1 t)
unfolding first_word
byte_is [] some at = absurd (omega arith)
byte_is (b ∷ t) some at = grind (arith, common_steps)

-- Words that are read, and those that are left.
abbrev pub Reads : List ℕ → List WordValue → List ℕ → Type 0
Reads text read rest = map word_said (words_of_text text) ≡ map Some read ++ map word_said (words_of_text rest)

pub no_word : (read words : List WordValue) (others : List (Option WordValue)) → map Some read ++ None ∷ others ≡ map Some words → ⊥
no_word [] [] others e = let no : ⊥ = cc e in no
no_word [] (w ∷ words) others e = let no : ⊥ = cc e in no
no_word (r ∷ read) [] others e = let no : ⊥ = cc e in no
no_word (r ∷ read) (w ∷ words) others e = let after : map Some read ++ None ∷ others ≡ map Some words = cc e in no_word read words others after

pub refuses : (text : List ℕ) (read : List WordValue) (rest after word : List ℕ) → Reads text read rest → words_of_text rest ≡ (if false then [] else word ∷ []) ++ words_of_text after → word_said word ≡ None
    → (words : List WordValue) → AreWords text words → ⊥
refuses text read rest after word r e said words are =
    no_word read words (map word_said (words_of_text after))
    (sym (r ∙ ap (λ (ws : List (List ℕ)). map Some read ++ map word_said ws) e ∙ ap (λ (o : Option WordValue). map Some read ++ o ∷ map word_said (words_of_text after)) said) ∙ are)

-- Two lists of words of one text are one.
pub one_words : (us vs : List WordValue) → map Some us ≡ map Some vs → us ≡ vs
one_words [] [] e = refl
one_words [] (v ∷ vs) e = let no : ⊥ = cc e in absurd no
one_words (u ∷ us) [] e = let no : ⊥ = cc e in absurd no
one_words (u ∷ us) (v ∷ vs) e =
    let same : u ≡ v = cc e in
    let after : map Some us ≡ map Some vs = cc e in
    rw (same, one_words us vs after) refl

at_start : (t : List ℕ) (n : ℕ) → n ≡ 0 → 0 < length t → (n < length t → is_of_new_form (get_or t n 0) ≡ true) → is_of_new_form (get_or t 0 0) ≡ true
at_start t n e some at = subst (λ (k : ℕ). is_of_new_form (get_or t k 0) ≡ true) e (at (omega arith))

pub edge_one : (t : List ℕ) (n : ℕ) → n ≡ 0 → IsUtf8 t → 0 < length t → (n < length t → is_of_new_form (get_or t n 0) ≡ true) → IsCharBoundary t 1
edge_one t n e u some at = grind (arith, common_steps, IsCharBoundary-after_ascii, at_start)

pub byte_word : (t : List ℕ) (n : ℕ) → n ≡ 0 → 0 < length t → (n < length t → is_of_new_form (get_or t n 0) ≡ true) → words_of_text t ≡ (if is_blank (get_or t 0 0) then [] else take 1 t ∷ []) ++ words_of_text (drop 1 t)
byte_word t n e some at = byte_is t some (at_start t n e some at)

pub ends : (text : List ℕ) (read : List WordValue) (rest : List ℕ) → Reads text read rest → length rest ≡ 0 → AreWords text read
unfolding first_word
ends text read [] r none = r ∙ append-nil (map Some read)
ends text read (b ∷ rest) r none = absurd (omega arith)

-- What one turn takes: the word at the front, or a blank.
pub record Turn (rest bytes again word : List ℕ) (n : ℕ) (blank : Bool) : Type 0 where
  pub bytes_are : bytes ≡ rest
  pub again_are : again ≡ rest
  pub cut : words_of_text bytes ≡ (if is_blank (get_or bytes 0 0) then [] else take n bytes ∷ []) ++ words_of_text (drop n bytes)
  pub tested : blank ≡ is_blank (get_or again 0 0)

pub turned : (rest bytes again word : List ℕ) (n : ℕ) (blank : Bool) → Turn rest bytes again word n blank → words_of_text rest ≡ (if blank then [] else take n rest ∷ []) ++ words_of_text (drop n rest)
turned rest bytes again word n blank t = grind (arith, common_steps)

pub word_fails : (text : List ℕ) (read : List WordValue) (rest bytes again word : List ℕ) (n : ℕ) (blank : Bool) → Turn rest bytes again word n blank → blank ≡ false → word ≡ take n rest → Reads text read rest
    → (e : SelectFault) → AnswersOrLacksMemory word_value (Err e) (word_said word) → (e ≡ Memory) ⊎ ((e ≡ BadTagText) × ((words : List WordValue) → AreWords text words → ⊥))
word_fails text read rest bytes again word n blank t is same r Memory g = inl refl
word_fails text read rest bytes again word n blank t is same r BadTagText g =
    inr (refl, refuses text read rest (drop n rest) (take n rest) r (turned rest bytes again word n blank t ∙ ap (λ (x : Bool). (if x then [] else take n rest ∷ []) ++ words_of_text (drop n rest)) is) (ap word_said (sym same) ∙ g))
word_fails text read rest bytes again word n blank t is same r TooMany g = absurd g

-- Where the words so far and the next one say something, the first does.
first_some : (texts : List (List ℕ)) (read : List WordValue) (next : Option WordValue) (others : List (Option WordValue)) → map word_said texts ≡ map Some read ++ next ∷ others → IsSome next → IsSome (word_said (get_or texts 0 []))
first_some [] [] next others e some = let no : ⊥ = cc e in absurd no
first_some [] (r ∷ read) next others e some = let no : ⊥ = cc e in absurd no
first_some (t ∷ texts) [] next others e some = let is : word_said t ≡ next = cc e in subst (λ (o : Option WordValue). IsSome o) (sym is) some
first_some (t ∷ texts) (r ∷ read) next others e some = let is : word_said t ≡ Some r = cc e in subst (λ (o : Option WordValue). IsSome o) (sym is) refl

pub word_needs_memory : (text : List ℕ) (read : List WordValue) (rest bytes again word : List ℕ) (n : ℕ) (blank : Bool) → Turn rest bytes again word n blank → blank ≡ false → word ≡ take n rest → Reads text read rest → IsSome (word_said word)
    → IsSome (word_said (get_or (words_of_text text) 0 []))
word_needs_memory text read rest bytes again word n blank t is same r some = grind (arith, common_steps, turned, first_some)

pub word_lacks_memory : (text : List ℕ) (read : List WordValue) (rest bytes again word : List ℕ) (n : ℕ) (blank : Bool) → Turn rest bytes again word n blank → blank ≡ false → word ≡ take n rest → Reads text read rest
    → (e : SelectFault) → AnswersOrLacksMemory word_value (Err e) (word_said word) → e ≡ Memory → IsSome (word_said (get_or (words_of_text text) 0 []))
word_lacks_memory text read rest bytes again word n blank t is same r Memory g is_memory = word_needs_memory text read rest bytes again word n blank t is same r g
word_lacks_memory text read rest bytes again word n blank t is same r BadTagText g is_memory = let no : ⊥ = cc is_memory in absurd no
word_lacks_memory text read rest bytes again word n blank t is same r TooMany g is_memory = absurd g
