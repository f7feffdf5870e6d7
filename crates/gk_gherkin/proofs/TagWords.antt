-- The words of a tag line, one after the other.
use Rattle.gk_gherkin.proofs.Common.{◌≡◌, ℕ, zero, suc, ◌+◌, ◌<◌, ◌≤◌, Bool, true, false, not, cond, ◌==◌, List, [], ◌∷◌, ◌++◌, length, take, drop, get_or, Option, Some, None, inl, inr, refl, sym, ap, ◌∙◌, append_assoc, arith, common_steps, String, option_map, codes, filter, take_while, prefix_len, position_or_len, slice_split, list_all, nat_tests, map_push, drop_more, take-append-drop, get_or-take, drop_all, take_all, length-take, length-take-le, prefix_len_passes, prefix_len-le-length, passes_at_first, fails_before_first, prefix_len-drop_no, prefix_len-drop_all, prefix_len_stops, slice_split-cons_yes, slice_split_first, slice_split_none, eq-or-lt_of_le, All-from_get_or, LineValue, is_blank, trim_front, begins, string_bytes, texts, tags_of, words_of, is_tag}

some_bytes : (b : ℕ) (bs : List ℕ) → not (length (b ∷ bs) == 0) ≡ true
some_bytes b bs = grind (arith, nat_tests)

blank_first : (b : ℕ) (bs : List ℕ) → is_blank b ≡ true → words_of (b ∷ bs) ≡ words_of bs
blank_first b bs e = ap (filter (λ word. not (length word == 0))) (slice_split-cons_yes is_blank b bs e)

blanks_first : (xs ys : List ℕ) → ((i : ℕ) → i < length xs → is_blank (get_or xs i 0) ≡ true) → words_of (xs ++ ys) ≡ words_of ys
blanks_first [] ys h = refl
blanks_first (x ∷ xs) ys h = blank_first x (xs ++ ys) (h 0 (omega arith)) ∙ blanks_first xs ys (λ i below. h (suc i) (omega arith))

blanks_taken : (t : List ℕ) (n : ℕ) → n ≡ prefix_len is_blank t → (i : ℕ) → i < length (take n t) → is_blank (get_or (take n t) i 0) ≡ true
blanks_taken t n e i below = grind (arith, common_steps, length-take, get_or-take, prefix_len_passes)

pub after_blanks : (t : List ℕ) → words_of (trim_front t) ≡ words_of t
after_blanks t =
    let n = prefix_len is_blank t in
    sym (blanks_first (take n t) (drop n t) (blanks_taken t n refl)) ∙ ap words_of (take-append-drop n t)

pub no_blank_left : (t : List ℕ) → prefix_len is_blank (trim_front t) ≡ 0
no_blank_left t =
    elim (eq-or-lt_of_le (prefix_len-le-length is_blank t)) [
      | inl e ↦ prefix_len-drop_all is_blank t (prefix_len is_blank t) (omega arith)
      | inr h ↦ prefix_len-drop_no is_blank t (prefix_len is_blank t) 0 h (prefix_len_stops is_blank t 0 h)
    ]

pub some_before : (t : List ℕ) → 0 < length t → prefix_len is_blank t ≡ 0 → 0 < position_or_len is_blank t
some_before [] h e = absurd (omega arith)
some_before (b ∷ bs) h e = grind (arith, common_steps)

kept : (word : List ℕ) (words : List (List ℕ)) → 0 < length word → filter (λ word. not (length word == 0)) (word ∷ words) ≡ word ∷ filter (λ word. not (length word == 0)) words
kept [] words h = absurd (omega arith)
kept (b ∷ bs) words h = ap (λ (t : Bool). cond t ((b ∷ bs) ∷ filter (λ word. not (length word == 0)) words) (filter (λ word. not (length word == 0)) words)) (some_bytes b bs)

last_word : (t : List ℕ) (n : ℕ) → 0 < length t → length t ≤ n → ((k : ℕ) → k < length t → is_blank (get_or t k 0) ≡ false) → words_of t ≡ take n t ∷ words_of (drop n t)
last_word t n some all fails =
    ap (filter (λ word. not (length word == 0))) (slice_split_none is_blank t (All-from_get_or (λ b. is_blank b ≡ false) t 0 fails))
    ∙ kept t [] some
    ∙ ap (λ (word : List ℕ). word ∷ []) (sym (take_all n t all)) ∙ ap (λ (rest : List ℕ). take n t ∷ words_of rest) (sym (drop_all n t all))

word_before : (t : List ℕ) (n : ℕ) → n ≡ position_or_len is_blank t → position_or_len is_blank t < length t → 0 < length (take n t) → words_of t ≡ take n t ∷ words_of (drop n t)
word_before t n e h some =
    let cut : words_of t ≡ filter (λ word. not (length word == 0)) (take n t ∷ slice_split is_blank (drop (n + 1) t)) =
    ap (filter (λ word. not (length word == 0))) (slice_split_first is_blank t 0 h ∙ ap (λ (k : ℕ). take k t ∷ slice_split is_blank (drop (k + 1) t)) (sym e)) in
    let blank : is_blank (get_or t n 0) ≡ true = ap (λ (k : ℕ). is_blank (get_or t k 0)) e ∙ passes_at_first is_blank t 0 h in
    cut ∙ kept (take n t) (slice_split is_blank (drop (n + 1) t)) some
    ∙ ap (λ (words : List (List ℕ)). take n t ∷ words) (sym (ap words_of (drop_more t n 0 (omega arith)) ∙ blank_first (get_or t n 0) (drop (n + 1) t) blank))

pub first_word : (t : List ℕ) (n : ℕ) → 0 < length t → prefix_len is_blank t ≡ 0 → n ≡ position_or_len is_blank t → words_of t ≡ take n t ∷ words_of (drop n t)
first_word t n some start e = grind (arith, common_steps, some_before, prefix_len-le-length, length-take-le, eq-or-lt_of_le, last_word, fails_before_first, word_before)

-- The tags among words.
abbrev pub tag_words : List (List ℕ) → List (List ℕ)
tag_words words = take_while (λ word. not (begins word (codes "#"))) words

abbrev all_tags : Bool → List (List ℕ) → Option (List (List ℕ))
all_tags t words = cond t (Some words) None

abbrev pub tags_by : List (List ℕ) → Option (List (List ℕ))
tags_by words = all_tags (list_all is_tag (tag_words words)) (tag_words words)

pub no_tag : (word : List ℕ) (words : List (List ℕ)) → begins word (codes "#") ≡ false → is_tag word ≡ false → tags_by (word ∷ words) ≡ None
no_tag word words e n = grind (arith, common_steps)

pub one_tag : (word : List ℕ) (words : List (List ℕ)) → begins word (codes "#") ≡ false → is_tag word ≡ true → tags_by (word ∷ words) ≡ option_map (λ more. word ∷ more) (tags_by words)
one_tag word words e y = grind (arith, common_steps)

pub begins_cut : (t : List ℕ) (n : ℕ) → 0 < n → begins (take n t) (codes "#") ≡ begins t (codes "#")
begins_cut t zero h = absurd (omega arith)
begins_cut [] (suc n) h = refl
begins_cut (b ∷ bs) (suc n) h = refl

abbrev pub onto_tags : List (List ℕ) → Option (List (List ℕ)) → Option (List (List ℕ))
onto_tags xs o = option_map (λ more. xs ++ more) o

onto_more : (xs : List (List ℕ)) (word : List ℕ) (o : Option (List (List ℕ))) → onto_tags xs (option_map (λ more. word ∷ more) o) ≡ onto_tags (xs ++ word ∷ []) o
onto_more xs word None = refl
onto_more xs word (Some more) = ap Some (sym (append_assoc xs (word ∷ []) more))

-- One turn of the loop, whose rest begins with a word.
module _ (all : Option (List (List ℕ))) (t : List ℕ) (n : ℕ) (xs : List (List ℕ)) (some : 0 < length t) (start : prefix_len is_blank t ≡ 0) (e : n ≡ position_or_len is_blank t) (plain : begins t (codes "#") ≡ false) (so_far : all ≡ onto_tags xs (tags_by (words_of t))) where
  word_plain : begins (take n t) (codes "#") ≡ false
  word_plain =
      let long : 0 < position_or_len is_blank t = some_before t some start in
      begins_cut t n (omega arith) ∙ plain

  pub takes_tag : is_tag (take n t) ≡ true → all ≡ onto_tags (xs ++ take n t ∷ []) (tags_by (words_of (trim_front (drop n t))))
  takes_tag y =
      so_far ∙ ap (λ (words : List (List ℕ)). onto_tags xs (tags_by words)) (first_word t n some start e)
      ∙ ap (onto_tags xs) (one_tag (take n t) (words_of (drop n t)) word_plain y)
      ∙ onto_more xs (take n t) (tags_by (words_of (drop n t)))
      ∙ ap (λ (words : List (List ℕ)). onto_tags (xs ++ take n t ∷ []) (tags_by words)) (sym (after_blanks (drop n t)))

  pub refuses_word : is_tag (take n t) ≡ false → all ≡ None
  refuses_word y =
      so_far ∙ ap (λ (words : List (List ℕ)). onto_tags xs (tags_by words)) (first_word t n some start e)
      ∙ ap (onto_tags xs) (no_tag (take n t) (words_of (drop n t)) word_plain y)

pub starts : (line : LineValue) (rest : List ℕ) (xs : List (List ℕ)) → rest ≡ trim_front line.text → xs ≡ [] → tags_of line ≡ onto_tags xs (tags_by (words_of rest))
unfolding tags_of
starts line rest xs e none = grind (arith, common_steps, after_blanks)

pub text_more : {Z : Type 0} (items more : List (String Z)) (s : String Z) (word : List ℕ) → more ≡ items ++ s ∷ [] → string_bytes s ≡ word → texts more ≡ texts items ++ word ∷ []
text_more items more s word e w = ap texts e ∙ map_push string_bytes items s ∙ ap (λ (t : List ℕ). texts items ++ t ∷ []) w

pub none_left : (n : ℕ) (test : Bool) → test ≡ (n == 0) → test ≡ true → n ≤ 0
none_left n test e h = grind (arith, nat_tests)

pub some_left : (n : ℕ) (test : Bool) → test ≡ (n == 0) → test ≡ false → 0 < n
some_left n test e h = grind (arith, nat_tests)
