-- Worked examples of expressions of tags.
use Rattle.std.specs.Prelude.{codes, ◌≡◌, ◌<◌, ℕ, zero, suc, Bool, true, false, List, [], ◌∷◌, ◌++◌, length, map, Option, Some, None}
use Rattle.std.proofs.Common.{refl, sym, ap, ◌∙◌, inl, inr, arith}
use Rattle.std.specs.List.{list_any}
use Rattle.gk_select.specs.TagWords.{WordValue, open_word, close_word, not_word, and_word, or_word, tag_word, first_word, words_of_text, word_said, AreWords, is_of_new_form}
use Rattle.gk_select.specs.TagGrammar.{Expression, one_term, or_terms, one_factor, and_factors, Factor, tagged, negated, grouped, depth, depth_limit, spelling, tags_in}
use Rattle.gk_select.specs.TagValues.{holds}
use Rattle.gk_select.specs.TagRules.{ReadsTags, SpellsNone}
use Rattle.gk_select.specs.TagMeasures.{Measure, measure_of}
use Rattle.gk_select.specs.TagTrees.{one_expression}
use Rattle.gk_select.proofs.TagDepths.{unspelt, refused}
use Rattle.gk_select.proofs.TagReading.{spells_none}
use Rattle.gk_select.proofs.TagTextWords.{one_words, no_word}

abbrev a : List ℕ
a = codes "@a"

abbrev b : List ℕ
b = codes "@b"

abbrev c : List ℕ
c = codes "@c"

-- The sets of a, b and c: none, a, b, c, ab, ac, bc, abc.
abbrev sets : List (List (List ℕ))
sets = [] ∷ (a ∷ []) ∷ (b ∷ []) ∷ (c ∷ []) ∷ (a ∷ b ∷ []) ∷ (a ∷ c ∷ []) ∷ (b ∷ c ∷ []) ∷ (a ∷ b ∷ c ∷ []) ∷ []

-- A text spells an expression, and the expression has these values on the sets.
abbrev Says : List ℕ → Expression → List Bool → Type 0
Says text e values = ReadsTags text e × (map (holds e) sets ≡ values)

-- One tag as a whole expression.
abbrev only : List ℕ → Expression
only tag = one_term (one_factor (tagged tag))

and_before_or : Says (codes "@a or @b and not @c") (or_terms (one_factor (tagged a)) (one_term (and_factors (tagged b) (one_factor (negated (tagged c))))))
    (false ∷ true ∷ true ∷ false ∷ true ∷ true ∷ false ∷ true ∷ [])
unfolding first_word
and_before_or = (inr (record { new_form = refl; says = refl; shallow = omega arith }), refl)

group_first : Says (codes "(@a or @b) and not @c") (one_term (and_factors (grouped (or_terms (one_factor (tagged a)) (only b))) (one_factor (negated (tagged c)))))
    (false ∷ true ∷ true ∷ false ∷ true ∷ false ∷ false ∷ false ∷ [])
unfolding first_word
group_first = (inr (record { new_form = refl; says = refl; shallow = omega arith }), refl)

not_before_or : Says (codes "not @a or @b") (or_terms (one_factor (negated (tagged a))) (only b)) (true ∷ false ∷ true ∷ true ∷ true ∷ false ∷ true ∷ true ∷ [])
unfolding first_word
not_before_or = (inr (record { new_form = refl; says = refl; shallow = omega arith }), refl)

not_before_and : Says (codes "not @a and @b") (one_term (and_factors (negated (tagged a)) (one_factor (tagged b)))) (false ∷ false ∷ true ∷ false ∷ false ∷ false ∷ true ∷ false ∷ [])
unfolding first_word
not_before_and = (inr (record { new_form = refl; says = refl; shallow = omega arith }), refl)

not_of_an_or : Says (codes "not (@a or @b)") (one_term (one_factor (negated (grouped (or_terms (one_factor (tagged a)) (only b)))))) (true ∷ false ∷ false ∷ true ∷ false ∷ false ∷ false ∷ false ∷ [])
unfolding first_word
not_of_an_or = (inr (record { new_form = refl; says = refl; shallow = omega arith }), refl)

not_of_an_and : Says (codes "not (@a and @b)") (one_term (one_factor (negated (grouped (one_term (and_factors (tagged a) (one_factor (tagged b)))))))) (true ∷ true ∷ true ∷ true ∷ false ∷ true ∷ true ∷ false ∷ [])
unfolding first_word
not_of_an_and = (inr (record { new_form = refl; says = refl; shallow = omega arith }), refl)

and_then_or : Says (codes "@a and @b or @c") (or_terms (and_factors (tagged a) (one_factor (tagged b))) (only c)) (false ∷ false ∷ false ∷ true ∷ true ∷ true ∷ true ∷ true ∷ [])
unfolding first_word
and_then_or = (inr (record { new_form = refl; says = refl; shallow = omega arith }), refl)

and_of_a_group : Says (codes "@a and (@b or @c)") (one_term (and_factors (tagged a) (one_factor (grouped (or_terms (one_factor (tagged b)) (only c)))))) (false ∷ false ∷ false ∷ false ∷ true ∷ true ∷ false ∷ true ∷ [])
unfolding first_word
and_of_a_group = (inr (record { new_form = refl; says = refl; shallow = omega arith }), refl)

not_twice : Says (codes "not not @a") (one_term (one_factor (negated (negated (tagged a))))) (false ∷ true ∷ false ∷ false ∷ true ∷ true ∷ false ∷ true ∷ [])
unfolding first_word
not_twice = (inr (record { new_form = refl; says = refl; shallow = omega arith }), refl)

all_three : Says (codes "@a and @b and @c") (one_term (and_factors (tagged a) (and_factors (tagged b) (one_factor (tagged c))))) (false ∷ false ∷ false ∷ false ∷ false ∷ false ∷ false ∷ true ∷ [])
unfolding first_word
all_three = (inr (record { new_form = refl; says = refl; shallow = omega arith }), refl)

one_of_three : Says (codes "@a or @b or @c") (or_terms (one_factor (tagged a)) (or_terms (one_factor (tagged b)) (only c))) (false ∷ true ∷ true ∷ true ∷ true ∷ true ∷ true ∷ true ∷ [])
unfolding first_word
one_of_three = (inr (record { new_form = refl; says = refl; shallow = omega arith }), refl)

never : Says (codes "@a and not @a") (one_term (and_factors (tagged a) (one_factor (negated (tagged a))))) (false ∷ false ∷ false ∷ false ∷ false ∷ false ∷ false ∷ false ∷ [])
unfolding first_word
never = (inr (record { new_form = refl; says = refl; shallow = omega arith }), refl)

-- The tags that an expression names: in the order of its text, a negated one too, and one that stands twice there twice.
names_in_order : tags_in (or_terms (and_factors (grouped (or_terms (one_factor (tagged b)) (only a))) (one_factor (negated (tagged c)))) (only b)) ≡ b ∷ a ∷ c ∷ b ∷ []
names_in_order = refl

-- Parentheses are words without blanks round them; blanks, tabs too, stand anywhere between words and at both ends.
grouped_tag : Says (codes "(@a)") (one_term (one_factor (grouped (only a)))) (false ∷ true ∷ false ∷ false ∷ true ∷ true ∷ false ∷ true ∷ [])
unfolding first_word
grouped_tag = (inr (record { new_form = refl; says = refl; shallow = omega arith }), refl)

without_blanks : Says (codes "((@a)or(@b))") (one_term (one_factor (grouped (or_terms (one_factor (grouped (only a))) (one_term (one_factor (grouped (only b))))))))
    (false ∷ true ∷ true ∷ false ∷ true ∷ true ∷ true ∷ true ∷ [])
unfolding first_word
without_blanks = (inr (record { new_form = refl; says = refl; shallow = omega arith }), refl)

blank_in_front : Says (codes " @a") (only a) (false ∷ true ∷ false ∷ false ∷ true ∷ true ∷ false ∷ true ∷ [])
unfolding first_word
blank_in_front = (inr (record { new_form = refl; says = refl; shallow = omega arith }), refl)

tabs_between : Says (9 ∷ 9 ∷ (a ++ 9 ∷ (codes "and" ++ 9 ∷ 32 ∷ (b ++ 9 ∷ [])))) (one_term (and_factors (tagged a) (one_factor (tagged b)))) (false ∷ false ∷ false ∷ false ∷ true ∷ false ∷ false ∷ true ∷ [])
unfolding first_word
tabs_between = (inr (record { new_form = refl; says = refl; shallow = omega arith }), refl)

-- A tag may look like an operator, and have any byte but a blank, a parenthesis, a comma and a backslash: here also a line feed, a `#`, a `~` and a byte above 127.
tags_like_operators : ReadsTags (codes "@not or @and and @or") (or_terms (one_factor (tagged (codes "@not"))) (one_term (and_factors (tagged (codes "@and")) (one_factor (tagged (codes "@or"))))))
unfolding first_word
tags_like_operators = inr (record { new_form = refl; says = refl; shallow = omega arith })

odd_bytes : ReadsTags (32 ∷ codes "@#~-:@" ++ 10 ∷ 195 ∷ 169 ∷ []) (only (codes "@#~-:@" ++ 10 ∷ 195 ∷ 169 ∷ []))
unfolding first_word
odd_bytes = inr (record { new_form = refl; says = refl; shallow = omega arith })

-- Why a text is refused: a word can't stand where it stands,
misplaced : (text : List ℕ) (ws : List WordValue) → list_any is_of_new_form text ≡ true → AreWords text ws → measure_of ws ≡ None → SpellsNone text
misplaced text ws new are none = spells_none text new (λ rule r. unspelt ws none rule (one_words (spelling rule) ws (sym r.says ∙ are)))

-- nothing stands in front of an operator, or there is no word,
headless : (text : List ℕ) (ws : List WordValue) (m : Measure) → list_any is_of_new_form text ≡ true → AreWords text ws → measure_of ws ≡ Some m → m.factor ≡ None → SpellsNone text
headless text ws m new are is none = spells_none text new (λ rule r. refused ws m is (inl none) rule (one_words (spelling rule) ws (sym r.says ∙ are)) r.shallow)

-- a `)` has no `(`,
unopened : (text : List ℕ) (ws : List WordValue) (m : Measure) (n : ℕ) → list_any is_of_new_form text ≡ true → AreWords text ws → measure_of ws ≡ Some m → m.factor ≡ Some n → length m.outer ≡ 1 → SpellsNone text
unopened text ws m n new are is some one = spells_none text new (λ rule r. refused ws m is (inr (n, some, λ none low. omega (arith, none, one))) rule (one_words (spelling rule) ws (sym r.says ∙ are)) r.shallow)

-- a word is none of an expression,
no_word_of_one : (text : List ℕ) (read : List WordValue) (others : List (Option WordValue)) → list_any is_of_new_form text ≡ true → map word_said (words_of_text text) ≡ map Some read ++ None ∷ others → SpellsNone text
no_word_of_one text read others new are = spells_none text new (λ rule r. no_word read (spelling rule) others (sym are ∙ r.says))

-- or too many `not` and `(` are nested.
too_deep : (text : List ℕ) (e : Expression) → list_any is_of_new_form text ≡ true → AreWords text (spelling e) → depth_limit < depth e → SpellsNone text
too_deep text e new are deep =
    spells_none text new (λ rule r.
    let same : rule ≡ e = one_expression rule e (one_words (spelling rule) (spelling e) (sym r.says ∙ are)) in
    omega (arith, r.shallow, deep, ap depth same))

nothing_after_or : SpellsNone (codes "@a or")
unfolding first_word
nothing_after_or = misplaced (codes "@a or") (tag_word a ∷ or_word ∷ []) refl refl refl

nothing_after_and : SpellsNone (codes "@a and")
unfolding first_word
nothing_after_and = misplaced (codes "@a and") (tag_word a ∷ and_word ∷ []) refl refl refl

nothing_after_not : SpellsNone (codes "not ")
unfolding first_word
nothing_after_not = misplaced (codes "not ") (not_word ∷ []) refl refl refl

two_tags : SpellsNone (codes "@a @b")
unfolding first_word
two_tags = misplaced (codes "@a @b") (tag_word a ∷ tag_word b ∷ []) refl refl refl

two_operators : SpellsNone (codes "@a and or @b")
unfolding first_word
two_operators = misplaced (codes "@a and or @b") (tag_word a ∷ and_word ∷ or_word ∷ tag_word b ∷ []) refl refl refl

not_between_tags : SpellsNone (codes "@a not @b")
unfolding first_word
not_between_tags = misplaced (codes "@a not @b") (tag_word a ∷ not_word ∷ tag_word b ∷ []) refl refl refl

unclosed : SpellsNone (codes "(@a")
unfolding first_word
unclosed = misplaced (codes "(@a") (open_word ∷ tag_word a ∷ []) refl refl refl

not_of_nothing : SpellsNone (codes "not (")
unfolding first_word
not_of_nothing = misplaced (codes "not (") (not_word ∷ open_word ∷ []) refl refl refl

empty_group : SpellsNone (codes "()")
unfolding first_word
empty_group = misplaced (codes "()") (open_word ∷ close_word ∷ []) refl refl refl

closed_only : SpellsNone (codes "@a)")
unfolding first_word
closed_only = unopened (codes "@a)") (tag_word a ∷ close_word ∷ []) (record { factor = Some 0; behind = 0; outer = 0 ∷ [] }) 0 refl refl refl refl refl

or_in_front : SpellsNone (codes "or @a")
unfolding first_word
or_in_front = headless (codes "or @a") (or_word ∷ tag_word a ∷ []) (record { factor = None; behind = 0; outer = [] }) refl refl refl refl

blank_alone : SpellsNone (codes " ")
unfolding first_word
blank_alone = headless (codes " ") [] (record { factor = None; behind = 0; outer = [] }) refl refl refl refl

tag_without_at : SpellsNone (codes "a or @b")
unfolding first_word
tag_without_at = no_word_of_one (codes "a or @b") [] (Some or_word ∷ Some (tag_word b) ∷ []) refl refl

at_alone : SpellsNone (codes "@a or @")
unfolding first_word
at_alone = no_word_of_one (codes "@a or @") (tag_word a ∷ or_word ∷ []) [] refl refl

comma_behind_a_tag : SpellsNone (codes "@a, @b")
unfolding first_word
comma_behind_a_tag = no_word_of_one (codes "@a, @b") [] (Some (tag_word b) ∷ []) refl refl

backslash_in_a_tag : SpellsNone (64 ∷ 97 ∷ 92 ∷ codes " or @b")
unfolding first_word
backslash_in_a_tag = no_word_of_one (64 ∷ 97 ∷ 92 ∷ codes " or @b") [] (Some or_word ∷ Some (tag_word b) ∷ []) refl refl

not_in_capitals : SpellsNone (codes "NOT @a")
unfolding first_word
not_in_capitals = no_word_of_one (codes "NOT @a") [] (Some (tag_word a) ∷ []) refl refl

not_without_a_blank : SpellsNone (codes "not@a or @b")
unfolding first_word
not_without_a_blank = no_word_of_one (codes "not@a or @b") [] (Some or_word ∷ Some (tag_word b) ∷ []) refl refl

tilde_in_an_expression : SpellsNone (codes "~@a and @b")
unfolding first_word
tilde_in_an_expression = no_word_of_one (codes "~@a and @b") [] (Some and_word ∷ Some (tag_word b) ∷ []) refl refl

-- `@a` in so many pairs of parentheses.
abbrev in_pairs : ℕ → Expression
in_pairs zero = only a
in_pairs (suc n) = one_term (one_factor (grouped (in_pairs n)))

abbrev closing : ℕ → List ℕ
closing zero = []
closing (suc n) = 41 ∷ closing n

abbrev pairs_text : ℕ → List ℕ → List ℕ
pairs_text zero end = a ++ end
pairs_text (suc n) end = 40 ∷ pairs_text n end

hundred_pairs : ReadsTags (pairs_text 100 (closing 100)) (in_pairs 100)
unfolding first_word
hundred_pairs = inr (record { new_form = refl; says = refl; shallow = omega arith })

one_pair_more : SpellsNone (pairs_text 101 (closing 101))
unfolding first_word
one_pair_more = too_deep (pairs_text 101 (closing 101)) (in_pairs 101) refl refl (omega arith)

-- `@a` behind so many `not`.
abbrev after_nots : ℕ → Factor
after_nots zero = tagged a
after_nots (suc n) = negated (after_nots n)

abbrev nots_text : ℕ → List ℕ
nots_text zero = a
nots_text (suc n) = codes "not " ++ nots_text n

hundred_nots : ReadsTags (nots_text 100) (one_term (one_factor (after_nots 100)))
unfolding first_word
hundred_nots = inr (record { new_form = refl; says = refl; shallow = omega arith })

one_not_more : SpellsNone (nots_text 101)
unfolding first_word
one_not_more = too_deep (nots_text 101) (one_term (one_factor (after_nots 101))) refl refl (omega arith)

-- `@a` in so many pairs of `not (` and `)`: `not` and `(` are counted together.
abbrev in_not_pairs : ℕ → Factor
in_not_pairs zero = tagged a
in_not_pairs (suc n) = negated (grouped (one_term (one_factor (in_not_pairs n))))

abbrev not_pairs_text : ℕ → List ℕ → List ℕ
not_pairs_text zero end = a ++ end
not_pairs_text (suc n) end = codes "not (" ++ not_pairs_text n end

fifty_not_pairs : ReadsTags (not_pairs_text 50 (closing 50)) (one_term (one_factor (in_not_pairs 50)))
unfolding first_word
fifty_not_pairs = inr (record { new_form = refl; says = refl; shallow = omega arith })

one_not_pair_more : SpellsNone (not_pairs_text 51 (closing 51))
unfolding first_word
one_not_pair_more = too_deep (not_pairs_text 51 (closing 51)) (one_term (one_factor (in_not_pairs 51))) refl refl (omega arith)
