-- A text spells one rule, whichever form it has.
use Rattle.gk_select.proofs.Common.{◌≡◌, ◌⊎◌, ◌≤◌, ◌<◌, ℕ, true, false, List, [], ◌∷◌, length, map, get_or, slice_index_or, Option, Some, IsSome, Result, Ok, Err, IfOk, IfErr, refl, sym, ap, subst, ◌∙◌, arith, inl, inr, list_any, SelectFault, TooMany, BadTagText, Memory, AlternativeValue, alternative, alternative_holds, pieces, or_of, ReadsAlternatives, AnswersOrLacksMemory, Expression, spelling, depth, depth_limit, ReadsTags, ReadsNewForm, SpellsNone, one_expression, holds, WordValue, AreWords, is_of_new_form, words_of_text, word_said}
use Rattle.gk_select.proofs.AlternativeWords.{no_pieces, one_list, or_value}
use Rattle.gk_select.proofs.TagTextWords.{one_words}

abbrev or_all : List AlternativeValue → Expression → Expression
or_all [] e = e
or_all (a ∷ more) e = or_of a more

pub one_rule : (text : List ℕ) (a b : Expression) → ReadsTags text a → ReadsTags text b → a ≡ b
one_rule text a b (inl x) (inl y) =
    x.is ∙ ap (λ (found : List AlternativeValue). or_all found a) (one_list (x.first ∷ x.others) (y.first ∷ y.others) (sym x.reads.says ∙ y.reads.says)) ∙ sym y.is
one_rule text a b (inl x) (inr y) = let no : ⊥ = cc (sym x.reads.old_form ∙ y.new_form) in absurd no
one_rule text a b (inr x) (inl y) = let no : ⊥ = cc (sym x.new_form ∙ y.reads.old_form) in absurd no
one_rule text a b (inr x) (inr y) = one_expression a b (one_words (spelling a) (spelling b) (sym x.says ∙ y.says))

pub only_from : (text : List ℕ) (r : Result Expression SelectFault) → IfOk r (λ (x : Expression). ReadsTags text x)
    → IfErr r (λ (e : SelectFault). (e ≡ Memory) ⊎ ((e ≡ BadTagText) × SpellsNone text))
    → (rule : Expression) → ReadsTags text rule → AnswersOrLacksMemory (λ (x : Expression). x) r (Some rule)
only_from text (Ok x) found fault rule reads = ap (λ (e : Expression). Some e) (one_rule text rule x reads found)
only_from text (Err Memory) found fault rule reads = refl
only_from text (Err BadTagText) found (inl m) rule reads = let no : ⊥ = cc m in absurd no
only_from text (Err BadTagText) found (inr bad) rule reads = absurd (bad.1 rule reads)
only_from text (Err TooMany) found (inl m) rule reads = let no : ⊥ = cc m in absurd no
only_from text (Err TooMany) found (inr bad) rule reads = let no : ⊥ = cc (bad.0) in absurd no

pub no_alternatives : (text : List ℕ) → list_any is_of_new_form text ≡ false → (e : SelectFault) → (e ≡ Memory) ⊎ ((e ≡ BadTagText) × ((alternatives : List AlternativeValue) → map alternative (pieces text) ≡ map Some alternatives → ⊥))
    → (e ≡ Memory) ⊎ ((e ≡ BadTagText) × SpellsNone text)
no_alternatives text old e (inl m) = inl m
no_alternatives text old e (inr b) = inr (
  b.0,
  λ rule reads.
      elim reads [
        | inl x ↦ b.1 (x.first ∷ x.others) x.reads.says
        | inr y ↦ cc (sym old ∙ y.new_form)
      ],
)

pub spells_none : (text : List ℕ) → list_any is_of_new_form text ≡ true → ((rule : Expression) → ReadsNewForm text rule → ⊥) → SpellsNone text
spells_none text new none rule (inl x) = let no : ⊥ = cc (sym x.reads.old_form ∙ new) in no
spells_none text new none rule (inr y) = none rule y

pub no_rule : (text : List ℕ) (words : List WordValue) → list_any is_of_new_form text ≡ true → AreWords text words → (e : SelectFault) → (e ≡ Memory) ⊎ ((e ≡ BadTagText) × ((x : Expression) → spelling x ≡ words → depth x ≤ depth_limit → ⊥))
    → (e ≡ Memory) ⊎ ((e ≡ BadTagText) × SpellsNone text)
no_rule text words new are e (inl m) = inl m
no_rule text words new are e (inr b) = inr (b.0, spells_none text new (λ rule r. b.1 rule (one_words (spelling rule) words (sym r.says ∙ are)) r.shallow))

-- Where there are words, the first says something.
first_of : (texts : List (List ℕ)) (words : List WordValue) → map word_said texts ≡ map Some words → 0 < length words → IsSome (word_said (get_or texts 0 []))
first_of texts [] are some = absurd (omega arith)
first_of [] (w ∷ words) are some = let no : ⊥ = cc are in absurd no
first_of (t ∷ texts) (w ∷ words) are some = let e : word_said t ≡ Some w = cc are in subst (λ (o : Option WordValue). IsSome o) (sym e) refl

pub first_word_said : (text : List ℕ) (words : List WordValue) → AreWords text words → 0 < length words → IsSome (word_said (slice_index_or (words_of_text text) 0 []))
first_word_said text words are some = first_of (words_of_text text) words are some

-- Alternatives are a rule with the value that they have.
pub rules_of_alternatives : (text : List ℕ) (alternatives : List AlternativeValue) → ReadsAlternatives text alternatives
    → (rule : Expression) × ReadsTags text rule × ((tags : List (List ℕ)) → holds rule tags ≡ list_any (alternative_holds tags) alternatives)
rules_of_alternatives text [] r = absurd (no_pieces text r.says)
rules_of_alternatives text (a ∷ more) r = (or_of a more, inl (record { first = a; others = more; reads = r; is = refl }), λ tags. or_value a more tags)
