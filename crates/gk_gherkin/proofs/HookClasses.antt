-- The classes of lines in a hooks file, by their classes in a feature file.
use Rattle.gk_gherkin.proofs.Common.{◌≡◌, ◌≢◌, ℕ, suc, Bool, true, false, cond, None, ◌==◌, ◌||◌, List, [], ◌∷◌, length, refl, ap, sym, ◌∙◌, arith, codes, nat_tests, Class, Blank, FenceLine, Other, HooksClass, HookLine, Plain, LineValue, trim, begins, class, class_of, class_of_words, hooks_class, opening}
use Rattle.gk_gherkin.proofs.ReadingStates.{no_fence}

-- whether a text begins as a hook line does
abbrev as_hook : List ℕ → Bool
as_hook text = begins text (codes "before_") || begins text (codes "after_")

class_by : (b : Bool) (k c : Class) → ◌≡◌ {A = HooksClass} (cond b HookLine (Plain k)) (Plain c) → k ≡ c
class_by true k c e = let no : ⊥ = cc in absurd no
class_by false k c e = cc

-- A line that is no hook line has its class.
pub plain_class : (l : LineValue) (c : Class) → hooks_class l ≡ Plain c → class l ≡ c
unfolding hooks_class
plain_class l c e = class_by (as_hook (trim l.text)) (class l) c e

not_empty : (n : ℕ) → (suc n == 0) ≡ false
not_empty n = grind (arith, nat_tests)

first_b : (b : ℕ) (rest : List ℕ) → begins (b ∷ rest) (codes "before_") ≡ true → b ≡ 98
first_b b rest h = grind (arith, nat_tests)

first_a : (b : ℕ) (rest : List ℕ) → begins (b ∷ rest) (codes "after_") ≡ true → b ≡ 97
first_a b rest h = grind (arith, nat_tests)

of_b : (rest : List ℕ) → class_of (98 ∷ rest) ≡ Other
unfolding class_of class_of_words
of_b rest = ap (λ (c : Bool). cond c Blank Other) (not_empty (length rest))

of_a : (rest : List ℕ) → class_of (97 ∷ rest) ≡ Other
unfolding class_of class_of_words
of_a rest = ap (λ (c : Bool). cond c Blank Other) (not_empty (length rest))

other_by : (b : ℕ) (rest : List ℕ) (x y : Bool) → begins (b ∷ rest) (codes "before_") ≡ x → begins (b ∷ rest) (codes "after_") ≡ y → (x || y) ≡ true → class_of (b ∷ rest) ≡ Other
other_by b rest true y e f h = ap (λ (b : ℕ). class_of (b ∷ rest)) (first_b b rest e) ∙ of_b rest
other_by b rest false true e f h = ap (λ (b : ℕ). class_of (b ∷ rest)) (first_a b rest f) ∙ of_a rest
other_by b rest false false e f h = let no : ⊥ = cc in absurd no

other_text : (text : List ℕ) → as_hook text ≡ true → class_of text ≡ Other
other_text [] h = let no : ⊥ = cc in absurd no
other_text (b ∷ rest) h = other_by b rest (begins (b ∷ rest) (codes "before_")) (begins (b ∷ rest) (codes "after_")) refl refl h

hooks_class_by : (l : LineValue) (b : Bool) → as_hook (trim l.text) ≡ b → class l ≢ Other → hooks_class l ≡ Plain (class l)
unfolding hooks_class class
hooks_class_by l true e n = absurd (n (other_text (trim l.text) e))
hooks_class_by l false e n = ap (λ (b : Bool). cond b HookLine (Plain (class l))) e

-- A line of a class that isn't Other is no hook line.
pub class_plain : (l : LineValue) (c : Class) → class l ≡ c → c ≢ Other → hooks_class l ≡ Plain c
class_plain l c e n = hooks_class_by l (as_hook (trim l.text)) refl (λ other. n (sym e ∙ other)) ∙ ap Plain e

-- A hook line opens no doc string.
no_fence_of_hook : (b : Bool) (l : LineValue) (c : Class) → hooks_class l ≡ HookLine → class l ≡ c → opening b c ≡ None
no_fence_of_hook b l (FenceLine fence) is c = let plain = class_plain l (FenceLine fence) c (λ e. cc) in let no : ⊥ = cc in absurd no
no_fence_of_hook b l c is e = no_fence b c tt

pub hook_opens_none : (b : Bool) (l : LineValue) → hooks_class l ≡ HookLine → opening b (class l) ≡ None
hook_opens_none b l is = no_fence_of_hook b l (class l) is refl

-- Lines of one class open a doc string alike.
opens_by_class : (b : Bool) (l other : LineValue) (c : HooksClass) → hooks_class l ≡ c → hooks_class other ≡ c → opening b (class l) ≡ None → opening b (class other) ≡ None
opens_by_class b l other HookLine is e none = hook_opens_none b other e
opens_by_class b l other (Plain c) is e none = ap (opening b) (plain_class other c e ∙ sym (plain_class l c is)) ∙ none

pub opens_alike : (b : Bool) (l other : LineValue) → hooks_class other ≡ hooks_class l → opening b (class l) ≡ None → opening b (class other) ≡ None
opens_alike b l other alike bare = opens_by_class b l other (hooks_class l) refl alike bare
