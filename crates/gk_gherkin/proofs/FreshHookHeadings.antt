-- A heading that none of some hooks has: that of a longer tag.
use Rattle.gk_gherkin.proofs.Common.{◌≡◌, ℕ, zero, suc, ◌+◌, ◌-◌, ◌<◌, Bool, true, false, not, cond, ◌&&◌, ◌||◌, nat_eq, List, [], ◌∷◌, ◌++◌, length, drop, Option, Some, None, refl, ap, ◌∙◌, arith, length-append, common_steps, codes, nat_tests, ends_with, before_last, list_all, BeforeTag, HooksClass, HookLine, Plain, LineValue, is_blank, trim, trim_front, begins, class, is_colon, is_tag, HookValue, hooks_class, HookHeadingValue, hook_heading, plain_heading, tag_alone, tag_between}
use Rattle.gk_gherkin.proofs.HookHeadingTexts.{but_last}
use Rattle.gk_gherkin.proofs.HookHeadingsDecided.{IsFresh}
use Rattle.gk_gherkin.proofs.RowStops.{line_of}

-- the last byte of a text
module _ (prefix : List ℕ) (b : ℕ) where
  long : length (prefix ++ b ∷ []) ≡ length prefix + 1
  long = length-append prefix (b ∷ [])

one_less : (prefix : List ℕ) (b : ℕ) → length (prefix ++ b ∷ []) - 1 ≡ length prefix
one_less prefix b = omega (arith, long prefix b)

some_bytes : (prefix : List ℕ) (b : ℕ) → 0 < length (prefix ++ b ∷ [])
some_bytes prefix b = omega (arith, long prefix b)

ends_so : (prefix : List ℕ) → ends_with nat_eq (prefix ++ 58 ∷ []) (58 ∷ []) ≡ true
ends_so prefix = grind (arith, common_steps, nat_eq, one_less)

before_colon : (prefix : List ℕ) → before_last is_colon (prefix ++ 58 ∷ []) ≡ prefix
before_colon prefix = grind (arith, common_steps, but_last, some_bytes, one_less)

-- tags of any length
letters : ℕ → List ℕ
letters zero = []
letters (suc n) = 97 ∷ letters n

pub tag_of : ℕ → List ℕ
tag_of n = 64 ∷ 97 ∷ letters n

letters_size : (n : ℕ) → length (letters n) ≡ n
unfolding letters
letters_size zero = refl
letters_size (suc n) = ap suc (letters_size n)

pub size_of_tag : (n : ℕ) → n < length (tag_of n)
unfolding tag_of
size_of_tag n = omega (arith, letters_size n)

no_blanks : (n : ℕ) → list_all (λ b. not (is_blank b)) (letters n) ≡ true
unfolding letters
no_blanks zero = refl
no_blanks (suc n) = no_blanks n

two_bytes : (n : ℕ) → is_tag (tag_of n) ≡ true
unfolding tag_of
two_bytes n = grind (arith, nat_tests)

and_true : (a b : Bool) → a ≡ true → b ≡ true → (a && b) ≡ true
and_true true true e f = refl
and_true true false e f = f
and_true false b e f = e

tag_stands : (n : ℕ) → tag_alone (tag_of n) ≡ Some (tag_of n)
unfolding tag_of
tag_stands n = grind (arith, common_steps, letters, and_true, no_blanks)

-- the heading with such a tag
heading_prefix : ℕ → List ℕ
heading_prefix n = codes "before_tag @a" ++ letters n

heading_text : ℕ → List ℕ
heading_text n = heading_prefix n ++ 58 ∷ []

trimmed : (n : ℕ) → trim (heading_text n) ≡ heading_text n
unfolding heading_text heading_prefix
trimmed n = grind (arith, common_steps, letters)

tag_found : (n : ℕ) → tag_between (codes "before_tag") (heading_text n) ≡ Some (tag_of n)
unfolding heading_text heading_prefix tag_of
tag_found n =
    let text = codes "before_tag @a" ++ (letters n ++ 58 ∷ []) in
    let ends : ends_with nat_eq text (58 ∷ []) ≡ true = ends_so (codes "before_tag @a" ++ letters n) in
    ap (λ (b : Bool). let r : Option (List ℕ) = cond b (tag_alone (trim_front (before_last is_colon (drop 10 text)))) None in r) ends
    ∙ ap (λ (t : List ℕ). tag_alone (trim_front t)) (before_colon (codes " @a" ++ letters n))
    ∙ tag_stands n

abbrev heading_with : ℕ → HookHeadingValue
heading_with n = record { kind = BeforeTag; tag = Some (tag_of n) }

pub fresh_line : ℕ → LineValue
fresh_line n = line_of (heading_text n)

pub fresh_class : (n : ℕ) → hooks_class (fresh_line n) ≡ HookLine
unfolding hooks_class fresh_line heading_text heading_prefix
fresh_class n = ap (λ (t : List ℕ). let r : HooksClass = cond (begins t (codes "before_") || begins t (codes "after_")) HookLine (Plain (class (fresh_line n))) in r) (trimmed n)

no_plain : (n : ℕ) → plain_heading (heading_text n) ≡ None
unfolding heading_text heading_prefix
no_plain n = refl

pub fresh_heading : (n : ℕ) → hook_heading (fresh_line n) ≡ Some (heading_with n)
unfolding hook_heading fresh_line
fresh_heading n = grind (arith, common_steps, trimmed, heading_text, no_plain, tag_found)

-- a tag longer than all tags of some hooks together
abbrev tag_size : Option (List ℕ) → ℕ
tag_size None = 0
tag_size (Some tag) = length tag

pub size_of : List HookValue → ℕ
size_of [] = 0
size_of (hook ∷ hooks) = tag_size hook.tag + size_of hooks

fresh_by : (heading : HookHeadingValue) (hooks : List HookValue) → size_of hooks < tag_size heading.tag → IsFresh heading hooks
unfolding size_of
fresh_by heading [] h = tt
fresh_by heading (hook ∷ hooks) h = grind (arith, common_steps, fresh_by heading hooks (omega (arith, h)))

pub is_fresh : (hooks : List HookValue) → IsFresh (heading_with (size_of hooks)) hooks
is_fresh hooks = fresh_by (heading_with (size_of hooks)) hooks (size_of_tag (size_of hooks))
