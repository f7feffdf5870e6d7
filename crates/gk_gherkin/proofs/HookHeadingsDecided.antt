-- What the test of two headings says.
use Rattle.gk_gherkin.proofs.Common.{◌≡◌, ◌≢◌, ℕ, Bool, true, false, ◌==◌, ◌&&◌, ◌||◌, List, [], ◌∷◌, ◌++◌, Option, Some, None, refl, ap, sym, ◌∙◌, arith, rules, nat_tests, bytes_eq-Decides, AllByRecursion, HookKind, HookValue, number_of_kind, is_same_kind, is_same_tag, HookHeadingValue, heading_of, AreDistinct, has_heading, common_steps}

both : (a b : Bool) → (a && b) ≡ true → (a ≡ true) × (b ≡ true)
both true true h = (refl, refl)
both true false h = (refl, h)
both false b h = let no : ⊥ = cc in absurd no

either : (a b : Bool) → (a || b) ≡ false → (a ≡ false) × (b ≡ false)
either false false h = (refl, refl)
either false true h = (refl, h)
either true b h = let no : ⊥ = cc in absurd no

-- the kind of each number
eqb_same : (m n : ℕ) → (m == n) ≡ true → m ≡ n
eqb_same m n h = grind (arith, nat_tests)

same_eqb : (m : ℕ) → (m == m) ≡ true
same_eqb m = grind (arith, nat_tests)

kind_so : (a b : HookKind) → is_same_kind a b ≡ true → a ≡ b
kind_so a b h = grind (arith, common_steps, eqb_same)

tag_so : (a b : Option (List ℕ)) → is_same_tag a b ≡ true → a ≡ b
tag_so None None h = refl
tag_so None (Some b) h = let no : ⊥ = cc in absurd no
tag_so (Some a) None h = let no : ⊥ = cc in absurd no
tag_so (Some a) (Some b) h = ap Some ((bytes_eq-Decides a b).0 h)

tag_itself : (a : Option (List ℕ)) → is_same_tag a a ≡ true
tag_itself None = refl
tag_itself (Some a) = (bytes_eq-Decides a a).1 refl

and_true : (a b : Bool) → a ≡ true → b ≡ true → (a && b) ≡ true
and_true true true e f = refl
and_true true false e f = f
and_true false b e f = e

-- whether two headings are the same
abbrev pub is_same_heading : HookHeadingValue → HookHeadingValue → Bool
is_same_heading a b = is_same_kind a.kind b.kind && is_same_tag a.tag b.tag

pub heading_so : (a b : HookHeadingValue) → is_same_heading a b ≡ true → a ≡ b
heading_so a b h = search (rules, both, kind_so, tag_so)

heading_itself : (a : HookHeadingValue) → is_same_heading a a ≡ true
heading_itself a = and_true (is_same_kind a.kind a.kind) (is_same_tag a.tag a.tag) (same_eqb (number_of_kind a.kind)) (tag_itself a.tag)

not_true : (b : Bool) → b ≡ false → b ≡ true → ⊥
not_true true e f = cc
not_true false e f = cc

heading_differs : (a b : HookHeadingValue) → is_same_heading a b ≡ false → b ≢ a
heading_differs a b h e = not_true (is_same_heading a b) h (ap (λ (b : HookHeadingValue). is_same_heading a b) e ∙ heading_itself a)

-- a heading that none of some hooks has
abbrev pub IsFresh : HookHeadingValue → List HookValue → Type 0
IsFresh heading hooks = AllByRecursion (λ hook. heading ≢ heading_of hook) hooks

pub fresh_so : (heading : HookHeadingValue) (hooks : List HookValue) → has_heading heading hooks ≡ false → IsFresh heading hooks
fresh_so heading [] h = tt
fresh_so heading (hook ∷ hooks) h =
    let k = either (is_same_heading (heading_of hook) heading) (has_heading heading hooks) h in
    (heading_differs (heading_of hook) heading k.0, fresh_so heading hooks k.1)

none_same : (a b : HookHeadingValue) (r : Bool) → is_same_heading a b ≡ r → b ≢ a → r ≡ false
none_same a b true e n = absurd (n (sym (heading_so a b e)))
none_same a b false e n = refl

pub fresh_stands : (heading : HookHeadingValue) (hooks : List HookValue) → IsFresh heading hooks → has_heading heading hooks ≡ false
fresh_stands heading [] f = refl
fresh_stands heading (hook ∷ hooks) f = search (rules, none_same, fresh_stands heading hooks f.1)

differ_push : (heading : HookHeadingValue) (hooks : List HookValue) (hook : HookValue) → AllByRecursion (λ other. heading_of other ≢ heading) hooks → heading_of hook ≢ heading → AllByRecursion (λ other. heading_of other ≢ heading) (hooks ++ hook ∷ [])
differ_push heading [] hook a n = (n, tt)
differ_push heading (first ∷ hooks) hook a n = grind (arith, common_steps)

-- one hook more, with a heading that none of them has
pub distinct_push : (hooks : List HookValue) (hook : HookValue) → AreDistinct hooks → IsFresh (heading_of hook) hooks → AreDistinct (hooks ++ hook ∷ [])
distinct_push [] hook d f = (tt, tt)
distinct_push (first ∷ hooks) hook d f = (differ_push (heading_of first) hooks hook d.0 f.0, distinct_push hooks hook d.1 f.1)

differ_at : (heading : HookHeadingValue) (hooks : List HookValue) (hook : HookValue) (others : List HookValue) → AllByRecursion (λ other. heading_of other ≢ heading) (hooks ++ hook ∷ others) → heading_of hook ≢ heading
differ_at heading [] hook others a = a.0
differ_at heading (first ∷ hooks) hook others a = differ_at heading hooks hook others a.1

-- of distinct hooks, the one after some has a heading that none of these has
pub fresh_after : (hooks : List HookValue) (hook : HookValue) (others : List HookValue) → AreDistinct (hooks ++ hook ∷ others) → IsFresh (heading_of hook) hooks
fresh_after [] hook others d = tt
fresh_after (first ∷ hooks) hook others d = (differ_at (heading_of first) hooks hook others d.0, fresh_after hooks hook others d.1)
