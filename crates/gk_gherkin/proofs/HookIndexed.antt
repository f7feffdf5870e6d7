-- What an index of hooks finds.
use Rattle.gk_gherkin.proofs.Common.{◌&&◌, ◌||◌, ◌==◌, is_some, Bool, true, false, cond, find, slice_get, option_copied, option_map, Result, Ok, Err, OnOk, IfSome, ltb, list_any, string_bytes, ◌≡◌, ◌≢◌, ℕ, zero, suc, ◌+◌, ◌≤◌, ◌<◌, inl, inr, ◌⊎◌, List, [], ◌∷◌, ◌++◌, length, map, get_or, Option, Some, None, Bor, refl, sym, ap, subst, ◌∙◌, arith, common_steps, cases_lt, eqb-true, lt-ltb, ltb-true, slice_get_past, slice_get_within, bytes_eq-Decides, Hook, HookKind, HookIndex, HookValue, hook_value, is_same_kind, is_same_tag, is_for, is_among, positions_of, AreListed, AreListedTo, ListsOnly, IsFirst}
use Rattle.std.specs.Prelude.{bytes_eq}

second : (a b : Bool) → (a && b) ≡ true → b ≡ true
second true b e = e
second false b e = cc

-- numbers among some
either : (a b : Bool) → b ≡ true → (a || b) ≡ true
either true b e = refl
either false b e = e

among_next : (n k : ℕ) (ns : List ℕ) (b : Bool) → (n == k) ≡ b → (b || is_among n ns) ≡ true → (is_among n ns ≡ true → (j : ℕ) × (slice_get ns j ≡ Some n)) → (j : ℕ) × (slice_get (k ∷ ns) j ≡ Some n)
among_next n k ns true e h more = (0, ap Some (sym (eqb-true n k e)))
among_next n k ns false e h more = let later = more h in (suc later.0, later.1)

among_at : (n : ℕ) (ns : List ℕ) → is_among n ns ≡ true → (k : ℕ) × (slice_get ns k ≡ Some n)
among_at n [] h = let never : ⊥ = cc in absurd never
among_at n (k ∷ ns) h = among_next n k ns (n == k) refl h (among_at n ns)

-- a position that was added under a tag
pub added_there : (t tag : List ℕ) (position : ℕ) (before after : List ℕ) → after ≡ cond (bytes_eq t tag) (before ++ position ∷ []) before → tag ≡ t → is_among position after ≡ true
added_there t tag position before after e same = grind (arith, common_steps, bytes_eq-Decides)

pub on_ok : {X E P Q : Type 0} (r : Result X E) → (P → Q) → OnOk r P → OnOk r Q
on_ok (Ok x) f h = f h
on_ok (Err e) f h = h

-- hooks that are listed
pub listed_kept : (old new : HookIndex) (hooks : List Hook) → ((t : Option (List ℕ)) (n : ℕ) → is_among n (positions_of old t) ≡ true → is_among n (positions_of new t) ≡ true) → AreListed old hooks → AreListed new hooks
listed_kept old new hooks kept listed position hook at = kept (option_map string_bytes hook.tag) position (listed position hook at)

last_or_before : (hooks : List Hook) (last hook : Hook) (position : ℕ) (P : ℕ → Hook → Type 0) → ((i : ℕ) (h : Hook) → slice_get hooks i ≡ Some h → P i h) → P (length hooks) last → slice_get (hooks ++ last ∷ []) position ≡ Some hook → P position hook
last_or_before [] last hook zero P before end at = let same : last ≡ hook = cc in subst (P 0) same end
last_or_before [] last hook (suc position) P before end at = let never : ⊥ = cc in absurd never
last_or_before (h ∷ hooks) last hook zero P before end at = before 0 hook at
last_or_before (h ∷ hooks) last hook (suc position) P before end at = last_or_before hooks last hook position (λ i g. P (suc i) g) (λ i g e. before (suc i) g e) end at

pub listed_push : (old new : HookIndex) (hooks : List Hook) (hook : Hook) → ((t : Option (List ℕ)) (n : ℕ) → is_among n (positions_of old t) ≡ true → is_among n (positions_of new t) ≡ true)
    → is_among (length hooks) (positions_of new (option_map string_bytes hook.tag)) ≡ true → AreListed old hooks → AreListed new (hooks ++ hook ∷ [])
listed_push old new hooks hook kept added listed position other at =
    last_or_before hooks hook other position (λ i h. is_among i (positions_of new (option_map string_bytes h.tag)) ≡ true) (listed_kept old new hooks kept listed) added at

-- the next hook is listed, and nothing else
pub listed_next : (old new : HookIndex) (hooks : List Hook) (k : ℕ) (hook : Hook) → slice_get hooks k ≡ Some hook → ((t : Option (List ℕ)) (n : ℕ) → is_among n (positions_of old t) ≡ true → is_among n (positions_of new t) ≡ true)
    → is_among k (positions_of new (option_map string_bytes hook.tag)) ≡ true → AreListedTo old hooks k → AreListedTo new hooks (k + 1)
listed_next old new hooks k hook at kept added before position other within other_at = grind (arith, common_steps)

same_tag : (a b : Option (List ℕ)) → is_same_tag a b ≡ true → a ≡ b
same_tag None None e = refl
same_tag None (Some b) e = cc
same_tag (Some a) None e = cc
same_tag (Some a) (Some b) e = ap Some ((bytes_eq-Decides a b).0 e)

among_split : (n p : ℕ) (ns : List ℕ) → is_among n (ns ++ p ∷ []) ≡ true → (is_among n ns ≡ true) ⊎ (n ≡ p)
among_split n p [] h = grind (arith, common_steps)
among_split n p (k ∷ ns) h = grind (arith, common_steps)

tag_itself : (a : Option (List ℕ)) → is_same_tag a a ≡ true
tag_itself None = refl
tag_itself (Some a) = (bytes_eq-Decides a a).1 refl

only_pushed : (old new : HookIndex) (hooks : List Hook) (k : ℕ) (hook : Hook) (tag : Option (List ℕ)) (position : ℕ) → slice_get hooks k ≡ Some hook → option_map string_bytes hook.tag ≡ tag → ListsOnly old hooks
    → (is_among position (positions_of old tag) ≡ true) ⊎ (position ≡ k) → (other : Hook) × (slice_get hooks position ≡ Some other) × (option_map string_bytes other.tag ≡ tag)
only_pushed old new hooks k hook tag position at same before (inl h) = before tag position h
only_pushed old new hooks k hook tag position at same before (inr e) = (hook, subst (λ i. slice_get hooks i ≡ Some hook) (sym e) at, same)

only_by : (b : Bool) (old new : HookIndex) (hooks : List Hook) (k : ℕ) (hook : Hook) (tag : Option (List ℕ)) (position : ℕ) → is_same_tag tag (option_map string_bytes hook.tag) ≡ b → slice_get hooks k ≡ Some hook
    → positions_of new (option_map string_bytes hook.tag) ≡ positions_of old (option_map string_bytes hook.tag) ++ k ∷ []
    → ((t : Option (List ℕ)) → t ≢ option_map string_bytes hook.tag → positions_of new t ≡ positions_of old t)
    → ListsOnly old hooks → is_among position (positions_of new tag) ≡ true → (other : Hook) × (slice_get hooks position ≡ Some other) × (option_map string_bytes other.tag ≡ tag)
only_by true old new hooks k hook tag position e at last others before h =
    let own = option_map string_bytes hook.tag in
    let same : tag ≡ own = same_tag tag own e in
    let h_own : is_among position (positions_of new own) ≡ true = subst (λ t. is_among position (positions_of new t) ≡ true) same h in
    let among : is_among position (positions_of old own ++ k ∷ []) ≡ true = subst (λ ns. is_among position ns ≡ true) last h_own in
    let parts = subst (λ t. (is_among position (positions_of old t) ≡ true) ⊎ (position ≡ k)) (sym same) (among_split position k (positions_of old own) among) in
    only_pushed old new hooks k hook tag position at (sym same) before parts
only_by false old new hooks k hook tag position e at last others before h =
    let own = option_map string_bytes hook.tag in
    let other : tag ≢ own = λ same. let t : is_same_tag tag own ≡ true = subst (λ t. is_same_tag tag t ≡ true) same (tag_itself tag) in let no : ⊥ = cc in no in
    before tag position (subst (λ ns. is_among position ns ≡ true) (others tag other) h)

pub only_next : (old new : HookIndex) (hooks : List Hook) (k : ℕ) (hook : Hook) → slice_get hooks k ≡ Some hook
    → positions_of new (option_map string_bytes hook.tag) ≡ positions_of old (option_map string_bytes hook.tag) ++ k ∷ []
    → ((t : Option (List ℕ)) → t ≢ option_map string_bytes hook.tag → positions_of new t ≡ positions_of old t)
    → ListsOnly old hooks → ListsOnly new hooks
only_next old new hooks k hook at last others before tag position h = only_by (is_same_tag tag (option_map string_bytes hook.tag)) old new hooks k hook tag position refl at last others before h

-- the first that passes
find_past : {X : Type 0} (test : X → Bool) (x : X) (xs : List X) (r : ℕ) (b : Bool) → test x ≡ b → (test x ≡ true → suc r ≤ 0) → slice_get xs r ≡ find test xs → slice_get xs r ≡ cond (test x) (Some x) (find test xs)
find_past test x xs r true e never same = let l = never e in let bad : ⊥ = omega arith in absurd bad
find_past test x xs r false e never same = same ∙ sym (ap (λ (b : Bool). cond b (Some x) (find test xs)) e)

find_first : {X : Type 0} (test : X → Bool) (xs : List X) (r : ℕ) → r ≤ length xs → ((x : X) → slice_get xs r ≡ Some x → test x ≡ true) → ((i : ℕ) (x : X) → slice_get xs i ≡ Some x → test x ≡ true → r ≤ i) → slice_get xs r ≡ find test xs
find_first test [] r within passes least = refl
find_first test (x ∷ xs) zero within passes least = sym (ap (λ (b : Bool). cond b (Some x) (find test xs)) (passes x refl))
find_first test (x ∷ xs) (suc r) within passes least =
    find_past test x xs r (test x) refl (λ e. least 0 x refl e)
    (find_first test xs r (omega arith) passes (λ i y at e. let l = least (suc i) y at e in omega arith))

kept_choice : {X Y : Type 0} (f : X → Y) (b : Bool) (x : X) (o : Option X) → option_map f (cond b (Some x) o) ≡ cond b (Some (f x)) (option_map f o)
kept_choice f true x o = refl
kept_choice f false x o = refl

find_mapped : {X Y : Type 0} (test : Y → Bool) (f : X → Y) (xs : List X) → find test (map f xs) ≡ option_map f (find (λ x. test (f x)) xs)
find_mapped test f [] = refl
find_mapped test f (x ∷ xs) = ap (λ o. cond (test (f x)) (Some (f x)) o) (find_mapped test f xs) ∙ sym (kept_choice f (test (f x)) x (find (λ y. test (f y)) xs))

-- the hook of a kind and a tag
within_all : (ns : List ℕ) (k n : ℕ) → slice_get ns k ≡ Some n → k < length ns
within_all [] k n e = let never : ⊥ = cc in absurd never
within_all (m ∷ ns) zero n e = omega arith
within_all (m ∷ ns) (suc k) n e = let less = within_all ns k n e in omega arith

pub found_is : (index : HookIndex) (hooks : List Hook) (kind : HookKind) (tag : Option (List ℕ)) (r : ℕ) → AreListed index hooks → IsFirst (λ hook. is_for (hook_value hook) kind tag) hooks (positions_of index tag) (length (positions_of index tag)) r
    → option_map hook_value (slice_get hooks r) ≡ find (λ (h : HookValue). is_for h kind tag) (map hook_value hooks)
found_is index hooks kind tag r listed first =
    ap (option_map hook_value) (find_first (λ hook. is_for (hook_value hook) kind tag) hooks r first.within first.passes least)
    ∙ sym (find_mapped (λ (h : HookValue). is_for h kind tag) hook_value hooks) where
      least : (i : ℕ) (hook : Hook) → slice_get hooks i ≡ Some hook → is_for (hook_value hook) kind tag ≡ true → r ≤ i
      least i hook at passes =
          let same = same_tag (option_map string_bytes hook.tag) tag (second (is_same_kind hook.kind kind) (is_same_tag (option_map string_bytes hook.tag) tag) passes) in
          let there = among_at i (positions_of index tag) (subst (λ t. is_among i (positions_of index t) ≡ true) same (listed i hook at)) in
          first.least there.0 i hook (within_all (positions_of index tag) there.0 i there.1) there.1 at passes

pub read_behind : {X Y : Type 0} (f : X → Y) (o : Option (Bor X)) → option_map (λ x. f x.now) o ≡ option_map f (option_copied o)
read_behind f None = refl
read_behind f (Some x) = refl

-- the first of more positions
pub get_number : (ns : List ℕ) (k : ℕ) → k < length ns → slice_get ns k ≡ Some (get_or ns k 0)
get_number [] k l = let never : ⊥ = omega arith in absurd never
get_number (n ∷ ns) zero l = refl
get_number (n ∷ ns) (suc k) l = get_number ns k (omega arith)

same_position : (a b : ℕ) → ◌≡◌ {A = Option ℕ} (Some a) (Some b) → a ≡ b
same_position a b e = cc

pub first_taken : (test : Hook → Bool) (hooks : List Hook) (positions : List ℕ) (k first position : ℕ) (hook : Hook) → slice_get positions k ≡ Some position → slice_get hooks position ≡ Some hook → test hook ≡ true
    → position < first → IsFirst test hooks positions k first → IsFirst test hooks positions (k + 1) position
first_taken test hooks positions k first position hook here at passes less before = grind (arith, common_steps)

pub first_passed : (test : Hook → Bool) (hooks : List Hook) (positions : List ℕ) (k first position : ℕ) → slice_get positions k ≡ Some position
    → ((hook : Hook) → position < first → slice_get hooks position ≡ Some hook → test hook ≡ true → ⊥) → IsFirst test hooks positions k first → IsFirst test hooks positions (k + 1) first
first_passed test hooks positions k first position here never before = grind (arith, common_steps)

pub got_at : {X : Type 0} (xs : List X) (i : ℕ) (x : X) → i < length xs → x ≡ get_or xs i x → slice_get xs i ≡ Some x
got_at [] i x l e = let never : ⊥ = omega arith in absurd never
got_at (y ∷ ys) zero x l e = ap Some (sym e)
got_at (y ∷ ys) (suc i) x l e = got_at ys i x (omega arith) e

pub never_both : (test : Hook → Bool) (hooks : List Hook) (position : ℕ) (a b : Hook) → slice_get hooks position ≡ Some a → test a ≡ false → slice_get hooks position ≡ Some b → test b ≡ true → ⊥
never_both test hooks position a b here bad there good = grind (arith, common_steps)

-- one of some passes where one is found
found_next : {X : Type 0} (x : X) (o : Option X) (b c : Bool) → c ≡ is_some o → (b || c) ≡ is_some (cond b (Some x) o)
found_next x o true c e = refl
found_next x o false c e = e

pub any_found : {X : Type 0} (test : X → Bool) (xs : List X) → list_any test xs ≡ is_some (find test xs)
any_found test [] = refl
any_found test (x ∷ xs) = found_next x (find test xs) (test x) (list_any test xs) (any_found test xs)

pub some_mapped : {X Y : Type 0} (f : X → Y) (o : Option X) → is_some o ≡ is_some (option_map f o)
some_mapped f None = refl
some_mapped f (Some x) = refl

-- what a slice gives at a position
pub looked_up : (hooks : List Hook) (position : ℕ) (o : Option (Bor Hook)) → is_some o ≡ ltb position (length hooks) → IfSome o (λ x. x.now ≡ get_or hooks position x.now) → option_copied o ≡ slice_get hooks position
looked_up hooks position None none same = elim (cases_lt position (length hooks)) [
  | inl less ↦ let never : false ≡ true = none ∙ lt-ltb position (length hooks) less in absurd cc
  | inr past ↦ sym (slice_get_past hooks position past)
]
looked_up hooks position (Some x) some same = sym (got_at hooks position x.now (ltb-true position (length hooks) (sym some)) same)

-- hooks that are listed up to a position
pub all_listed : (index : HookIndex) (hooks : List Hook) (k : ℕ) → length hooks ≤ k → AreListedTo index hooks k → AreListed index hooks
all_listed index hooks k past listed position hook at = let less = slice_get_within hooks position hook at in listed position hook (omega (arith, less, past)) at
