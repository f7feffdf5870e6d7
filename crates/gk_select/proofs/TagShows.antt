-- What the words taken so far show of an expression's value.
use Rattle.gk_select.proofs.Common.{◌≡◌, ◌≤◌, ◌+◌, ◌-◌, ◌==◌, ℕ, zero, suc, Bool, true, false, not, ◌&&◌, ◌||◌, if◌then◌else◌, List, [], ◌∷◌, length, Option, Some, None, option_and_then, refl, ap, sym, subst, ◌∙◌, arith, WordValue, open_word, close_word, not_word, and_word, or_word, tag_word, Expression, Term, Factor, tagged, negated, grouped, spelling, seen_before, seen_of, seen_value, seen_depth, holds, term_holds, factor_holds, GroupRest, State, waiting, ready, empty, term_from, closed, step, run, run_whole, expression_again, first, head, part_of, Seen, Value, Failed, Held, common_steps}

abbrev joined_holds : List (List ℕ) → Option Term → Bool
joined_holds tags None = true
joined_holds tags (Some t) = term_holds t tags

abbrev later_holds : List (List ℕ) → Option Expression → Bool
later_holds tags None = false
later_holds tags (Some e) = holds e tags

and_true : (b : Bool) → b ≡ b && true
and_true true = refl
and_true false = refl

or_false : (b : Bool) → b ≡ b || false
or_false true = refl
or_false false = refl

term_value : (tags : List (List ℕ)) (f : Factor) (j : Option Term) → term_holds (term_from f j) tags ≡ factor_holds f tags && joined_holds tags j
term_value tags f None = and_true (factor_holds f tags)
term_value tags f (Some t) = refl

closed_value : (tags : List (List ℕ)) (f : Factor) (p : GroupRest) → holds (closed f p) tags ≡ (factor_holds f tags && joined_holds tags p.joined) || later_holds tags p.later
closed_value tags f p = grind (arith, common_steps, term_value)

-- A part that leaves the value to what comes before it; one that fails its term; one that holds.
abbrev IsNeutral : List (List ℕ) → GroupRest → Type 0
IsNeutral tags p = (joined_holds tags p.joined ≡ true) × (later_holds tags p.later ≡ false)

abbrev AreNeutral : List (List ℕ) → List GroupRest → Type 0
AreNeutral tags [] = Unit {0}
AreNeutral tags (p ∷ ps) = IsNeutral tags p × AreNeutral tags ps

abbrev FailedAt : List (List ℕ) → ℕ → List GroupRest → Type 0
FailedAt tags d [] = ⊥
FailedAt tags zero (p ∷ ps) = ((joined_holds tags p.joined ≡ false) × (later_holds tags p.later ≡ false)) × AreNeutral tags ps
FailedAt tags (suc d) (p ∷ ps) = FailedAt tags d ps

abbrev HeldAt : List (List ℕ) → ℕ → List GroupRest → Type 0
HeldAt tags d [] = ⊥
HeldAt tags zero (p ∷ ps) = (later_holds tags p.later ≡ true) × AreNeutral tags ps
HeldAt tags (suc d) (p ∷ ps) = HeldAt tags d ps

abbrev pub Shows : List (List ℕ) → State → Seen → Type 0
Shows tags (waiting p ps) (Value v) = AreNeutral tags (p ∷ ps)
Shows tags (waiting p ps) (Failed d) = FailedAt tags d (p ∷ ps)
Shows tags (waiting p ps) (Held d) = HeldAt tags d (p ∷ ps)
Shows tags (ready f p ps) (Value v) = (factor_holds f tags ≡ v) × AreNeutral tags (p ∷ ps)
Shows tags (ready f p ps) (Failed d) = FailedAt tags d (p ∷ ps)
Shows tags (ready f p ps) (Held d) = HeldAt tags d (p ∷ ps)

-- Bools.
closes : (f j l : Bool) → j ≡ true → l ≡ false → (f && j) || l ≡ f
closes true j l x y = rw x refl
closes false j l x y = y

fails : (f j l : Bool) → j ≡ false → l ≡ false → (f && j) || l ≡ false
fails true j l x y = rw (x, y) refl
fails false j l x y = y

also_holds : (b l : Bool) → l ≡ true → b || l ≡ true
also_holds true l x = refl
also_holds false l x = x

less : (d : ℕ) → suc d - 1 ≡ d
less d = omega arith

over : (tags : List (List ℕ)) (s : State) (d : ℕ) (x y : Seen) → Shows tags s y → Shows tags s (if suc d == 0 then x else y)
over tags s d x y h = grind (arith, common_steps)

-- One more word, where the state goes on.
goes_open : (tags : List (List ℕ)) (f : Factor) (p q : GroupRest) (ps : List GroupRest) (seen : Seen) → Shows tags (ready f p (q ∷ ps)) seen → Shows tags (ready (grouped (closed f p)) q ps) (seen_before tags open_word seen)
goes_open tags f p q ps (Value v) h = (closed_value tags f p ∙ closes _ _ _ h.1.0.0 h.1.0.1 ∙ h.0, h.1.1)
goes_open tags f p q ps (Failed zero) h = (closed_value tags f p ∙ fails _ _ _ h.0.0 h.0.1, h.1)
goes_open tags f p q ps (Failed (suc d)) h = over tags (ready (grouped (closed f p)) q ps) d (Value false) (Failed (suc d - 1)) (subst (λ (k : ℕ). FailedAt tags k (q ∷ ps)) (sym (less d)) h)
goes_open tags f p q ps (Held zero) h = (closed_value tags f p ∙ also_holds _ _ h.0, h.1)
goes_open tags f p q ps (Held (suc d)) h = over tags (ready (grouped (closed f p)) q ps) d (Value true) (Held (suc d - 1)) (subst (λ (k : ℕ). HeldAt tags k (q ∷ ps)) (sym (less d)) h)

more : (d : ℕ) → d + 1 ≡ suc d
more d = omega arith

goes_close : (tags : List (List ℕ)) (p : GroupRest) (ps : List GroupRest) (seen : Seen) → Shows tags (waiting p ps) seen → Shows tags (waiting empty (p ∷ ps)) (seen_before tags close_word seen)
goes_close tags p ps (Value v) h = ((refl, refl), h)
goes_close tags p ps (Failed d) h = subst (λ (k : ℕ). FailedAt tags k (empty ∷ p ∷ ps)) (sym (more d)) h
goes_close tags p ps (Held d) h = subst (λ (k : ℕ). HeldAt tags k (empty ∷ p ∷ ps)) (sym (more d)) h

goes_not : (tags : List (List ℕ)) (f : Factor) (p : GroupRest) (ps : List GroupRest) (seen : Seen) → Shows tags (ready f p ps) seen → Shows tags (ready (negated f) p ps) (seen_before tags not_word seen)
goes_not tags f p ps (Value v) h = (ap not h.0, h.1)
goes_not tags f p ps (Failed d) h = h
goes_not tags f p ps (Held d) h = h

goes_and : (tags : List (List ℕ)) (f : Factor) (p : GroupRest) (ps : List GroupRest) (seen : Seen) → Shows tags (ready f p ps) seen
    → Shows tags (waiting (record { joined = Some (term_from f p.joined); later = p.later }) ps) (seen_before tags and_word seen)
goes_and tags f p ps (Value true) h = ((term_value tags f p.joined ∙ rw (h.0, h.1.0.0) refl, h.1.0.1), h.1.1)
goes_and tags f p ps (Value false) h = ((term_value tags f p.joined ∙ rw h.0 refl, h.1.0.1), h.1.1)
goes_and tags f p ps (Failed zero) h = grind (arith, common_steps, term_value)
goes_and tags f p ps (Failed (suc d)) h = h
goes_and tags f p ps (Held zero) h = h
goes_and tags f p ps (Held (suc d)) h = h

goes_or : (tags : List (List ℕ)) (f : Factor) (p : GroupRest) (ps : List GroupRest) (seen : Seen) → Shows tags (ready f p ps) seen
    → Shows tags (waiting (record { joined = None; later = Some (closed f p) }) ps) (seen_before tags or_word seen)
goes_or tags f p ps (Value true) h = (closed_value tags f p ∙ closes _ _ _ h.1.0.0 h.1.0.1 ∙ h.0, h.1.1)
goes_or tags f p ps (Value false) h = ((refl, closed_value tags f p ∙ closes _ _ _ h.1.0.0 h.1.0.1 ∙ h.0), h.1.1)
goes_or tags f p ps (Failed zero) h = ((refl, closed_value tags f p ∙ fails _ _ _ h.0.0 h.0.1), h.1)
goes_or tags f p ps (Failed (suc d)) h = over tags (waiting (record { joined = None; later = Some (closed f p) }) ps) d (Value false) (Failed (suc d)) h
goes_or tags f p ps (Held zero) h = (closed_value tags f p ∙ also_holds _ _ h.0, h.1)
goes_or tags f p ps (Held (suc d)) h = h

goes_tag : (tags : List (List ℕ)) (t : List ℕ) (p : GroupRest) (ps : List GroupRest) (seen : Seen) → Shows tags (waiting p ps) seen → Shows tags (ready (tagged t) p ps) (seen_before tags (tag_word t) seen)
goes_tag tags t p ps (Value v) h = (refl, h)
goes_tag tags t p ps (Failed d) h = h
goes_tag tags t p ps (Held d) h = h

goes : (tags : List (List ℕ)) (w : WordValue) (s s' : State) (seen : Seen) → step w s ≡ Some s' → Shows tags s seen → Shows tags s' (seen_before tags w seen)
goes tags open_word (waiting p ps) s' seen e h = let no : ⊥ = cc e in absurd no
goes tags open_word (ready f p []) s' seen e h = let no : ⊥ = cc e in absurd no
goes tags open_word (ready f p (q ∷ ps)) s' seen e h = let is : ready (grouped (closed f p)) q ps ≡ s' = cc e in subst (λ (s : State). Shows tags s (seen_before tags open_word seen)) is (goes_open tags f p q ps seen h)
goes tags close_word (waiting p ps) s' seen e h = let is : waiting empty (p ∷ ps) ≡ s' = cc e in subst (λ (s : State). Shows tags s (seen_before tags close_word seen)) is (goes_close tags p ps seen h)
goes tags close_word (ready f p ps) s' seen e h = let no : ⊥ = cc e in absurd no
goes tags not_word (waiting p ps) s' seen e h = let no : ⊥ = cc e in absurd no
goes tags not_word (ready f p ps) s' seen e h = let is : ready (negated f) p ps ≡ s' = cc e in subst (λ (s : State). Shows tags s (seen_before tags not_word seen)) is (goes_not tags f p ps seen h)
goes tags and_word (waiting p ps) s' seen e h = let no : ⊥ = cc e in absurd no
goes tags and_word (ready f p ps) s' seen e h =
    let is : waiting (record { joined = Some (term_from f p.joined); later = p.later }) ps ≡ s' = cc e in subst (λ (s : State). Shows tags s (seen_before tags and_word seen)) is (goes_and tags f p ps seen h)
goes tags or_word (waiting p ps) s' seen e h = let no : ⊥ = cc e in absurd no
goes tags or_word (ready f p ps) s' seen e h =
    let is : waiting (record { joined = None; later = Some (closed f p) }) ps ≡ s' = cc e in subst (λ (s : State). Shows tags s (seen_before tags or_word seen)) is (goes_or tags f p ps seen h)
goes tags (tag_word t) (waiting p ps) s' seen e h = let is : ready (tagged t) p ps ≡ s' = cc e in subst (λ (s : State). Shows tags s (seen_before tags (tag_word t) seen)) is (goes_tag tags t p ps seen h)
goes tags (tag_word t) (ready f p ps) s' seen e h = let no : ⊥ = cc e in absurd no

some_goes : (tags : List (List ℕ)) (w : WordValue) (r : Option State) (s' : State) (seen : Seen) → ((s : State) → r ≡ Some s → Shows tags s seen) → option_and_then (step w) r ≡ Some s' → Shows tags s' (seen_before tags w seen)
some_goes tags w None s' seen before e = let no : ⊥ = cc e in absurd no
some_goes tags w (Some s) s' seen before e = goes tags w s s' seen e (before s refl)

shows : (tags : List (List ℕ)) (ws : List WordValue) (s : State) → run ws ≡ Some s → Shows tags s (seen_of tags ws)
shows tags [] s e = let is : waiting empty [] ≡ s = cc e in subst (λ (s : State). Shows tags s (Value false)) is ((refl, refl), tt)
shows tags (w ∷ ws) s e = some_goes tags w (run ws) s (seen_of tags ws) (shows tags ws) e

whole : (tags : List (List ℕ)) (f : Factor) (p : GroupRest) (seen : Seen) → Shows tags (ready f p []) seen → seen_value seen ≡ holds (closed f p) tags
whole tags f p (Value v) h = sym (closed_value tags f p ∙ closes _ _ _ h.1.0.0 h.1.0.1 ∙ h.0)
whole tags f p (Failed zero) h = sym (closed_value tags f p ∙ fails _ _ _ h.0.0 h.0.1)
whole tags f p (Failed (suc d)) h = absurd h
whole tags f p (Held zero) h = sym (closed_value tags f p ∙ also_holds _ _ h.0)
whole tags f p (Held (suc d)) h = absurd h

-- An expression's words show its value.
pub value_seen : (tags : List (List ℕ)) (e : Expression) (ws : List WordValue) → spelling e ≡ ws → seen_value (seen_of tags ws) ≡ holds e tags
value_seen tags e ws says =
    whole tags (first (head e)) (part_of e) (seen_of tags ws) (shows tags ws (ready (first (head e)) (part_of e) []) (ap run (sym says) ∙ run_whole e))
    ∙ ap (λ (e : Expression). holds e tags) (expression_again e)

-- No more groups are passed over than words are taken.
either : (b : Bool) (x y : Seen) (n : ℕ) → seen_depth x ≤ n → seen_depth y ≤ n → seen_depth (if b then x else y) ≤ n
either true x y n h k = h
either false x y n h k = k

depth_before : (tags : List (List ℕ)) (w : WordValue) (seen : Seen) → seen_depth (seen_before tags w seen) ≤ seen_depth seen + 1
depth_before tags open_word (Value v) = omega arith
depth_before tags close_word (Value v) = omega arith
depth_before tags not_word (Value v) = omega arith
depth_before tags and_word (Value true) = omega arith
depth_before tags and_word (Value false) = omega arith
depth_before tags or_word (Value true) = omega arith
depth_before tags or_word (Value false) = omega arith
depth_before tags (tag_word t) (Value v) = omega arith
depth_before tags open_word (Failed d) = either (d == 0) (Value false) (Failed (d - 1)) (d + 1) (omega arith) (omega arith)
depth_before tags close_word (Failed d) = omega arith
depth_before tags not_word (Failed d) = omega arith
depth_before tags and_word (Failed d) = omega arith
depth_before tags or_word (Failed d) = either (d == 0) (Value false) (Failed d) (d + 1) (omega arith) (omega arith)
depth_before tags (tag_word t) (Failed d) = omega arith
depth_before tags open_word (Held d) = either (d == 0) (Value true) (Held (d - 1)) (d + 1) (omega arith) (omega arith)
depth_before tags close_word (Held d) = omega arith
depth_before tags not_word (Held d) = omega arith
depth_before tags and_word (Held d) = omega arith
depth_before tags or_word (Held d) = omega arith
depth_before tags (tag_word t) (Held d) = omega arith

pub depth_seen : (tags : List (List ℕ)) (ws : List WordValue) → seen_depth (seen_of tags ws) ≤ length ws
depth_seen tags [] = omega arith
depth_seen tags (w ∷ ws) = omega (arith, depth_before tags w (seen_of tags ws), depth_seen tags ws)
