-- How lists of undos rewind.
use Rattle.gk_world.proofs.Common.{◌≡◌, ℕ, zero, suc, ◌+◌, ◌<◌, ◌≤◌, Option, Some, Result, Ok, Err, is_ok, true≢false, option_to_list, List, [], ◌∷◌, ◌++◌, length, drop, take, refl, sym, ap, subst, ◌∙◌, arith, length-append, drop-append-le, take-append-le, take-append-drop, length-take-le, take-length, drop-length, if◌then◌else◌, rewound, FitAll}

-- the entries after one more
pub pushed : {U A B : Type 0} (inside us vs ws : List U) (u : U) (r : Result A B) (x : A) → inside ≡ us → vs ≡ inside → ws ≡ (if is_ok r then vs ++ u ∷ [] else vs) → r ≡ Ok x → ws ≡ us ++ u ∷ []
pushed inside us vs ws u (Ok y) x is kept more done = more ∙ ap (λ l. l ++ u ∷ []) (kept ∙ is)
pushed inside us vs ws u (Err e) x is kept more done = absurd (true≢false (sym (ap is_ok done)))

module _ {U S : Type 0} (undone : U → S → S) where
  -- the newest is undone first
  pub rewound-push : (us : List U) (u : U) (s : S) → rewound undone (us ++ u ∷ []) s ≡ rewound undone us (undone u s)
  rewound-push [] u s = refl
  rewound-push (v ∷ us) u s = ap (undone v) (rewound-push us u s)

  pub FitAll-push : (fits : U → S → Type 0) (us : List U) (u : U) (s : S) → fits u s → FitAll undone fits us (undone u s) → FitAll undone fits (us ++ u ∷ []) s
  FitAll-push fits [] u s f rest = (tt, f)
  FitAll-push fits (v ∷ us) u s f rest = (FitAll-push fits us u s f rest.0, subst (fits v) (sym (rewound-push us u s)) rest.1)

  pub FitAll-pop : (fits : U → S → Type 0) (us : List U) (u : U) (s : S) → FitAll undone fits (us ++ u ∷ []) s → fits u s × FitAll undone fits us (undone u s)
  FitAll-pop fits [] u s h = (h.1, tt)
  FitAll-pop fits (v ∷ us) u s h =
      let rest = FitAll-pop fits us u s h.0 in
      (rest.0, (rest.1, subst (fits v) (rewound-push us u s) h.1))

  -- what the entries since a start give stays as it is when a change is recorded
  pub rewound-since : (us vs : List U) (u : U) (m : ℕ) (s t : S) → m ≤ length us → vs ≡ us ++ u ∷ [] → undone u t ≡ s → rewound undone (drop m vs) t ≡ rewound undone (drop m us) s
  rewound-since us vs u m s t le e b =
      ap (λ l. rewound undone (drop m l) t) e
      ∙ ap (λ l. rewound undone l t) (drop-append-le m us (u ∷ []) le)
      ∙ rewound-push (drop m us) u t
      ∙ ap (rewound undone (drop m us)) b

  pub FitAll-since : (fits : U → S → Type 0) (us vs : List U) (u : U) (m : ℕ) (s t : S) → m ≤ length us → vs ≡ us ++ u ∷ [] → fits u t → undone u t ≡ s → FitAll undone fits (drop m us) s → FitAll undone fits (drop m vs) t
  FitAll-since fits us vs u m s t le e f b h =
      subst (λ l. FitAll undone fits l t) (sym (ap (drop m) e ∙ drop-append-le m us (u ∷ []) le))
      (FitAll-push fits (drop m us) u t f (subst (FitAll undone fits (drop m us)) (sym b) h))

  -- one turn of a rewind
  pub record Popped (fits : U → S → Type 0) (before after : List U) (u : U) (m : ℕ) (s : S) : Type 0 where
    pub fits_now : fits u s
    pub within : m ≤ length after
    pub fit : FitAll undone fits (drop m after) (undone u s)
    pub same : rewound undone (drop m after) (undone u s) ≡ rewound undone (drop m before) s
    pub older : take m after ≡ take m before

  pub popped : (fits : U → S → Type 0) (before after : List U) (o : Option U) (u : U) (m : ℕ) (s : S) → before ≡ after ++ option_to_list o → o ≡ Some u → m < length before → FitAll undone fits (drop m before) s → Popped fits before after u m s
  popped fits before after o u m s e is lt h =
      let e' : before ≡ after ++ u ∷ [] = e ∙ ap (λ o. after ++ option_to_list o) is in
      let n : length before ≡ length after + 1 = ap length e' ∙ length-append after (u ∷ []) in
      let le : m ≤ length after = omega arith in
      let d : drop m before ≡ drop m after ++ u ∷ [] = ap (drop m) e' ∙ drop-append-le m after (u ∷ []) le in
      let both = FitAll-pop fits (drop m after) u s (subst (λ l. FitAll undone fits l s) d h) in
      record {
        fits_now = both.0;
        within = le;
        fit = both.1;
        same = sym (ap (λ l. rewound undone l s) d ∙ rewound-push (drop m after) u s);
        older = sym (ap (take m) e' ∙ take-append-le m after (u ∷ []) le);
      }

  -- what holds at each turn of a rewind
  pub record IsRewinding (fits : U → S → Type 0) (start : List U) (from : S) (m : ℕ) (now : List U) (s : S) : Type 0 where
    pub within : m ≤ length now
    pub older : take m now ≡ take m start
    pub fit : FitAll undone fits (drop m now) s
    pub same : rewound undone (drop m now) s ≡ rewound undone (drop m start) from

  pub rewound_on : (fits : U → S → Type 0) (start : List U) (from : S) (m : ℕ) (before after : List U) (o : Option U) (u : U) (s t : S) → IsRewinding fits start from m before s → before ≡ after ++ option_to_list o → o ≡ Some u → m < length before → t ≡ undone u s → IsRewinding fits start from m after t
  rewound_on fits start from m before after o u s t h e is lt back =
      let p = popped fits before after o u m s e is lt h.fit in
      subst (IsRewinding fits start from m after) (sym back) (record { within = p.within; older = p.older ∙ h.older; fit = p.fit; same = p.same ∙ h.same })

  pub rewound-append : (us vs : List U) (s : S) → rewound undone (us ++ vs) s ≡ rewound undone us (rewound undone vs s)
  rewound-append [] vs s = refl
  rewound-append (u ∷ us) vs s = ap (undone u) (rewound-append us vs s)

  pub FitAll-older : (fits : U → S → Type 0) (us vs : List U) (s : S) → FitAll undone fits (us ++ vs) s → FitAll undone fits us (rewound undone vs s)
  FitAll-older fits [] vs s h = tt
  FitAll-older fits (u ∷ us) vs s h = (FitAll-older fits us vs s h.0, subst (fits u) (rewound-append us vs s) h.1)

  -- the entries since k are those up to m, and those since m
  since : (us : List U) (k m : ℕ) → k ≤ m → m ≤ length us → drop k us ≡ drop k (take m us) ++ drop m us
  since us k m le within =
      let n : k ≤ length (take m us) = omega (arith, length-take-le m us within) in
      ap (drop k) (sym (take-append-drop m us)) ∙ drop-append-le k (take m us) (drop m us) n

  -- what a rewind to m leaves for an earlier count k
  pub rewound-before : (us vs : List U) (k m : ℕ) (s t : S) → k ≤ m → m ≤ length us → vs ≡ take m us → t ≡ rewound undone (drop m us) s → rewound undone (drop k vs) t ≡ rewound undone (drop k us) s
  rewound-before us vs k m s t le within e f =
      (λ i. rewound undone (drop k (e i)) (f i))
      ∙ sym (ap (λ l. rewound undone l s) (since us k m le within) ∙ rewound-append (drop k (take m us)) (drop m us) s)

  pub FitAll-before : (fits : U → S → Type 0) (us vs : List U) (k m : ℕ) (s t : S) → k ≤ m → m ≤ length us → vs ≡ take m us → t ≡ rewound undone (drop m us) s → FitAll undone fits (drop k us) s → FitAll undone fits (drop k vs) t
  FitAll-before fits us vs k m s t le within e f h =
      subst (λ l. FitAll undone fits (drop k l) t) (sym e)
      (subst (FitAll undone fits (drop k (take m us))) (sym f)
      (FitAll-older fits (drop k (take m us)) (drop m us) s (subst (λ l. FitAll undone fits l s) (since us k m le within) h)))

  none_left : (us : List U) (m : ℕ) → m ≤ length us → length us ≤ m → (take m us ≡ us) × (drop m us ≡ [])
  none_left us m le ge =
      let e : m ≡ length us = omega arith in
      (ap (λ n. take n us) e ∙ take-length us, ap (λ n. drop n us) e ∙ drop-length us)

  -- where a rewind has ended
  pub settled : (es us vs : List U) (m : ℕ) (s t : S) → es ≡ us → m ≤ length vs → length vs ≤ m → take m vs ≡ take m es → rewound undone (drop m vs) t ≡ rewound undone (drop m es) s → (vs ≡ take m us) × (t ≡ rewound undone (drop m us) s)
  settled es us vs m s t e le ge older same =
      let none = none_left vs m le ge in (
        sym none.0 ∙ older ∙ ap (take m) e,
        ap (λ l. rewound undone l t) (sym none.1) ∙ same ∙ ap (λ l. rewound undone (drop m l) s) e,
      )

  -- the newest entries fit by themselves
  pub FitAll-drop : (fits : U → S → Type 0) (m : ℕ) (us : List U) (s : S) → FitAll undone fits us s → FitAll undone fits (drop m us) s
  FitAll-drop fits zero us s h = h
  FitAll-drop fits (suc m) [] s h = tt
  FitAll-drop fits (suc m) (u ∷ us) s h = FitAll-drop fits m us s h.0
