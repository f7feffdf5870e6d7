-- A run over lines, and where it stops.
use Rattle.gk_gherkin.proofs.Common.{◌≡◌, [], ◌∷◌, ◌++◌, Result, Ok, Err, refl, ap, ◌∙◌, append_assoc, ReadFault, LineValue, Lines, ◌>>=◌, run_by}

pub no_err : {A : Type 0} {x : A} {e : ReadFault} {P : Type 0} → ◌≡◌ {A = Result A ReadFault} (Ok x) (Err e) → P
no_err e = cc

pub err_same : {A : Type 0} {x e : ReadFault} → ◌≡◌ {A = Result A ReadFault} (Err x) (Err e) → x ≡ e
err_same e = cc

pub ok_same : {A : Type 0} {x y : A} → ◌≡◌ {A = Result A ReadFault} (Ok x) (Ok y) → x ≡ y
ok_same e = cc

pub no_ok : {A : Type 0} {x : A} {e : ReadFault} {P : Type 0} → ◌≡◌ {A = Result A ReadFault} (Err e) (Ok x) → P
no_ok e = cc

pub bind_is : {A B : Type 0} (r : Result A ReadFault) (f : A → B) (t : B) → (r >>= λ x. Ok (f x)) ≡ Ok t → (x : A) × (r ≡ Ok x) × (f x ≡ t)
bind_is (Ok x) f t e = (x, refl, ok_same e)
bind_is (Err x) f t e = no_ok e

pub bind_ok : {A B : Type 0} (r : Result A ReadFault) (f : A → Result B ReadFault) (t : B) → (r >>= f) ≡ Ok t → (s : A) × (r ≡ Ok s) × (f s ≡ Ok t)
bind_ok (Ok s) f t e = (s, refl, e)
bind_ok (Err x) f t e = no_ok e

-- what a further step makes of a result is refused where the result is
pub bind_err : {A B : Type 0} (r : Result A ReadFault) (f : A → B) (e : ReadFault) → (r >>= λ x. Ok (f x)) ≡ Err e → r ≡ Err e
bind_err (Ok x) f e h = no_err h
bind_err (Err x) f e h = ap Err (err_same h)

-- step: what a line makes of a state.
module _ {S : Type 0} (step : S → LineValue → Result S ReadFault) where
  pub run_nil : (s : S) → run_by step s [] ≡ Ok s
  unfolding run_by
  run_nil s = refl

  pub run_over : (s t : S) (l : LineValue) (rest : Lines) → step s l ≡ Ok t → run_by step s (l ∷ rest) ≡ run_by step t rest
  unfolding run_by
  run_over s t l rest e = ap (λ (r : Result S ReadFault). r >>= λ t. run_by step t rest) e

  -- a run over two lists
  bind_both : (r : Result S ReadFault) (f g h : S → Result S ReadFault) → ((s : S) → f s ≡ (g s >>= h)) → (r >>= f) ≡ ((r >>= g) >>= h)
  bind_both (Ok s) f g h e = e s
  bind_both (Err x) f g h e = refl

  pub run-append : (s : S) (a b : Lines) → run_by step s (a ++ b) ≡ (run_by step s a >>= λ t. run_by step t b)
  unfolding run_by
  run-append s [] b = refl
  run-append s (l ∷ a) b = bind_both (step s l) (λ t. run_by step t (a ++ b)) (λ t. run_by step t a) (λ t. run_by step t b) (λ t. run-append t a b)

  -- where a run stops
  pub record Halts (s : S) (ls : Lines) (e : ReadFault) : Type 0 where
    pub before : Lines
    pub line : LineValue
    pub after : Lines
    pub state : S
    pub whole : ls ≡ before ++ line ∷ after
    pub reached : run_by step s before ≡ Ok state
    pub stops : step state line ≡ Err e

  halts_by : (s : S) (l : LineValue) (ls : Lines) (e : ReadFault) (r : Result S ReadFault) → step s l ≡ r → ((t : S) → run_by step t ls ≡ Err e → Halts t ls e) → (r >>= λ t. run_by step t ls) ≡ Err e → Halts s (l ∷ ls) e
  unfolding run_by
  halts_by s l ls e (Ok t) same again h =
      let k = again t h in
      record { before = l ∷ k.before; line = k.line; after = k.after; state = k.state; whole = ap (λ (ls : Lines). l ∷ ls) k.whole; reached = ap (λ (r : Result S ReadFault). r >>= λ t. run_by step t k.before) same ∙ k.reached; stops = k.stops }
  halts_by s l ls e (Err x) same again h = record { before = []; line = l; after = ls; state = s; whole = refl; reached = refl; stops = same ∙ h }

  pub halts : (s : S) (ls : Lines) (e : ReadFault) → run_by step s ls ≡ Err e → Halts s ls e
  unfolding run_by
  halts s [] e h = no_err h
  halts s (l ∷ ls) e h = halts_by s l ls e (step s l) refl (λ t k. halts t ls e k) h

  -- a run past a line that halts
  pub halted_run : (start s : S) (before : Lines) (l : LineValue) (e : ReadFault) (rest : Lines) → run_by step start before ≡ Ok s → step s l ≡ Err e → run_by step start ((before ++ l ∷ []) ++ rest) ≡ Err e
  unfolding run_by
  halted_run start s before l e rest r h =
      ap (run_by step start) (append_assoc before (l ∷ []) rest) ∙ run-append start before (l ∷ rest) ∙ ap (λ (r : Result S ReadFault). r >>= λ t. run_by step t (l ∷ rest)) r ∙ ap (λ (r : Result S ReadFault). r >>= λ t. run_by step t rest) h

  pub one_more_line : (start : S) (ls : Lines) (s t : S) (l : LineValue) → run_by step start ls ≡ Ok s → step s l ≡ Ok t → run_by step start (ls ++ l ∷ []) ≡ Ok t
  unfolding run_by
  one_more_line start ls s t l r e = run-append start ls (l ∷ []) ∙ ap (λ (r : Result S ReadFault). r >>= λ t. run_by step t (l ∷ [])) r ∙ ap (λ (r : Result S ReadFault). r >>= λ t. run_by step t []) e
