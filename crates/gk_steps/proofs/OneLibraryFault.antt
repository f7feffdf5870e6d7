-- No library file has two faults.
use Rattle.gk_steps.proofs.Common.{◌≡◌, ◌≢◌, ℕ, zero, suc, ◌≤◌, List, [], ◌∷◌, ◌++◌, length, refl, ap, sym, subst, ◌∙◌, arith, LineValue, Lines, lines_of, limit, IsText, IsTooLong, IsNotUtf8At, LibraryFault, LibraryValue, ReadsLibrary, StopsLibraryAt, LibraryFaultSays, LibraryFaultIsUnique, common_steps}
use Rattle.gk_steps.specs.declared.library_fault.LibraryFault.TheVariants as faults
use Rattle.gk_steps.proofs.LibraryStagesLemmas.{FaultAfter, same_stage}
use Rattle.gk_steps.proofs.LibraryFileLemmas.{one_reading}

-- the fault after so much that is good
fault_after : ℕ → ℕ → LibraryFault
fault_after zero n = faults.BadType n
fault_after (suc zero) n = faults.BadPattern n
fault_after (suc (suc zero)) n = faults.UnknownAction n
fault_after (suc (suc (suc zero))) n = faults.MissingField n
fault_after (suc (suc (suc (suc zero)))) n = faults.FieldKind n
fault_after _ n = faults.Ambiguous n

-- two lines of one list: they are one, or one stands after the other
data Cuts (xs : Lines) (x : LineValue) (ys : Lines) (y : LineValue) : Type 0 where
  Here : xs ≡ ys → x ≡ y → Cuts xs x ys y
  Later : (more : Lines) → ys ≡ xs ++ x ∷ more → Cuts xs x ys y
  Earlier : (more : Lines) → xs ≡ ys ++ y ∷ more → Cuts xs x ys y

one_longer : (a b : LineValue) (xs : Lines) (x : LineValue) (ys : Lines) (y : LineValue) → a ≡ b → Cuts xs x ys y → Cuts (a ∷ xs) x (b ∷ ys) y
one_longer a b xs x ys y e (Here same line) = Here (ap (λ z. z ∷ xs) e ∙ ap (λ (zs : Lines). b ∷ zs) same) line
one_longer a b xs x ys y e (Later more h) = Later more (ap (λ z. z ∷ ys) (sym e) ∙ ap (λ (zs : Lines). a ∷ zs) h)
one_longer a b xs x ys y e (Earlier more h) = Earlier more (ap (λ z. z ∷ xs) e ∙ ap (λ (zs : Lines). b ∷ zs) h)

same_head : (a b : LineValue) (xs ys : Lines) → ◌≡◌ {A = Lines} (a ∷ xs) (b ∷ ys) → a ≡ b
same_head a b xs ys e = cc

same_tail : (a b : LineValue) (xs ys : Lines) → ◌≡◌ {A = Lines} (a ∷ xs) (b ∷ ys) → xs ≡ ys
same_tail a b xs ys e = cc

cuts : (xs : Lines) (x : LineValue) (us ys : Lines) (y : LineValue) (vs : Lines) → xs ++ x ∷ us ≡ ys ++ y ∷ vs → Cuts xs x ys y
cuts [] x us [] y vs e = grind (arith, common_steps)
cuts [] x us (b ∷ ys) y vs e = Later ys (ap (λ z. z ∷ ys) (sym (same_head x b us (ys ++ y ∷ vs) e)))
cuts (a ∷ xs) x us [] y vs e = Earlier xs (ap (λ z. z ∷ xs) (same_head a y (xs ++ x ∷ us) vs e))
cuts (a ∷ xs) x us (b ∷ ys) y vs e = one_longer a b xs x ys y (same_head a b (xs ++ x ∷ us) (ys ++ y ∷ vs) e) (cuts xs x us ys y vs (same_tail a b (xs ++ x ∷ us) (ys ++ y ∷ vs) e))

-- no lines have two faults
past : (ls : Lines) (n p k m : ℕ) (s : StopsLibraryAt ls n (FaultAfter k)) (t : StopsLibraryAt ls p (FaultAfter m)) (more : Lines) → t.before ≡ s.before ++ s.line ∷ more → ⊥
past ls n p k m s t more e = s.stops more (t.entries, subst (λ (q : Lines). ReadsLibrary q t.entries) e t.fits)

one_stop : (ls : Lines) (n p k m : ℕ) → StopsLibraryAt ls n (FaultAfter k) → StopsLibraryAt ls p (FaultAfter m) → (k ≡ m) × (n ≡ p)
one_stop ls n p k m s t = at (cuts s.before s.line s.after t.before t.line t.after (sym s.whole ∙ t.whole)) where
  at : Cuts s.before s.line t.before t.line → (k ≡ m) × (n ≡ p)
  at (Later more e) = absurd (past ls n p k m s t more e)
  at (Earlier more e) = absurd (past ls p n m k t s more e)
  at (Here before line) =
      let entries : t.entries ≡ s.entries = one_reading s.before t.entries s.entries (subst (λ (q : Lines). ReadsLibrary q t.entries) (sym before) t.fits) s.fits in
      let other : FaultAfter m s.entries s.line = subst (λ (l : LineValue). FaultAfter m s.entries l) (sym line) (subst (λ (q : LibraryValue). FaultAfter m q t.line) entries t.fault) in
      (same_stage k m s.entries s.line s.fault other, sym s.number ∙ ap (λ (l : LineValue). l.line) line ∙ t.number)

-- no bytes have two faults
data Origin (fault : LibraryFault) (bytes : List ℕ) : Type 0 where
  OfSize : fault ≡ faults.TooLong → IsTooLong bytes → Origin fault bytes
  OfBytes : (n : ℕ) → fault ≡ faults.NotUtf8 n → IsNotUtf8At bytes n → Origin fault bytes
  OfLine : (k n : ℕ) → fault ≡ fault_after k n → IsText bytes → StopsLibraryAt (lines_of bytes) n (FaultAfter k) → Origin fault bytes

origin : (fault : LibraryFault) (bytes : List ℕ) → fault ≢ faults.Memory → LibraryFaultSays fault bytes → Origin fault bytes
unfolding fault_after
origin faults.Memory bytes some f = absurd (some refl)
origin faults.TooLong bytes some f = OfSize refl f
origin (faults.NotUtf8 n) bytes some f = OfBytes n refl f
origin (faults.BadType n) bytes some f = OfLine 0 n refl f.0 f.1
origin (faults.BadPattern n) bytes some f = OfLine 1 n refl f.0 f.1
origin (faults.UnknownAction n) bytes some f = OfLine 2 n refl f.0 f.1
origin (faults.MissingField n) bytes some f = OfLine 3 n refl f.0 f.1
origin (faults.FieldKind n) bytes some f = OfLine 4 n refl f.0 f.1
origin (faults.Ambiguous n) bytes some f = OfLine 5 n refl f.0 f.1

short : (bytes : List ℕ) {P : Type 0} → IsTooLong bytes → length bytes ≤ limit → P
short bytes long within = let no : ⊥ = omega (arith, long, within) in absurd no

one_origin : (a b : LibraryFault) (bytes : List ℕ) → Origin a bytes → Origin b bytes → a ≡ b
one_origin a b bytes (OfSize e f) (OfSize d g) = e ∙ sym d
one_origin a b bytes (OfSize e f) (OfBytes m d g) = short bytes f g.0
one_origin a b bytes (OfSize e f) (OfLine k m d t g) = short bytes f t.0
one_origin a b bytes (OfBytes n e f) (OfSize d g) = short bytes g f.0
one_origin a b bytes (OfBytes n e f) (OfBytes m d g) = e ∙ ap faults.NotUtf8 (f.2 ∙ sym g.2) ∙ sym d
one_origin a b bytes (OfBytes n e f) (OfLine k m d t g) = absurd (f.1 t.1)
one_origin a b bytes (OfLine j n e t f) (OfSize d g) = short bytes g t.0
one_origin a b bytes (OfLine j n e t f) (OfBytes m d g) = absurd (g.1 t.1)
one_origin a b bytes (OfLine j n e t f) (OfLine k m d u g) =
    let same = one_stop (lines_of bytes) n m j k f g in
    e ∙ ap (λ i. fault_after i n) same.0 ∙ ap (fault_after k) same.1 ∙ sym d

pub one_fault : LibraryFaultIsUnique
one_fault bytes one other some some_other f g = one_origin one other bytes (origin one bytes some f) (origin other bytes some_other g)
