-- What a reading's result says of the bytes, the same for both kinds of file.
use Rattle.gk_gherkin.proofs.Common.{◌≡◌, ◌≢◌, inl, inr, ℕ, List, Result, Ok, Err, IfOk, IfErr, ◌<◌, ◌≤◌, length, refl, sym, ◌∙◌, subst, arith, ReadFault, Lines, lines_of, limit, IsText, FaultSays, LinesFaultSays, Agrees, Readers, Outside, reading, NeedSome, FailsBy, FailsAs}
use Rattle.gk_gherkin.specs.declared.read_fault.ReadFault.TheVariants as faults
use Rattle.gk_gherkin.proofs.ReadingRuns.{no_ok}

pub if_ok : {X : Type 0} (r : Result X ReadFault) (P Q : X → Type 0) → ((x : X) → P x → Q x) → IfOk r P → IfOk r Q
if_ok (Ok x) P Q f p = f x p
if_ok (Err e) P Q f p = tt

pub if_err : {X : Type 0} (r : Result X ReadFault) (P Q : ReadFault → Type 0) → ((e : ReadFault) → P e → Q e) → IfErr r P → IfErr r Q
if_err (Ok x) P Q f p = tt
if_err (Err e) P Q f p = f e p

-- a fault of a text, where it isn't memory, is one of the bytes, whatever is said of lines
lines_fault : (OfLines : ReadFault → Lines → Type 0) (e : ReadFault) (bytes : List ℕ) → e ≢ faults.Memory → LinesFaultSays e bytes → FaultSays OfLines e bytes
lines_fault OfLines faults.Memory bytes free h = absurd (free refl)
lines_fault OfLines faults.TooLong bytes free h = h
lines_fault OfLines (faults.NotUtf8 n) bytes free h = h
lines_fault OfLines _ bytes free h = absurd h.1

short : (bytes : List ℕ) {P : Type 0} → limit < length bytes → length bytes ≤ limit → P
short bytes long within = let no : ⊥ = omega (arith, long, within) in absurd no

no_lines_fault : (e : ReadFault) (bytes : List ℕ) {P : Type 0} → e ≢ faults.Memory → LinesFaultSays e bytes → IsText bytes → P
no_lines_fault faults.Memory bytes free h t = absurd (free refl)
no_lines_fault faults.TooLong bytes free h t = short bytes h t.0
no_lines_fault (faults.NotUtf8 n) bytes free h t = absurd (h.1 t.1)
no_lines_fault _ bytes free h t = absurd h.1

module _ {P A : Type 0} (readers : Readers P A) where
  fails_by : {X : Type 0} (value : X → A) (e : ReadFault) (ls : Lines) → Agrees value (Err e) (reading readers ls) → (e ≡ faults.Memory → NeedSome readers (Outside readers.first) ls) → FailsBy readers e ls
  fails_by value faults.Memory ls g m = m refl
  fails_by value e ls g m = g

  pub read_fault : {X : Type 0} (value : X → A) (r : Result X ReadFault) (bytes : List ℕ) (ls : Lines) → ls ≡ lines_of bytes → IsText bytes → Agrees value r (reading readers ls) → IfErr r (λ e. e ≡ faults.Memory → NeedSome readers (Outside readers.first) ls) → IfErr r (λ e. FailsAs readers e bytes)
  read_fault value (Ok x) bytes ls same t g m = tt
  read_fault value (Err e) bytes ls same t g m = inr (t, subst (FailsBy readers e) same (fails_by value e ls g m))

  -- what can be read is answered, unless memory ran out
  pub only_memory : (e : ReadFault) (bytes : List ℕ) (a : A) → FailsAs readers e bytes → IsText bytes → reading readers (lines_of bytes) ≡ Ok a → e ≡ faults.Memory
  only_memory e bytes a (inl f) t h = no_lines_fault e bytes f.1 f.0 t
  only_memory faults.Memory bytes a (inr f) t h = refl
  only_memory _ bytes a (inr f) t h = no_ok (sym f.1 ∙ h)

  -- what is said of the lines by their reading is said of the bytes
  pub said : (OfLines : ReadFault → Lines → Type 0) → ((ls : Lines) → OfLines faults.TooLong ls → ⊥) → ((n : ℕ) (ls : Lines) → OfLines (faults.NotUtf8 n) ls → ⊥) → ((e : ReadFault) (ls : Lines) → FailsBy readers e ls → OfLines e ls)
      → (e : ReadFault) (bytes : List ℕ) → FailsAs readers e bytes → FaultSays OfLines e bytes
  said OfLines long other of e bytes (inl f) = lines_fault OfLines e bytes f.1 f.0
  said OfLines long other of faults.TooLong bytes (inr f) = absurd (long (lines_of bytes) (of faults.TooLong (lines_of bytes) f.1))
  said OfLines long other of (faults.NotUtf8 n) bytes (inr f) = absurd (other n (lines_of bytes) (of (faults.NotUtf8 n) (lines_of bytes) f.1))
  said OfLines long other of e bytes (inr f) = (f.0, of e (lines_of bytes) f.1)
