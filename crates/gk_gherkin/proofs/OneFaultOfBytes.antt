-- No bytes have two faults, where no lines have two.
use Rattle.gk_gherkin.proofs.Common.{◌≡◌, ◌≢◌, ℕ, List, length, ◌<◌, ◌≤◌, refl, ap, sym, ◌∙◌, arith, ReadFault, Lines, lines_of, limit, IsText, IsTooLong, IsNotUtf8At, FaultSays, HaveOneFault}
use Rattle.gk_gherkin.specs.declared.read_fault.ReadFault.TheVariants as faults

short : (bytes : List ℕ) {P : Type 0} → limit < length bytes → length bytes ≤ limit → P
short bytes long within = let no : ⊥ = omega (arith, long, within) in absurd no

module _ (OfLines : ReadFault → Lines → Type 0) (one_of_lines : (ls : Lines) (one other : ReadFault) → one ≢ faults.Memory → other ≢ faults.Memory → OfLines one ls → OfLines other ls → one ≡ other) where
  too_long : (bytes : List ℕ) (other : ReadFault) → other ≢ faults.Memory → IsTooLong bytes → FaultSays OfLines other bytes → faults.TooLong ≡ other
  too_long bytes faults.Memory k f g = absurd (k refl)
  too_long bytes faults.TooLong k f g = refl
  too_long bytes (faults.NotUtf8 m) k f g = short bytes f g.0
  too_long bytes _ k f g = short bytes f g.0.0

  not_utf8 : (bytes : List ℕ) (n : ℕ) (other : ReadFault) → other ≢ faults.Memory → IsNotUtf8At bytes n → FaultSays OfLines other bytes → faults.NotUtf8 n ≡ other
  not_utf8 bytes n faults.Memory k f g = absurd (k refl)
  not_utf8 bytes n faults.TooLong k f g = short bytes g f.0
  not_utf8 bytes n (faults.NotUtf8 m) k f g = ap faults.NotUtf8 (f.2 ∙ sym g.2)
  not_utf8 bytes n _ k f g = absurd (f.1 g.0.1)

  of_lines : (bytes : List ℕ) (one other : ReadFault) → one ≢ faults.Memory → other ≢ faults.Memory → IsText bytes → OfLines one (lines_of bytes) → FaultSays OfLines other bytes → one ≡ other
  of_lines bytes one faults.Memory m k t f g = absurd (k refl)
  of_lines bytes one faults.TooLong m k t f g = short bytes g t.0
  of_lines bytes one (faults.NotUtf8 o) m k t f g = absurd (g.1 t.1)
  of_lines bytes one other m k t f g = one_of_lines (lines_of bytes) one other m k f g.1

  pub one_fault : HaveOneFault OfLines
  one_fault bytes faults.Memory other m k f g = absurd (m refl)
  one_fault bytes faults.TooLong other m k f g = too_long bytes other k f g
  one_fault bytes (faults.NotUtf8 n) other m k f g = not_utf8 bytes n other k f g
  one_fault bytes one other m k f g = of_lines bytes one other m k f.0 f.1 g
