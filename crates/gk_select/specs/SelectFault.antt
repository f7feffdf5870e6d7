-- Results that may be refused, and the texts of the faults.
use Rattle.std.specs.Prelude.{codes, ◌≡◌, ℕ, List, Option, Some, None, IsSome, Result, Ok, Err}
use Rattle.gk_select.specs.declared.select_fault.SelectFault.{SelectFault}
use Rattle.gk_select.specs.declared.select_fault.SelectFault.TheVariants.{TooMany, BadTagText, Memory}

-- A call returns the wanted value, or runs out of memory, if there is such a value. If there is none, it returns `BadTagText`.
abbrev pub AnswersOrLacksMemory : {X V : Type 0} → (X → V) → Result X SelectFault → Option V → Type 0
AnswersOrLacksMemory v (Ok x) o = o ≡ Some (v x)
AnswersOrLacksMemory v (Err BadTagText) o = o ≡ None
AnswersOrLacksMemory v (Err Memory) o = IsSome o
AnswersOrLacksMemory v (Err TooMany) o = ⊥

-- The text of a fault. (this project's profile)
abbrev pub text_of_select_fault : SelectFault → List ℕ
text_of_select_fault TooMany = codes "more than 1000000 steps"
text_of_select_fault BadTagText = codes "bad tag expression"
text_of_select_fault Memory = codes "out of memory"
