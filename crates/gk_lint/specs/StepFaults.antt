-- Faults of a step that finds an entry, in the order in which they are named.
use Rattle.std.specs.Prelude.{codes, ℕ, Bool, ◌==◌, List, [], ◌∷◌}
use Rattle.std.specs.List.{list_any}
use Rattle.gk_lint.specs.declared.step_faults.StepFault.{StepFault}
use Rattle.gk_lint.specs.declared.step_faults.StepFault.TheVariants.{NotAllowed, NoText, NoTable, BadTable, IgnoredText, IgnoredTable}

-- The text of a fault.
abbrev pub fault_text : StepFault → List ℕ
fault_text NotAllowed = codes "action that isn't allowed here"
fault_text NoText = codes "step without the text that its action needs"
fault_text NoTable = codes "step without the table that its action needs"
fault_text BadTable = codes "table without the header name, text"
fault_text IgnoredText = codes "doc string that is ignored"
fault_text IgnoredTable = codes "table that is ignored"

-- The faults that a step can have.
abbrev pub step_faults : List StepFault
step_faults = NotAllowed ∷ NoText ∷ NoTable ∷ BadTable ∷ IgnoredText ∷ IgnoredTable ∷ []

-- The position of a fault among all faults, counted from 0.
abbrev pub number_of_fault : StepFault → ℕ
number_of_fault NotAllowed = 0
number_of_fault NoText = 1
number_of_fault NoTable = 2
number_of_fault BadTable = 3
number_of_fault IgnoredText = 4
number_of_fault IgnoredTable = 5

-- Whether two faults are the same.
abbrev pub is_same_fault : StepFault → StepFault → Bool
is_same_fault a b = number_of_fault a == number_of_fault b

-- Whether a fault is among some faults.
abbrev pub has_fault : List StepFault → StepFault → Bool
has_fault faults fault = list_any (is_same_fault fault) faults
