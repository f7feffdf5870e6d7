-- Lists that grow.
use Rattle.std.specs.Prelude.{◌≡◌, List, ◌++◌, map, Result, IfOk}

-- If a call succeeds, these values are added at the end of a list, which is otherwise unchanged.
abbrev pub Appends : {T E X V : Type 0} → (X → V) → Result T E → List X → List X → List V → Type 0
Appends v result old new part = IfOk result (λ _. map v new ≡ map v old ++ part)
