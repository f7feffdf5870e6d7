-- Proof machinery: results of functions compared with those of definitions. No public contract cites it.
use Rattle.std.specs.Prelude.{◌≡◌, Result, Ok, Err}
use Rattle.gk_gherkin.specs.declared.read_fault.ReadFault.{ReadFault}
use Rattle.gk_gherkin.specs.declared.read_fault.ReadFault.TheVariants.{Memory}

infixl 10 ◌>>=◌
-- What `f` makes of a result, or the result's fault.
abbrev pub ◌>>=◌ : {A B : Type 0} → Result A ReadFault → (A → Result B ReadFault) → Result B ReadFault
(Ok x) >>= f = f x
(Err e) >>= f = Err e

-- A fault of the code is the fault of the definitions, unless memory was refused.
abbrev pub Fails : {Y : Type 0} → ReadFault → Result Y ReadFault → Type 0
Fails Memory read = Unit {0}
Fails e read = read ≡ Err e

-- The result of a function is that of the definitions, unless memory was refused.
abbrev pub Agrees : {X Y : Type 0} → (X → Y) → Result X ReadFault → Result Y ReadFault → Type 0
Agrees value (Ok x) read = read ≡ Ok (value x)
Agrees value (Err e) read = Fails e read
