-- The arguments of a call.
use Rattle.std.specs.Prelude.{◌≡◌, IsUtf8, ℕ, List, ◌∷◌, codes, Result, Ok, Err}
use Rattle.std.specs.List.{All, Any}
use Rattle.gk_program.specs.declared.asked.ArgumentsFault.{ArgumentsFault}
use Rattle.gk_program.specs.declared.asked.ArgumentsFault.TheVariants.{NotUtf8, Memory}
use Rattle.gk_c.specs.declared.words.Text.{Text}

-- The bytes of a `Text`.
abbrev pub text_value : Text → List ℕ
text_value text = text.bytes.now

-- These bytes aren't UTF-8.
abbrev pub IsNoText : List ℕ → Type 0
IsNoText bytes = IsUtf8 bytes → ⊥

-- The program's arguments: its name, and then those of the call.
abbrev pub with_name : List (List ℕ) → List (List ℕ)
with_name arguments = codes "gherkin_run" ∷ arguments

-- The program's arguments, or why there are none: one of the call isn't UTF-8, or memory was refused.
abbrev pub SaysWords : List (List ℕ) → Result (List (List ℕ)) ArgumentsFault → Type 0
SaysWords arguments (Ok words) = (words ≡ with_name arguments) × All IsUtf8 arguments
SaysWords arguments (Err NotUtf8) = Any IsNoText arguments
SaysWords arguments (Err Memory) = Unit {0}
