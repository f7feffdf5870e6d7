-- What the calls return and write.
use Rattle.std.specs.Prelude.{◌≡◌, ◌⊎◌, ◌++◌, ◌-◌, ◌^◌, ℕ, List, [], ◌∷◌, codes, flat_map, Some, Result}
use Rattle.gk_request.specs.Source.{SourceValue}
use Rattle.gk_cli.specs.Writing.{Device}
use Rattle.gk_program.specs.Asked.{AreNamesAsked}
use Rattle.gk_program.specs.Ended.{IsEnded}
use Rattle.gk_program.specs.declared.asked.ArgumentsFault.{ArgumentsFault}
use Rattle.gk_program.specs.declared.ended.ProgramEnd.{ProgramEnd}
use Rattle.gk_c.specs.Room.{IsPut}
use Rattle.gk_c.specs.Answer.{IsAnsweredWith}
use Rattle.gk_c.specs.CallerFiles.{reads_first}
use Rattle.gk_c.specs.Words.{SaysWords}
use Rattle.gk_c.specs.declared.answer.Answer.{Answer}

-- A writer that took nothing yet.
abbrev pub fresh : Device
fresh = record { bytes = Some []; calls = 0; flushes = 0; failures = 0; idle = 0 }

-- The program ended so with these arguments over these files, and so it used its standard output and its standard error.
pub record IsRunOver (files : List SourceValue) (arguments : List (List ℕ)) (out errors : Device) (ended : ProgramEnd) : Type 0 where
  pub words : Result (List (List ℕ)) ArgumentsFault
  pub given : SaysWords arguments words
  pub after : List SourceValue
  pub ended_so : IsEnded reads_first words files after fresh out fresh errors ended

-- The `Answer` to a call: the program's status, and what it wrote with these arguments over these files, as far as there is room.
pub record IsAnswer (arguments : List (List ℕ)) (files : List SourceValue) (out_old out_new errors_old errors_new : List ℕ) (answer : Answer) : Type 0 where
  pub out : Device
  pub errors : Device
  pub ended : ProgramEnd
  pub run : IsRunOver files arguments out errors ended
  pub said : List ℕ
  pub said_is : out.bytes ≡ Some said
  pub out_put : IsPut said out_old out_new answer.out_length
  pub told : List ℕ
  pub told_is : errors.bytes ≡ Some told
  pub answered : IsAnsweredWith out errors ended told errors_old errors_new answer

-- A name with a zero byte at its end.
abbrev pub one_listed : List ℕ → List ℕ
one_listed name = name ++ 0 ∷ []

-- The names of files, each with a zero byte at its end.
abbrev pub listed : List (List ℕ) → List ℕ
listed names = flat_map one_listed names

-- This text lists the names of the files that the arguments of a call ask for.
pub record AreNamesListed (arguments : List (List ℕ)) (text : List ℕ) : Type 0 where
  pub words : Result (List (List ℕ)) ArgumentsFault
  pub given : SaysWords arguments words
  pub names : List (List ℕ)
  pub asked : AreNamesAsked words names
  pub text_is : text ≡ listed names

-- The count in place of a length if memory was refused: the largest `usize`.
abbrev pub no_length : ℕ
no_length = 2 ^ 64 - 1

-- The names of the files that the arguments of a call ask for are written, as far as there is room. Or memory was refused, and nothing was written.
abbrev pub AreFilesPut : List (List ℕ) → List ℕ → List ℕ → ℕ → Type 0
AreFilesPut arguments old new count =
    ((text : List ℕ) × AreNamesListed arguments text × IsPut text old new count)
    ⊎ ((new ≡ old) × (count ≡ no_length))

-- The version of the library.
abbrev pub version : List ℕ
version = codes "2.0.0"
