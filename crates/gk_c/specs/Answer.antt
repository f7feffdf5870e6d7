-- The `Answer` to a call, by how the program ended and by what its buffers took.
use Rattle.std.specs.Prelude.{◌≡◌, ◌⊎◌, ℕ, List, codes}
use Rattle.gk_cli.specs.Writing.{Device}
use Rattle.gk_program.specs.declared.ended.ProgramEnd.{ProgramEnd}
use Rattle.gk_c.specs.Room.{IsPut}
use Rattle.gk_c.specs.declared.answer.Answer.{Answer}

-- The buffers took all that the program wrote.
pub record AreTaken (out errors : Device) : Type 0 where
  pub out_failures : out.failures ≡ 0
  pub errors_failures : errors.failures ≡ 0

-- The `Answer` has the program's status and the place of its fault.
pub record IsAnsweredBy (ended : ProgramEnd) (answer : Answer) : Type 0 where
  pub status : answer.status ≡ ended.status
  pub name_length : answer.name_length ≡ ended.place.name_length
  pub line : answer.line ≡ ended.place.line

-- The `Answer` says that memory was refused.
pub record IsRefusal (answer : Answer) : Type 0 where
  pub status : answer.status ≡ 4
  pub name_length : answer.name_length ≡ 0
  pub line : answer.line ≡ 0

-- What standard error gets if memory was refused.
abbrev pub refusal : List ℕ
refusal = codes "gherkin_run: out of memory\n"

-- The `Answer` is the program's, and the errors are what it wrote. Or a buffer didn't take all that the program wrote: then memory was refused, and the answer says so.
abbrev pub IsAnsweredWith : Device → Device → ProgramEnd → List ℕ → List ℕ → List ℕ → Answer → Type 0
IsAnsweredWith out errors ended told errors_old errors_new answer =
    (AreTaken out errors × IsPut told errors_old errors_new answer.errors_length × IsAnsweredBy ended answer)
    ⊎ ((AreTaken out errors → ⊥) × IsPut refusal errors_old errors_new answer.errors_length × IsRefusal answer)
