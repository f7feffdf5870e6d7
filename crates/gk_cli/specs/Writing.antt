-- A writer, and what is written to it.
use Rattle.std.specs.Prelude.{◌≡◌, ◌≤◌, ◌+◌, ℕ, List, [], length, Option, Result, Ok, Err}
use Rattle.std.specs.Io.KnownBytes.{Appends}
use Rattle.gk_io.specs.Counted.{CountedValue, one_more, IsPrefixWritten}
use Rattle.gk_request.specs.declared.run_fault.RunFault.{RunFault}
use Rattle.gk_request.specs.declared.run_fault.RunFault.TheVariants.{Write, Memory}

-- A writer: the bytes that it took, if they are known, and the counts of its calls, flushes, failures and idle calls.
pub record Device : Type 0 where
  pub bytes : Option (List ℕ)
  pub calls : ℕ
  pub flushes : ℕ
  pub failures : ℕ
  pub idle : ℕ

-- What a counted writer took and counted.
abbrev pub device_of : {W : Type 0} → (W → Option (List ℕ)) → CountedValue W → Device
device_of bytes_of out = record { bytes = bytes_of out.inner; calls = out.calls; flushes = out.flushes; failures = out.failures; idle = out.idle }

-- Nothing was written, and the writer wasn't called.
pub record IsUntouched (old new : Device) : Type 0 where
  pub written : Appends old.bytes new.bytes []
  pub calls : new.calls ≡ old.calls
  pub flushes : new.flushes ≡ old.flushes
  pub failures : new.failures ≡ old.failures
  pub idle : new.idle ≡ old.idle

-- These bytes were written. The writer didn't fail and wasn't flushed. The number of its calls is at most the number of bytes, and each call moved at least one.
pub record IsWritten (old new : Device) (bytes : List ℕ) : Type 0 where
  pub written : Appends old.bytes new.bytes bytes
  pub calls : new.calls ≤ old.calls + length bytes
  pub busy : new.idle ≡ old.idle
  pub quiet : new.failures ≡ old.failures
  pub unflushed : new.flushes ≡ old.flushes

-- Why no more is written: the writer failed once, in a call that moved no byte, or memory was refused.
abbrev pub StopsBy : Device → Device → RunFault → Type 0
StopsBy old new Write = (new.failures ≡ one_more old.failures) × (new.idle ≡ one_more old.idle)
StopsBy old new Memory = (new.failures ≡ old.failures) × (new.idle ≡ old.idle)
StopsBy old new fault = ⊥

-- A prefix of these bytes was written, and no more is written. The number of calls is at most the number of bytes, and each call moved at least one, except the one that failed.
pub record IsStopped (old new : Device) (bytes : List ℕ) (fault : RunFault) : Type 0 where
  pub written : IsPrefixWritten old.bytes new.bytes bytes
  pub calls : new.calls ≤ old.calls + length bytes
  pub why : StopsBy old new fault
  pub unflushed : new.flushes ≡ old.flushes

-- How a run uses its writer. It never flushes. If it returns a status, the writer didn't fail, and each call moved at least one byte.
abbrev pub UsesWriter : Result ℕ RunFault → Device → Device → Type 0
UsesWriter (Ok status) old new = (new.failures ≡ old.failures) × (new.idle ≡ old.idle) × (new.flushes ≡ old.flushes)
UsesWriter (Err fault) old new = new.flushes ≡ old.flushes
