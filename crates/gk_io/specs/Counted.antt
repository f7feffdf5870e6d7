-- Readers and writers whose calls and failures are counted.
use Rattle.std.specs.Prelude.{◌≡◌, ◌<◌, ◌≤◌, ℕ, zero, suc, ◌+◌, ◌-◌, ◌^◌, min, List, [], ◌∷◌, length, take, Option, Result, Ok, Err}
use Rattle.std.specs.Io.KnownBytes.{Appends}

-- A reader or a writer whose calls are counted, and the counts: its calls of `read` and `write`, its calls of `flush`, its failures, and its calls of `read` and `write` that moved no byte.
pub record CountedValue (T : Type 0) : Type 0 where
  pub inner : T
  pub calls : ℕ
  pub flushes : ℕ
  pub failures : ℕ
  pub idle : ℕ

-- One more, up to the largest `u64`.
abbrev pub one_more : ℕ → ℕ
one_more n = min (n + 1) (2 ^ 64 - 1)

-- The count of failures is less than the largest `u64`, at which a count stays, so one more failure changes it.
abbrev pub FailuresCanRise : {T : Type 0} → CountedValue T → Type 0
FailuresCanRise c = c.failures < 2 ^ 64 - 1

-- The device was called once more.
abbrev pub IsCalledOnce : {T : Type 0} → CountedValue T → CountedValue T → Type 0
IsCalledOnce old new = new.calls ≡ one_more old.calls

-- The device wasn't flushed in between.
abbrev pub IsUnflushed : {T : Type 0} → CountedValue T → CountedValue T → Type 0
IsUnflushed old new = new.flushes ≡ old.flushes

-- No call of the device failed in between.
abbrev pub HasNotFailed : {T : Type 0} → CountedValue T → CountedValue T → Type 0
HasNotFailed old new = new.failures ≡ old.failures

-- One more call of the device failed.
abbrev pub HasFailedOnce : {T : Type 0} → CountedValue T → CountedValue T → Type 0
HasFailedOnce old new = new.failures ≡ one_more old.failures

-- Each call of `read` and `write` in between moved at least one byte.
abbrev pub IsNeverIdle : {T : Type 0} → CountedValue T → CountedValue T → Type 0
IsNeverIdle old new = new.idle ≡ old.idle

-- One call of `read` or `write` in between moved no byte, and each other call moved at least one.
abbrev pub IsIdleOnce : {T : Type 0} → CountedValue T → CountedValue T → Type 0
IsIdleOnce old new = new.idle ≡ one_more old.idle

-- The count of idle calls after a read or a write. The call moved no byte if it failed, or if it gave or took none, as it does for an empty piece.
abbrev pub counted_idle : {E : Type 0} → Result ℕ E → ℕ → ℕ
counted_idle (Ok zero) n = one_more n
counted_idle (Ok (suc k)) n = n
counted_idle (Err e) n = one_more n

-- The count of failures after a write. A write that took no byte of a nonempty piece counts as failed.
abbrev pub counted_write : {E : Type 0} → Result ℕ E → List ℕ → ℕ → ℕ
counted_write (Ok zero) [] n = n
counted_write (Ok zero) (b ∷ bs) n = one_more n
counted_write (Ok (suc k)) bs n = n
counted_write (Err e) bs n = one_more n

-- The count of failures after a read or a flush.
abbrev pub counted_failure : {T E : Type 0} → Result T E → ℕ → ℕ
counted_failure (Ok x) n = n
counted_failure (Err e) n = one_more n

-- A prefix of the bytes was written.
abbrev pub IsPrefixWritten : Option (List ℕ) → Option (List ℕ) → List ℕ → Type 0
IsPrefixWritten old new bytes = (n : ℕ) × (n ≤ length bytes) × Appends old new (take n bytes)
