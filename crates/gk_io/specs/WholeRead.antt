-- Reading all bytes of a reader.
use Rattle.std.specs.Prelude.{◌≡◌, ◌≤◌, ℕ, List, length, drop, Option, Some, None, Result, Ok, Err, IsSomeAnd}
use Rattle.std.specs.Io.KnownBytes.{Consumes}
use Rattle.gk_io.specs.Counted.{one_more}
use Rattle.gk_io.specs.declared.whole_read.SourceFault.{SourceFault}
use Rattle.gk_io.specs.declared.whole_read.SourceFault.TheVariants.{Device, TooLong, Memory}

-- The reader had this many bytes and gave exactly these, if its bytes are known.
abbrev pub StopsAfter : ℕ → Option (List ℕ) → Option (List ℕ) → Type 0
StopsAfter n None rest = Unit {0}
StopsAfter n (Some bytes) rest = (n ≤ length bytes) × IsSomeAnd rest (λ left. left ≡ drop n bytes)

-- The reader gave at most this many bytes, if its bytes are known.
abbrev pub GivesAtMost : ℕ → Option (List ℕ) → Option (List ℕ) → Type 0
GivesAtMost n old new = (bytes : List ℕ) × (length bytes ≤ n) × Consumes old new bytes

-- The count of idle calls after a source was read, or couldn't be read whole. The call that finds the end and the one that fails move no byte, and each other call moves at least one.
abbrev pub idle_after : {T : Type 0} → Result T SourceFault → ℕ → ℕ
idle_after (Ok bytes) n = one_more n
idle_after (Err Device) n = one_more n
idle_after (Err TooLong) n = n
idle_after (Err Memory) n = n
