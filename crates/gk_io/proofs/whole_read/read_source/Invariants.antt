use Rattle.gk_io.proofs.Common.{◌≡◌, ◌≤◌, ◌+◌, ◌-◌, vec_len, Consumes, LONGEST_FILE}
use Rattle.gk_io.proofs.whole_read.read_source.Given as goal

abbrev pub invariant-loop-piece : goal.invariant-loop-piece
invariant-loop-piece g l = record {
  taken : Consumes (g.R.Read.remaining l.fn.reader.inner) (g.R.Read.remaining l.reader.inner) l.bytes.items;
  within : vec_len l.bytes ≤ LONGEST_FILE + 1;
  quiet : l.reader.failures ≡ l.fn.reader.failures;
  busy : l.reader.idle ≡ l.fn.reader.idle;
  calls : l.reader.calls ≤ l.fn.reader.calls + vec_len l.bytes;
}

abbrev pub decreases-loop-piece : goal.decreases-loop-piece
decreases-loop-piece g l = LONGEST_FILE + 1 - vec_len l.bytes
