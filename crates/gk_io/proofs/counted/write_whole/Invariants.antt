use Rattle.gk_io.proofs.Common.{◌≡◌, ◌≤◌, ◌+◌, ◌-◌, length, take, Appends}
use Rattle.gk_io.proofs.counted.write_whole.Given as goal

abbrev pub invariant-loop-done : goal.invariant-loop-done
invariant-loop-done g l = record {
  within : l.done ≤ length l.bytes;
  written : Appends (g.W.Write.contents l.fn.out.inner) (g.W.Write.contents l.out.inner) (take l.done l.bytes);
  quiet : l.out.failures ≡ l.fn.out.failures;
  calls : l.out.calls ≤ l.fn.out.calls + l.done;
  busy : l.out.idle ≡ l.fn.out.idle;
  unflushed : l.out.flushes ≡ l.fn.out.flushes;
}

abbrev pub decreases-loop-done : goal.decreases-loop-done
decreases-loop-done g l = length l.bytes - l.done
