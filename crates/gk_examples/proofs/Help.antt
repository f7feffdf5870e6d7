-- A text of one byte that is shown or is not, with each call worked out by hand.
use Rattle.std.proofs.Common.{refl, inl, inr, arith, ℕ, List, [], ◌∷◌, Some}
use Rattle.gk_cli.specs.Writing.{Device}
use Rattle.gk_program.specs.Program.{IsShown, IsTextFault}
use Rattle.gk_request.specs.declared.run_fault.RunFault.TheVariants.{Write}
use Rattle.gk_program.proofs.ProgramLemmas.{kept}

-- standard output by what it has taken, and its counts of calls, flushes, failures and idle calls
abbrev device : List ℕ → ℕ → ℕ → ℕ → ℕ → Device
device bytes calls flushes failures idle = record { bytes = Some bytes; calls = calls; flushes = flushes; failures = failures; idle = idle }

abbrev start : Device
start = device [] 0 0 0 0

abbrev a : List ℕ
a = 97 ∷ []

written_and_flushed : IsShown a start (device a 1 1 0 0) 0
written_and_flushed = record {
  written = device a 1 0 0 0;
  is = record { written = refl; calls = omega arith; busy = refl; quiet = refl; unflushed = refl };
  flushed = record { written = refl; calls = refl; idle = refl; flushes = refl };
  quiet = refl;
  well = refl;
}

not_written : IsTextFault a start (device [] 1 0 1 1) Write
not_written = inl record { written = (0, omega arith, refl); calls = omega arith; why = (refl, refl); unflushed = refl }

not_flushed : IsTextFault a start (device a 1 1 1 0) Write
not_flushed = inr record {
  written = device a 1 0 0 0;
  is = record { written = refl; calls = omega arith; busy = refl; quiet = refl; unflushed = refl };
  flushed = record { written = refl; calls = refl; idle = refl; flushes = refl };
  failed = refl;
}

-- a flush that failed before anything was written
not_flushed_first : IsTextFault a start (device [] 0 1 1 0) Write → ⊥
not_flushed_first (inl stopped) = let same = stopped.unflushed in cc
not_flushed_first (inr unflushed) = let same = kept (Some []) unflushed.written.bytes (Some []) a unflushed.is.written unflushed.flushed.written in cc

-- a flush before or after a write that failed
not_flushed_beside : IsTextFault a start (device [] 1 1 1 1) Write → ⊥
not_flushed_beside (inl stopped) = let same = stopped.unflushed in cc
not_flushed_beside (inr unflushed) = let idle = unflushed.flushed.idle in let busy = unflushed.is.busy in omega arith

-- a second write after a flush that failed
not_written_again : IsTextFault a start (device (97 ∷ 97 ∷ []) 2 1 1 0) Write → ⊥
not_written_again (inl stopped) = let same = stopped.unflushed in cc
not_written_again (inr unflushed) = let same = kept (Some []) unflushed.written.bytes (Some (97 ∷ 97 ∷ [])) a unflushed.is.written unflushed.flushed.written in cc
