-- The names from elsewhere that the proofs of this crate cite, passed on from one place. Declares nothing.
pub use Rattle.std.proofs.Common.{List, None, Option, Some, arith, drop, length, length-append, rules, subst, sym, take, vec_len, ℕ, ◌++◌, ◌+◌, ◌-◌, ◌≡◌, ◌≤◌}
pub use Rattle.std.proofs.KnownBytes.{Appends-trans, Consumes-trans}
pub use Rattle.std.proofs.Math.Seq.{take-add}
pub use Rattle.std.proofs.lemmas.Grind.{common_steps}
pub use Rattle.std.proofs.lemmas.List.{length-take}
pub use Rattle.std.specs.Io.KnownBytes.{Appends, Consumes}
pub use Rattle.gk_gherkin.specs.declared.lines.TheConstants.{LONGEST_FILE}
pub use Rattle.gk_io.specs.WholeRead.{GivesAtMost, StopsAfter}
