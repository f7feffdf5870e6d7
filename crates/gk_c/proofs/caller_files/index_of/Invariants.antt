use Rattle.std.proofs.Common.{◌≤◌, drop, length, map}
use Rattle.gk_c.specs.CallerFiles.{IsIndexOf, file_value}
use Rattle.gk_c.proofs.caller_files.index_of.Given as goal

-- the files from here on are indexed
abbrev pub invariant-files : goal.invariant-files
invariant-files l = record {
  within : l.left ≤ length l.files;
  indexed : IsIndexOf l.index (map file_value (drop l.left l.files));
}

abbrev pub decreases-files : goal.decreases-files
decreases-files l = l.left
