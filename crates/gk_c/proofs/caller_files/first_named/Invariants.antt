use Rattle.std.proofs.Common.{◌≡◌, map, drop}
use Rattle.gk_c.specs.CallerFiles.{bytes_of, file_value}
use Rattle.gk_c.proofs.caller_files.first_named.Given as goal

-- the file is searched among those that are left
abbrev pub invariant-loop-file : goal.invariant-loop-file
invariant-loop-file l = bytes_of (map file_value (drop l.file-index l.files)) l.name ≡ bytes_of (map file_value l.files) l.name
