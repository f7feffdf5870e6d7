use Rattle.std.proofs.Common.{◌≡◌, ◌++◌, drop, map, string_bytes}
use Rattle.gk_c.specs.Call.{listed}
use Rattle.gk_c.proofs.call.listed_names.Given as goal

-- the text so far and the names that are left are all of them
abbrev pub invariant-loop-name : goal.invariant-loop-name
invariant-loop-name l = l.text.items ++ listed (map string_bytes (drop l.name-index l.names)) ≡ listed (map string_bytes l.names)
