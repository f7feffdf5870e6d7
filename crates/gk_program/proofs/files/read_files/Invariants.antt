use Rattle.gk_program.proofs.Common.{◌≡◌, ◌++◌, length, map, string_bytes, into_iter_items, into_iter_len, source_value, AreRead, name_of}
use Rattle.gk_program.proofs.files.read_files.Given as goal

-- the sources so far and the names that are left have all the names
abbrev pub invariant-loop-name : goal.invariant-loop-name
invariant-loop-name g l = record {
  named : map name_of l.sources.items ++ map string_bytes (into_iter_items l.name-iterator) ≡ map string_bytes l.fn.names.items;
  read : AreRead g.S.System.reads l.fn.system (map source_value l.sources.items) l.system;
  counted : length (into_iter_items l.name-iterator) ≡ into_iter_len l.name-iterator;
}
