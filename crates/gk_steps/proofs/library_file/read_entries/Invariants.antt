use Rattle.gk_steps.proofs.Common.{◌≡◌, ◌+◌, length, map, take, lines, numbered_from, entry_value, IsIndexOf, ReadsLibrary}
use Rattle.gk_steps.proofs.library_file.read_entries.Given as goal

abbrev pub invariant-loop-part : goal.invariant-loop-part
invariant-loop-part l = record {
  so_far : ReadsLibrary (take (length l.yielded) (numbered_from 1 (lines l.text))) (map entry_value l.builder.entries.items);
  indexed : IsIndexOf l.builder.index l.builder.entries.items;
  counted : l.number ≡ 1 + length l.yielded;
}
