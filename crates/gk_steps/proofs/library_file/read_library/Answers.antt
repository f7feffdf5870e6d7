use Rattle.gk_steps.proofs.Common.{◌∙◌, ap, map, Vec, lines, Global, numbered_from, Entry, entry_value}
use Rattle.gk_steps.proofs.LibraryFileLemmas.{file_only}
use Rattle.gk_steps.proofs.library_file.read_library.Goals as goal

pub returns-in_ok-read_entries-in-Ok-clause-only : goal.returns-in_ok-read_entries-in-Ok-clause-only
returns-in_ok-read_entries-in-Ok-clause-only c = λ entries text reads.
    ap (λ (v : Vec Entry Global). map entry_value v.items) c.built.ensures
    ∙ file_only c.args.bytes.now (numbered_from 1 (lines c.in-Ok.text.now)) (map entry_value c.in_ok-read_entries-in-Ok.field-0.entries.items) (ap (λ t. numbered_from 1 (lines t)) c.in-Ok.ensures.ok.1) c.in_ok-read_entries-in-Ok.ensures.found entries reads
