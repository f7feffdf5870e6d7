use Rattle.gk_steps.proofs.Common.{◌≡◌, ◌≤◌, ℕ, List, length, refl, sym, subst, ◌∙◌, arith, common_steps, limit, lines_of, IsText, library_value, ReadsLibrary, default_text, default_entries}
use Rattle.gk_steps.proofs.DefaultFileLemmas.{default_reads, default_short}
use Rattle.gk_steps.proofs.LibraryFileLemmas.{one_reading}
use Rattle.gk_steps.proofs.default_file.default_library.Goals as goal

pub returns-in-Ok-clause-read : goal.returns-in-Ok-clause-read
unfolding default_text
returns-in-Ok-clause-read c = grind (arith, common_steps)

pub returns-in-Ok-clause-entries : goal.returns-in-Ok-clause-entries
unfolding default_text
returns-in-Ok-clause-entries c =
    let same : c.as_bytes.result.now ≡ default_text = c.as_bytes.ensures.value ∙ refl in
    one_reading (lines_of default_text) (library_value c.in-Ok.library) default_entries (subst (λ (t : List ℕ). ReadsLibrary (lines_of t) (library_value c.in-Ok.library)) same c.in-Ok.ensures.found.1) default_reads

pub as_alloc_error-requires : goal.as_alloc_error-requires
unfolding default_text
as_alloc_error-requires c =
    let same : c.as_bytes.result.now ≡ default_text = c.as_bytes.ensures.value ∙ refl in
    let is_text : IsText c.as_bytes.result.now = (subst (λ (t : List ℕ). length t ≤ limit) (sym same) default_short, c.as_bytes.ensures.utf8) in
    (c.in-Err.ensures.only default_entries is_text (subst (λ (t : List ℕ). ReadsLibrary (lines_of t) default_entries) (sym same) default_reads))
