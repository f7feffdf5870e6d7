use Rattle.gk_gherkin.proofs.Common.{◌≡◌, ◌++◌, length, Utf8, shadow, string_bytes, fences_read}
use Rattle.gk_gherkin.proofs.doc_strings.with_fences.Given as goal

abbrev pub invariant-fences : goal.invariant-fences
invariant-fences l = shadow (Utf8 l.rest) × (string_bytes l.text ++ fences_read l.fence 0 l.rest ≡ string_bytes l.fn.text ++ fences_read l.fence 0 l.fn.rest)

abbrev pub decreases-fences : goal.decreases-fences
decreases-fences l = length l.rest
