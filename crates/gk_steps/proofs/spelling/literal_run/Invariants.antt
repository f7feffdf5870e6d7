use Rattle.gk_steps.proofs.Common.{◌≡◌, ◌≤◌, ◌++◌, length, flat_map, string_bytes, Utf8, shadow, spelled_literal, BeginsAtBrace}
use Rattle.gk_steps.proofs.spelling.literal_run.Given as goal

abbrev pub invariant-loop-brace : goal.invariant-loop-brace
invariant-loop-brace l = shadow (Utf8 l.rest) × (l.text ≡ flat_map spelled_literal (string_bytes l.literal) ++ l.rest) × BeginsAtBrace l.rest × (length l.rest ≤ length l.text)

abbrev pub decreases-loop-brace : goal.decreases-loop-brace
decreases-loop-brace l = length l.rest
