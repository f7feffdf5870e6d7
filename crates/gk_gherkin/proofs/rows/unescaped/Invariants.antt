use Rattle.gk_gherkin.proofs.Common.{◌≡◌, ◌++◌, length, Utf8, shadow, string_bytes, unescaped}
use Rattle.gk_gherkin.proofs.rows.unescaped.Given as goal

abbrev pub invariant-escapes : goal.invariant-escapes
invariant-escapes l = shadow (Utf8 l.rest) × (string_bytes l.cell ++ unescaped l.rest ≡ unescaped l.part)

abbrev pub decreases-escapes : goal.decreases-escapes
decreases-escapes l = length l.rest
