-- Files whose lines end with CR alone, so that they are read as one line.
use Rattle.std.specs.Prelude.{ℕ, Bool, ◌==◌, ◌&&◌, List, length}
use Rattle.std.specs.List.{list_any}
use Rattle.gk_lint.specs.declared.findings.FindingKind.TheVariants.{CrAlone}
use Rattle.gk_lint.specs.Findings.{FindingValue, found_if}

-- Whether a text has a carriage return.
abbrev pub has_cr : List ℕ → Bool
has_cr text = list_any (λ b. b == 13) text

-- The findings of lines: that they are one line with a carriage return, at line 1. The intended lines end with CR, which ends no line.
abbrev pub cr_alone : List (List ℕ) → List FindingValue
cr_alone lines = found_if ((length lines == 1) && list_any has_cr lines) 1 CrAlone
