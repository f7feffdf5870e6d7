-- Entries of a library that nothing finds.
use Rattle.std.specs.Prelude.{not, ℕ, Bool, List, flat_map}
use Rattle.std.specs.List.{enumerate_from}
use Rattle.gk_steps.specs.Finding.{EntryValue, LibraryValue}
use Rattle.gk_lint.specs.declared.findings.FindingKind.TheVariants.{UnusedEntry}
use Rattle.gk_lint.specs.Findings.{FindingValue, found_if}
use Rattle.gk_lint.specs.NumberSets.{is_among}

-- The findings of entries: each that isn't used, at its line. The first of them has this position.
abbrev pub unused_from : ℕ → (ℕ → Bool) → LibraryValue → List FindingValue
unused_from position is_used entries = flat_map (λ (e : ℕ × EntryValue). found_if (not (is_used e.0)) e.1.line UnusedEntry) (enumerate_from position entries)

-- The findings of a library, given the positions of the entries that are used: each of its other entries, at its line.
abbrev pub unused_entries : List ℕ → LibraryValue → List FindingValue
unused_entries used library = unused_from 0 (is_among used) library
