-- The sources of a run.
use Rattle.std.specs.Prelude.{ℕ, List, string_bytes}
use Rattle.gk_request.specs.declared.source.Source.{Source}

-- A source: its name and its bytes.
pub record SourceValue : Type 0 where
  pub name : List ℕ
  pub bytes : List ℕ

-- The value of a `Source`.
abbrev pub source_value : Source → SourceValue
source_value s = record { name = string_bytes s.name; bytes = s.bytes.items }
