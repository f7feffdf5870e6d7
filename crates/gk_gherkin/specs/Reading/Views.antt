-- Proof machinery: the value of the code's open doc string. No public contract cites it.
use Rattle.std.specs.Prelude.{◌≡◌, Option, Some, option_map}
use Rattle.std.specs.String.{string_bytes}
use Rattle.gk_gherkin.specs.declared.doc_strings.DocString.{DocString}
use Rattle.gk_gherkin.specs.Reading as spec

-- The value of a `DocString`.
abbrev pub text_value : DocString → spec.DocStringValue
text_value t = record { fence = t.fence; column = t.column; line = t.line; content = option_map string_bytes t.content }

-- The state with this doc string open, or with none.
abbrev pub state_value : {P : Type 0} → P → Option DocString → spec.State P
state_value reader text = spec.state_of reader (option_map text_value text)

-- If a doc string was open, the state is now the reader after it.
abbrev pub EndsText : {P A : Type 0} → spec.Readers P A → P → Option DocString → P → Option DocString → Type 0
EndsText readers old text new next = (it : spec.DocStringValue) → option_map text_value text ≡ Some it → state_value new next ≡ spec.Outside (readers.after_text old (spec.whole_text it.content))
