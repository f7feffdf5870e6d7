-- What the author of an undefined step may have meant.
use Rattle.std.specs.Prelude.{ℕ, List, Option, Some, None, option_and_then, slice_get, take}
use Rattle.std.specs.Option.{option_or}
use Rattle.gk_gherkin.specs.declared.feature.StepType.TheVariants as types
use Rattle.gk_steps.specs.Finding.{EntryValue, LibraryValue, FoundValue, found}
use Rattle.gk_lint.specs.Findings.{HintValue, OtherType}
use Rattle.gk_lint.specs.NearestEntry.{compared, nearest_of, words_of}

-- What a text finds as a step of the first type as which it finds an entry.
abbrev pub found_as_any_type : LibraryValue → List ℕ → Option FoundValue
found_as_any_type library text = option_or (found library types.Given text) (option_or (found library types.When text) (found library types.Then text))

-- The entry of what was found.
abbrev pub entry_of : LibraryValue → Option FoundValue → Option EntryValue
entry_of library f = option_and_then (λ (f : FoundValue). slice_get library f.entry) f

-- The hint for an entry for steps of another type, and otherwise another hint.
abbrev pub other_type_or : Option EntryValue → HintValue → HintValue
other_type_or None other = other
other_type_or (Some e) other = OtherType e

-- What the author of an undefined step with this text may have meant: the entry that it finds as a step of another type, and otherwise the nearest of those that it is compared with. (behave's documentation: step implementations)
abbrev pub entry_hint : LibraryValue → List ℕ → HintValue
entry_hint library text = other_type_or (entry_of library (found_as_any_type library text)) (nearest_of (words_of text) (take compared library))
