-- The events that are kept of an open section, and their lines.
use Rattle.std.specs.Prelude.{ℕ, List, [], ◌∷◌, ◌++◌, map, flat_map}
use Rattle.gk_steps.specs.Finding.{LibraryValue}
use Rattle.gk_run.specs.Events.{Event as RunEvent}
use Rattle.gk_explain.specs.declared.section_events.SectionEvents.{SectionEvents}
use Rattle.gk_explain.specs.EventLines.{NamesValue, KeptValue, kept_value, kept_of, event_lines}

-- What is kept of a section's events so far, in order.
abbrev pub SectionValue : Type 0
SectionValue = List KeptValue

-- The value of a `SectionEvents`.
abbrev pub section_value : SectionEvents → SectionValue
section_value section = map kept_value section.events.items

-- A section without events.
abbrev pub no_event : SectionValue
no_event = []

-- A section after one more event.
abbrev pub after_event : LibraryValue → RunEvent → SectionValue → SectionValue
after_event library event section = section ++ kept_of library event ∷ []

-- A section after more events, one after another.
abbrev pub after_events : LibraryValue → List RunEvent → SectionValue → SectionValue
after_events library events section = section ++ map (kept_of library) events

-- The lines of a section's events, in order.
abbrev pub section_lines : NamesValue → SectionValue → List ℕ
section_lines names section = flat_map (event_lines names) section
