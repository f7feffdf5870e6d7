use Rattle.gk_explain.proofs.Common.{◌≡◌, ◌++◌, map, flat_map, drop, string_bytes, names_value, event_lines, kept_value}
use Rattle.gk_explain.proofs.section_events.SectionEvents.push_lines.Given as goal

abbrev pub invariant-loop-event : goal.invariant-loop-event
invariant-loop-event l = string_bytes l.out ++ flat_map (event_lines (names_value l.names)) (map kept_value (drop l.event-index l.self.events.items)) ≡ string_bytes l.initial.out ++ flat_map (event_lines (names_value l.names)) (map kept_value l.self.events.items)
