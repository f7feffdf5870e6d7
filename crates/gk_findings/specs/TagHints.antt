-- Hints on where a text of tags stops spelling a rule.
use Rattle.std.specs.Prelude.{ℕ, ◌==◌, List, ◌++◌, length, codes, Option, Some, None, if◌then◌else◌}
use Rattle.gk_select.specs.declared.select_fault.SelectFault.TheVariants.{BadTagText}
use Rattle.gk_select.specs.declared.tag_stops.Wanted.{Wanted}
use Rattle.gk_select.specs.declared.tag_stops.Wanted.TheVariants.{Operand, Operator, Close, Alternative}
use Rattle.gk_select.specs.TagStops.{StopValue}
use Rattle.gk_explain.specs.Shown.{shown}
use Rattle.gk_findings.specs.Hints.{select_hint}

-- What is expected at the point at which a text of tags stops spelling a tag rule.
unfoldable pub wanted_text : Wanted → List ℕ
wanted_text Operand = codes "\"not\", \"(\" or a tag such as @a"
wanted_text Operator = codes "\"and\" or \"or\""
wanted_text Close = codes "\")\""
wanted_text Alternative = codes "a tag such as @a or ~@a"

-- A word in quotes, or what an empty alternative is called.
abbrev pub word_text : List ℕ → List ℕ
word_text word = if length word == 0 then codes "an empty part" else codes "\"" ++ (shown word ++ codes "\"")

-- The place at which a text stops: a word or an alternative, or its end.
unfoldable pub stop_place_text : Option (List ℕ) → List ℕ
stop_place_text None = codes "its end"
stop_place_text (Some word) = word_text word

-- The hint for a text of tags that stops spelling a rule.
unfoldable pub stop_text : StopValue → List ℕ
stop_text stop = codes "it breaks at " ++ (stop_place_text stop.at ++ (codes ", where " ++ (wanted_text stop.wanted ++ codes " is expected")))

-- The hint for a text of tags that spells no rule.
abbrev pub tags_hint : Option StopValue → List ℕ
tags_hint None = select_hint BadTagText
tags_hint (Some stop) = stop_text stop
