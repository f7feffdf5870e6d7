-- The place at which a text stops spelling a tag rule.
use Rattle.std.specs.Prelude.{ℕ, ◌+◌, ◌-◌, ◌==◌, true, false, List, [], ◌∷◌, Option, Some, None, option_map, is_some, find, not, if◌then◌else◌}
use Rattle.std.specs.List.{list_any}
use Rattle.gk_select.specs.Alternatives.{alternative, pieces}
use Rattle.gk_select.specs.TagWords.{WordValue, open_word, close_word, not_word, and_word, or_word, tag_word, is_of_new_form, words_of_text, word_said}
use Rattle.gk_select.specs.declared.tag_stops.TagPlace.{TagPlace}
use Rattle.gk_select.specs.declared.tag_stops.TagStop.{TagStop}
use Rattle.gk_select.specs.declared.tag_stops.Wanted.{Wanted}
use Rattle.gk_select.specs.declared.tag_stops.Wanted.TheVariants.{Operand, Operator, Close, Alternative}

-- A place at which a text stops: the word or the alternative that isn't allowed there, or the end, and what is.
pub record StopValue : Type 0 where
  pub at : Option (List ℕ)
  pub wanted : Wanted

-- The value of a `TagStop`.
abbrev pub stop_value : TagStop → StopValue
stop_value stop = record { at = option_map (λ text. text.now) stop.at; wanted = stop.wanted }

-- The place before the first word of an expression: an operand is wanted, and no group is open.
abbrev pub first_place : TagPlace
first_place = record { operand = true; groups = 0 }

-- The place after a word where an operand is wanted: it is a tag, or one comes after `not` or `(`. (Cucumber's tag expressions)
abbrev pub after_operand : ℕ → Option WordValue → Option TagPlace
after_operand groups (Some open_word) = Some (record { operand = true; groups = groups + 1 })
after_operand groups (Some not_word) = Some (record { operand = true; groups = groups })
after_operand groups (Some (tag_word tag)) = Some (record { operand = false; groups = groups })
after_operand groups word = None

-- The place after a word that follows an operand: `and`, `or`, or the `)` of an open group. (Cucumber's tag expressions)
abbrev pub after_operator : ℕ → Option WordValue → Option TagPlace
after_operator groups (Some and_word) = Some (record { operand = true; groups = groups })
after_operator groups (Some or_word) = Some (record { operand = true; groups = groups })
after_operator groups (Some close_word) = if groups == 0 then None else Some (record { operand = false; groups = groups - 1 })
after_operator groups word = None

-- The place after a word, if the word is allowed at this place.
abbrev pub place_after : TagPlace → Option WordValue → Option TagPlace
place_after place word = if place.operand then after_operand place.groups word else after_operator place.groups word

-- What is expected at a place.
abbrev pub wanted_at : TagPlace → Wanted
wanted_at place = if place.operand then Operand else Operator

-- The stop of an expression that ends at this place, if it may not end here.
abbrev pub stop_at_end : TagPlace → Option StopValue
stop_at_end place =
    if place.operand then Some (record { at = None; wanted = Operand }) else
    (if place.groups == 0 then None else Some (record { at = None; wanted = Close }))

-- A stop, unless a place follows.
abbrev pub unless_after : StopValue → Option TagPlace → (TagPlace → Option StopValue) → Option StopValue
unless_after stop None go_on = Some stop
unless_after stop (Some place) go_on = go_on place

-- The stop in words that begin at this place: the first word that isn't allowed where it is, or the end.
abbrev pub stop_in : TagPlace → List (List ℕ) → Option StopValue
stop_in place [] = stop_at_end place
stop_in place (word ∷ words) = unless_after (record { at = Some word; wanted = wanted_at place }) (place_after place (word_said word)) (λ next. stop_in next words)

-- The stop in a text of alternatives: the first malformed one.
abbrev pub stop_in_pieces : List (List ℕ) → Option StopValue
stop_in_pieces texts = option_map (λ piece. record { at = Some piece; wanted = Alternative }) (find (λ piece. not (is_some (alternative piece))) texts)

-- The place at which a text stops spelling a tag rule, in either form; `None` also for one that is too deep. (behave's documentation: tag expressions; Cucumber's tag expressions)
abbrev pub tag_stop : List ℕ → Option StopValue
tag_stop text = if list_any is_of_new_form text then stop_in first_place (words_of_text text) else stop_in_pieces (pieces text)
