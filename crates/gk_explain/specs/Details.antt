-- Details below an event that failed: what its reason means there.
use Rattle.std.specs.Prelude.{ℕ, ℤ, List, [], ◌++◌, Option, Some, None, unwrap_or, codes, length}
use Rattle.std.specs.Fmt.{decimal, signed_decimal}
use Rattle.gk_gherkin.specs.Feature.{StepValue}
use Rattle.gk_steps.specs.declared.action.Action.{Action}
use Rattle.gk_steps.specs.declared.action.Action.TheVariants as actions
use Rattle.gk_steps.specs.declared.action.ActsOn.{ActsOn}
use Rattle.gk_steps.specs.declared.action.ActsOn.TheVariants.{File, Variable, Value}
use Rattle.gk_steps.specs.Action.{row_of}
use Rattle.gk_steps.specs.Finding.{LibraryValue}
use Rattle.gk_world.specs.State.{State, see}
use Rattle.gk_world.specs.Refusals.{joined}
use Rattle.gk_run.specs.declared.results.Mark.{Mark}
use Rattle.gk_run.specs.declared.results.Mark.TheVariants.{Acted, Undefined}
use Rattle.gk_run.specs.declared.results.Outcome.{Outcome}
use Rattle.gk_run.specs.declared.results.Outcome.TheVariants.{Failed}
use Rattle.gk_run.specs.declared.results.Reason.{Reason}
use Rattle.gk_run.specs.declared.results.Reason.TheVariants as reasons
use Rattle.gk_run.specs.Acting.{ArgumentsValue, UseValue, use_of}
use Rattle.gk_run.specs.Events.{Event as RunEvent, of_step, of_cleanup}
use Rattle.gk_report.specs.ReportTexts.{line_feed}
use Rattle.gk_explain.specs.declared.differences.Position.{Position}
use Rattle.gk_explain.specs.Differences.{first_difference}
use Rattle.gk_explain.specs.Nearest.{nearest_text}
use Rattle.gk_explain.specs.Shown.{shown, marked_text, marked_text_with}
use Rattle.gk_explain.specs.Tables.{other_table, refused_file}

-- The text of a file or a variable, or the value that is seen, under a name.
abbrev pub held : ActsOn → State → List ℕ → Option (List ℕ)
held File s name = s.files name
held Variable s name = s.env name
held Value s name = see s name

-- The text that an action finds under the name that it is given; it is empty if there is none.
abbrev pub found_text : Action → ArgumentsValue → State → List ℕ
found_text action g s = unwrap_or (held (row_of action).acts_on s g.name) []

-- The lines of an expected text.
abbrev pub expected_text : List ℕ → List ℕ
expected_text text = marked_text (codes "expected") text

-- The lines of a found text.
abbrev pub found_below : List ℕ → List ℕ
found_below text = marked_text (codes "found   ") text

-- The line with the position at which two texts first differ.
unfoldable pub difference_line : Position → List ℕ
difference_line p = codes "      first difference: line " ++ (decimal p.line ++ (codes ", column " ++ (decimal p.column ++ line_feed)))

-- The line with an expected number.
unfoldable pub expected_number : ℤ → List ℕ
expected_number n = codes "      expected " ++ (signed_decimal n ++ line_feed)

-- An expected text and a found text.
unfoldable pub both : List ℕ → List ℕ → List ℕ
both expected there = expected_text expected ++ found_below there

-- Both texts, each with the line in which they first differ among its shown lines and with lines cut around the column at which they first differ, and that position.
unfoldable pub compared : List ℕ → List ℕ → List ℕ
compared expected there = let p = first_difference expected there in marked_text_with (codes "expected") p expected ++ (marked_text_with (codes "found   ") p there ++ difference_line p)

-- A text that was expected in another text, and that other text.
unfoldable pub lacking : List ℕ → List ℕ → List ℕ
lacking expected there = both expected there ++ codes "      the found text doesn't contain the expected text\n"

-- An expected number, and the text of the found value.
unfoldable pub unequal : ℤ → List ℕ → List ℕ
unequal expected there = expected_number expected ++ found_below there

-- What an action expected and what it found instead.
abbrev pub difference : Action → ArgumentsValue → List ℕ → List ℕ
difference actions.FileContains g there = lacking (unwrap_or g.text []) there
difference actions.NumberIs g there = unequal g.number there
difference action g there = compared (unwrap_or g.text []) there

-- The word for what an action acts on.
abbrev pub word_of : ActsOn → List ℕ
word_of File = codes "file"
word_of Variable = codes "variable"
word_of Value = codes "value"

-- The line that says that nothing exists under a name.
unfoldable pub absent_line : ActsOn → List ℕ → List ℕ
absent_line acts_on name = codes "      there is no " ++ (word_of acts_on ++ (codes " \"" ++ (shown name ++ codes "\"\n")))

-- The line with a number that is to be added.
unfoldable pub added_number : ℤ → List ℕ
added_number n = codes "      to be added: " ++ (signed_decimal n ++ line_feed)

-- The text of a value, and the number that can't be added to it.
unfoldable pub sum_out_of_range : List ℕ → ℤ → List ℕ
sum_out_of_range there n = found_below there ++ added_number n

-- The text of a value that is set only in an outer layer.
unfoldable pub in_outer_layer : List ℕ → List ℕ
in_outer_layer there = found_below there ++ codes "      only an outer layer has set it\n"

-- The name that an action gives to what it changes: the new name of a file that is renamed, and for a table of files the name of the file at which it ends.
abbrev pub given_name : Action → ArgumentsValue → List ℕ
given_name actions.RenameFile g = g.to
given_name actions.WriteFiles g = (refused_file g.block).0
given_name action g = g.name

-- The line with the number of bytes of a bad name.
unfoldable pub name_length : ℕ → List ℕ
name_length count = codes "      the name has " ++ (decimal count ++ codes " bytes; 1 to 255 are allowed\n")

-- The text that an action gives to what it changes: the whole text of a file that is extended, and for a table of files the text of the file at which it ends.
abbrev pub new_text : Action → ArgumentsValue → State → List ℕ
new_text actions.AppendFile g s = joined s.files g.name (unwrap_or g.text [])
new_text actions.WriteFiles g s = (refused_file g.block).1
new_text action g s = unwrap_or g.text []

-- The line with the number of bytes of a text that is too long.
unfoldable pub text_length : ℕ → List ℕ
text_length count = codes "      the text has " ++ (decimal count ++ codes " bytes; at most 1048576 are allowed\n")

-- What a reason means for the given arguments of an action at a state. If the text of a step that is to be run at the end finds no entry, the one that may be meant is named.
abbrev pub reason_details : LibraryValue → Action → ArgumentsValue → Reason → State → List ℕ
reason_details library action g reasons.Differs s = difference action g (found_text action g s)
reason_details library action g reasons.Absent s = absent_line (row_of action).acts_on g.name
reason_details library action g reasons.Present s = found_below (found_text action g s)
reason_details library action g reasons.NotNumber s = found_below (found_text action g s)
reason_details library action g reasons.OutOfRange s = sum_out_of_range (found_text action g s) g.number
reason_details library action g reasons.OtherLayer s = in_outer_layer (found_text action g s)
reason_details library action g reasons.BadTable s = other_table g.block
reason_details library action g reasons.BadName s = name_length (length (given_name action g))
reason_details library action g reasons.TextTooLong s = text_length (length (new_text action g s))
reason_details library action g reasons.NoStep s = nearest_text library g.step
reason_details library action g _ s = []

-- What a reason means for an action that was carried out.
abbrev pub details : LibraryValue → UseValue → Reason → State → List ℕ
details library used why s = reason_details library used.action used.arguments why s

-- What an outcome means for an action that was carried out.
abbrev pub outcome_details : LibraryValue → UseValue → Outcome → State → List ℕ
outcome_details library used (Failed why) s = details library used why s
outcome_details library used outcome s = []

-- The same for an action, if one was carried out.
abbrev pub details_if_used : LibraryValue → Option UseValue → Outcome → State → List ℕ
details_if_used library None outcome s = []
details_if_used library (Some used) outcome s = outcome_details library used outcome s

-- What a step's mark means. For an undefined step, the entry that may be meant is named.
abbrev pub mark_details : LibraryValue → StepValue → Mark → Option UseValue → State → List ℕ
mark_details library step (Acted outcome) used s = details_if_used library used outcome s
mark_details library step Undefined used s = nearest_text library step.text
mark_details library step mark used s = []

-- The text below the line of an event. The state is the one that the event left. A check, or a change that is refused, leaves what it found.
unfoldable pub event_details : LibraryValue → RunEvent → List ℕ
event_details library (of_step stage step mark used registered s) = mark_details library step mark used s
event_details library (of_cleanup level cleanup outcome s) = outcome_details library (use_of library cleanup.found cleanup.block) outcome s
