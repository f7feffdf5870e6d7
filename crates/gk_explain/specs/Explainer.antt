-- The effect of what an explainer receives.
use Rattle.std.specs.Prelude.{◌≡◌, ◌≤◌, ℕ, Bool, false, List, length}
use Rattle.gk_select.specs.Case.{CaseValue}
use Rattle.gk_world.specs.State.{State}
use Rattle.gk_run.specs.declared.results.Status.{Status}
use Rattle.gk_run.specs.Running.{is_failed_or_memory, NotifiesCase, alone, reached_row}
use Rattle.gk_run.specs.Results.{CaseRow}
use Rattle.gk_run.specs.OpenSection.{Run}
use Rattle.gk_run.specs.Events.{Event as RunEvent, Ended, of_case, of_rule}
use Rattle.gk_run.specs.Section.{Cut, happened, in_order}
use Rattle.gk_explain.specs.declared.explainer.Explainer.{Explainer}
use Rattle.gk_explain.specs.SectionEvents.{SectionValue, no_event, after_events, section_lines}
use Rattle.gk_explain.specs.Explanation.{ExplanationValue, explanation_value, name_room, with_event, with_ended, with_case_of}

-- Whether a growth was refused to an explainer.
abbrev pub is_cut : Explainer → Bool
is_cut e = e.cut

-- What an explainer has said so far.
abbrev pub said : Explainer → ExplanationValue
said e = explanation_value e.explanation

-- If an explainer isn't cut now, it wasn't cut before, and what it says is this change of what it said.
abbrev pub Becomes : Explainer → (ExplanationValue → ExplanationValue) → Explainer → Type 0
Becomes old change new = is_cut new ≡ false → (is_cut old ≡ false) × (said new ≡ change (said old))

-- An explainer received an event.
abbrev pub Hears : Explainer → RunEvent → Explainer → Type 0
Hears old event new = Becomes old (with_event event) new

-- An end that neither failed nor was refused memory cuts no explainer: memory is asked for only if there is something to explain.
abbrev pub IsCutOnlyByFailure : Status → Explainer → Explainer → Type 0
IsCutOnlyByFailure status old new = is_failed_or_memory status ≡ false → is_cut new ≡ is_cut old

-- A feature whose file's name fits the room that is kept for it cuts no explainer: memory is asked for only if the name is longer.
abbrev pub IsCutOnlyByLongName : List ℕ → Explainer → Explainer → Type 0
IsCutOnlyByLongName source old new = length source ≤ name_room old.explanation → is_cut new ≡ is_cut old

-- The status with which a scenario, or the hooks and cleanups of a rule, ended.
abbrev pub ended_status : Ended → Status
ended_status (of_case index c) = c.status
ended_status (of_rule r) = r.around

-- An explainer received that a scenario or a rule has ended.
abbrev pub HearsEnd : Explainer → Ended → Explainer → Type 0
HearsEnd old ended new = Becomes old (with_ended ended) new × IsCutOnlyByFailure (ended_status ended) old new

-- What is kept of a case after its events, in order, with these cut at one of them.
abbrev pub kept_of_case : Explainer → Run → State → CaseValue → Cut → SectionValue
kept_of_case e run section c cut = after_events (said e).library (in_order (happened cut (alone run section c))) no_event

-- A case is explained by an explainer that received it, kept nothing of a scenario before and isn't cut now. It says what it said before and, if the case's result failed or was refused memory, the explanation of this case by the lines of all its events.
abbrev pub CasesAreExplained : Type 0
CasesAreExplained = (run : Run) (section : State) (index : ℕ) (c : CaseValue) (row : CaseRow) (old new : Explainer) →
    NotifiesCase Hears HearsEnd run section index c row old new → is_cut new ≡ false → (said old).scenario ≡ no_event →
    (cut : Cut) × (row ≡ reached_row run section cut c)
    × (is_cut old ≡ false) × (said new ≡ with_case_of (section_lines (said old).names (kept_of_case old run section c cut)) index row (said old))
