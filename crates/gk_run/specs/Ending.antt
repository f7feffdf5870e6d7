-- How steps, hooks and cleanups end.
use Rattle.std.specs.Prelude.{Bool, true, false, cond, List, [], ◌∷◌, Option, Some, None}
use Rattle.std.specs.List.{list_any}
use Rattle.gk_run.specs.declared.results.Status.{Status}
use Rattle.gk_run.specs.declared.results.Status.TheVariants as statuses
use Rattle.gk_run.specs.declared.results.Reason.{Reason}
use Rattle.gk_run.specs.declared.results.Outcome.TheVariants as outcomes
use Rattle.gk_run.specs.declared.results.Mark.{Mark}
use Rattle.gk_run.specs.declared.results.Mark.TheVariants.{Acted, Undefined, Skipped, Untested}
use Rattle.gk_run.specs.declared.ending.Ending.{Ending}
use Rattle.gk_run.specs.declared.ending.Ending.TheVariants as endings

-- The status of a step with this mark. (behave's documentation: the statuses of steps)
abbrev pub status_of_mark : Mark → Status
status_of_mark (Acted outcomes.Passed) = statuses.Passed
status_of_mark (Acted (outcomes.Failed why)) = statuses.Failed
status_of_mark (Acted outcomes.Skip) = statuses.Skipped
status_of_mark (Acted outcomes.Memory) = statuses.Memory
status_of_mark Undefined = statuses.Undefined
status_of_mark Skipped = statuses.Skipped
status_of_mark Untested = statuses.Untested

-- The reason of a step that failed.
abbrev pub reason_of_mark : Mark → Option Reason
reason_of_mark (Acted (outcomes.Failed why)) = Some why
reason_of_mark _ = None

-- Whether a mark is that of a step or a cleanup that failed or is undefined.
abbrev pub is_failed_or_undefined : Mark → Bool
is_failed_or_undefined (Acted (outcomes.Failed why)) = true
is_failed_or_undefined Undefined = true
is_failed_or_undefined _ = false

-- Whether a mark is that of a step or a cleanup whose action skipped the scenario.
abbrev pub is_skip_mark : Mark → Bool
is_skip_mark (Acted outcomes.Skip) = true
is_skip_mark _ = false

-- Whether a mark is that of a step or a cleanup in which memory was refused.
abbrev pub is_memory_mark : Mark → Bool
is_memory_mark (Acted outcomes.Memory) = true
is_memory_mark _ = false

-- How steps, hooks and cleanups with these marks end. The first that applies: memory, if it was refused in one; failed, if one failed or is undefined; skipped, if one skipped the scenario. Otherwise passed. The marks `Skipped` and `Untested` have no effect.
abbrev pub ended_of : List Mark → Ending
ended_of marks =
    cond (list_any is_memory_mark marks) endings.Memory
    (cond (list_any is_failed_or_undefined marks) endings.Failed
    (cond (list_any is_skip_mark marks) endings.Skipped endings.Passed))

-- How one step or cleanup with this mark ends by itself.
abbrev pub ending_of : Mark → Ending
ending_of mark = ended_of (mark ∷ [])

-- Whether none failed, is undefined or skipped the scenario, and memory was refused in none.
abbrev pub has_passed : Ending → Bool
has_passed endings.Passed = true
has_passed _ = false

-- The verdict of a scenario whose hooks, steps and cleanups have this ending.
abbrev pub verdict_status : Ending → Status
verdict_status endings.Passed = statuses.Passed
verdict_status endings.Failed = statuses.Failed
verdict_status endings.Skipped = statuses.Skipped
verdict_status endings.Memory = statuses.Memory

-- The status of hooks and cleanups with this ending. A scenario may skip itself in its before hooks; these then passed.
abbrev pub around_status : Ending → Status
around_status endings.Skipped = statuses.Passed
around_status ended = verdict_status ended

-- Whether memory was refused.
abbrev pub is_memory_ending : Ending → Bool
is_memory_ending endings.Memory = true
is_memory_ending _ = false

-- The worse of two endings.
abbrev pub worse : Ending → Ending → Ending
worse endings.Passed e = e
worse endings.Memory e = endings.Memory
worse endings.Failed endings.Memory = endings.Memory
worse endings.Failed _ = endings.Failed
worse endings.Skipped endings.Passed = endings.Skipped
worse endings.Skipped e = e
