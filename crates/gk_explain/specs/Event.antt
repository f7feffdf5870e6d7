-- Events of a run, as an explainer receives them.
use Rattle.std.specs.Prelude.{[]}
use Rattle.gk_gherkin.specs.Feature.{step_value}
use Rattle.gk_world.specs.State.{state_of}
use Rattle.gk_run.specs.declared.section.Level.{Level}
use Rattle.gk_run.specs.Acting.{cleanup_value}
use Rattle.gk_run.specs.Events.{Event as RunEvent, of_step, of_cleanup, used_in}
use Rattle.gk_explain.specs.declared.event.CleanupEvent.{CleanupEvent}
use Rattle.gk_explain.specs.declared.event.Event.{Event}
use Rattle.gk_explain.specs.declared.event.Event.TheVariants.{Step, Cleanup}
use Rattle.gk_explain.specs.declared.event.StepEvent.{StepEvent}

-- Proof machinery: the value of a `StepEvent`, which has no cleanups, whatever the step registered.
abbrev pub step_event : StepEvent → RunEvent
step_event e = of_step e.stage (step_value e.step.now) e.done.now.mark (used_in e.done.now) [] (state_of e.sandbox.now.now)

-- Proof machinery: the value of a `CleanupEvent`.
abbrev pub cleanup_event : CleanupEvent → RunEvent
cleanup_event e = of_cleanup e.level (cleanup_value e.cleanup.now) e.outcome (state_of e.sandbox.now.now)

-- Proof machinery: the value of an `Event`.
abbrev pub event_value : Event → RunEvent
event_value (Step e) = step_event e
event_value (Cleanup e) = cleanup_event e

-- The level of the section that an event belongs to.
abbrev pub level_of : RunEvent → Level
level_of (of_step stage step mark used registered s) = stage.level
level_of (of_cleanup level cleanup outcome s) = level
