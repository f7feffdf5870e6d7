-- The events of a section, and the point at which refused memory cuts it.
use Rattle.std.specs.Prelude.{zero, suc, Bool, true, false, cond, List, [], ◌∷◌, ◌++◌, ℕ}
use Rattle.gk_world.specs.State.{State}
use Rattle.gk_run.specs.declared.acting.Site.{Site}
use Rattle.gk_run.specs.declared.acting.Site.TheVariants as sites
use Rattle.gk_run.specs.declared.results.Status.{Status}
use Rattle.gk_run.specs.declared.section.Level.{Level}
use Rattle.gk_run.specs.declared.section.Level.TheVariants as levels
use Rattle.gk_run.specs.declared.section.Part.{Part}
use Rattle.gk_run.specs.declared.section.Part.TheVariants as parts
use Rattle.gk_run.specs.declared.section.Stage.{Stage}
use Rattle.gk_run.specs.Ending.{has_passed, around_status}
use Rattle.gk_run.specs.Events.{Event, cut_at, ended_in}

-- The site of the steps of a before hook. They may skip only in a scenario's before hook. (behave's documentation: skipping scenarios)
abbrev pub before_site : Level → Site
before_site levels.Scenario = sites.CaseHook
before_site _ = sites.Hook

-- The site of the steps in a part of a section.
abbrev pub site_in : Level → Part → Site
site_in level parts.Before = before_site level
site_in level parts.Steps = sites.Step
site_in level parts.After = sites.Hook

-- The site of the steps at a stage.
abbrev pub site_of : Stage → Site
site_of stage = site_in stage.level stage.part

-- The stage of the steps of a section's before list.
abbrev pub before_of : Level → Stage
before_of level = record { level = level; part = parts.Before }

-- The stage of the steps of a case.
abbrev pub steps_of_case : Stage
steps_of_case = record { level = levels.Scenario; part = parts.Steps }

-- The stage of the steps of after hooks.
abbrev pub after_of : Level → Stage
after_of level = record { level = level; part = parts.After }

-- The events of a section, in four parts: the steps of its before list; those of the scenario, in a scenario's section; those of its after lists; its cleanups.
pub record Events : Type 0 where
  pub before : List Event
  pub steps : List Event
  pub after : List Event
  pub cleanups : List Event

-- The four parts, one after another.
abbrev pub in_order : Events → List Event
in_order e = e.before ++ (e.steps ++ (e.after ++ e.cleanups))

-- The point at which refused memory cuts a section: at none of its events, or at event n of one of its parts, counted from 0. That event leaves this state.
pub data Cut : Type 0 where
  nowhere : Cut
  in_before : ℕ → State → Cut
  in_steps : ℕ → State → Cut
  in_after : ℕ → State → Cut
  in_cleanups : ℕ → State → Cut

-- Whether there is an event with this number.
abbrev pub has_event : ℕ → List Event → Bool
has_event n [] = false
has_event zero (event ∷ events) = true
has_event (suc n) (event ∷ events) = has_event n events

-- The events of a section that is cut. The parts before the cut stay, and those after it didn't happen. A cut at an event that doesn't exist has no effect.
abbrev pub happened : Cut → Events → Events
happened nowhere e = e
happened (in_before n s) e = cond (has_event n e.before) (record { before = cut_at n s e.before; steps = []; after = []; cleanups = [] }) e
happened (in_steps n s) e = cond (has_event n e.steps) (record e { steps = cut_at n s e.steps; after = []; cleanups = [] }) e
happened (in_after n s) e = cond (has_event n e.after) (record e { after = cut_at n s e.after; cleanups = [] }) e
happened (in_cleanups n s) e = cond (has_event n e.cleanups) (record e { cleanups = cut_at n s e.cleanups }) e

-- The events of a section's hooks and cleanups.
abbrev pub around_events : Events → List Event
around_events e = e.before ++ (e.after ++ e.cleanups)

-- How a section's hooks and cleanups ended: memory if memory was refused in one of them; otherwise failed if one failed or is undefined; otherwise passed.
abbrev pub around_of : Events → Status
around_of e = around_status (ended_in (around_events e))

-- Whether the before list of a section passed whole.
abbrev pub before_passed : Events → Bool
before_passed e = has_passed (ended_in e.before)
