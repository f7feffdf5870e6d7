-- What an event more of a section makes of an explanation.
use Rattle.gk_explain.proofs.Common.{◌≡◌, ◌∙◌, List, [], ap, refl, sym, subst, OnOk, Result, on_ok_weaker, StepValue, LibraryValue, State, Mark, Stage, Option, UseValue, CleanupValue, of_step, Level, event_details, level_of, SectionValue, after_event, ExplanationValue, with_event, with_section}
use Rattle.gk_run.specs.Events.{Event as RunEvent}
use Rattle.gk_run.specs.declared.section.Level.TheVariants as levels

pub in_run : (e : ExplanationValue) (level : Level) (change : SectionValue → SectionValue) (new : SectionValue) → level ≡ levels.Run → new ≡ change e.run → record e { run = new } ≡ with_section level change e
in_run e level change new is becomes = ap (λ (new : SectionValue). record e { run = new }) becomes ∙ ap (λ (level : Level). with_section level change e) (sym is)

pub in_feature : (e : ExplanationValue) (level : Level) (change : SectionValue → SectionValue) (new : SectionValue) → level ≡ levels.Feature → new ≡ change e.feature → record e { feature = new } ≡ with_section level change e
in_feature e level change new is becomes = ap (λ (new : SectionValue). record e { feature = new }) becomes ∙ ap (λ (level : Level). with_section level change e) (sym is)

pub in_rule : (e : ExplanationValue) (level : Level) (change : SectionValue → SectionValue) (new : SectionValue) → level ≡ levels.Rule → new ≡ change e.rule → record e { rule = new } ≡ with_section level change e
in_rule e level change new is becomes = ap (λ (new : SectionValue). record e { rule = new }) becomes ∙ ap (λ (level : Level). with_section level change e) (sym is)

pub in_scenario : (e : ExplanationValue) (level : Level) (change : SectionValue → SectionValue) (new : SectionValue) → level ≡ levels.Scenario → new ≡ change e.scenario → record e { scenario = new } ≡ with_section level change e
in_scenario e level change new is becomes = ap (λ (new : SectionValue). record e { scenario = new }) becomes ∙ ap (λ (level : Level). with_section level change e) (sym is)

pub added_by : {T E : Type 0} (result : Result T E) (e : ExplanationValue) (event : RunEvent) (old : SectionValue) (kept : LibraryValue) (new : SectionValue) (put : LibraryValue → ExplanationValue) → (new ≡ after_event e.library event old → put e.library ≡ with_event event e) → kept ≡ e.library → OnOk result (new ≡ after_event e.library event old) → OnOk result (put kept ≡ with_event event e)
added_by result e event old kept new put step stays said =
    subst (λ (library : LibraryValue). OnOk result (put library ≡ with_event event e)) (sym stays) (on_ok_weaker result step said)

pub run_added : {T E : Type 0} (result : Result T E) (e : ExplanationValue) (event : RunEvent) (kept : LibraryValue) (new : SectionValue) → level_of event ≡ levels.Run → kept ≡ e.library → OnOk result (new ≡ after_event e.library event e.run) → OnOk result (record e { library = kept; run = new } ≡ with_event event e)
run_added result e event kept new is = added_by result e event e.run kept new (λ library. record e { library = library; run = new }) (in_run e (level_of event) (after_event e.library event) new is)

pub feature_added : {T E : Type 0} (result : Result T E) (e : ExplanationValue) (event : RunEvent) (kept : LibraryValue) (new : SectionValue) → level_of event ≡ levels.Feature → kept ≡ e.library → OnOk result (new ≡ after_event e.library event e.feature) → OnOk result (record e { library = kept; feature = new } ≡ with_event event e)
feature_added result e event kept new is = added_by result e event e.feature kept new (λ library. record e { library = library; feature = new }) (in_feature e (level_of event) (after_event e.library event) new is)

pub rule_added : {T E : Type 0} (result : Result T E) (e : ExplanationValue) (event : RunEvent) (kept : LibraryValue) (new : SectionValue) → level_of event ≡ levels.Rule → kept ≡ e.library → OnOk result (new ≡ after_event e.library event e.rule) → OnOk result (record e { library = kept; rule = new } ≡ with_event event e)
rule_added result e event kept new is = added_by result e event e.rule kept new (λ library. record e { library = library; rule = new }) (in_rule e (level_of event) (after_event e.library event) new is)

pub scenario_added : {T E : Type 0} (result : Result T E) (e : ExplanationValue) (event : RunEvent) (kept : LibraryValue) (new : SectionValue) → level_of event ≡ levels.Scenario → kept ≡ e.library → OnOk result (new ≡ after_event e.library event e.scenario) → OnOk result (record e { library = kept; scenario = new } ≡ with_event event e)
scenario_added result e event kept new is = added_by result e event e.scenario kept new (λ library. record e { library = library; scenario = new }) (in_scenario e (level_of event) (after_event e.library event) new is)

-- What a step registered isn't said.
pub whatever_registered : (stage : Stage) (step : StepValue) (mark : Mark) (used : Option UseValue) (registered : List CleanupValue) (s : State) (e : ExplanationValue) → with_event (of_step stage step mark used [] s) e ≡ with_event (of_step stage step mark used registered s) e
unfolding event_details
whatever_registered stage step mark used registered s e = refl
