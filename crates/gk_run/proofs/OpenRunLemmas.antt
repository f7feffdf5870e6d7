-- A whole run, and one that isn't finished.
use Rattle.gk_run.proofs.Common.{Bool, List, [], ap, false, not, refl, sym, true, ◌&&◌, ◌++◌, ◌∙◌, ◌∷◌, ◌≡◌, ◌||◌, arith, common_steps, State, state_of, Status, Run, run_of, section_events, section_state, HookFile, Library, ChosenValue, has_passed, is_memory_ending, ended_in, section_now, result_of, first_or, without_first, stays_open, FeatureCuts, feature_of, features_of, uncut_feature, Cuts, results_of, FinishedRunsAreJudged, UnfinishedRunsAreJudged, opens_features, FeatureRow, Results, before_passed, happened}
use Rattle.gk_run.specs.declared.section.Level.TheVariants as levels
use Rattle.gk_run.proofs.JudgedLemmas.{cuts_of_all, results_by}
use Rattle.gk_run.proofs.SectionLemmas.{opened_cut, passed_state, ready}

-- before a feature has failed, a run is open if its before list passed whole
pub open_by : (passed stop : Bool) → (passed && not (stop && false)) ≡ passed
open_by true true = refl
open_by true false = refl
open_by false stop = refl

-- after a feature, a run is open if it was and doesn't stop at the feature
pub next_opens : (passed stop failed bad : Bool) → (passed && not (stop && (failed || bad))) ≡ ((passed && not (stop && failed)) && not (stop && bad))
next_opens false stop failed bad = refl
next_opens true false failed bad = refl
next_opens true true true bad = refl
next_opens true true false bad = refl

-- what is so of a run's feature is so by the run's own stop, and by whether it is open
pub run_so : (Is : Run → Bool → Type 0) (library : Library) (hooks : HookFile) (stop stops is_open opens : Bool) → stop ≡ stops → is_open ≡ opens → Is (run_of library hooks stop) is_open → Is (run_of library hooks stops) opens
run_so Is library hooks stop stops is_open opens by_stop by_open is = grind (arith, common_steps)

-- a run that was started, whose features were run, and that was finished
pub judged_all : FinishedRunsAreJudged
judged_all run old new suite features rows around started known_by last end =
    let start = state_of old.now in
    let outside = section_state run levels.Run [] start in
    let first = started.opened.first in
    let begins = started.opened.begins in
    let passed = started.opens in
    let known = known_by outside (λ o. passed_state run levels.Run [] start first suite.before (section_now new suite.cleanups) begins (sym passed ∙ o)) in
    let cuts : Cuts = record { own = end.cut; features = known.0 } in
    let with_features : List FeatureRow → Results = λ rs. record { features = rs; around = around } in
    let with_open : Bool → Results = λ x. record { features = result_of (features_of run outside x known.0 features); around = around } in
    let with_around : Status → Results = λ x. record { features = result_of (features_of run outside (before_passed (happened end.cut (section_events run levels.Run [] start))) known.0 features); around = x } in
    (cuts, ap with_features known.1 ∙ ap with_open (passed ∙ ready run levels.Run [] start around first last suite.before begins.ends end) ∙ ap with_around end.hooks ∙ ap (results_by run old.now cuts features) (sym started.runs))

features_begin : (run : Run) (outside : State) (is_open : Bool) (cuts : List FeatureCuts) (fs others : List ChosenValue) →
    (more : List FeatureRow) × (result_of (features_of run outside is_open (cuts_of_all cuts fs) (fs ++ others)) ≡ result_of (features_of run outside is_open cuts fs) ++ more)
features_begin run outside is_open cuts [] others = (result_of (features_of run outside is_open [] others), refl)
features_begin run outside is_open cuts (f ∷ fs) others =
    let row = result_of (feature_of run outside is_open (first_or uncut_feature cuts) f) in
    let rest = features_begin run outside (is_open && stays_open run row.status) (without_first cuts) fs others in
    (rest.0, ap (λ (rows : List FeatureRow). row ∷ rows) rest.1)

-- a run that was started, some of whose features were run
pub judged_so_far : UnfinishedRunsAreJudged
judged_so_far run old new suite features others rows started known_by =
    let start = state_of old.now in
    let outside = section_state run levels.Run [] start in
    let first = started.opened.first in
    let begins = started.opened.begins in
    let passed = started.opens in
    let known = known_by outside (λ o. passed_state run levels.Run [] start first suite.before (section_now new suite.cleanups) begins (sym passed ∙ o)) in
    let opened = opened_cut (section_events run levels.Run [] start) first (is_memory_ending suite.before) begins.so_far in
    let opens_so = ap has_passed begins.ends ∙ ap (λ es. has_passed (ended_in es)) opened.1 in
    let cuts : Cuts = record { own = opened.0; features = cuts_of_all known.0 features } in
    let rest = features_begin run outside (opens_features suite) known.0 features others in
    let features_by : Bool → List FeatureRow = λ x. (let r = results_by run old.now cuts (features ++ others) x in r.features) in (
      results_of run old.now cuts (features ++ others),
      rest.0,
      (cuts, refl),
      ap features_by started.runs
          ∙ ap (λ (x : Bool). result_of (features_of run outside x (cuts_of_all known.0 features) (features ++ others))) (sym (passed ∙ opens_so))
          ∙ rest.1
          ∙ ap (λ (rs : List FeatureRow). rs ++ rest.0) (sym known.1),
    )
