use Rattle.gk_cli.proofs.Common.{◌≡◌, ◌∷◌, [], ◌++◌, ◌∙◌, Bool, List, length, map, arith, ap, sym, subst, refl, AllByRecursion, into_iter_items, State, state_of, run_of, ChosenValue, chosen_value, IsFormed, stays_open_by, IsFeatureResult, AreFeatures, SuiteValue, opens_features, device_of, NotifiesOfFeature, WritesNext, StopsAtNext, IsNextResult, AreWrittenUpTo, stays, passed_on, common_steps}
use Rattle.gk_cli.proofs.SuiteLemmas.{nothing_in, and_left, kept_through, same_through}
use Rattle.gk_cli.proofs.FeatureLoopLemmas.{RowsSoFar, rows_first, rows_next, rows_last, RunProgress, progress_first, progress_next, progress_last, progress_stopped}
use Rattle.gk_cli.proofs.feature_loop.run_features.Goals as goal

pub loop-feature-init : goal.loop-feature-init
loop-feature-init g c =
    let here : into_iter_items c.into_iter-feature-iterator.result ≡ c.args.features.items = c.into_iter-feature-iterator.ensures.into_iter_gives.0 in
    let run = run_of c.args.library.now c.args.hooks.now.file.now c.args.suite.now.stop in
    let first = state_of c.args.sandbox.now.now in
    let was_open = opens_features c.args.suite.now in
    let notifies = NotifiesOfFeature g.R.Observer.hears g.R.Observer.ends g.R.Reporter.begins g.R.Reporter.adds run first in
    let all = map chosen_value c.args.features.items in
    let device = device_of g.W.Write.contents c.args.out.now in
    record {
      held = subst (λ (left : List ChosenValue). RunProgress notifies run first was_open all device c.args.counting.now left was_open device c.args.counting.now) (sym (ap (map chosen_value) here))
          (progress_first notifies (stays run) (RowsSoFar run first was_open) was_open all device c.args.counting.now (rows_first run first was_open));
      same = record { contents = refl; saved = refl; starts = refl; recorded = refl };
      kept = refl;
      earlier = λ h. h;
      formed = subst (AllByRecursion IsFormed) (sym here) c.requires.formed;
      counted = let l = c.into_iter-feature-iterator.ensures.into_iter_gives.1 in let v = c.args.features.ok.0 in let f = ap length here in omega arith;
    }

pub run_next-requires-clause-innermost : goal.run_next-requires-clause-innermost
run_next-requires-clause-innermost g c = ap (λ (s : SuiteValue). s.layer) c.loop-feature.invariant.kept ∙ c.requires.innermost ∙ ap length (sym c.loop-feature.invariant.same.saved)

pub run_next-requires-clause-formed : goal.run_next-requires-clause-formed
run_next-requires-clause-formed g c = grind (arith, common_steps)

pub loop-feature-preserved : goal.loop-feature-preserved
loop-feature-preserved g c =
    let held = c.loop-feature.invariant in
    let steps = c.in-Some.ensures.steps in
    let library = c.args.library.now in
    let hooks = c.args.hooks.now.file.now in
    let run = run_of library hooks c.args.suite.now.stop in
    let first = state_of c.args.sandbox.now.now in
    let was_open = opens_features c.args.suite.now in
    let is_open = opens_features c.loop-feature.suite in
    let still = opens_features c.run_next.new.suite in
    let this = chosen_value c.in-Some.feature in
    let left = map chosen_value (into_iter_items c.next.new.self) in
    let all = map chosen_value c.args.features.items in
    let notifies = NotifiesOfFeature g.R.Observer.hears g.R.Observer.ends g.R.Reporter.begins g.R.Reporter.adds in
    let old = device_of g.W.Write.contents c.args.out.now in
    let there = device_of g.W.Write.contents c.loop-feature.out in
    let new = device_of g.W.Write.contents c.run_next.new.out in
    let one : WritesNext (notifies run first) (IsNextResult run first is_open still this) is_open this there c.loop-feature.counting new c.run_next.new.counting =
    subst (λ (s : State). WritesNext (notifies run s) (IsNextResult run s is_open still this) is_open this there c.loop-feature.counting new c.run_next.new.counting) (ap state_of held.same.contents)
    (subst (λ (stop : Bool). WritesNext (notifies (run_of library hooks stop) (state_of c.loop-feature.sandbox.now)) (IsNextResult (run_of library hooks stop) (state_of c.loop-feature.sandbox.now) is_open still this) is_open this there c.loop-feature.counting new c.run_next.new.counting)
    (ap (λ (s : SuiteValue). s.stop) held.kept) c.in_ok-run_next.ensures.ok) in
    let before = subst (λ (ls : List ChosenValue). RunProgress (notifies run first) run first was_open all old c.args.counting.now ls is_open there c.loop-feature.counting) (ap (map chosen_value) steps.0) held.held in
    let formed : AllByRecursion IsFormed (c.in-Some.feature ∷ into_iter_items c.next.new.self) = subst (AllByRecursion IsFormed) steps.0 held.formed in
    record {
      held = progress_next (notifies run first) (stays run) (RowsSoFar run first was_open) (IsNextResult run first is_open still this) was_open all old c.args.counting.now this left is_open still there c.loop-feature.counting new c.run_next.new.counting
          (rows_next run first was_open is_open still this held.earlier) (λ row result. result.1) one before;
      same = same_through _ _ _ held.same c.run_next.ensures.same;
      kept = kept_through c.args.suite.now c.loop-feature.suite c.run_next.new.suite held.kept c.run_next.ensures.kept;
      earlier = λ h. held.earlier (and_left is_open (stays_open_by c.args.suite.now.stop one.row.status) (sym one.result.1 ∙ h));
      formed = formed.1;
      counted = let f = ap length steps.0 in omega arith;
    }

pub returns-in_err-run_next-clause-err : goal.returns-in_err-run_next-clause-err
returns-in_err-run_next-clause-err g c =
    let held = c.loop-feature.invariant in
    let library = c.args.library.now in
    let hooks = c.args.hooks.now.file.now in
    let run = run_of library hooks c.args.suite.now.stop in
    let first = state_of c.args.sandbox.now.now in
    let was_open = opens_features c.args.suite.now in
    let is_open = opens_features c.loop-feature.suite in
    let this = chosen_value c.in-Some.feature in
    let left = map chosen_value (into_iter_items c.next.new.self) in
    let all = map chosen_value c.args.features.items in
    let notifies = NotifiesOfFeature g.R.Observer.hears g.R.Observer.ends g.R.Reporter.begins g.R.Reporter.adds in
    let old = device_of g.W.Write.contents c.args.out.now in
    let there = device_of g.W.Write.contents c.loop-feature.out in
    let new = device_of g.W.Write.contents c.run_next.new.out in
    let stopped = c.in_err-run_next.field-0.0 in
    let ended : StopsAtNext (notifies run first) (IsFeatureResult run first is_open this) is_open this there c.loop-feature.counting new stopped =
    subst (λ (s : State). StopsAtNext (notifies run s) (IsFeatureResult run s is_open this) is_open this there c.loop-feature.counting new stopped) (ap state_of held.same.contents)
    (subst (λ (stop : Bool). StopsAtNext (notifies (run_of library hooks stop) (state_of c.loop-feature.sandbox.now)) (IsFeatureResult (run_of library hooks stop) (state_of c.loop-feature.sandbox.now) is_open this) is_open this there c.loop-feature.counting new stopped)
    (ap (λ (s : SuiteValue). s.stop) held.kept) c.in_err-run_next.ensures.err) in
    let before = subst (λ (ls : List ChosenValue). RunProgress (notifies run first) run first was_open all old c.args.counting.now ls is_open there c.loop-feature.counting) (ap (map chosen_value) c.in-Some.ensures.steps.0) held.held in
    passed_on c.from_residual.result c.from_residual.ensures.1 (λ fault same.
    subst (AreWrittenUpTo (notifies run first) (stays run) (AreFeatures run first was_open) was_open all old c.args.counting.now new) (sym same)
    (progress_stopped (notifies run first) (stays run) (RowsSoFar run first was_open) (AreFeatures run first was_open) (IsFeatureResult run first is_open this) was_open all old c.args.counting.now this left is_open there c.loop-feature.counting new stopped
    (λ done rows are. rows_last run first was_open done rows is_open are)
    (λ done rows row result are. rows_last run first was_open (done ++ this ∷ []) (rows ++ row ∷ []) (stays run is_open row) (rows_next run first was_open is_open (stays run is_open row) this held.earlier done rows row (result, refl) are))
    ended before))

pub returns-in_err-run_next-clause-kept : goal.returns-in_err-run_next-clause-kept
returns-in_err-run_next-clause-kept g c = kept_through c.args.suite.now c.loop-feature.suite c.run_next.new.suite c.loop-feature.invariant.kept c.run_next.ensures.kept

pub returns-in_err-run_next-clause-same : goal.returns-in_err-run_next-clause-same
returns-in_err-run_next-clause-same g c = same_through _ _ _ c.loop-feature.invariant.same c.run_next.ensures.same

pub returns-clause-ok : goal.returns-clause-ok
returns-clause-ok g c =
    let none : into_iter_items c.loop-feature.feature-iterator ≡ [] = nothing_in (into_iter_items c.loop-feature.feature-iterator) (c.loop-feature.invariant.counted ∙ c.in-None.ensures.steps.0) in
    let run = run_of c.args.library.now c.args.hooks.now.file.now c.args.suite.now.stop in
    let first = state_of c.args.sandbox.now.now in
    let was_open = opens_features c.args.suite.now in
    progress_last (NotifiesOfFeature g.R.Observer.hears g.R.Observer.ends g.R.Reporter.begins g.R.Reporter.adds run first) (stays run) (RowsSoFar run first was_open) (AreFeatures run first was_open) was_open (map chosen_value c.args.features.items) (device_of g.W.Write.contents c.args.out.now) c.args.counting.now
    (map chosen_value (into_iter_items c.loop-feature.feature-iterator)) (opens_features c.loop-feature.suite) (device_of g.W.Write.contents c.loop-feature.out) c.loop-feature.counting (ap (map chosen_value) none)
    (λ done rows are. rows_last run first was_open done rows (opens_features c.loop-feature.suite) are) c.loop-feature.invariant.held
