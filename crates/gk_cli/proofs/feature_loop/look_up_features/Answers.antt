use Rattle.gk_cli.proofs.Common.{◌≡◌, ◌∷◌, [], ◌++◌, ◌∙◌, true, List, length, map, arith, ap, sym, subst, refl, AllByRecursion, into_iter_items, library_value, ChosenValue, chosen_value, IsFormed, AreDryFeatures, device_of, NotifiesOfDryFeature, IsDryResult, AreWrittenUpTo, stays_begun, passed_on, common_steps}
use Rattle.gk_cli.proofs.SuiteLemmas.{nothing_in}
use Rattle.gk_cli.proofs.FeatureLoopLemmas.{DryRowsSoFar, dry_rows_first, dry_rows_next, dry_rows_last, DryRunProgress, progress_first, progress_next, progress_last, progress_stopped}
use Rattle.gk_cli.proofs.feature_loop.look_up_features.Goals as goal

pub loop-feature-init : goal.loop-feature-init
loop-feature-init g c =
    let here : into_iter_items c.into_iter-feature-iterator.result ≡ c.args.features.items = c.into_iter-feature-iterator.ensures.into_iter_gives.0 in
    let library = library_value c.args.library.now in
    let notifies = NotifiesOfDryFeature g.R.Reporter.begins g.R.Reporter.adds in
    let all = map chosen_value c.args.features.items in
    let device = device_of g.W.Write.contents c.args.out.now in
    record {
      held = subst (λ (left : List ChosenValue). DryRunProgress notifies library all device c.args.counting.now left device c.args.counting.now) (sym (ap (map chosen_value) here))
          (progress_first notifies stays_begun (DryRowsSoFar library) true all device c.args.counting.now (dry_rows_first library true));
      formed = subst (AllByRecursion IsFormed) (sym here) c.requires.formed;
      counted = let l = c.into_iter-feature-iterator.ensures.into_iter_gives.1 in let v = c.args.features.ok.0 in let f = ap length here in omega arith;
    }

pub look_up_next-requires : goal.look_up_next-requires
look_up_next-requires g c = grind (arith, common_steps)

pub loop-feature-preserved : goal.loop-feature-preserved
loop-feature-preserved g c =
    let steps = c.in-Some.ensures.steps in
    let library = library_value c.args.library.now in
    let notifies = NotifiesOfDryFeature g.R.Reporter.begins g.R.Reporter.adds in
    let all = map chosen_value c.args.features.items in
    let this = chosen_value c.in-Some.feature in
    let old = device_of g.W.Write.contents c.args.out.now in
    let there = device_of g.W.Write.contents c.loop-feature.out in
    let new = device_of g.W.Write.contents c.look_up_next.new.out in
    let before = subst (λ (ls : List ChosenValue). DryRunProgress notifies library all old c.args.counting.now ls there c.loop-feature.counting) (ap (map chosen_value) steps.0) c.loop-feature.invariant.held in
    let formed : AllByRecursion IsFormed (c.in-Some.feature ∷ into_iter_items c.next.new.self) = subst (AllByRecursion IsFormed) steps.0 c.loop-feature.invariant.formed in
    record {
      held = progress_next notifies stays_begun (DryRowsSoFar library) (IsDryResult library this) true all old c.args.counting.now this (map chosen_value (into_iter_items c.next.new.self)) true true there c.loop-feature.counting new c.look_up_next.new.counting
          (dry_rows_next library true true this) (λ row result. refl) c.in_ok-look_up_next.ensures.ok before;
      formed = formed.1;
      counted = let f = ap length steps.0 in omega arith;
    }

pub returns-in_err-look_up_next-clause-err : goal.returns-in_err-look_up_next-clause-err
returns-in_err-look_up_next-clause-err g c =
    let library = library_value c.args.library.now in
    let notifies = NotifiesOfDryFeature g.R.Reporter.begins g.R.Reporter.adds in
    let all = map chosen_value c.args.features.items in
    let this = chosen_value c.in-Some.feature in
    let old = device_of g.W.Write.contents c.args.out.now in
    let there = device_of g.W.Write.contents c.loop-feature.out in
    let new = device_of g.W.Write.contents c.look_up_next.new.out in
    let before = subst (λ (ls : List ChosenValue). DryRunProgress notifies library all old c.args.counting.now ls there c.loop-feature.counting) (ap (map chosen_value) c.in-Some.ensures.steps.0) c.loop-feature.invariant.held in
    passed_on c.from_residual.result c.from_residual.ensures.1 (λ fault same.
    subst (AreWrittenUpTo notifies stays_begun (AreDryFeatures library) true all old c.args.counting.now new) (sym same)
    (progress_stopped notifies stays_begun (DryRowsSoFar library) (AreDryFeatures library) (IsDryResult library this) true all old c.args.counting.now this (map chosen_value (into_iter_items c.next.new.self)) true there c.loop-feature.counting new c.in_err-look_up_next.field-0.0
    (λ done rows are. dry_rows_last library done rows true are)
    (λ done rows row result are. dry_rows_last library (done ++ this ∷ []) (rows ++ row ∷ []) true (dry_rows_next library true true this done rows row result are))
    c.in_err-look_up_next.ensures.err before))

pub returns-clause-ok : goal.returns-clause-ok
returns-clause-ok g c =
    let none : into_iter_items c.loop-feature.feature-iterator ≡ [] = nothing_in (into_iter_items c.loop-feature.feature-iterator) (c.loop-feature.invariant.counted ∙ c.in-None.ensures.steps.0) in
    let library = library_value c.args.library.now in
    progress_last (NotifiesOfDryFeature g.R.Reporter.begins g.R.Reporter.adds) stays_begun (DryRowsSoFar library) (AreDryFeatures library) true (map chosen_value c.args.features.items) (device_of g.W.Write.contents c.args.out.now) c.args.counting.now
    (map chosen_value (into_iter_items c.loop-feature.feature-iterator)) true (device_of g.W.Write.contents c.loop-feature.out) c.loop-feature.counting (ap (map chosen_value) none)
    (λ done rows are. dry_rows_last library done rows true are) c.loop-feature.invariant.held
