use Rattle.gk_cli.proofs.Common.{Bool, ap, map, rules, subst, ◌∙◌, state_of, run_of, chosen_value, AreFeatures, NotifiesFinish, SuiteValue, opens_features, CountingReporter, device_of, NotifiesOfFeature, AreWritten, AreWrittenUpTo, stays, if_ok, if_err}
use Rattle.gk_cli.proofs.FeatureLoopLemmas.{run_notified, whole_notified, whole_stopped, part_notified}
use Rattle.gk_cli.proofs.feature_loop.run_notifying.Goals as goal

pub returns-in-Ok : goal.returns-in-Ok
returns-in-Ok g c =
    let library = c.args.library.now in
    let hooks = c.args.hooks.now.file.now in
    let run = run_of library hooks c.args.stop in
    let contents = c.args.sandbox.now.now in
    let features = map chosen_value c.args.features.items in
    let hears = g.R.Observer.hears in
    let notifies = NotifiesOfFeature hears g.R.Observer.ends g.R.Reporter.begins g.R.Reporter.adds in
    let begun = c.start_watched-suite in
    let there = c.run_features-written.new in
    let last = c.finish_watched-around.new.observer in
    let around = c.finish_watched-around.result in
    let so_far : CountingReporter _ = record c.args.counting { reporter = begun.new.observer } in
    let end : CountingReporter _ = record there.counting { reporter = last } in
    let before = device_of g.W.Write.contents c.args.out.now in
    let written = device_of g.W.Write.contents there.out in
    let new = device_of g.W.Write.contents c.close.new.out in
    let first = state_of begun.new.sandbox.now in
    let opens = opens_features begun.result in
    let all : AreWritten (notifies run first) (stays run) (AreFeatures run first opens) opens features before so_far written there.counting =
    subst (λ (s : Bool). AreWritten (notifies (run_of library hooks s) first) (stays (run_of library hooks s)) (AreFeatures (run_of library hooks s) first opens) opens features before so_far written there.counting) begun.ensures.0.stops c.in-Ok.ensures.ok in
    let notified = run_notified hears notifies c.finished_runs_are_judged.ensures run c.args.sandbox.now begun.new.sandbox there.sandbox begun.result there.suite c.args.counting.reporter begun.new.observer there.counting.reporter last features all.rows around all.text
    begun.ensures.0 begun.ensures.1 all.results all.notified c.run_features-written.ensures.kept c.run_features-written.ensures.same
    (subst (λ (s : Bool). NotifiesFinish hears (run_of library hooks s) there.suite there.sandbox around there.counting.reporter last) (ap (λ (s : SuiteValue). s.stop) c.run_features-written.ensures.kept ∙ begun.ensures.0.stops) c.finish_watched-around.ensures.notified) in
    record {
      ok = if_ok c.close.result (λ status closed. whole_notified hears notifies g.R.Reporter.closes run contents begun.ensures.0.opened.first features all.rows around all.text c.args.counting.reporter there.counting.reporter end before written new status
          (all.counted c.requires.none) notified all.written closed) c.close.ensures.ok;
      err = if_err c.close.result (λ fault stops. whole_stopped hears notifies g.R.Reporter.closes run contents begun.ensures.0.opened.first features all.rows around all.text c.args.counting.reporter there.counting.reporter end before written new fault
          (all.counted c.requires.none) notified all.written stops) c.close.ensures.err;
      same = search rules;
    }

pub returns-in-Err-clause-err : goal.returns-in-Err-clause-err
returns-in-Err-clause-err g c =
    let library = c.args.library.now in
    let hooks = c.args.hooks.now.file.now in
    let run = run_of library hooks c.args.stop in
    let features = map chosen_value c.args.features.items in
    let hears = g.R.Observer.hears in
    let notifies = NotifiesOfFeature hears g.R.Observer.ends g.R.Reporter.begins g.R.Reporter.adds in
    let begun = c.start_watched-suite in
    let so_far : CountingReporter _ = record c.args.counting { reporter = begun.new.observer } in
    let before = device_of g.W.Write.contents c.args.out.now in
    let new = device_of g.W.Write.contents c.run_features-written.new.out in
    let first = state_of begun.new.sandbox.now in
    let opens = opens_features begun.result in
    let up_to : AreWrittenUpTo (notifies run first) (stays run) (AreFeatures run first opens) opens features before so_far new c.in-Err.fault =
    subst (λ (s : Bool). AreWrittenUpTo (notifies (run_of library hooks s) first) (stays (run_of library hooks s)) (AreFeatures (run_of library hooks s) first opens) opens features before so_far new c.in-Err.fault) begun.ensures.0.stops c.in-Err.ensures.err in
    part_notified hears notifies g.R.Reporter.closes run c.args.sandbox.now begun.new.sandbox begun.result c.args.counting.reporter features before so_far new c.in-Err.fault begun.ensures.0 begun.ensures.1
    (λ done others rows are. c.unfinished_runs_are_judged.ensures run c.args.sandbox.now begun.new.sandbox begun.result done others rows begun.ensures.0 are) up_to
