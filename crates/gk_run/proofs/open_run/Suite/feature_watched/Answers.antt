use Rattle.gk_run.proofs.Common.{Bool, ap, not, refl, ◌&&◌, ◌||◌, ◌∙◌, state_of, is_failed_or_memory, stays_open_by, chosen_value, has_passed, SuiteValue, opens_features, RunsFeature, StopsFeature, feature_row}
use Rattle.gk_run.proofs.OpenRunLemmas.{next_opens, run_so}
use Rattle.gk_run.proofs.PartLemmas.{at_err}
use Rattle.gk_run.proofs.open_run.Suite.feature_watched.Goals as goal

pub returns-clause-ran : goal.returns-clause-ran
returns-clause-ran g c =
    let status = c.in_ok-result.result.status in
    let before = c.self.inside in
    let messages = run_so (λ run b. RunsFeature g.O.Observer.hears g.O.Observer.ends run (state_of c.args.sandbox.now.now) b (chosen_value c.args.chosen) c.args.observer.now c.feature_in.new.observer (feature_row c.in_ok-result.result)) c.args.library.now c.args.hooks.now.file.now before.stop c.args.self.now.stop c.opens_features-is_open.result (opens_features c.args.self.now)
    (ap (λ (s : SuiteValue). s.stop) c.self.view_is) c.opens_features-is_open.ensures c.in_ok-result.ensures.ran in
    let failed = c.either-self-inside.ensures ∙ ap (λ (b : Bool). before.has_failed || b) c.is_failed_or_memory.ensures in
    record {
      result = λ outside opens. let here = messages outside opens in (here.0, here.1.is);
      failed = failed ∙ ap (λ (s : SuiteValue). s.has_failed || is_failed_or_memory status) c.self.view_is;
      opens = ap (λ (b : Bool). has_passed before.section.before && not (before.stop && b)) failed
          ∙ next_opens (has_passed before.section.before) before.stop before.has_failed (is_failed_or_memory status)
          ∙ ap (λ (s : SuiteValue). opens_features s && stays_open_by s.stop status) c.self.view_is;
    }

pub returns-clause-notified : goal.returns-clause-notified
returns-clause-notified g c =
    run_so (λ run b. RunsFeature g.O.Observer.hears g.O.Observer.ends run (state_of c.args.sandbox.now.now) b (chosen_value c.args.chosen) c.args.observer.now c.feature_in.new.observer (feature_row c.in_ok-result.result)) c.args.library.now c.args.hooks.now.file.now c.self.inside.stop c.args.self.now.stop c.opens_features-is_open.result (opens_features c.args.self.now)
    (ap (λ (s : SuiteValue). s.stop) c.self.view_is) c.opens_features-is_open.ensures c.in_ok-result.ensures.ran (state_of c.args.sandbox.now.now) (λ _. refl)

pub returns-in_err-result-clause-notified_in_part : goal.returns-in_err-result-clause-notified_in_part
returns-in_err-result-clause-notified_in_part g c =
    at_err _ (run_so (λ run b. StopsFeature g.O.Observer.hears g.O.Observer.ends run (state_of c.args.sandbox.now.now) b (chosen_value c.args.chosen) c.args.observer.now c.feature_in.new.observer) c.args.library.now c.args.hooks.now.file.now c.self.inside.stop c.args.self.now.stop c.opens_features-is_open.result (opens_features c.args.self.now)
    (ap (λ (s : SuiteValue). s.stop) c.self.view_is) c.opens_features-is_open.ensures c.in_err-result.ensures.stopped (state_of c.args.sandbox.now.now) (λ _. refl))
