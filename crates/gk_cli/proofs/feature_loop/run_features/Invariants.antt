use Rattle.gk_cli.proofs.Common.{◌≡◌, true, map, length, AllByRecursion, into_iter_items, into_iter_len, state_of, IsSame, run_of, chosen_value, IsFormed, IsKept, opens_features, device_of, NotifiesOfFeature}
use Rattle.gk_cli.proofs.FeatureLoopLemmas.{RunProgress}
use Rattle.gk_cli.proofs.feature_loop.run_features.Given as goal

abbrev pub invariant-loop-feature : goal.invariant-loop-feature
invariant-loop-feature g l = record {
  held : RunProgress (NotifiesOfFeature g.R.Observer.hears g.R.Observer.ends g.R.Reporter.begins g.R.Reporter.adds (run_of l.library l.hooks.file.now l.fn.suite.stop) (state_of l.fn.sandbox.now)) (run_of l.library l.hooks.file.now l.fn.suite.stop) (state_of l.fn.sandbox.now) (opens_features l.fn.suite)
      (map chosen_value l.fn.features.items) (device_of g.W.Write.contents l.fn.out) l.fn.counting (map chosen_value (into_iter_items l.feature-iterator)) (opens_features l.suite) (device_of g.W.Write.contents l.out) l.counting;
  same : IsSame l.fn.sandbox l.sandbox;
  kept : IsKept l.fn.suite l.suite;
  earlier : (opens_features l.suite) ≡ true → (opens_features l.fn.suite) ≡ true;
  formed : AllByRecursion IsFormed (into_iter_items l.feature-iterator);
  counted : length (into_iter_items l.feature-iterator) ≡ into_iter_len l.feature-iterator;
}
