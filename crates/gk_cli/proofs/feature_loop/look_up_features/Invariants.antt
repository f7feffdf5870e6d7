use Rattle.gk_cli.proofs.Common.{◌≡◌, map, length, AllByRecursion, into_iter_items, into_iter_len, library_value, chosen_value, IsFormed, device_of, NotifiesOfDryFeature}
use Rattle.gk_cli.proofs.FeatureLoopLemmas.{DryRunProgress}
use Rattle.gk_cli.proofs.feature_loop.look_up_features.Given as goal

abbrev pub invariant-loop-feature : goal.invariant-loop-feature
invariant-loop-feature g l = record {
  held : DryRunProgress (NotifiesOfDryFeature g.R.Reporter.begins g.R.Reporter.adds) (library_value l.library) (map chosen_value l.fn.features.items) (device_of g.W.Write.contents l.fn.out) l.fn.counting
      (map chosen_value (into_iter_items l.feature-iterator)) (device_of g.W.Write.contents l.out) l.counting;
  formed : AllByRecursion IsFormed (into_iter_items l.feature-iterator);
  counted : length (into_iter_items l.feature-iterator) ≡ into_iter_len l.feature-iterator;
}
