use Rattle.gk_lint.proofs.Common.{◌∙◌, map, ap, sym, subst, scenario_value, feature_value, RowsFit}
use Rattle.gk_lint.proofs.RunSteps.{all_rows_fit}
use Rattle.gk_lint.proofs.written_steps.add_feature.Goals as goal

pub add_scenarios-requires : goal.add_scenarios-requires
add_scenarios-requires c =
    let all = ap (map (λ s. scenario_value s.now)) c.deref-2.ensures.value ∙ c.in_ok-scenarios.ensures in
    subst RowsFit (sym all) (all_rows_fit (feature_value c.args.feature.now) c.requires)
