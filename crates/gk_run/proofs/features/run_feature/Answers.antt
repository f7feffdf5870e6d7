use Rattle.gk_run.proofs.Common.{◌∙◌, ap, true, HookFile, state_of, FeatureResult, chosen_value, IsFeatureResult, feature_of, result_of, feature_row, run_of}
use Rattle.gk_run.proofs.CasesLemmas.{of_ok}
use Rattle.gk_run.proofs.features.run_feature.Goals as goal

pub returns-clause-row : goal.returns-clause-row
returns-clause-row c =
    let now = state_of c.args.sandbox.now.now in
    let f = chosen_value c.args.chosen in
    of_ok (λ (r : FeatureResult). IsFeatureResult (run_of c.args.library.now c.args.hooks.now c.args.stop) now true f (feature_row r)) c.feature_in.result c.feature_in.ensures.ran
    (λ r h outside opens. let messages = h outside opens in (messages.0, messages.1.is ∙ ap (λ (file : HookFile). result_of (feature_of (run_of c.args.library.now file c.args.stop) outside true messages.0 f)) c.new-hooks.ensures))
