-- The results of a dry run are judged.
use Rattle.gk_run.proofs.Common.{Bool, List, [], ap, cond, refl, sym, ◌++◌, ◌∙◌, ◌∷◌, ◌≡◌, LibraryValue, Contents, state_of, Run, ChosenValue, dry_feature_of, dry_features_of, first_or, without_first, FeatureCuts, uncut_feature, Cuts, DryRunsAreJudged, UnfinishedDryRunsAreJudged, dry_results, results_from, results_of, FeatureRow, Results, nowhere}
use Rattle.gk_run.specs.declared.results.Status.TheVariants as statuses

-- the results by whether the run is dry
abbrev pub results_by : Run → Contents → Cuts → List ChosenValue → Bool → Results
results_by run contents cuts features is_dry = cond is_dry (dry_results run cuts features) (results_from run (state_of contents) cuts features)

-- the cuts of a dry run
abbrev dry_cuts : List FeatureCuts → Cuts
dry_cuts cuts = record { own = nowhere; features = cuts }

pub dry_judged : DryRunsAreJudged
dry_judged run contents features rows is_dry known =
    let with_features : List FeatureRow → Results = λ rs. record { features = rs; around = statuses.Passed } in
    (dry_cuts known.0, ap with_features known.1 ∙ ap (results_by run contents (dry_cuts known.0) features) (sym is_dry))

-- the cuts of these features, and no others
abbrev pub cuts_of_all : List FeatureCuts → List ChosenValue → List FeatureCuts
cuts_of_all cuts [] = []
cuts_of_all cuts (f ∷ fs) = first_or uncut_feature cuts ∷ cuts_of_all (without_first cuts) fs

dry_features_begin : (library : LibraryValue) (cuts : List FeatureCuts) (fs others : List ChosenValue) →
    dry_features_of library (cuts_of_all cuts fs) (fs ++ others) ≡ dry_features_of library cuts fs ++ dry_features_of library [] others
dry_features_begin library cuts [] others = refl
dry_features_begin library cuts (f ∷ fs) others = ap (λ (rows : List FeatureRow). dry_feature_of library (first_or uncut_feature cuts) f ∷ rows) (dry_features_begin library (without_first cuts) fs others)

pub dry_judged_so_far : UnfinishedDryRunsAreJudged
dry_judged_so_far run contents features others rows is_dry known =
    let cuts = dry_cuts (cuts_of_all known.0 features) in
    let more = dry_features_of run.library [] others in
    let features_by : Bool → List FeatureRow = λ x. (let r = results_by run contents cuts (features ++ others) x in r.features) in (
      results_of run contents cuts (features ++ others),
      more,
      (cuts, refl),
      ap features_by is_dry ∙ dry_features_begin run.library known.0 features others ∙ ap (λ (rs : List FeatureRow). rs ++ more) (sym known.1),
    )
