use Rattle.gk_run.proofs.Common.{◌≡◌, ◌∙◌, List, map, ap, subst, library_value, CaseResult, case_row, rule_row, Cut, MemberValue, chosen_value, head_value, members_of, RuleResult, RuleHead, case_statuses, feature_verdict, rule_statuses, dry_cases_of, dry_rules_of}
use Rattle.gk_run.specs.declared.results.Status.TheVariants as statuses
use Rattle.gk_run.proofs.DryRunLemmas.{dry_feature_is}
use Rattle.gk_run.proofs.dry_run.dry_feature.Goals as goal

pub returns : goal.returns
returns c =
    let library = library_value c.args.library.now in
    let f = chosen_value c.args.chosen in
    let rows = map case_row c.in_ok-cases.cases.items in
    let members = ap (λ cs. members_of cs.items c.args.chosen.selected.items) c.in_ok-reserve-2.ensures in
    let results = c.dry_rules-rules.result.items in
    let rules = map rule_row results in
    let are_rules : rules ≡ dry_rules_of f.rules = c.dry_rules-rules.ensures ∙ ap (λ (hs : List RuleHead). dry_rules_of (map head_value hs)) (ap (λ hs. hs.items) c.in_ok-reserve.ensures) in
    let verdict : c.feature_status.result ≡ feature_verdict statuses.Passed (rule_statuses rules) (case_statuses rows) =
    c.feature_status.ensures ∙ ap (λ (rs : List RuleResult). feature_verdict statuses.Passed (rule_statuses (map rule_row rs)) (case_statuses (map case_row c.as_slice-2.result.now))) c.as_slice.ensures.value
    ∙ ap (λ (cs : List CaseResult). feature_verdict statuses.Passed (rule_statuses rules) (case_statuses (map case_row cs))) c.as_slice-2.ensures.value in
    let known : (cuts : List Cut) × (rows ≡ dry_cases_of library cuts f.members) =
    subst (λ (ms : List MemberValue). (cuts : List Cut) × (rows ≡ dry_cases_of library cuts ms)) members c.in_ok-cases.ensures in
    record { row = dry_feature_is library f c.feature_status.result rules rows verdict are_rules known }
