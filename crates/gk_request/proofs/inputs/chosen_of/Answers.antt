use Rattle.gk_request.proofs.Common.{◌≡◌, ℕ, List, Option, map, length, ap, ap₂, subst, sym, ◌∙◌, length-map, feature_value, cases, texts, with_own_tags, untagged, untagged_rule, FallIntoRules, Case, CaseValue, case_value, chosen_by, head_value, head_of, members_of}
use Rattle.gk_request.proofs.InputsLemmas.{members_chosen, chosen_again, rules_said}
use Rattle.gk_request.proofs.inputs.chosen_of.Goals as goal

-- The cases that were built are those of the feature without the tags that its headings have.
same_cases : (c : goal.In-Ok) → map case_value c.in-Ok.cases.items ≡ cases (untagged (feature_value c.args.feature))
same_cases c =
    let feature = feature_value c.args.feature in
    c.in-Ok.ensures.ok ∙ ap₂ (λ tags rules. cases (record feature { tags = tags; rules = rules })) (ap (λ v. texts v.items) c.replace-tags.ensures.after ∙ ap texts c.new.ensures.items) c.in_ok-rules.ensures.taken

pub returns-clause-chosen : goal.returns-clause-chosen
returns-clause-chosen c =
    let feature = feature_value c.args.feature in
    let cs = c.in-Ok.cases.items in
    let built = same_cases c ∙ (c.cases_keep_without_tags.ensures feature).cases in
    chosen_again c.in_ok-source.ensures.ok (c.in_ok-name.ensures.ok ∙ c.as_str.ensures.value) (ap (λ v. texts v.items) c.replace-tags.ensures.value) c.in_ok-rules.ensures.headings
    (ap (members_of cs) c.in_ok-selected.ensures.chosen ∙ members_chosen (chosen_by c.args.choice.now) cs (cases feature) built)

pub returns-clause-formed : goal.returns-clause-formed
returns-clause-formed c =
    let chooses = chosen_by c.args.choice.now in
    let feature = feature_value c.args.feature in
    let cs = c.in-Ok.cases.items in
    let same = same_cases c in
    let built = same ∙ (c.cases_keep_without_tags.ensures feature).cases in
    let count : length (untagged feature).rules ≡ length c.in_ok-rules.rules.items =
    length-map feature.rules untagged_rule ∙ sym (length-map feature.rules head_of) ∙ ap length (sym c.in_ok-rules.ensures.headings) ∙ length-map c.in_ok-rules.rules.items head_value in
    let rules : map (λ (x : CaseValue). x.rule) (cases (untagged feature)) ≡ map (λ (x : Case). x.rule) cs = ap (map (λ (x : CaseValue). x.rule)) (sym same) ∙ rules_said cs in
    record {
      paired = ap length c.in_ok-selected.ensures.chosen ∙ length-map (cases feature) chooses ∙ sym (length-map (cases feature) with_own_tags) ∙ ap length (sym built) ∙ length-map cs case_value;
      falls = subst (λ (n : ℕ). FallIntoRules n (map (λ (x : Case). x.rule) cs)) count (subst (λ (rs : List (Option ℕ)). FallIntoRules (length (untagged feature).rules) rs) rules (c.cases_fall_into_rules.ensures (untagged feature)));
    }
