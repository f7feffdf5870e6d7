use Rattle.gk_run.proofs.Common.{◌≡◌, ◌∙◌, ◌&&◌, ℕ, Bool, List, map, sym, ap, subst, list_any, texts, state_of, CaseResult, RuleResult, case_statuses, IsFeatureEnd, IsFeatureEndInPart, inside_value, members_in, MemberValue, Group, chosen_value, groups_in, has_selected, own_members, rule_groups, feature_verdict, rule_statuses, Inside, SectionRow, run_value, case_row, rule_row, notifies}
use Rattle.gk_run.proofs.CasesLemmas.{selected_any}
use Rattle.gk_run.proofs.FeaturesLemmas.{feature_in_part, feature_is, feature_silent}
use Rattle.gk_run.proofs.PartLemmas.{at_err}
use Rattle.gk_run.proofs.features.feature_in.Goals as goal

pub returns-clause-ran : goal.returns-clause-ran
returns-clause-ran g c =
    let run = run_value c.args.run.now in
    let now = state_of c.args.sandbox.now.now in
    let f = chosen_value c.args.chosen in
    let end : SectionRow Inside = record { around = c.in_ok-end.end.around; inside = inside_value c.in_ok-end.end.inside } in
    let cases = c.args.chosen.cases.items in
    let content = c.in_ok-content.content in
    let divided = c.in_ok-content.ensures in
    let begins : c.both-is_begun.result ≡ (c.args.is_open && has_selected f.members) =
    c.both-is_begun.ensures ∙ ap (λ (b : Bool). c.args.is_open && b) (c.has_selected.ensures ∙ ap (λ (ss : List Bool). list_any (λ (s : Bool). s) ss) c.as_slice.ensures.value ∙ sym (selected_any cases c.args.chosen.selected.items c.requires.formed.paired)) in
    let verdict : c.feature_status.result ≡ feature_verdict end.around (rule_statuses end.inside.rules) (case_statuses end.inside.cases) =
    c.feature_status.ensures ∙ ap (λ (rs : List RuleResult). feature_verdict end.around (rule_statuses (map rule_row rs)) (case_statuses (map case_row c.as_slice-4.result.now))) c.as_slice-3.ensures.value
    ∙ ap (λ (cs : List CaseResult). feature_verdict end.around (rule_statuses end.inside.rules) (case_statuses (map case_row cs))) c.as_slice-4.ensures.value in
    let messages_by = notifies g.O.Observer.hears g.O.Observer.ends in
    let first = c.args.observer.now in
    let last = c.feature_end.new.observer in
    feature_is g.O.Observer.hears g.O.Observer.ends run now c.args.is_open c.both-is_begun.result f c.feature_status.result end first last begins verdict
    (subst (λ (ms : List MemberValue). IsFeatureEnd messages_by run now c.both-is_begun.result f.tags ms (rule_groups f) end first last) divided.unruled
    (subst (λ (gs : List Group). IsFeatureEnd messages_by run now c.both-is_begun.result f.tags (members_in content.own.items) gs end first last) divided.ruled
    (subst (λ (ts : List (List ℕ)). IsFeatureEnd messages_by run now c.both-is_begun.result ts (members_in content.own.items) (groups_in content.rules.list.items) end first last) (ap texts c.as_slice-2.ensures.value) c.in_ok-end.ensures.end)))

pub returns-in_err-content-clause-stopped : goal.returns-in_err-content-clause-stopped
returns-in_err-content-clause-stopped g c = at_err _ (feature_silent g.O.Observer.hears g.O.Observer.ends (run_value c.args.run.now) (state_of c.args.sandbox.now.now) c.args.is_open (chosen_value c.args.chosen) c.args.observer.now)

pub returns-in_err-end-clause-stopped : goal.returns-in_err-end-clause-stopped
returns-in_err-end-clause-stopped g c =
    let run = run_value c.args.run.now in
    let now = state_of c.args.sandbox.now.now in
    let f = chosen_value c.args.chosen in
    let cases = c.args.chosen.cases.items in
    let content = c.in_ok-content.content in
    let divided = c.in_ok-content.ensures in
    let begins : c.both-is_begun.result ≡ (c.args.is_open && has_selected f.members) =
    c.both-is_begun.ensures ∙ ap (λ (b : Bool). c.args.is_open && b) (c.has_selected.ensures ∙ ap (λ (ss : List Bool). list_any (λ (s : Bool). s) ss) c.as_slice.ensures.value ∙ sym (selected_any cases c.args.chosen.selected.items c.requires.formed.paired)) in
    let messages_by = notifies g.O.Observer.hears g.O.Observer.ends in
    let first = c.args.observer.now in
    let last = c.feature_end.new.observer in
    let Stops : List (List ℕ) → List MemberValue → List Group → Type 0 = λ ts own groups. IsFeatureEndInPart messages_by run now c.both-is_begun.result ts own groups first last in
    let by_content : Stops (texts c.as_slice-2.result.now) (members_in content.own.items) (groups_in content.rules.list.items) = c.in_err-end.ensures.stopped in
    at_err _ (feature_in_part g.O.Observer.hears g.O.Observer.ends run now c.args.is_open c.both-is_begun.result f first last begins
    (subst (Stops f.tags (own_members f)) divided.ruled (subst (λ (ms : List MemberValue). Stops f.tags ms (groups_in content.rules.list.items)) divided.unruled
    (subst (λ (ts : List (List ℕ)). Stops ts (members_in content.own.items) (groups_in content.rules.list.items)) (ap texts c.as_slice-2.ensures.value) by_content))))
