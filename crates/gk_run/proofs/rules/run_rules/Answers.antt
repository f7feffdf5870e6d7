use Rattle.gk_run.proofs.Common.{◌≡◌, ◌+◌, ◌∙◌, ◌∷◌, List, [], ap, arith, length, length-append, length-map, refl, subst, into_iter_items, state_of, group_value, groups_in, member_of, members_in, members_of_groups, Member, RuleCases, run_value, common_steps}
use Rattle.gk_run.proofs.Nothing.{nothing_in}
use Rattle.gk_run.proofs.PartLemmas.{at_err}
use Rattle.gk_run.proofs.RulesLemmas.{GoesRules, rules_first, rules_last, rules_on, rules_stopped}
use Rattle.gk_run.proofs.rules.run_rules.Goals as goal

-- the cases of the first rule and those of the others
cases_counted : (rule : RuleCases) (left : List RuleCases) → length (members_of_groups (groups_in (rule ∷ left))) ≡ length rule.members.items + length (members_of_groups (groups_in left))
cases_counted rule left = omega (arith, length-append (members_in rule.members.items) (members_of_groups (groups_in left)), length-map rule.members.items (λ (m : Member). member_of m.case m.selected))

pub loop-rule-init : goal.loop-rule-init
loop-rule-init g c = grind (arith, common_steps, rules_first)

pub loop-rule-preserved : goal.loop-rule-preserved
loop-rule-preserved g c =
    let run = run_value c.args.run.now in
    let first = state_of c.args.sandbox.now.now in
    let all = groups_in c.args.rules.list.items in
    let old = c.args.cases.now.items in
    let now = c.loop-rule.cases.items in
    let left = into_iter_items c.next.new.self in
    let rule = c.in-Some.rule in
    let taken : into_iter_items c.loop-rule.rule-iterator ≡ rule ∷ left = c.in-Some.ensures.steps.0 in
    let before = c.loop-rule.invariant.same in
    let same = c.in_ok-end.ensures.same in
    let so_far = subst (λ (rs : List RuleCases). GoesRules g.O.Observer.hears g.O.Observer.ends run first c.args.is_open all old now c.loop-rule.is_open c.loop-rule.results.items (groups_in rs) c.args.observer.now c.loop-rule.observer) taken c.loop-rule.invariant.goes in
    let counted = ap length taken in
    let sizes : length c.run_rule.new.results.items ≡ length now + length rule.members.items = c.in_ok-end.ensures.counted in
    let members = length-map rule.members.items (λ (m : Member). member_of m.case m.selected) in
    record {
      goes = rules_on g.O.Observer.hears g.O.Observer.ends run first (state_of c.loop-rule.sandbox.now) c.args.is_open all old now c.run_rule.new.results.items c.loop-rule.is_open c.both-is_open.result c.loop-rule.results.items c.push_reserved.new.self.items (group_value rule) (groups_in left) c.in_ok-end.end _
          c.args.observer.now c.loop-rule.observer c.run_rule.new.observer c.rule_ended.new.self so_far (ap state_of before.contents) c.in_ok-end.ensures.rule c.rule_ended.ensures c.both-is_open.ensures c.push_reserved.ensures.items refl (omega (arith, sizes, members));
      same = record { contents = same.contents ∙ before.contents; saved = same.saved ∙ before.saved; starts = same.starts ∙ before.starts; recorded = same.recorded ∙ before.recorded };
      room = omega (arith, counted, c.loop-rule.invariant.room, c.push_reserved.ensures.len, c.push_reserved.ensures.capacity);
      cases_room = omega (arith, sizes, c.loop-rule.invariant.cases_room, ap (λ rs. length (members_of_groups (groups_in rs))) taken, cases_counted rule left, c.in_ok-end.ensures.capacity);
      counted = omega (arith, c.loop-rule.invariant.counted, counted, c.in-Some.ensures.steps);
    }

pub run_rule-requires-clause-room : goal.run_rule-requires-clause-room
run_rule-requires-clause-room g c =
    let taken : into_iter_items c.loop-rule.rule-iterator ≡ c.in-Some.rule ∷ into_iter_items c.next.new.self = c.in-Some.ensures.steps.0 in
    omega (arith, c.loop-rule.invariant.cases_room, ap (λ rs. length (members_of_groups (groups_in rs))) taken, cases_counted c.in-Some.rule (into_iter_items c.next.new.self))

pub returns-clause-rules : goal.returns-clause-rules
returns-clause-rules g c =
    let run = run_value c.args.run.now in
    let first = state_of c.args.sandbox.now.now in
    let all = groups_in c.args.rules.list.items in
    let none : into_iter_items c.loop-rule.rule-iterator ≡ [] = nothing_in (into_iter_items c.loop-rule.rule-iterator) (c.loop-rule.invariant.counted ∙ c.in-None.ensures.steps.0) in
    rules_last g.O.Observer.hears g.O.Observer.ends run first c.args.is_open all c.args.cases.now.items c.loop-rule.cases.items c.loop-rule.is_open c.loop-rule.results.items c.args.observer.now c.loop-rule.observer
    (subst (λ (rs : List RuleCases). GoesRules g.O.Observer.hears g.O.Observer.ends run first c.args.is_open all c.args.cases.now.items c.loop-rule.cases.items c.loop-rule.is_open c.loop-rule.results.items (groups_in rs) c.args.observer.now c.loop-rule.observer) none c.loop-rule.invariant.goes)

pub returns-in_err-end-clause-stopped : goal.returns-in_err-end-clause-stopped
returns-in_err-end-clause-stopped g c =
    let run = run_value c.args.run.now in
    let first = state_of c.args.sandbox.now.now in
    let all = groups_in c.args.rules.list.items in
    let old = c.args.cases.now.items in
    let now = c.loop-rule.cases.items in
    let left = into_iter_items c.next.new.self in
    let taken : into_iter_items c.loop-rule.rule-iterator ≡ c.in-Some.rule ∷ left = c.in-Some.ensures.steps.0 in
    let so_far = subst (λ (rs : List RuleCases). GoesRules g.O.Observer.hears g.O.Observer.ends run first c.args.is_open all old now c.loop-rule.is_open c.loop-rule.results.items (groups_in rs) c.args.observer.now c.loop-rule.observer) taken c.loop-rule.invariant.goes in
    at_err _ (rules_stopped g.O.Observer.hears g.O.Observer.ends run first (state_of c.loop-rule.sandbox.now) c.args.is_open all old now c.loop-rule.is_open c.loop-rule.results.items (group_value c.in-Some.rule) (groups_in left) c.args.observer.now c.loop-rule.observer c.run_rule.new.observer
    so_far (ap state_of c.loop-rule.invariant.same.contents) c.in_err-end.ensures.stopped)
