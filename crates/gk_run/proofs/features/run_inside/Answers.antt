use Rattle.gk_run.proofs.Common.{◌≡◌, ap, arith, length, length-map, state_of, groups_in, member_of, members_in, Member, notifies, run_value}
use Rattle.gk_run.proofs.FeaturesLemmas.{inside_is, own_in_part, rules_in_part}
use Rattle.gk_run.proofs.PartLemmas.{at_err}
use Rattle.gk_run.proofs.features.run_inside.Goals as goal

pub run_rules-requires-clause-room : goal.run_rules-requires-clause-room
run_rules-requires-clause-room g c =
    let nothing = ap length c.args.content.empty in
    omega (arith, nothing, c.args.content.room, c.in_ok-all_stay.ensures.counted, c.in_ok-all_stay.ensures.capacity)

pub returns-clause-inside : goal.returns-clause-inside
returns-clause-inside g c =
    let content = c.args.content in
    let own = content.own.items in
    let nothing = ap length content.empty in
    let counted : length c.run_cases.new.results.items ≡ length (members_in own) = omega (arith, nothing, c.in_ok-all_stay.ensures.counted, length-map own (λ (m : Member). member_of m.case m.selected)) in
    inside_is g.O.Observer.hears g.O.Observer.ends (run_value c.args.run.now) (state_of c.args.sandbox.now.now) (state_of c.run_cases.new.sandbox.now) c.args.is_open c.in_ok-all_stay.all_stay c.both-is_open.result
    (members_in own) (groups_in content.rules.list.items) content.results.items c.run_cases.new.results.items c.run_rules.new.cases.items c.in_ok-rules.rules.items c.args.observer.now c.run_cases.new.observer c.run_rules.new.observer
    content.empty counted (ap state_of c.in_ok-all_stay.ensures.same.contents) c.both-is_open.ensures c.in_ok-all_stay.ensures.cases c.in_ok-rules.ensures.rules

pub returns-in_err-all_stay-clause-stopped : goal.returns-in_err-all_stay-clause-stopped
returns-in_err-all_stay-clause-stopped g c =
    let content = c.args.content in
    at_err _ (own_in_part (notifies g.O.Observer.hears g.O.Observer.ends) (length content.results.items) (run_value c.args.run.now) (state_of c.args.sandbox.now.now) c.args.is_open (members_in content.own.items) (groups_in content.rules.list.items) c.args.observer.now c.run_cases.new.observer
    (ap length content.empty) c.in_err-all_stay.ensures.stopped)

pub returns-in_err-rules-clause-stopped : goal.returns-in_err-rules-clause-stopped
returns-in_err-rules-clause-stopped g c =
    let content = c.args.content in
    let own = content.own.items in
    let nothing = ap length content.empty in
    let counted : length c.run_cases.new.results.items ≡ length (members_in own) = omega (arith, nothing, c.in_ok-all_stay.ensures.counted, length-map own (λ (m : Member). member_of m.case m.selected)) in
    at_err _ (rules_in_part g.O.Observer.hears g.O.Observer.ends (run_value c.args.run.now) (state_of c.args.sandbox.now.now) (state_of c.run_cases.new.sandbox.now) c.args.is_open c.in_ok-all_stay.all_stay c.both-is_open.result
    (members_in own) (groups_in content.rules.list.items) content.results.items c.run_cases.new.results.items c.args.observer.now c.run_cases.new.observer c.run_rules.new.observer
    content.empty counted (ap state_of c.in_ok-all_stay.ensures.same.contents) c.both-is_open.ensures c.in_ok-all_stay.ensures.cases c.in_err-rules.ensures.stopped)
