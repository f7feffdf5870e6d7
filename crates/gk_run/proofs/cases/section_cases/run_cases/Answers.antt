use Rattle.gk_run.proofs.Common.{◌≡◌, ◌∙◌, ◌∷◌, ◌&&◌, Bool, List, [], ap, arith, length, length-append, subst, sym, into_iter_items, state_of, members_in, Member, CaseResult, run_value, common_steps}
use Rattle.gk_run.proofs.CasesLemmas.{GoesOn, goes_first, goes_last, goes_on, goes_stopped}
use Rattle.gk_run.proofs.Nothing.{nothing_in}
use Rattle.gk_run.proofs.PartLemmas.{at_err}
use Rattle.gk_run.proofs.cases.section_cases.run_cases.Goals as goal

pub loop-member-init : goal.loop-member-init
loop-member-init g c = grind (arith, common_steps, goes_first)

pub loop-member-preserved : goal.loop-member-preserved
loop-member-preserved g c =
    let run = run_value c.args.run.now in
    let first = state_of c.args.sandbox.now.now in
    let all = members_in c.args.members.items in
    let old = c.args.results.now.items in
    let now = c.loop-member.results.items in
    let left = into_iter_items c.next.new.self in
    let behind = members_in left in
    let taken : into_iter_items c.loop-member.member-iterator ≡ c.in-Some.member ∷ left = c.in-Some.ensures.steps.0 in
    let before = c.loop-member.invariant.same in
    let same = c.in_ok-row.ensures.same in
    let so_far = subst (λ (ms : List Member). GoesOn g.O.Observer.hears g.O.Observer.ends run first c.args.is_open all old now (members_in ms) c.loop-member.all_stay c.args.observer.now c.loop-member.observer) taken c.loop-member.invariant.goes in
    let stays = c.both-all_stay.ensures ∙ ap (λ (b : Bool). c.loop-member.all_stay && b) c.stays_open.ensures in
    record {
      goes = subst (λ (rs : List CaseResult). GoesOn g.O.Observer.hears g.O.Observer.ends run first c.args.is_open all old rs behind c.both-all_stay.result c.args.observer.now c.case_ended.new.self) (sym c.push_reserved.ensures.items)
          (goes_on g.O.Observer.hears g.O.Observer.ends run first (state_of c.loop-member.sandbox.now) c.args.is_open all old now _ behind c.in_ok-row.row c.len.result c.loop-member.all_stay c.both.result c.both-all_stay.result
          c.args.observer.now c.loop-member.observer c.run_member.new.observer c.case_ended.new.self so_far c.both.ensures (ap state_of before.contents) c.in_ok-row.ensures.ran (omega (arith, c.len.ensures, c.loop-member.results.ok.0)) c.case_ended.ensures stays);
      same = record { contents = same.contents ∙ before.contents; saved = same.saved ∙ before.saved; starts = same.starts ∙ before.starts; recorded = same.recorded ∙ before.recorded };
      sizes = omega (arith, c.loop-member.invariant.sizes, ap length taken, ap length c.push_reserved.ensures.items, length-append now (c.in_ok-row.row ∷ []));
      capacity = c.push_reserved.ensures.capacity ∙ c.loop-member.invariant.capacity;
      counted = omega (arith, c.loop-member.invariant.counted, ap length taken, c.in-Some.ensures.steps);
    }

pub returns-clause-cases : goal.returns-clause-cases
returns-clause-cases g c =
    let run = run_value c.args.run.now in
    let first = state_of c.args.sandbox.now.now in
    let all = members_in c.args.members.items in
    let none : into_iter_items c.loop-member.member-iterator ≡ [] = nothing_in (into_iter_items c.loop-member.member-iterator) (c.loop-member.invariant.counted ∙ c.in-None.ensures.steps.0) in
    goes_last g.O.Observer.hears g.O.Observer.ends run first c.args.is_open all c.args.results.now.items c.loop-member.results.items c.loop-member.all_stay c.args.observer.now c.loop-member.observer
    (subst (λ (ms : List Member). GoesOn g.O.Observer.hears g.O.Observer.ends run first c.args.is_open all c.args.results.now.items c.loop-member.results.items (members_in ms) c.loop-member.all_stay c.args.observer.now c.loop-member.observer) none c.loop-member.invariant.goes)

pub returns-in_err-row-clause-stopped : goal.returns-in_err-row-clause-stopped
returns-in_err-row-clause-stopped g c =
    at_err _ (goes_stopped g.O.Observer.hears g.O.Observer.ends (run_value c.args.run.now) (state_of c.args.sandbox.now.now) c.args.is_open (members_in c.args.members.items) c.args.results.now.items c.loop-member.results.items (members_in (into_iter_items c.loop-member.member-iterator)) c.loop-member.all_stay
    c.args.observer.now c.loop-member.observer c.run_member.new.observer c.in_err-row.ensures.silent c.loop-member.invariant.goes)
