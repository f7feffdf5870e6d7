use Rattle.gk_run.proofs.Common.{◌∙◌, ap, arith, map, map_push, refl, rank, member_of, Member}
use Rattle.gk_run.proofs.GroupingLemmas.{own_pushed, rule_pushed, then_ok}
use Rattle.gk_run.proofs.cases.dividing.add_member.Goals as goal

pub returns-in-None : goal.returns-in-None
returns-in-None c =
    let m = c.args.member in
    let own = c.args.own.now.items in
    then_ok c.push_member.result c.push_member.ensures
    (λ pushed heads before divided. own_pushed heads before (member_of m.case m.selected) own c.push_member.new.members.items c.args.rules.now.items (ap rank c.in-None.is) (ap (map (λ (x : Member). member_of x.case x.selected)) pushed ∙ map_push (λ (x : Member). member_of x.case x.selected) own m) divided)

pub returns-in-Some : goal.returns-in-Some
returns-in-Some c =
    let m = c.args.member in
    let rules = c.args.rules.now.items in
    let i = c.in-Some.rule in
    let old = c.index_mut.result.now in
    let here = ap rank c.in-Some.is in
    then_ok c.push_member-in-Some.result c.push_member-in-Some.ensures
    (λ pushed heads before divided. rule_pushed heads before (member_of m.case m.selected) c.args.own.now.items rules i old _ here (omega (arith, c.requires, here)) c.index_mut.ensures.value refl
    (ap (map (λ (x : Member). member_of x.case x.selected)) pushed ∙ map_push (λ (x : Member). member_of x.case x.selected) old.members.items m) divided)
