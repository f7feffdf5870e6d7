use Rattle.gk_steps.proofs.Common.{◌≤◌, ◌∙◌, arith, sym, subst, Ends, IsLeast}
use Rattle.gk_steps.proofs.EntryIndexLemmas.{same_some, least_kept, ends_none}
use Rattle.gk_steps.proofs.entry_index.Index.next_by_ends.Goals as goal

pub returns-in-Some : goal.returns-in-Some
returns-in-Some c =
    let index = c.args.self.now in
    let from = c.args.from in
    let first = c.least_under-least.result in
    let second = c.least_under-least-in-Some.result in
    let third = c.least_under.result in
    let one : second ≤ first = c.least_under-least-in-Some.ensures.high in
    let two : third ≤ second = c.least_under.ensures.high in
    record {
      low = λ le. c.least_under.ensures.low (c.least_under-least-in-Some.ensures.low (c.least_under-least.ensures.low le));
      high = omega (arith, one, two, c.least_under-least.ensures.high);
      other = least_kept index 0 from first third (omega (arith, one, two)) c.least_under-least.ensures.least;
      by_literal = λ e is. subst (λ (x : Ends). IsLeast index x.by_literal from third) (same_some c.in-Some.ends e (sym c.in-Some.is ∙ is)) (least_kept index c.in-Some.ends.by_literal from second third two c.least_under-least-in-Some.ensures.least);
      by_field = λ e is. subst (λ (x : Ends). IsLeast index x.by_field from third) (same_some c.in-Some.ends e (sym c.in-Some.is ∙ is)) c.least_under.ensures.least;
    }

pub returns-in-None : goal.returns-in-None
returns-in-None c = ends_none c.args.self.now c.args.from c.args.most c.least_under-least.result c.args.ends c.in-None.is c.least_under-least.ensures.low c.least_under-least.ensures.high c.least_under-least.ensures.least
