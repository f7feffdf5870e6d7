use Rattle.gk_cli.proofs.Common.{arith, [], get_or, subst, true, ◌≡◌, SaysPair, has_equals, pair_value, common_steps}
use Rattle.gk_cli.proofs.ArgumentsLemmas.{first_without, holds_of_one_more, one_pair_more, all_pairs}
use Rattle.gk_cli.proofs.arguments.pairs.Goals as goal

pub loop-text-preserved : goal.loop-text-preserved
loop-text-preserved c =
    let says = subst (SaysPair (get_or c.args.texts.now c.loop-text.text-index record { ref_ptr = (0, 0); now = [] }).now) c.in-Some.is c.in_ok-pair.ensures in
    record {
      split = one_pair_more pair_value c.loop-text.pairs.items c.push.new.self.items c.in-Some.pair c.args.texts.now c.loop-text.text-index _ c.loop-text-test.true c.in_ok-push-in-Some.ensures.items says.1 _ c.loop-text.invariant.split;
      equals = holds_of_one_more (λ text. has_equals text ≡ true) c.args.texts.now c.loop-text.text-index _ c.loop-text-test.true c.loop-text.invariant.equals says.0;
    }

pub returns : goal.returns
returns c = all_pairs pair_value c.loop-text.pairs.items c.args.texts.now c.loop-text.text-index (omega arith) c.loop-text.invariant.split c.loop-text.invariant.equals

pub returns-in-None : goal.returns-in-None
returns-in-None c = grind (arith, common_steps, first_without)
