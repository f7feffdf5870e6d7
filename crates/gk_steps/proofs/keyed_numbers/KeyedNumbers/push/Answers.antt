use Rattle.gk_steps.proofs.Common.{arith, refl}
use Rattle.gk_steps.proofs.KeyedNumbersLemmas.{bucket_pushed}
use Rattle.gk_steps.proofs.keyed_numbers.KeyedNumbers.push.Goals as goal

pub returns : goal.returns
returns c = bucket_pushed c.args.self.now.buckets.items _ c.args.key c.args.number c.len-count.result c.index_mut.result.now c.push.new.self (omega (arith, c.len-count.ensures, c.args.self.now.buckets.ok.0)) (omega (arith, c.requires, c.len-count.ensures, c.args.self.now.buckets.ok.0)) c.index_mut.ensures.value c.in_ok-push.ensures.items refl
