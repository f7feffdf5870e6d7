use Rattle.gk_lint.proofs.Common.{rules, IsNonDecreasingBy-from_sort_by_key, Finding}
use Rattle.gk_lint.proofs.LineOrder.{values_by_line, values_of_each_line}
use Rattle.gk_lint.proofs.findings.in_order.Goals as goal

pub returns : goal.returns
returns c =
    record {
      by_line = values_by_line _ (IsNonDecreasingBy-from_sort_by_key (λ (f : Finding). f.line) _ c.in_ok-sort_by_key.ensures.sorted (λ a r q k. search rules));
      of_each_line = λ n. values_of_each_line _ _ c.in_ok-sort_by_key.ensures.stable (λ a r q k. search rules) n;
    }
