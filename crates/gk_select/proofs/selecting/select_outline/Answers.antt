use Rattle.gk_select.proofs.Common.{◌≡◌, ◌++◌, ◌∙◌, ◌<◌, ap, ℕ, List, length, arith, common_steps, examples_value, scenario_value, examples_selected}
use Rattle.gk_select.proofs.Selected.{if_err, one_part, some_part}
use Rattle.gk_select.proofs.selecting.select_outline.Goals as goal

pub loop-examples-preserved : goal.loop-examples-preserved
loop-examples-preserved c =
    let items = c.deref-examples-items in
    let less : c.loop-examples.examples-index < length items.result.now = omega (arith, c.loop-examples.auto.examples-index-end, c.loop-examples-test.true) in
    let selected = examples_selected c.args.choice.now (c.args.feature.now ++ c.args.rule.now) in
    let own : c.lookup-own.result ≡ (scenario_value c.args.scenario.now).tags = grind (arith, common_steps) in
    one_part (selected (scenario_value c.args.scenario.now).tags) examples_value items.result.now c.args.scenario.now.examples.items
    c.loop-examples.examples-index c.examples-item.result items.ensures.value less c.examples-item.is c.loop-examples.selected.items c.select_examples.new.selected.items _
    (c.in_ok-select_examples.ensures.chosen ∙ ap (λ (tags : List (List ℕ)). c.loop-examples.selected.items ++ selected tags (examples_value c.examples-item.result)) own) c.loop-examples.invariant

pub returns-in_err-select_examples-clause-memory : goal.returns-in_err-select_examples-clause-memory
returns-in_err-select_examples-clause-memory c = grind (arith, common_steps, if_err, some_part)
