use Rattle.gk_select.proofs.Common.{◌≡◌, ◌+◌, List, true, false, map, length, ap, ◌∙◌, arith, length-map, sum_by, step_value, scenario_value, examples_value, Examples, left, examples_steps}
use Rattle.gk_select.specs.Outline as spec
use Rattle.gk_select.proofs.Rooms.{outline_total, plain_total}
use Rattle.gk_select.proofs.counting.room_after_scenario.Goals as goal

pub returns-then-is_outline : goal.returns-then-is_outline
returns-then-is_outline c =
    let own : c.len-own.result ≡ length (map step_value c.args.scenario.now.steps.items) = omega (arith, length-map c.args.scenario.now.steps.items step_value) in
    let outline : spec.is_outline (scenario_value c.args.scenario.now) ≡ true = cc in
    c.room_after_examples.ensures ∙ ap (λ (es : List Examples). left c.args.room (sum_by (examples_steps (c.args.inherited + c.len-own.result)) (map examples_value es))) c.deref.ensures.value
    ∙ ap (left c.args.room) (outline_total c.args.inherited c.len-own.result (scenario_value c.args.scenario.now) own outline)

pub returns-else-is_outline : goal.returns-else-is_outline
returns-else-is_outline c =
    let own : c.len-own.result ≡ length (map step_value c.args.scenario.now.steps.items) = omega (arith, length-map c.args.scenario.now.steps.items step_value) in
    let plain : spec.is_outline (scenario_value c.args.scenario.now) ≡ false = cc in
    c.room_after_cases.ensures ∙ ap (left c.args.room) (plain_total c.args.inherited c.len-own.result (scenario_value c.args.scenario.now) own plain)
