use Rattle.gk_gherkin.proofs.Common.{Ok, borrowed_value, examples_under, map, map_push, refl, scenario_value, sym, texts, vec_len}
use Rattle.gk_gherkin.proofs.LastItems.{changed_last}
use Rattle.gk_gherkin.proofs.ReadingRuns.{ok_same}
use Rattle.gk_gherkin.proofs.open_parts.examples_under.Goals as goal

pub returns-in_ok-push-in-Some : goal.returns-in_ok-push-in-Some
returns-in_ok-push-in-Some c =
    let scenarios = c.args.scenarios.now in
    sym (changed_last scenario_value (λ scenarios. Ok scenarios) scenarios.items (vec_len scenarios) c.in-Some.scenario.now _ (λ o. examples_under o (map scenario_value scenarios.items) (texts c.args.tags.items) (borrowed_value c.args.line.now)) scenarios.ok.0 (c.in-Some.ensures.variant.0 refl) c.in-Some.ensures.value (rw (c.in_ok-push-in-Some.ensures.items, map_push, ← ok_same c.in_ok-examples_from-in-Some.ensures) refl))
