use Rattle.gk_cli.proofs.Common.{◌++◌, ◌∙◌, [], ap, ap₂, append_assoc, tail, failures_text, ExplanationValue, with_run, said, plain_style}
use Rattle.gk_cli.proofs.explain_run.ExplainerReporter.run_ended.Goals as goal

pub returns : goal.returns
returns c =
    λ rows counted.
    let ended = c.end_run.ensures.becomes c.in_ok-text.ensures.uncut in
    let e : ExplanationValue = with_run c.args.around (said c.args.self) in
    let ready = c.in_ok-text.ensures.text ∙ ap (λ (x : ExplanationValue). x.ready) ended.1 in
    let failures = c.as_str.ensures.value ∙ c.in_ok-failures.ensures.text ∙ ap (λ (x : ExplanationValue). failures_text x.failures) (c.in_ok-text.ensures.left ∙ ap (λ (x : ExplanationValue). record x { ready = [] }) ended.1) in
    let counts = c.as_str-2.ensures.value ∙ c.in_ok-counts.ensures.tail rows counted in (
      ended.0,
      c.in_ok-push_str-2.ensures.bytes ∙ ap₂ (λ xs ys. xs ++ ys) (c.in_ok-push_str.ensures.bytes ∙ ap₂ (λ xs ys. xs ++ ys) ready failures) counts
          ∙ append_assoc e.ready (failures_text e.failures) (tail plain_style rows c.args.around),
    )
