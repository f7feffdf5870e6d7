use Rattle.gk_explain.proofs.Common.{rules, ◌≡◌, ◌∙◌, false, [], step_value, state_of, of_step, used_in, with_event, is_cut, said}
use Rattle.gk_explain.proofs.ExplanationLemmas.{whatever_registered}
use Rattle.gk_explain.proofs.explainer.ExplainerObserver.step.Goals as goal

pub returns : goal.returns
returns c registered has uncut =
    let old = said c.args.self.now in
    let step = step_value c.args.step.now in
    let done = c.args.done.now in
    let s = state_of c.args.sandbox.now.now in
    let known : is_cut c.cut_after.new.self ≡ false → (is_cut c.args.self.now ≡ false) × (said c.cut_after.new.self ≡ with_event (of_step c.args.stage step done.mark (used_in done) [] s) old) = search rules in
    ((known uncut).0, (known uncut).1 ∙ whatever_registered c.args.stage step done.mark (used_in done) registered s old)
