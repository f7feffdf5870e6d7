use Rattle.gk_request.proofs.Common.{◌++◌, ◌∷◌, [], take, sym, subst, string_bytes, texts, Expression, ReadsTags, AreRules, IsFirstBadText}
use Rattle.gk_request.proofs.InputsLemmas.{at_place, take_one, rules_one, first_bad, is_bad}
use Rattle.gk_request.proofs.inputs.read_rules.Goals as goal

pub returns-in-Err-BadTagText-clause-bad : goal.returns-in-Err-BadTagText-clause-bad
returns-in-Err-BadTagText-clause-bad c =
    let tags = texts c.args.tags.now in
    let place = at_place string_bytes c.args.tags.now c.loop-text.text-index c.text-item.result c.loop-text-test.true c.text-item.is in
    let bad = is_bad c.in-Err-BadTagText.field-0 c.in-Err-BadTagText.field-0-is c.in-Err-BadTagText.ensures.fault in
    subst (IsFirstBadText tags) (sym c.as_str-in-Err-BadTagText.ensures.value)
    (first_bad tags c.loop-text.text-index (string_bytes c.text-item.result) c.loop-text.rules.items place c.loop-text.invariant (subst (λ b. (rule : Expression) → ReadsTags b rule → ⊥) c.as_str.ensures.value bad))

pub loop-text-preserved : goal.loop-text-preserved
loop-text-preserved c =
    let tags = texts c.args.tags.now in
    let text = string_bytes c.text-item.result in
    let place = at_place string_bytes c.args.tags.now c.loop-text.text-index c.text-item.result c.loop-text-test.true c.text-item.is in
    let reads = subst (λ b. ReadsTags b c.in-Ok.rule) c.as_str.ensures.value c.in-Ok.ensures.found in
    subst (λ ts. AreRules ts c.push.new.self.items) (sym (take_one tags c.loop-text.text-index text place))
    (subst (AreRules (take c.loop-text.text-index tags ++ text ∷ [])) (sym c.in_ok-push-in-Ok.ensures.items)
    (rules_one (take c.loop-text.text-index tags) c.loop-text.rules.items text c.in-Ok.rule c.loop-text.invariant reads))
