use Rattle.gk_select.proofs.Common.{◌≡◌, rules, tests, subst, YieldsList-from_slice, all_from_yields_List, tags_of, ChoiceValue, all_hold, holds}
use Rattle.gk_select.proofs.choice.Choice.rules_hold.Goals as goal

pub returns : goal.returns
returns c =
    subst (λ (choice : ChoiceValue). c.all.result ≡ all_hold choice.rules (tags_of c.args.tags.now)) c.self.view_is
    (all_from_yields_List (λ x. holds x (tags_of c.args.tags.now)) _ _ c.all.result c.all.ensures.ran (YieldsList-from_slice c.self.inside.rules.items cc) (λ x b q k. search (rules, tests)))
