-- The rule, the tags and the Background steps that scenarios have in common.
use Rattle.std.specs.Prelude.{◌≡◌, ℕ, List, [], ◌++◌, map, Option, Some, None}
use Rattle.gk_gherkin.specs.Feature.{texts, StepValue, BackgroundValue, RuleValue, FeatureValue, step_value}
use Rattle.gk_select.specs.declared.inherited.Inherited.{Inherited}
use Rattle.gk_select.specs.declared.inherited.CaseTags.{CaseTags}

-- What scenarios have in common: the index of their rule, if they are in one, and the tags and Background steps that they inherit. (Cucumber's Gherkin reference: rule, background, tag inheritance)
pub record InheritedValue : Type 0 where
  pub rule : Option ℕ
  pub tags : List (List ℕ)
  pub steps : List StepValue

-- The value of an `Inherited`.
abbrev pub inherited_value : Inherited → InheritedValue
inherited_value i = record { rule = i.rule; tags = texts i.feature_tags.now ++ texts i.rule_tags.now; steps = map step_value i.feature_steps.now ++ map step_value i.rule_steps.now }

-- The steps of a Background, or none if there is no Background. (Cucumber's Gherkin reference: background)
abbrev pub background_steps : Option BackgroundValue → List StepValue
background_steps None = []
background_steps (Some background) = background.steps

-- What a feature's own scenarios inherit. (Cucumber's Gherkin reference: background, tag inheritance)
abbrev pub inherited_in_feature : FeatureValue → InheritedValue
inherited_in_feature f = record { rule = None; tags = f.tags; steps = background_steps f.background }

-- What the scenarios of the rule at this index inherit: the tags and the Background of the feature, and then those of the rule. (Cucumber's Gherkin reference: rule, background, tag inheritance)
abbrev pub inherited_in_rule : FeatureValue → ℕ → RuleValue → InheritedValue
inherited_in_rule f index r = record { rule = Some index; tags = f.tags ++ r.tags; steps = background_steps f.background ++ background_steps r.background }

-- Proof machinery: these are the tags of cases that inherit this and have these own tags.
abbrev pub AreCaseTags : Inherited → List (List ℕ) → CaseTags → Type 0
AreCaseTags i own tags = (texts tags.all.value.items ≡ (inherited_value i).tags ++ own) × (texts tags.own.value.items ≡ own)
