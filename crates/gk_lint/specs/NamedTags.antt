-- Tags that tag rules name and that no feature has.
use Rattle.std.specs.Prelude.{not, ℕ, Bool, List, filter, flat_map}
use Rattle.gk_gherkin.specs.Feature.{FeatureValue}
use Rattle.gk_select.specs.TagGrammar.{Expression}
use Rattle.gk_select.specs.TagGrammar as rules
use Rattle.gk_lint.specs.TagUse.{tags_in}
use Rattle.gk_lint.specs.TextSets.{is_one_of}

-- The tags that tag rules name, one rule after the other. (behave's documentation: tag expressions; Cucumber's tag expressions)
abbrev pub named_by : List Expression → List (List ℕ)
named_by wanted = flat_map rules.tags_in wanted

-- The tags for which a test doesn't hold, in their order.
abbrev pub without : (List ℕ → Bool) → List (List ℕ) → List (List ℕ)
without stands tags = filter (λ tag. not (stands tag)) tags

-- The tags that tag rules name and that these features don't have, in the order of the rules and of the tags in each. A tag is repeated as often as it is named.
abbrev pub nowhere : List FeatureValue → List Expression → List (List ℕ)
nowhere features wanted = without (is_one_of (tags_in features)) (named_by wanted)
