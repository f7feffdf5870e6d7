-- A scenario as it is run.
use Rattle.std.specs.Prelude.{ℕ, List, map, Option, string_bytes}
use Rattle.gk_gherkin.specs.Keyword.{keyword_text}
use Rattle.gk_gherkin.specs.Feature.{texts, StepValue, step_value}
use Rattle.gk_select.specs.declared.case.Case.{Case}

-- A case: a plain scenario, or an outline filled from one row. Its rule is an index among the rules of the feature, counted from 0; a case in no rule has none.
pub record CaseValue : Type 0 where
  pub name : List ℕ
  pub keyword : List ℕ
  pub line : ℕ
  pub rule : Option ℕ
  pub tags : List (List ℕ)
  pub own_tags : List (List ℕ)
  pub steps : List StepValue

-- The value of a `Case`.
abbrev pub case_value : Case → CaseValue
case_value c = record { name = string_bytes c.name; keyword = keyword_text c.keyword; line = c.line; rule = c.rule; tags = texts c.tags.value.items; own_tags = texts c.own_tags.value.items; steps = map step_value c.steps.items }
