-- Worked examples of outlines and of what scenarios inherit.
use Rattle.std.specs.Prelude.{codes, ◌≡◌, ℕ, List, [], ◌∷◌, map, Option, Some, None, refl}
use Rattle.std.specs.Fmt.{digits}
use Rattle.gk_gherkin.specs.declared.feature.StepType.TheVariants.{Given, Then}
use Rattle.gk_gherkin.specs.Feature.{Empty, StepValue, ExamplesValue, ScenarioValue, FeatureValue}
use Rattle.gk_select.specs.Filling.{filled, filled_from, cell_of}
use Rattle.gk_select.specs.Expansion.{cases}
use Rattle.gk_select.specs.Case.{CaseValue}
use Rattle.gk_select.specs.ExampleRows.{outline_rows}
use Rattle.gk_select.specs.Outline.{outline_name}

-- Filling: replaced text isn't looked at again, a `<` that begins no placeholder stays, and of two equal headers the first counts.
inner_filled : filled (codes "a" ∷ []) (codes "1" ∷ []) (codes "<a<a>>") ≡ codes "<a1>"
unfolding filled filled_from cell_of
inner_filled = refl

once_filled : filled (codes "a" ∷ codes "b" ∷ []) (codes "<b>" ∷ codes "x" ∷ []) (codes "is \"<a>\" <c> <") ≡ codes "is \"<b>\" <c> <"
unfolding filled filled_from cell_of
once_filled = refl

first_counts : filled (codes "a" ∷ codes "a" ∷ []) (codes "1" ∷ codes "2" ∷ []) (codes "<a><a>") ≡ codes "11"
unfolding filled filled_from cell_of
first_counts = refl

header_with_end : filled (codes "a>b" ∷ []) (codes "1" ∷ []) (codes "<a>b>") ≡ codes "<a>b>"
unfolding filled filled_from cell_of
header_with_end = refl

empty_header : filled ([] ∷ []) (codes "1" ∷ []) (codes "x<>y") ≡ codes "x1y"
unfolding filled filled_from cell_of
empty_header = refl

-- An outline with two Examples of one row each.
set_step : List ℕ → StepValue
set_step text = record { keyword = codes "Given"; step_type = Given; text = text; block = Empty; line = 3 }

check_step : List ℕ → StepValue
check_step text = record { keyword = codes "Then"; step_type = Then; text = text; block = Empty; line = 4 }

abbrev first_examples : ExamplesValue
first_examples = record { name = []; line = 5; tags = []; header = codes "a" ∷ codes "b" ∷ []; rows = record { line = 7; cells = codes "<b>" ∷ codes "x" ∷ [] } ∷ [] }

abbrev more_examples : ExamplesValue
more_examples = record { name = codes "more"; line = 8; tags = []; header = codes "a" ∷ codes "b" ∷ []; rows = record { line = 10; cells = codes "y" ∷ codes "z" ∷ [] } ∷ [] }

abbrev outline : FeatureValue
outline = record {
  name = codes "o";
  line = 1;
  tags = [];
  background = None;
  rules = [];
  scenarios = record {
    keyword = codes "Scenario Outline";
    name = codes "s";
    line = 2;
    tags = [];
    steps = set_step (codes "the variable \"V\" is set to \"<a>\"") ∷ check_step (codes "the variable \"V\" should be \"<a>\"") ∷ [];
    examples = first_examples ∷ more_examples ∷ [];
  } ∷ [];
}

outline_names : map (λ (c : CaseValue). c.name) (cases outline) ≡ codes "s -- @1.1" ∷ codes "s -- @2.1 more" ∷ []
unfolding cases filled filled_from cell_of digits
outline_names = refl

outline_lines : map (λ (c : CaseValue). c.line) (cases outline) ≡ 7 ∷ 10 ∷ []
unfolding cases filled filled_from cell_of digits
outline_lines = refl

outline_texts : map (λ (c : CaseValue). map (λ (s : StepValue). s.text) c.steps) (cases outline)
    ≡ (codes "the variable \"V\" is set to \"<b>\"" ∷ codes "the variable \"V\" should be \"<b>\"" ∷ [])
    ∷ (codes "the variable \"V\" is set to \"y\"" ∷ codes "the variable \"V\" should be \"y\"" ∷ []) ∷ []
unfolding cases filled filled_from cell_of digits set_step check_step
outline_texts = refl

rows_of_outline : outline_rows outline
    ≡ Some (record { line = 7; number = 1; cells = (codes "a", codes "<b>") ∷ (codes "b", codes "x") ∷ [] })
    ∷ Some (record { line = 10; number = 1; cells = (codes "a", codes "y") ∷ (codes "b", codes "z") ∷ [] }) ∷ []
unfolding outline_rows
rows_of_outline = refl

-- A name has no blanks at its end, also where the Examples have no name; a blank at its beginning stays.
name_without_blanks : outline_name (codes "s") 1 2 (codes "more \t") ≡ codes "s -- @1.2 more"
unfolding digits
name_without_blanks = refl

no_names : outline_name [] 1 12 [] ≡ codes " -- @1.12"
unfolding digits
no_names = refl

-- A feature and a rule, each with tags and a Background. A placeholder in a Background isn't filled, and the tags of Examples are those of their rows alone.
given_step : List ℕ → ℕ → StepValue
given_step text n = record { keyword = codes "Given"; step_type = Given; text = text; block = Empty; line = n }

abbrev tagged_examples : ExamplesValue
tagged_examples = record { name = []; line = 12; tags = codes "@e" ∷ []; header = codes "a" ∷ []; rows = record { line = 14; cells = codes "1" ∷ [] } ∷ [] }

abbrev no_table : ExamplesValue
no_table = record { name = []; line = 15; tags = codes "@n" ∷ []; header = []; rows = [] }

abbrev in_rule : ScenarioValue
in_rule = record { keyword = codes "Scenario Template"; name = codes "t <a>"; line = 10; tags = codes "@s" ∷ []; steps = given_step (codes "own <a>") 11 ∷ []; examples = tagged_examples ∷ no_table ∷ [] }

abbrev plain : ScenarioValue
plain = record { keyword = codes "Example"; name = codes "p <a>"; line = 5; tags = codes "@p" ∷ []; steps = given_step (codes "plain") 6 ∷ []; examples = [] }

abbrev without_rows : ScenarioValue
without_rows = record { keyword = codes "Scenario Outline"; name = codes "w"; line = 16; tags = []; steps = given_step (codes "never") 17 ∷ []; examples = [] }

abbrev inheriting : FeatureValue
inheriting = record {
  name = codes "f";
  line = 1;
  tags = codes "@f" ∷ [];
  background = Some (record { line = 2; steps = given_step (codes "first <a>") 3 ∷ [] });
  scenarios = plain ∷ [];
  rules = record {
    name = codes "r";
    line = 7;
    tags = codes "@r" ∷ [];
    background = Some (record { line = 8; steps = given_step (codes "second") 9 ∷ [] });
    scenarios = in_rule ∷ without_rows ∷ [];
  } ∷ [];
}

-- What is compared of a case.
record Shown : Type 0 where
  name : List ℕ
  line : ℕ
  rule : Option ℕ
  tags : List (List ℕ)
  own_tags : List (List ℕ)
  steps : List (List ℕ)

shown : CaseValue → Shown
shown c = record { name = c.name; line = c.line; rule = c.rule; tags = c.tags; own_tags = c.own_tags; steps = map (λ (s : StepValue). s.text) c.steps }

inherited : map shown (cases inheriting)
    ≡ record { name = codes "p <a>"; line = 5; rule = None; tags = codes "@f" ∷ codes "@p" ∷ []; own_tags = codes "@p" ∷ []; steps = codes "first <a>" ∷ codes "plain" ∷ [] }
    ∷ record { name = codes "t 1 -- @1.1"; line = 14; rule = Some 0; tags = codes "@f" ∷ codes "@r" ∷ codes "@s" ∷ codes "@e" ∷ []; own_tags = codes "@s" ∷ codes "@e" ∷ []; steps = codes "first <a>" ∷ codes "second" ∷ codes "own 1" ∷ [] }
    ∷ []
unfolding cases filled filled_from cell_of digits given_step shown
inherited = refl
