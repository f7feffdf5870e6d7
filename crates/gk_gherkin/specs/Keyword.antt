-- The keywords of headings and steps.
use Rattle.std.specs.Prelude.{codes, ℕ, List}
use Rattle.gk_gherkin.specs.declared.keyword.Keyword.{Keyword}
use Rattle.gk_gherkin.specs.declared.keyword.Keyword.TheVariants.{Feature, Rule, Background, ScenarioOutline, ScenarioTemplate, Scenarios, Scenario, Examples, Example, Given, When, Then, And, But, Star}

-- A keyword as it is written, without the colon of a heading. (Cucumber's Gherkin reference: keywords)
abbrev pub keyword_text : Keyword → List ℕ
keyword_text Feature = codes "Feature"
keyword_text Rule = codes "Rule"
keyword_text Background = codes "Background"
keyword_text ScenarioOutline = codes "Scenario Outline"
keyword_text ScenarioTemplate = codes "Scenario Template"
keyword_text Scenarios = codes "Scenarios"
keyword_text Scenario = codes "Scenario"
keyword_text Examples = codes "Examples"
keyword_text Example = codes "Example"
keyword_text Given = codes "Given"
keyword_text When = codes "When"
keyword_text Then = codes "Then"
keyword_text And = codes "And"
keyword_text But = codes "But"
keyword_text Star = codes "*"

-- The correct spelling of a keyword, with the colon of a heading. (Cucumber's Gherkin reference: keywords)
abbrev pub spelling : Keyword → List ℕ
spelling Feature = codes "Feature:"
spelling Rule = codes "Rule:"
spelling Background = codes "Background:"
spelling ScenarioOutline = codes "Scenario Outline:"
spelling ScenarioTemplate = codes "Scenario Template:"
spelling Scenarios = codes "Scenarios:"
spelling Scenario = codes "Scenario:"
spelling Examples = codes "Examples:"
spelling Example = codes "Example:"
spelling step_word = keyword_text step_word
