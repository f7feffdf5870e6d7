-- The order of a run's results.
use Rattle.std.specs.Prelude.{List}
use Rattle.std.specs.List.{AllByRecursion}
use Rattle.gk_world.specs.State.{Contents}
use Rattle.gk_run.specs.Results.{FeatureRow, Results}
use Rattle.gk_report.specs.RuleGroups.{AreInFileOrder}
use Rattle.gk_request.specs.Request.{Request}
use Rattle.gk_cli.specs.Suite.{AreJudged}

-- In the results of each feature, the lines of the rules and those of the scenarios are non-decreasing. (Cucumber's Gherkin reference: feature, rule)
abbrev pub RowsAreInFileOrder : List FeatureRow → Type 0
RowsAreInFileOrder rows = AllByRecursion (λ (row : FeatureRow). AreInFileOrder row.rules row.cases) rows

-- Results that are judged for a request are in file order, wherever a run is cut, and also in a dry run. So what `RulesFollowTheirScenarios` says about lists in file order holds for them.
abbrev pub JudgedRowsAreInFileOrder : Type 0
JudgedRowsAreInFileOrder = (r : Request) (contents : Contents) (results : Results) → AreJudged r contents results → RowsAreInFileOrder results.features
