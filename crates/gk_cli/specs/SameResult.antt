-- A scenario's result in the runs of two requests.
use Rattle.std.specs.Prelude.{◌≡◌, ◌⊎◌, ℕ, true, false, List, length, take, slice_get, Some}
use Rattle.gk_gherkin.specs.Feature.{FeatureValue}
use Rattle.gk_gherkin.specs.Grammar.{Reads}
use Rattle.gk_gherkin.specs.Lines.{lines_of}
use Rattle.gk_select.specs.Case.{CaseValue}
use Rattle.gk_select.specs.Choice.{is_chosen}
use Rattle.gk_select.specs.Expansion.{cases}
use Rattle.gk_select.specs.TagGrammar.{Expression}
use Rattle.gk_world.specs.State.{Contents, state_of}
use Rattle.gk_run.specs.Chosen.{ChosenValue}
use Rattle.gk_run.specs.Judged.{has_memory}
use Rattle.gk_run.specs.OwnResult.{ran_whole}
use Rattle.gk_run.specs.Results.{CaseRow, FeatureRow, Results}
use Rattle.gk_request.specs.Inputs.{AreRead, AreRules}
use Rattle.gk_request.specs.Request.{Request}
use Rattle.gk_request.specs.Source.{SourceValue}
use Rattle.gk_cli.specs.Suite.{AreJudged}

-- One of the request's sources has these bytes. They spell a feature, and the request selects the case of this number in it, counted from 0. Among these results, which have a row for each source with a feature, this is the case's row.
pub record HasRow (r : Request) (results : Results) (bytes : List ℕ) (number : ℕ) (row : CaseRow) : Type 0 where
  pub feature : FeatureValue
  pub spelt : Reads (lines_of bytes) (Some feature)
  pub scenario : CaseValue
  pub numbered : slice_get (cases feature) number ≡ Some scenario
  pub rules : List Expression
  pub tags : AreRules r.tags rules
  pub selected : is_chosen rules r.lines scenario ≡ true
  pub input : ℕ
  pub source : SourceValue
  pub given : slice_get r.sources input ≡ Some source
  pub same_bytes : source.bytes ≡ bytes
  pub before : List ChosenValue
  pub read : AreRead (is_chosen rules r.lines) (take input r.sources) before
  pub feature_row : FeatureRow
  pub in_results : slice_get results.features (length before) ≡ Some feature_row
  pub in_feature : slice_get feature_row.cases number ≡ Some row

-- The result of a selected scenario is settled: it is neither untested nor memory; or the run isn't dry, isn't to stop at a failure, and nothing in it is memory.
abbrev pub IsSettledIn : Request → Results → CaseRow → Type 0
IsSettledIn r results row = (ran_whole row ≡ true) ⊎ ((r.dry_run ≡ false) × (r.stop ≡ false) × (has_memory results ≡ false))

-- Two requests have the same library file and the same hooks file, and run from the same files, variables and values. A source of each has the same bytes. If both select a scenario of it, and its result is settled in both runs, it is the same in both. Their other sources, `--tags`, `--line`, `--stop` and where memory was refused may all differ. (Cucumber's reference: state; behave's documentation: context layers)
abbrev pub ScenariosComeToTheSameInEachRun : Type 0
ScenariosComeToTheSameInEachRun = (r other : Request) (contents other_contents : Contents) (results other_results : Results) (bytes : List ℕ) (number : ℕ) (row other_row : CaseRow) →
    other.library ≡ r.library → other.hooks ≡ r.hooks → state_of other_contents ≡ state_of contents →
    AreJudged r contents results → HasRow r results bytes number row → IsSettledIn r results row →
    AreJudged other other_contents other_results → HasRow other other_results bytes number other_row → IsSettledIn other other_results other_row →
    other_row ≡ row
