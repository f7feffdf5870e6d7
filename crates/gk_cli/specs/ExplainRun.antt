-- A run whose explanation is written as each feature ends.
use Rattle.std.specs.Prelude.{◌≡◌, ℕ, Bool, false, List, [], ◌++◌, None, Option}
use Rattle.gk_select.specs.ExampleRows.{ExampleRowValue}
use Rattle.gk_world.specs.State.{Contents, State}
use Rattle.gk_run.specs.declared.results.Status.{Status}
use Rattle.gk_run.specs.Results.{FeatureRow, Results}
use Rattle.gk_run.specs.OpenSection.{Run}
use Rattle.gk_run.specs.Chosen.{ChosenValue}
use Rattle.gk_report.specs.Report.{tail}
use Rattle.gk_explain.specs.declared.explainer.Explainer.{Explainer}
use Rattle.gk_explain.specs.Headings.{failures_text}
use Rattle.gk_explain.specs.Explanation.{ExplanationValue, nothing_said, with_source, with_feature, with_run, with_taken}
use Rattle.gk_explain.specs.Explainer.{is_cut, said, Becomes, Hears, HearsEnd}
use Rattle.gk_report.specs.Report.{plain_style}
use Rattle.gk_request.specs.declared.request.Options.{Options}
use Rattle.gk_request.specs.declared.run_fault.RunFault.{RunFault}
use Rattle.gk_request.specs.Inputs.{Inputs, AreInputs, AreRowsOf}
use Rattle.gk_request.specs.Request.{Request, request_of}
use Rattle.gk_cli.specs.Suite.{run_with}
use Rattle.gk_cli.specs.Writing.{Device}
use Rattle.gk_cli.specs.FeatureLoop.{NotifiesOfFeature, IsRunWritten, IsRunWrittenUpTo}

-- The end of an explanation, once an explainer was notified of the end of a run with these results: what it says about the run's own hooks and cleanups, the list of failures, and the closing lines of the plain report.
abbrev pub last_text : ExplanationValue → List FeatureRow → Status → List ℕ
last_text e rows around = let ended = with_run around e in ended.ready ++ (failures_text ended.failures ++ tail plain_style rows around)

-- A feature began, and the explainer was notified of the name of its source.
abbrev pub Begins : Explainer → List ℕ → Explainer → Type 0
Begins old source new = Becomes old (with_source source) new

-- The text of a feature that ended with this result is what the explainer has ready then. It was taken.
pub record Adds (old : Explainer) (row : FeatureRow) (text : List ℕ) (new : Explainer) : Type 0 where
  pub ended : Explainer
  pub ends : Becomes old (with_feature row) ended
  pub ready : text ≡ (let e = said ended in e.ready)
  pub taken : said new ≡ with_taken (said ended)
  pub uncut : (is_cut ended ≡ false) × (is_cut new ≡ false)

-- The last text of an explainer that isn't cut.
abbrev pub Closes : Explainer → Results → List ℕ → Type 0
Closes e results text = (is_cut e ≡ false) × (text ≡ last_text (said e) results.features results.around)

-- An explainer was notified of a feature of a run in this state, and this is the text that it has ready of the feature.
abbrev pub Explains : Run → State → Bool → ChosenValue → FeatureRow → List ℕ → Explainer → Explainer → Type 0
Explains = NotifiesOfFeature Hears HearsEnd Begins Adds

-- The explanation of a run with judged results was written, and their status is returned. At the beginning the explainer, with the run's library, a hooks file of this name and the rows of each feature's cases, has said nothing.
abbrev pub IsExplained : Run → List ℕ → List (List (Option ExampleRowValue)) → Contents → List ChosenValue → Device → Device → ℕ → Type 0
IsExplained run hooks rows contents features old new answer =
    (first : Explainer) × (said first ≡ nothing_said run.library hooks rows) × IsRunWritten Hears Explains Closes run contents features first old new answer

-- A prefix was written of the text that such an explainer had ready of a run's first features, whose results begin a judged list, or of the explanation of a run with judged results.
abbrev pub IsExplainedUpTo : Run → List ℕ → List (List (Option ExampleRowValue)) → Contents → List ChosenValue → Device → Device → RunFault → Type 0
IsExplainedUpTo run hooks rows contents features old new fault =
    (first : Explainer) × (said first ≡ nothing_said run.library hooks rows) × IsRunWrittenUpTo Hears Explains Closes run contents features first old new fault

-- What stays constant during an explained run of these inputs. It isn't dry, whatever the request says.
abbrev pub explained_run : Request → Inputs → Run
explained_run r inputs = record (run_with r inputs) { dry_run = false }

-- Proof machinery: what stays constant during an explained run with these options, for any files and sources.
abbrev pub explained_by : Options → Inputs → Run
explained_by options inputs = explained_run (request_of options None None []) inputs

-- The request reads, with the rows of each feature's cases, the explanation of a run of it with judged results was written, and their status is returned.
abbrev pub Explained : Request → List ℕ → Contents → Device → Device → ℕ → Type 0
Explained r hooks contents old new answer = (inputs : Inputs) × (rows : List (List (Option ExampleRowValue))) × AreInputs r inputs × AreRowsOf r.sources rows × IsExplained (explained_run r inputs) hooks rows contents inputs.features old new answer

-- The request reads, and a prefix of the text that explains a run of it was written.
abbrev pub ExplainedInPart : Request → List ℕ → Contents → Device → Device → RunFault → Type 0
ExplainedInPart r hooks contents old new fault = (inputs : Inputs) × (rows : List (List (Option ExampleRowValue))) × AreInputs r inputs × AreRowsOf r.sources rows × IsExplainedUpTo (explained_run r inputs) hooks rows contents inputs.features old new fault
