use Rattle.gk_explain.proofs.ExplainerLemmas.{explained_by_its_events}
use Rattle.gk_explain.proofs.explainer.cases_are_explained.Goals as goal

pub returns : goal.returns
returns c = explained_by_its_events
