use Rattle.gk_gherkin.proofs.Common.{option_map, feature_value, lines_of}
use Rattle.gk_gherkin.proofs.ReadingWhole.{if_ok, if_err}
use Rattle.gk_gherkin.proofs.FeatureReaderSound.{sound}
use Rattle.gk_gherkin.proofs.FeatureReaderStops.{feature_said, feature_only}
use Rattle.gk_gherkin.proofs.feature_reader.read_feature.Goals as goal

pub returns-clause-found : goal.returns-clause-found
returns-clause-found c = if_ok c.read.result _ _ (λ f h. (h.0, sound (lines_of c.args.bytes.now) (option_map feature_value f) h.1)) c.read.ensures.says

pub returns-clause-only : goal.returns-clause-only
returns-clause-only c = λ f t h. feature_only c.read.result f c.args.bytes.now c.read.ensures.says c.read.ensures.fault t h

pub returns-clause-fault : goal.returns-clause-fault
returns-clause-fault c = if_err c.read.result _ _ (λ e h. feature_said e c.args.bytes.now h) c.read.ensures.fault
