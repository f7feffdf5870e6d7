-- Proof machinery: the values of the code's reader of a feature file. No public contract cites it.
use Rattle.std.specs.Prelude.{List, Option, Some, None, Result, String, option_map}
use Rattle.gk_gherkin.specs.declared.class.Class.{Class}
use Rattle.gk_gherkin.specs.declared.feature.Feature.{Feature}
use Rattle.gk_gherkin.specs.declared.feature_reader.TagLines.{TagLines}
use Rattle.gk_gherkin.specs.declared.feature_reader.FeatureReader.{FeatureReader}
use Rattle.gk_gherkin.specs.declared.lines.BorrowedLine.{BorrowedLine}
use Rattle.gk_gherkin.specs.declared.read_fault.ReadFault.{ReadFault}
use Rattle.gk_gherkin.specs.Lines.{borrowed_value}
use Rattle.gk_gherkin.specs.Feature.{FeatureValue, texts, feature_value}
use Rattle.gk_gherkin.specs.Results.{Agrees}
use Rattle.gk_gherkin.specs.FeatureReader as spec

-- The value of the feature read so far, if there is one.
abbrev pub so_far_value : Option Feature → Option FeatureValue
so_far_value feature = option_map feature_value feature

-- The value of the feature so far with the tags after it, if there are any.
abbrev pub tagged_value : Option Feature → Option TagLines → spec.FeatureReader
tagged_value feature None = spec.Untagged (so_far_value feature)
tagged_value feature (Some lines) = spec.Tagged (so_far_value feature) (texts lines.tags.items) lines.last

-- The value of a `FeatureReader`.
abbrev pub reader_value : FeatureReader → spec.FeatureReader
reader_value reader = tagged_value reader.feature reader.tags

-- The effect of a heading after these tags is that of the definitions, and so is its fault.
abbrev pub TakesHeading : {Z : Type 0} → Option Feature → List (String Z) → BorrowedLine → Class → Result Unit ReadFault → Option Feature → Type 0
TakesHeading old tags line class result new = Agrees (λ _. so_far_value new) result (spec.on_heading (so_far_value old) (texts tags) (borrowed_value line) class)

-- For every feature so far, the tags of this line follow the older ones, and this line is that of the last tag; or the fault is that of the definitions.
abbrev pub AddsTags : {Z : Type 0} → List (String Z) → BorrowedLine → Result TagLines ReadFault → Type 0
AddsTags old line result = (feature : Option FeatureValue) → Agrees (λ (t : TagLines). spec.Tagged feature (texts t.tags.items) t.last) result (spec.on_tags feature (texts old) (borrowed_value line))
