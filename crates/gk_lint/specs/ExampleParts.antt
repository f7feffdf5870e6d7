-- Examples of an outline with their columns.
use Rattle.gk_gherkin.specs.Feature.{ExamplesValue, examples_value}
use Rattle.gk_lint.specs.declared.example_parts.Part.{Part}

-- Proof machinery: the Examples that a part of an outline has.
abbrev pub part_value : Part → ExamplesValue
part_value part = examples_value part.examples.now
