-- Findings of a feature file.
use Rattle.std.specs.Prelude.{ℕ, List, [], ◌∷◌, ◌++◌, Option, Some, None}
use Rattle.gk_gherkin.specs.Feature.{FeatureValue}
use Rattle.gk_lint.specs.declared.findings.FindingKind.TheVariants.{FileWithoutFeature}
use Rattle.gk_lint.specs.Findings.{FindingValue, at_line}
use Rattle.gk_lint.specs.LineEnds.{cr_alone}
use Rattle.gk_lint.specs.MissingParts.{missing_parts}
use Rattle.gk_lint.specs.ScenarioNames.{same_names, scenarios_of}
use Rattle.gk_lint.specs.Placeholders.{of_outlines}
use Rattle.gk_lint.specs.Misspelt.{misspelt}

-- The findings of a feature: its missing parts, and those of its scenarios' names and placeholders.
abbrev pub of_feature : FeatureValue → List FindingValue
of_feature f = missing_parts f.line (scenarios_of f) ++ (same_names (scenarios_of f) ++ of_outlines (scenarios_of f))

-- The findings of a file's feature, or that the file has none, at line 1.
abbrev pub of_reading : Option FeatureValue → List FindingValue
of_reading None = at_line 1 FileWithoutFeature ∷ []
of_reading (Some f) = of_feature f

-- The findings of a file with this feature, or none, and these lines. They are of all kinds of `FindingKind` that need neither a library nor hooks.
abbrev pub file_findings : Option FeatureValue → List (List ℕ) → List FindingValue
file_findings feature lines = cr_alone lines ++ (of_reading feature ++ misspelt lines)
