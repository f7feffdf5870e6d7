-- The part of a feature in a report, made piece by piece.
use Rattle.std.specs.Prelude.{◌≡◌, ◌≢◌, ℕ, ◌+◌, ◌*◌, ◌<◌, List, [], ◌++◌, length}
use Rattle.gk_run.specs.declared.results.FeatureResult.{FeatureResult}
use Rattle.gk_run.specs.Results.{feature_row}
use Rattle.gk_report.specs.declared.plain_report.LinesLeft.{LinesLeft}
use Rattle.gk_report.specs.declared.json_report.ObjectsLeft.{ObjectsLeft}
use Rattle.gk_report.specs.declared.part_pieces.Left.{Left}
use Rattle.gk_report.specs.declared.part_pieces.Left.TheVariants.{Whole, Lines, Objects, Nothing}
use Rattle.gk_report.specs.declared.part_pieces.PartPieces.{PartPieces}
use Rattle.gk_report.specs.PlainReport.{lines_left, lines_to_go, feature_end}
use Rattle.gk_report.specs.JsonReport.{objects_left, objects_to_go, object_end}
use Rattle.gk_report.specs.Report.{part}

-- The lines of scenarios, and the text after them.
abbrev pub lines_and_end : PartPieces → LinesLeft → List ℕ
lines_and_end p lines = lines_left p.style.no_skipped lines ++ feature_end p.feature.now.around

-- The objects of scenarios, and the text after them.
abbrev pub objects_and_end : PartPieces → ObjectsLeft → List ℕ
objects_and_end p objects = objects_left p.style.no_skipped objects ++ object_end (feature_row p.feature.now)

-- The text that is left of a part, by what is left of its scenarios.
abbrev pub rest_by : PartPieces → Left → List ℕ
rest_by p (Whole first) = part p.style first (feature_row p.feature.now)
rest_by p (Lines lines) = lines_and_end p lines
rest_by p (Objects objects) = objects_and_end p objects
rest_by p Nothing = []

-- The text that is left of a part. It is all of the part; or the lines or objects of the scenarios from one on, and the text after them; or nothing.
unfoldable pub rest : PartPieces → List ℕ
rest p = rest_by p p.left

-- The least length of a piece that isn't the last one.
abbrev pub full_length : ℕ
full_length = 16 * 1024

-- A piece isn't empty. Together with what is left after it, it is what was left before it. If the piece isn't full, nothing is left.
pub record IsPiece (old text new : List ℕ) : Type 0 where
  pub whole : old ≡ text ++ new
  pub some : text ≢ []
  pub full : length text < full_length → new ≡ []

-- Proof machinery: the greatest number of texts to push if none is pushed yet.
abbrev pub whole_to_go : FeatureResult → ℕ
whole_to_go f = (length f.rules.items + length f.cases.items) + 2

-- Proof machinery: the greatest number of texts to push, by what is left of the scenarios.
abbrev pub to_go_by : PartPieces → Left → ℕ
to_go_by p (Whole first) = whole_to_go p.feature.now
to_go_by p (Lines lines) = lines_to_go lines + 1
to_go_by p (Objects objects) = objects_to_go objects + 1
to_go_by p Nothing = 0

-- Proof machinery: the greatest number of texts to push.
abbrev pub to_go : PartPieces → ℕ
to_go p = to_go_by p p.left
