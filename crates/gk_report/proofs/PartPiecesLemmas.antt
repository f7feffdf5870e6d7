-- What a part begins with, and which texts aren't empty.
use Rattle.gk_report.proofs.Common.{◌≡◌, ◌≢◌, ℕ, Bool, true, false, Result, Ok, Err, IfErr, List, [], ◌∷◌, ◌++◌, append_assoc, arith, common_steps, FeatureRow, LinesLeft, ObjectsLeft, PartPieces, is_hidden, object_start, objects_text, objects_left, object_end, json_part, lines_and_end, objects_and_end}
use Rattle.gk_report.proofs.JsonReportLemmas.{object_parts}

-- In JSON what stands before the scenarios is pushed, and their objects and what follows them are left.
pub json_start : (no_skipped first : Bool) (f : FeatureRow) (old : List ℕ) {new objects : List ℕ} → is_hidden no_skipped f.status ≡ false → new ≡ old ++ object_start first f →
    objects ≡ objects_text no_skipped true f.cases → new ++ (objects ++ object_end f) ≡ old ++ json_part no_skipped first f
unfolding json_part
json_start no_skipped first f old shown a b = grind (arith, common_steps, append_assoc, object_parts)

some_first : (b : ℕ) (bs : List ℕ) → b ∷ bs ≢ []
some_first b bs = λ e. absurd cc

-- What ends with a text that isn't empty isn't empty.
pub some_after : (xs ys : List ℕ) → ys ≢ [] → xs ++ ys ≢ []
some_after [] ys some = some
some_after (x ∷ xs) ys some = some_first x (xs ++ ys)

-- The lines of scenarios and the text after them aren't empty.
pub some_lines : (p : PartPieces) (lines : LinesLeft) → lines_and_end p lines ≢ []
some_lines p lines = grind (arith, common_steps, some_after, some_first)

-- The objects of scenarios and the text after them aren't empty.
pub some_objects : (p : PartPieces) (objects : ObjectsLeft) → objects_and_end p objects ≢ []
unfolding object_end
some_objects p objects = some_after (objects_left p.style.no_skipped objects) _ (some_first _ _)

-- What holds anyway holds at an error.
pub if_err : {T E P : Type 0} (r : Result T E) → P → IfErr r (λ e. P)
if_err (Ok x) p = tt
if_err (Err e) p = p
