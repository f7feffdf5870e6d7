-- What is found of sources, one after another, and that they are read as a run reads them.
use Rattle.gk_findings.proofs.Common.{◌≡◌, ℕ, Bool, List, [], ◌∷◌, ◌++◌, Option, Some, None, refl, ap, sym, subst, ◌∙◌, append_assoc, option_to_list, string_bytes, append-nil, flat_map-append, lines_of, IsText, FeatureValue, Reads, IsExpandable, CaseValue, ChosenValue, LintSoFar, SourceValue, NotedLibraryValue, AreRead, with_reading, features_in, used_by, IsLintedAs, AreLinted, IsLintOf, IsLintedOnto, AreExpandable}

-- What was read can be expanded.
pub expandable : ((bytes : List ℕ) (f : FeatureValue) → IsText bytes → Reads (lines_of bytes) (Some f) → IsExpandable f) → (bytes : List ℕ) (reading : Option FeatureValue) → IsText bytes → Reads (lines_of bytes) reading → AreExpandable reading
expandable law bytes None text reads = tt
expandable law bytes (Some f) text reads = law bytes f text reads

-- One source more.
pub linted_one : (library : NotedLibraryValue) (ss : List SourceValue) (rs : List (Option FeatureValue)) (text : List ℕ) (s : SourceValue) (r : Option FeatureValue) (this : List ℕ) →
    AreLinted library ss rs text → IsLintedAs library s r this → AreLinted library (ss ++ s ∷ []) (rs ++ r ∷ []) (text ++ this)
linted_one library [] rs text s r this none one = (
  r,
  [],
  this,
  [],
  one,
  (refl, refl),
  ap (λ l. l ++ r ∷ []) none.0,
  ap (λ l. l ++ this) none.1 ∙ sym (append-nil this),
)
linted_one library (x ∷ ss) rs text s r this h one = (
  h.0,
  h.1 ++ r ∷ [],
  h.2,
  h.3 ++ this,
  h.4,
  linted_one library ss h.1 h.3 s r this h.5 one,
  ap (λ l. l ++ r ∷ []) h.6,
  ap (λ l. l ++ this) h.7 ∙ append_assoc h.2 h.3 this,
)

-- Sources that were linted are read, whichever cases are chosen.
pub are_read : (chooses : CaseValue → Bool) (library : NotedLibraryValue) (ss : List SourceValue) (rs : List (Option FeatureValue)) (text : List ℕ) →
    AreLinted library ss rs text → (features : List ChosenValue) × AreRead chooses ss features
are_read chooses library [] rs text none = ([], refl)
are_read chooses library (s ∷ ss) rs text h =
    let others = are_read chooses library ss h.1 h.3 h.5 in
    let linted = h.4 in
    (with_reading chooses s.name h.0 others.0, (h.0, others.0, linted.read, others.1, refl))

-- One source more, of all that was found.
pub lint_of_more : (library : NotedLibraryValue) (ss : List SourceValue) (s : SourceValue) (old new : LintSoFar) → IsLintOf library ss old → IsLintedOnto library s old new → IsLintOf library (ss ++ s ∷ []) new
lint_of_more library ss s old new before onto =
    let readings = before.readings ++ onto.reading ∷ [] in
    let features : features_in readings ≡ features_in before.readings ++ option_to_list onto.reading =
    flat_map-append option_to_list before.readings (onto.reading ∷ []) ∙ ap (λ l. features_in before.readings ++ l) (append-nil (option_to_list onto.reading)) in
    record {
      readings = readings;
      linted = subst (AreLinted library (ss ++ s ∷ []) readings) (sym onto.text.text) (linted_one library ss before.readings (string_bytes old.text) s onto.reading onto.text.this before.linted onto.text.linted);
      features = onto.features ∙ ap (λ l. l ++ option_to_list onto.reading) before.features ∙ sym features;
      used = onto.used ∙ ap (λ l. l ++ used_by library (option_to_list onto.reading)) before.used
          ∙ sym (flat_map-append _ (features_in before.readings) (option_to_list onto.reading)) ∙ ap (used_by library) (sym features);
    }
