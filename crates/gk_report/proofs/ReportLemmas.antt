-- A JSON report is one document, and a report grows by the parts of its features.
use Rattle.gk_report.proofs.Common.{◌≡◌, ℕ, Bool, true, false, cond, not, ◌&&◌, List, [], ◌∷◌, ◌++◌, map, ap, sym, ◌∙◌, refl, append_assoc, append-nil, arith, common_steps, codes, items_of, compact_text, items_text, serde_json_on_literals, FeatureRow, Results, Style, is_hidden, feature_data, printed_features, json_head, json_part, json_tail, head, part, is_empty, parts_from, parts, tail, report, IsOneDocument, ReportsGrowByParts}
use Rattle.gk_report.specs.declared.report.Format.TheVariants as formats

abbrev json : Bool → Style
json no_skipped = record { format = formats.Json; no_skipped = no_skipped }

-- The items of the features' array are the parts and the bracket.
abbrev Items : Bool → Bool → List FeatureRow → Type 0
Items no_skipped first rows = items_text (not first) (items_of (map (feature_data no_skipped) (printed_features no_skipped rows))) ≡ parts_from (json no_skipped) first rows ++ 93 ∷ []

abbrev one_part : Bool → Bool → FeatureRow → Bool → List ℕ
one_part no_skipped first f hidden = cond hidden [] (cond first [] (codes ",") ++ compact_text (feature_data no_skipped f))

one_more : (no_skipped first hidden : Bool) (f : FeatureRow) (rows : List FeatureRow) → ((first : Bool) → Items no_skipped first rows) →
    items_text (not first) (items_of (map (feature_data no_skipped) (cond (not hidden) (f ∷ printed_features no_skipped rows) (printed_features no_skipped rows))))
    ≡ one_part no_skipped first f hidden ++ parts_from (json no_skipped) (first && is_empty (one_part no_skipped first f hidden)) rows ++ 93 ∷ []
one_more no_skipped true true f rows others = others true
one_more no_skipped false true f rows others = others false
one_more no_skipped true false f rows others = grind (arith, common_steps)
one_more no_skipped false false f rows others = grind (arith, common_steps)

items_parts : (no_skipped : Bool) (rows : List FeatureRow) (first : Bool) → Items no_skipped first rows
unfolding json_part
items_parts no_skipped [] true = refl
items_parts no_skipped [] false = refl
items_parts no_skipped (f ∷ rows) first = one_more no_skipped first (is_hidden no_skipped f.status) f rows (items_parts no_skipped rows)

pub one_document : IsOneDocument
unfolding json_head json_tail serde_json_on_literals
one_document no_skipped results = simp (items_parts no_skipped results.features true, append_assoc)

three_both : (a b c : Bool) → ((a && b) && c) ≡ (a && (b && c))
three_both true b c = refl
three_both false b c = refl

empty_both : (xs ys : List ℕ) → (is_empty xs && is_empty ys) ≡ is_empty (xs ++ ys)
empty_both [] ys = refl
empty_both (x ∷ xs) ys = refl

part_more : (style : Style) (row : FeatureRow) (rows : List FeatureRow) (first : Bool) →
    parts_from style first (rows ++ row ∷ []) ≡ parts_from style first rows ++ part style (first && is_empty (parts_from style first rows)) row
part_more style row [] first = grind (arith, common_steps, append-nil)
part_more style row (f ∷ rows) first =
    let p = part style first f in
    let next = first && is_empty p in
    let q = parts_from style next rows in
    ap (λ xs. p ++ xs) (part_more style row rows next)
    ∙ sym (append_assoc p q (part style (next && is_empty q) row))
    ∙ ap (λ b. (p ++ q) ++ part style b row) (three_both first (is_empty p) (is_empty q) ∙ ap (λ b. first && b) (empty_both p q))

parts_begin : (style : Style) (rows more : List FeatureRow) (first : Bool) → (rest : List ℕ) × (parts_from style first (rows ++ more) ≡ parts_from style first rows ++ rest)
parts_begin style [] more first = (parts_from style first more, refl)
parts_begin style (f ∷ rows) more first =
    let p = part style first f in
    let next = first && is_empty p in
    let others = parts_begin style rows more next in
    (others.0, ap (λ xs. p ++ xs) others.1 ∙ sym (append_assoc p (parts_from style next rows) others.0))

report_begins : (style : Style) (results : Results) (rows more : List FeatureRow) → results.features ≡ rows ++ more →
    (rest : List ℕ) × (report style results ≡ (head style ++ parts style rows) ++ rest)
report_begins style results rows more e =
    let split = parts_begin style rows more true in
    let end = tail style results.features results.around in (
      split.0 ++ end,
      ap (λ fs. head style ++ (parts style fs ++ end)) e
          ∙ ap (λ xs. head style ++ (xs ++ end)) split.1
          ∙ ap (λ xs. head style ++ xs) (append_assoc (parts style rows) split.0 end)
          ∙ sym (append_assoc (head style) (parts style rows) (split.0 ++ end)),
    )

pub grow_by_parts : ReportsGrowByParts
grow_by_parts = record {
  next = λ style rows row. part_more style row rows true;
  begins = report_begins;
  whole = λ style results. sym (append_assoc (head style) (parts style results.features) (tail style results.features results.around));
}
