-- Features that the grammar reads have rows as wide as their header, and few enough rules.
use Rattle.gk_select.proofs.Common.{◌≡◌, ◌<◌, ◌^◌, ℕ, List, Some, length, sym, subst, inl, inr, arith, AllByRecursion, Lines, RowValue, ExamplesValue, ScenarioValue, FeatureValue, Many, none, more, HasTable, AreExamples, IsScenario, Reads, AllFit, RowsFit, IsExpandable, common_steps}

-- What each part of a kind says holds of all parts in a row.
each_part : {A : Type 0} (Part : Lines → A → Lines → Type 0) (P : A → Type 0) {ls rest : Lines} {xs : List A} → ((a : Lines) (x : A) (b : Lines) → Part a x b → P x) → Many Part ls xs rest → AllByRecursion P xs
each_part Part P each none = tt
each_part Part P each (more {ls = ls} {mid = mid} {x = x} part parts) = (each ls x mid part, each_part Part P each parts)

table_fits : (ls : Lines) (header : List (List ℕ)) (rows : List RowValue) (rest : Lines) → HasTable ls header rows rest → AllByRecursion (λ (r : RowValue). length r.cells ≡ length header) rows
table_fits ls header rows rest (inl e) = subst (λ (rows : List RowValue). AllByRecursion (λ (r : RowValue). length r.cells ≡ length header) rows) (sym e.1) tt
table_fits ls header rows rest (inr t) = subst (λ (header : List (List ℕ)). AllByRecursion (λ (r : RowValue). length r.cells ≡ length header) rows) (sym t.1) t.2.width

examples_fit : (ls : Lines) (e : ExamplesValue) (rest : Lines) → AreExamples ls e rest → AllFit e
examples_fit ls e rest i = table_fits _ e.header e.rows rest i.table

scenario_fits : (ls : Lines) (s : ScenarioValue) (rest : Lines) → IsScenario ls s rest → AllByRecursion AllFit s.examples
scenario_fits ls s rest i = each_part AreExamples AllFit examples_fit i.examples

scenarios_fit : {ls rest : Lines} {scenarios : List ScenarioValue} → Many IsScenario ls scenarios rest → RowsFit scenarios
scenarios_fit many = each_part IsScenario (λ (s : ScenarioValue). AllByRecursion AllFit s.examples) scenario_fits many

pub expandable : (ls : Lines) (f : FeatureValue) → Reads ls (Some f) → length f.rules < 2 ^ 32 → IsExpandable f
expandable ls f r counted = grind (arith, common_steps, scenarios_fit, each_part)
