-- A clone of a part of a feature has the same value.
use Rattle.gk_gherkin.proofs.Common.{◌≡◌, List, [], ◌∷◌, Option, Some, None, refl, ap, map, option_map, string_bytes, texts, Text, Table, background_value, block_value, examples_value, feature_value, row_value, rule_value, scenario_value, step_value, Feature}
use Rattle.std.specs.List.{AllZip}
use Rattle.gk_gherkin.specs.declared.feature.Block.{Block}
use Rattle.gk_gherkin.specs.declared.feature.Block.TheVariants as blocks
use Rattle.gk_gherkin.specs.declared.feature.Step.{Step}
use Rattle.gk_gherkin.specs.declared.feature.Background.{Background}
use Rattle.gk_gherkin.specs.declared.feature.Row.{Row}
use Rattle.gk_gherkin.specs.declared.feature.Examples.{Examples}
use Rattle.gk_gherkin.specs.declared.feature.Scenario.{Scenario}
use Rattle.gk_gherkin.specs.declared.feature.Rule.{Rule}
use Rattle.gk_gherkin.specs.contracts.feature.BlockClone.TheImpl as block
use Rattle.gk_gherkin.specs.contracts.feature.StepClone.TheImpl as step
use Rattle.gk_gherkin.specs.contracts.feature.BackgroundClone.TheImpl as background
use Rattle.gk_gherkin.specs.contracts.feature.RowClone.TheImpl as row
use Rattle.gk_gherkin.specs.contracts.feature.ExamplesClone.TheImpl as examples
use Rattle.gk_gherkin.specs.contracts.feature.ScenarioClone.TheImpl as scenario
use Rattle.gk_gherkin.specs.contracts.feature.RuleClone.TheImpl as rule
use Rattle.gk_gherkin.specs.contracts.feature.FeatureClone.TheImpl as feature

copies : {A V : Type 0} (v : A → V) (C : A → A → Type 0) (xs ys : List A) → ((x y : A) → C x y → v y ≡ v x) → AllZip C xs ys → map v ys ≡ map v xs
copies v C [] [] each h = refl
copies v C [] (y ∷ ys) each h = absurd h
copies v C (x ∷ xs) [] each h = absurd h
copies v C (x ∷ xs) (y ∷ ys) each h = rw (each x y h.0, copies v C xs ys each h.1) refl

pub block_copy : (a b : Block) → block.by_variants a b → block_value b ≡ block_value a
block_copy blocks.Empty blocks.Empty h = refl
block_copy (blocks.Text x) (blocks.Text y) h = ap Text h
block_copy (blocks.Table x) (blocks.Table y) h = ap Table (copies (λ row. texts row.items) _ x.items y.items (λ x y h. copies string_bytes _ x.items y.items (λ x y h. h) h.0) h.0)
block_copy blocks.Empty _ h = absurd h
block_copy (blocks.Text x) _ h = absurd h
block_copy (blocks.Table x) _ h = absurd h

pub step_copy : (a b : Step) → (step.is_clone-value).it a b → step_value b ≡ step_value a
step_copy a b (keyword, (kind, (text, (block, line)))) = rw (keyword, kind, text, block_copy a.block b.block block, line) refl

background_copy : (a b : Background) → (background.is_clone-value).it a b → background_value b ≡ background_value a
background_copy a b (line, steps) = rw (line, copies step_value _ a.steps.items b.steps.items step_copy steps.0) refl

row_copy : (a b : Row) → (row.is_clone-value).it a b → row_value b ≡ row_value a
row_copy a b (line, cells) = rw (line, copies string_bytes _ a.cells.items b.cells.items (λ x y h. h) cells.0) refl

examples_copy : (a b : Examples) → (examples.is_clone-value).it a b → examples_value b ≡ examples_value a
examples_copy a b (name, (line, (tags, (header, rows)))) =
    rw (name, line, copies string_bytes _ a.tags.items b.tags.items (λ x y h. h) tags.0, copies string_bytes _ a.header.items b.header.items (λ x y h. h) header.0, copies row_value _ a.rows.items b.rows.items row_copy rows.0) refl

scenario_copy : (a b : Scenario) → (scenario.is_clone-value).it a b → scenario_value b ≡ scenario_value a
scenario_copy a b (keyword, (name, (line, (tags, (steps, parts))))) =
    rw (keyword, name, line, copies string_bytes _ a.tags.items b.tags.items (λ x y h. h) tags.0, copies step_value _ a.steps.items b.steps.items step_copy steps.0, copies examples_value _ a.examples.items b.examples.items examples_copy parts.0) refl

background_copies : (C : Option Background → Option Background → Type 0) → ((y : Background) → C None (Some y) → ⊥) → ((x : Background) → C (Some x) None → ⊥) → ((x y : Background) → C (Some x) (Some y) → background_value y ≡ background_value x) → (x y : Option Background) → C x y → option_map background_value y ≡ option_map background_value x
background_copies C added lost each None None h = refl
background_copies C added lost each None (Some y) h = absurd (added y h)
background_copies C added lost each (Some x) None h = absurd (lost x h)
background_copies C added lost each (Some x) (Some y) h = ap Some (each x y h)

rule_copy : (a b : Rule) → (rule.is_clone-value).it a b → rule_value b ≡ rule_value a
rule_copy a b h =
    let same = background_copies (λ x y. (rule.is_clone-value).it (record a { background = x }) (record b { background = y })) (λ y h. h.1.1.1.0) (λ x h. h.1.1.1.0) (λ x y h. background_copy x y h.1.1.1.0) a.background b.background h in
    let tags = h.1.1.0 in
    let scenarios = h.1.1.1.1 in
    rw (h.0, h.1.0, copies string_bytes _ a.tags.items b.tags.items (λ x y h. h) tags.0, same, copies scenario_value _ a.scenarios.items b.scenarios.items scenario_copy scenarios.0) refl

pub feature_copy : (a b : Feature) → (feature.is_clone-value).it a b → feature_value b ≡ feature_value a
feature_copy a b h =
    let same = background_copies (λ x y. (feature.is_clone-value).it (record a { background = x }) (record b { background = y })) (λ y h. h.1.1.1.0) (λ x h. h.1.1.1.0) (λ x y h. background_copy x y h.1.1.1.0) a.background b.background h in
    let tags = h.1.1.0 in
    let scenarios = h.1.1.1.1.0 in
    let rules = h.1.1.1.1.1 in
    rw (h.0, h.1.0, copies string_bytes _ a.tags.items b.tags.items (λ x y h. h) tags.0, same, copies scenario_value _ a.scenarios.items b.scenarios.items scenario_copy scenarios.0, copies rule_value _ a.rules.items b.rules.items rule_copy rules.0) refl
