-- Hints and other results for the steps of lists that follow each other.
use Rattle.gk_lint.proofs.Common.{◌≡◌, List, [], ◌∷◌, ◌++◌, flat_map, Option, Some, None, refl, ap, sym, ◌∙◌, arith, common_steps, option_or, StepValue, HintValue, first_hint}

pub no_other_hint : (a : Option HintValue) → option_or a None ≡ a
no_other_hint None = refl
no_other_hint (Some hint) = refl

first_of_three : (a b c : Option HintValue) → option_or (option_or a b) c ≡ option_or a (option_or b c)
first_of_three None b c = refl
first_of_three (Some hint) b c = refl

first_of_both : (hint_of : StepValue → Option HintValue) (a b : List StepValue) → first_hint hint_of (a ++ b) ≡ option_or (first_hint hint_of a) (first_hint hint_of b)
first_of_both hint_of [] b = refl
first_of_both hint_of (s ∷ ss) b = ap (option_or (hint_of s)) (first_of_both hint_of ss b) ∙ sym (first_of_three (hint_of s) (first_hint hint_of ss) (first_hint hint_of b))

-- The hint after some steps, if it is known after these steps and the later ones.
pub next_hints : (hint_of : StepValue → Option HintValue) (before new end : Option HintValue) (all these later : List StepValue) → all ≡ these ++ later → new ≡ option_or before (first_hint hint_of these) → option_or before (first_hint hint_of all) ≡ end → option_or new (first_hint hint_of later) ≡ end
next_hints hint_of before new end all these later split is so_far = grind (arith, common_steps, first_of_three, first_of_both)

-- The same for one step.
pub next_hint : (hint_of : StepValue → Option HintValue) (before new end : Option HintValue) (all : List StepValue) (this : StepValue) (later : List StepValue) → all ≡ this ∷ later → new ≡ option_or before (hint_of this) → option_or before (first_hint hint_of all) ≡ end → option_or new (first_hint hint_of later) ≡ end
next_hint hint_of before new end all this later split is so_far = grind (arith, common_steps)

-- Lists of results after one step, if they are known after this step and the later ones.
pub next_results : {A : Type 0} (results_of : StepValue → List A) (before new end : List A) (all : List StepValue) (this : StepValue) (later : List StepValue) → all ≡ this ∷ later → new ≡ before ++ results_of this → before ++ flat_map results_of all ≡ end → new ++ flat_map results_of later ≡ end
next_results {A = A} results_of before new end all this later split is so_far = grind (arith, common_steps)
