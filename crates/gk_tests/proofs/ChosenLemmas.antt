-- Cases by what they say.
use Rattle.std.proofs.Common.{◌≡◌, List, [], ◌∷◌, map, refl, ap}
use Rattle.gk_select.specs.declared.case.Case.{Case}
use Rattle.gk_select.specs.Case.{CaseValue, case_value}

-- The rules of cases, by what the cases say.
pub rules_said : (cs : List Case) → map (λ (c : CaseValue). c.rule) (map case_value cs) ≡ map (λ (c : Case). c.rule) cs
rules_said [] = refl
rules_said (c ∷ cs) = ap (λ rs. c.rule ∷ rs) (rules_said cs)
