-- The table of actions, as the code has it.
use Rattle.gk_steps.proofs.Common.{◌≡◌, ℕ, Bool, true, false, cond, List, [], ◌∷◌, map, find, Option, Some, option_map, refl, bytes_eq, ActionRow, ActionRowValue, action_row_value, row_among}

value_here : (v : Bool) (row : ActionRow) (o : Option ActionRow) (q : Option ActionRowValue) → option_map action_row_value o ≡ q → option_map action_row_value (cond v (Some row) o) ≡ cond v (Some (action_row_value row)) q
value_here true row o q e = refl
value_here false row o q e = e

-- What the first row of a name says is the first of what the rows say.
pub values_found : (name : List ℕ) (rows : List ActionRow) → option_map action_row_value (find (λ (row : ActionRow). bytes_eq row.name.now name) rows) ≡ row_among (map action_row_value rows) name
values_found name [] = refl
values_found name (row ∷ rows) = value_here (bytes_eq row.name.now name) row (find (λ (row : ActionRow). bytes_eq row.name.now name) rows) _ (values_found name rows)
