-- The texts of a set, after one was added.
use Rattle.gk_lint.proofs.Common.{◌≡◌, ◌||◌, Bool, true, false, cond, refl}

pub or_of_cond : (b x : Bool) → cond b true x ≡ (b || x)
or_of_cond true x = refl
or_of_cond false x = refl
