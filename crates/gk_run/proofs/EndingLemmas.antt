-- How lists of marks end.
use Rattle.gk_run.proofs.Common.{refl, ◌||◌, ◌≡◌, Ending, is_memory_ending, worse}
use Rattle.gk_run.specs.declared.ending.Ending.TheVariants as endings

pub worse_assoc : (a b c : Ending) → worse (worse a b) c ≡ worse a (worse b c)
worse_assoc endings.Passed b c = refl
worse_assoc endings.Memory b c = refl
worse_assoc endings.Failed endings.Passed c = refl
worse_assoc endings.Failed endings.Memory c = refl
worse_assoc endings.Failed endings.Failed endings.Passed = refl
worse_assoc endings.Failed endings.Failed endings.Memory = refl
worse_assoc endings.Failed endings.Failed endings.Failed = refl
worse_assoc endings.Failed endings.Failed endings.Skipped = refl
worse_assoc endings.Failed endings.Skipped endings.Passed = refl
worse_assoc endings.Failed endings.Skipped endings.Memory = refl
worse_assoc endings.Failed endings.Skipped endings.Failed = refl
worse_assoc endings.Failed endings.Skipped endings.Skipped = refl
worse_assoc endings.Skipped endings.Passed c = refl
worse_assoc endings.Skipped endings.Memory c = refl
worse_assoc endings.Skipped endings.Failed endings.Passed = refl
worse_assoc endings.Skipped endings.Failed endings.Memory = refl
worse_assoc endings.Skipped endings.Failed endings.Failed = refl
worse_assoc endings.Skipped endings.Failed endings.Skipped = refl
worse_assoc endings.Skipped endings.Skipped endings.Passed = refl
worse_assoc endings.Skipped endings.Skipped endings.Memory = refl
worse_assoc endings.Skipped endings.Skipped endings.Failed = refl
worse_assoc endings.Skipped endings.Skipped endings.Skipped = refl

pub worse_passed : (a : Ending) → worse a endings.Passed ≡ a
worse_passed endings.Passed = refl
worse_passed endings.Memory = refl
worse_passed endings.Failed = refl
worse_passed endings.Skipped = refl

-- where memory was refused in one of two endings
pub memory_of : (a b : Ending) → is_memory_ending (worse a b) ≡ (is_memory_ending a || is_memory_ending b)
memory_of endings.Passed b = refl
memory_of endings.Memory b = refl
memory_of endings.Failed endings.Memory = refl
memory_of endings.Failed endings.Failed = refl
memory_of endings.Failed endings.Skipped = refl
memory_of endings.Failed endings.Passed = refl
memory_of endings.Skipped endings.Memory = refl
memory_of endings.Skipped endings.Failed = refl
memory_of endings.Skipped endings.Skipped = refl
memory_of endings.Skipped endings.Passed = refl
