-- The text of all findings.
use Rattle.gk_findings.proofs.Common.{◌≡◌, ℕ, List, [], ◌++◌, ap, ◌∙◌, append_assoc}

-- A text that grew by five parts.
pub five_parts : (t u v w x y a b c d e : List ℕ) → t ≡ [] → u ≡ t ++ a → v ≡ u ++ b → w ≡ v ++ c → x ≡ w ++ d → y ≡ x ++ e → y ≡ a ++ (b ++ (c ++ (d ++ e)))
five_parts t u v w x y a b c d e none first second third fourth fifth =
    fifth
    ∙ ap (λ l. l ++ e) (fourth ∙ ap (λ l. l ++ d) (third ∙ ap (λ l. l ++ c) (second ∙ ap (λ l. l ++ b) (first ∙ ap (λ l. l ++ a) none))))
    ∙ append_assoc ((a ++ b) ++ c) d e ∙ append_assoc (a ++ b) c (d ++ e) ∙ append_assoc a b (c ++ (d ++ e))
