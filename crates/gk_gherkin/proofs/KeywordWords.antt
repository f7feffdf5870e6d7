-- The keyword of a step, and that of a scenario's heading, is one of those that the class of the line names.
use Rattle.gk_gherkin.proofs.Common.{codes, ◌+◌, ⊤, AllByRecursion, before_first, list_any, prefix_len, bytes_eq, ◌≡◌, ◌≢◌, inl, inr, ℕ, zero, suc, Bool, true, false, cond, not, slice_index, ◌==◌, ◌||◌, ◌&&◌, List, [], ◌∷◌, ◌++◌, length, take, drop, refl, ap, sym, ◌∙◌, subst, append_assoc, arith, bytes_eq-Decides, LineValue, begins, is_blank, trim, Class, Blank, Comment, TagLine, FeatureHeading, RuleHeading, BackgroundHeading, ScenarioHeading, ExamplesHeading, StepLine, RowLine, FenceLine, Other, Quotes, Backticks, background_keywords, begins_as_step, begins_with_one, class, class_of, class_of_words, examples_keywords, feature_keywords, fence_text, heading_keyword, is_colon, rule_keywords, scenario_keywords, scenario_words, step_keywords}
use Rattle.gk_gherkin.proofs.Containing.{begun, either_first, either_second, one_of}

neither : (a b : Bool) → (a || b) ≡ false → (a ≡ false) × (b ≡ false)
neither true b h = absurd (let no : ⊥ = cc in no)
neither false b h = (refl, h)

both : (a b : Bool) → (a && b) ≡ true → (a ≡ true) × (b ≡ true)
both true b h = (refl, h)
both false b h = absurd (let no : ⊥ = cc in no)

-- Whether some bytes are none, or begin with one that passes a test.
abbrev Stops : (ℕ → Bool) → List ℕ → Type 0
Stops p [] = ⊤
Stops p (b ∷ bs) = p b ≡ true

one_taken : (n w : ℕ) (t : List ℕ) → take (1 + n) (w ∷ t) ≡ w ∷ take n t
one_taken n w t = let e : 1 + n ≡ suc n = omega arith in ap (λ (k : ℕ). take k (w ∷ t)) e

-- What stands before the first byte that passes a test.
stopped : (p : ℕ → Bool) (word rest : List ℕ) → list_any p word ≡ false → Stops p rest → before_first p (word ++ rest) ≡ word
stopped p [] [] none h = refl
stopped p [] (b ∷ bs) none h = ap (λ (c : Bool). take (cond (not c) (1 + prefix_len (λ x. not (p x)) bs) 0) (b ∷ bs)) h
stopped p (w ∷ ws) rest none h =
    let apart = neither (p w) (list_any p ws) none in
    ap (λ (c : Bool). take (cond (not c) (1 + prefix_len (λ x. not (p x)) (ws ++ rest)) 0) (w ∷ (ws ++ rest))) apart.0
    ∙ one_taken (prefix_len (λ x. not (p x)) (ws ++ rest)) w (ws ++ rest)
    ∙ ap (λ (xs : List ℕ). w ∷ xs) (stopped p ws rest apart.1 h)

stops_at : (p : ℕ → Bool) (n : ℕ) (text : List ℕ) → p (slice_index text n) ≡ true → Stops p (drop n text)
stops_at p zero [] h = tt
stops_at p (suc n) [] h = tt
stops_at p zero (b ∷ bs) h = h
stops_at p (suc n) (b ∷ bs) h = stops_at p n bs h

equal : (a b : List ℕ) → a ≡ b → bytes_eq a b ≡ true
equal a b e = (bytes_eq-Decides a b).1 e

-- A text that begins with a word and a blank has that word before its first blank.
blank_after : (text word : List ℕ) → list_any is_blank word ≡ false → (begins text word && is_blank (slice_index text (length word))) ≡ true → bytes_eq (before_first is_blank text) word ≡ true
blank_after text word none h =
    let parts = both (begins text word) (is_blank (slice_index text (length word))) h in
    equal (before_first is_blank text) word
    (ap (before_first is_blank) (begun text word parts.0) ∙ stopped is_blank word (drop (length word) text) none (stops_at is_blank (length word) text parts.1))

-- A text that begins with a word and a colon has that word before its first colon.
colon_after : (text word : List ℕ) → list_any is_colon word ≡ false → begins text (word ++ 58 ∷ []) ≡ true → bytes_eq (before_first is_colon text) word ≡ true
colon_after text word none h =
    let rest = drop (length (word ++ 58 ∷ [])) text in
    equal (before_first is_colon text) word
    (ap (before_first is_colon) (begun text (word ++ 58 ∷ []) h ∙ append_assoc word (58 ∷ []) rest) ∙ stopped is_colon word (58 ∷ rest) none refl)

-- If each word of a list that passes a test passes another, and one passes the first, then one passes the other.
one_more : (f g : List ℕ → Bool) (words : List (List ℕ)) → AllByRecursion (λ word. f word ≡ true → g word ≡ true) words → list_any f words ≡ true → list_any g words ≡ true
one_more f g [] each h = h
one_more f g (w ∷ ws) each h = elim (one_of (f w) (list_any f ws) h) [
  | inl e ↦ either_first (g w) (list_any g ws) (each.0 e)
  | inr e ↦ either_second (g w) (list_any g ws) (one_more f g ws each.1 e)
]

-- Where a test of a chain names another class, the chain goes on.
goes_on : (b : Bool) (c rest kind : Class) → c ≢ kind → cond b c rest ≡ kind → rest ≡ kind
goes_on true c rest kind n e = absurd (n e)
goes_on false c rest kind n e = e

holds : (b : Bool) (c rest : Class) → rest ≢ c → cond b c rest ≡ c → b ≡ true
holds true c rest n e = refl
holds false c rest n e = absurd (n e)

abbrev from_fences : List ℕ → Class
from_fences t = cond (begins t (fence_text Quotes)) (FenceLine Quotes) (cond (begins t (fence_text Backticks)) (FenceLine Backticks) Other)

abbrev from_rows : List ℕ → Class
from_rows t = cond (begins t (codes "|")) RowLine (from_fences t)

abbrev from_steps : List ℕ → Class
from_steps t = cond (begins_as_step t) StepLine (from_rows t)

abbrev from_examples : List ℕ → Class
from_examples t = cond (begins_with_one t examples_keywords) ExamplesHeading (from_steps t)

abbrev from_scenarios : List ℕ → Class
from_scenarios t = cond (begins_with_one t scenario_keywords) ScenarioHeading (from_examples t)

abbrev from_backgrounds : List ℕ → Class
from_backgrounds t = cond (begins_with_one t background_keywords) BackgroundHeading (from_scenarios t)

abbrev from_rules : List ℕ → Class
from_rules t = cond (begins_with_one t rule_keywords) RuleHeading (from_backgrounds t)

no_fence_is : (t : List ℕ) (kind : Class) → FenceLine Quotes ≢ kind → FenceLine Backticks ≢ kind → Other ≢ kind → from_fences t ≢ kind
no_fence_is t kind q b o e = o (goes_on (begins t (fence_text Backticks)) (FenceLine Backticks) Other kind b (goes_on (begins t (fence_text Quotes)) (FenceLine Quotes) (cond (begins t (fence_text Backticks)) (FenceLine Backticks) Other) kind q e))

no_row_is : (t : List ℕ) → from_rows t ≢ StepLine
no_row_is t e = no_fence_is t StepLine (λ e. cc) (λ e. cc) (λ e. cc) (goes_on (begins t (codes "|")) RowLine (from_fences t) StepLine (λ e. cc) e)

no_examples_is : (t : List ℕ) → from_examples t ≢ ScenarioHeading
no_examples_is t e =
    no_fence_is t ScenarioHeading (λ e. cc) (λ e. cc) (λ e. cc)
    (goes_on (begins t (codes "|")) RowLine (from_fences t) ScenarioHeading (λ e. cc)
    (goes_on (begins_as_step t) StepLine (from_rows t) ScenarioHeading (λ e. cc)
    (goes_on (begins_with_one t examples_keywords) ExamplesHeading (from_steps t) ScenarioHeading (λ e. cc) e)))

-- The class of a scenario's heading or a step comes from the words of the chain.
to_scenarios : (t : List ℕ) (kind : Class) → Blank ≢ kind → Comment ≢ kind → TagLine ≢ kind → FeatureHeading ≢ kind → RuleHeading ≢ kind → BackgroundHeading ≢ kind → class_of t ≡ kind → from_scenarios t ≡ kind
unfolding class_of class_of_words
to_scenarios t kind bl co ta fe ru ba e =
    goes_on (begins_with_one t background_keywords) BackgroundHeading (from_scenarios t) kind ba
    (goes_on (begins_with_one t rule_keywords) RuleHeading (from_backgrounds t) kind ru
    (goes_on (begins_with_one t feature_keywords) FeatureHeading (from_rules t) kind fe
    (goes_on (begins t (codes "@")) TagLine (class_of_words t) kind ta
    (goes_on (begins t (codes "#")) Comment (cond (begins t (codes "@")) TagLine (class_of_words t)) kind co
    (goes_on (length t == 0) Blank (cond (begins t (codes "#")) Comment (cond (begins t (codes "@")) TagLine (class_of_words t))) kind bl e)))))

begun_as_step : (t : List ℕ) → class_of t ≡ StepLine → begins_as_step t ≡ true
begun_as_step t e =
    holds (begins_as_step t) StepLine (from_rows t) (no_row_is t)
    (goes_on (begins_with_one t examples_keywords) ExamplesHeading (from_steps t) StepLine (λ e. cc)
    (goes_on (begins_with_one t scenario_keywords) ScenarioHeading (from_examples t) StepLine (λ e. cc)
    (to_scenarios t StepLine (λ e. cc) (λ e. cc) (λ e. cc) (λ e. cc) (λ e. cc) (λ e. cc) e)))

begun_as_scenario : (t : List ℕ) → class_of t ≡ ScenarioHeading → begins_with_one t scenario_keywords ≡ true
begun_as_scenario t e =
    holds (begins_with_one t scenario_keywords) ScenarioHeading (from_examples t) (no_examples_is t)
    (to_scenarios t ScenarioHeading (λ e. cc) (λ e. cc) (λ e. cc) (λ e. cc) (λ e. cc) (λ e. cc) e)

-- The word of a step is a step's keyword.
pub step_is_word : (line : LineValue) (word : List ℕ) → class line ≡ StepLine → word ≡ before_first is_blank (trim line.text) → list_any (bytes_eq word) step_keywords ≡ true
unfolding class
step_is_word line word is e =
    let t = trim line.text in
    let first = before_first is_blank t in
    let after : (w : List ℕ) → list_any is_blank w ≡ false → (begins t w && is_blank (slice_index t (length w))) ≡ true → bytes_eq first w ≡ true = blank_after t in
    subst (λ (word : List ℕ). list_any (bytes_eq word) step_keywords ≡ true) (sym e)
    (one_more (λ w. begins t w && is_blank (slice_index t (length w))) (bytes_eq first) step_keywords
    (after (codes "Given") refl, (after (codes "When") refl, (after (codes "Then") refl, (after (codes "And") refl, (after (codes "But") refl, (after (codes "*") refl, tt))))))
    (begun_as_step t is))

-- The word of a scenario's heading is the keyword of a scenario or an outline.
pub scenario_is_word : (line : LineValue) (word : List ℕ) → class line ≡ ScenarioHeading → word ≡ heading_keyword line → list_any (bytes_eq word) scenario_words ≡ true
unfolding class heading_keyword
scenario_is_word line word is e =
    let t = trim line.text in
    let first = before_first is_colon t in
    let after : (w : List ℕ) → list_any is_colon w ≡ false → begins t (w ++ 58 ∷ []) ≡ true → bytes_eq first w ≡ true = colon_after t in
    subst (λ (word : List ℕ). list_any (bytes_eq word) scenario_words ≡ true) (sym e)
    (one_more (λ w. begins t (w ++ 58 ∷ [])) (bytes_eq first) scenario_words
    (after (codes "Scenario") refl, (after (codes "Example") refl, (after (codes "Scenario Outline") refl, (after (codes "Scenario Template") refl, tt))))
    (begun_as_scenario t is))
