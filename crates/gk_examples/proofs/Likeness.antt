-- Which texts begin like a keyword, worked by computation.
use Rattle.std.proofs.Common.{codes, ◌≡◌, ◌∷◌, [], ◌++◌, Some, None, refl}
use Rattle.gk_gherkin.specs.declared.keyword.Keyword.TheVariants.{Feature, Rule, Background, ScenarioOutline, Scenarios, Scenario, Examples, Example, Given, When, Then, And, But}
use Rattle.std.specs.Str.{chars, is_utf8}
use lib.Utf8
use Rattle.gk_lint.specs.Likeness.{is_other_blank, letter, letters, same_letters, common_len, differ_at_first, is_one_off, is_exchanged, spelt_heading, spelt_step, begun_like, like}

-- One letter missing, wrong and added, and two exchanged.
one_letter_off :
    (begun_like (codes "Scenaro: The lamp") ≡ Some Scenario)
    × (begun_like (codes "Featore: The lamp") ≡ Some Feature)
    × (begun_like (codes "Background : The lamp") ≡ Some Background)
    × (begun_like (codes "Exmaples:") ≡ Some Examples)
    × (begun_like (codes "uRle: one") ≡ Some Rule)
    × (begun_like (codes "Scenario Outlin: The lamp") ≡ Some ScenarioOutline)
unfolding begun_like spelt_heading spelt_step is_one_off is_exchanged differ_at_first common_len same_letters
one_letter_off = (refl, refl, refl, refl, refl, refl)

-- In other letters: the keyword that has the same ones, and not the one that is one letter off.
other_letters :
    (begun_like (codes "scenario: The lamp") ≡ Some Scenario)
    × (begun_like (codes "SCENARIOS:") ≡ Some Scenarios)
unfolding begun_like spelt_heading spelt_step is_one_off is_exchanged differ_at_first common_len same_letters
other_letters = (refl, refl)

-- A blank before its colon: the keyword without it, and not the one that is one letter off.
blanks_before_colon :
    (begun_like (codes "Scenario : The lamp") ≡ Some Scenario)
    × (begun_like (codes "Exampl  : The lamp") ≡ Some Example)
unfolding begun_like spelt_heading spelt_step is_one_off is_exchanged differ_at_first common_len same_letters
blanks_before_colon = (refl, refl)

-- Without its colon.
no_colon : begun_like (codes "Scenario Outline the lamp") ≡ Some ScenarioOutline
unfolding begun_like spelt_heading spelt_step is_one_off is_exchanged differ_at_first common_len same_letters
no_colon = refl

-- The word of a step in other letters.
step_in_other_letters : begun_like (codes "given a lamp") ≡ Some Given
unfolding begun_like spelt_heading spelt_step is_one_off is_exchanged differ_at_first common_len same_letters
step_in_other_letters = refl

-- The word of a step with two letters exchanged, and `Given` with one that is wrong, missing or added.
step_off :
    (begun_like (codes "Wehn it is dark") ≡ Some When)
    × (begun_like (codes "Btu not now") ≡ Some But)
    × (begun_like (codes "Givne a lamp") ≡ Some Given)
    × (begun_like (codes "Givn a lamp") ≡ Some Given)
    × (begun_like (codes "Giben a lamp") ≡ Some Given)
    × (begun_like (codes "Giiven a lamp") ≡ Some Given)
unfolding begun_like spelt_heading spelt_step is_one_off is_exchanged differ_at_first common_len same_letters
step_off = (refl, refl, refl, refl, refl, refl)

-- Words of prose that are one letter off.
prose :
    (begun_like (codes "Give me light") ≡ None)
    × (begun_like (codes "They are lit") ≡ None)
    × (begun_like (codes "Any lamp") ≡ None)
    × (begun_like (codes "Put it out") ≡ None)
unfolding begun_like spelt_heading spelt_step is_one_off is_exchanged differ_at_first common_len same_letters
prose = (refl, refl, refl, refl)

-- Two letters off, another word, and a keyword that goes on.
two_off :
    (begun_like (codes "Scnaro: The lamp") ≡ None)
    × (begun_like (codes "As a reader I want light: always") ≡ None)
    × (begun_like (codes "Givens are givens") ≡ None)
unfolding begun_like spelt_heading spelt_step is_one_off is_exchanged differ_at_first common_len same_letters
two_off = (refl, refl, refl)

-- A character outside of ASCII is one letter, and each blank of Unicode a blank.
one_letter : letters (0x53 ∷ 0xC3 ∷ 0xA4 ∷ 0xD1 ∷ 0x96 ∷ 0xC2 ∷ 0xA0 ∷ 0xE2 ∷ 0x80 ∷ 0xAF ∷ 0xEF ∷ 0xBB ∷ 0xBF ∷ 0xF0 ∷ 0x9F ∷ 0x95 ∷ 0xAF ∷ []) ≡ 0x53 ∷ 26 ∷ 26 ∷ 32 ∷ 32 ∷ 32 ∷ 26 ∷ []
unfolding is_utf8 chars lib.Utf8.encode is_other_blank letter
one_letter = refl

-- A letter with two points, and a Cyrillic one.
letters_of_others :
    (like (codes "Scen" ++ (0xC3 ∷ 0xA4 ∷ codes "rio: The lamp")) ≡ Some Scenario)
    × (like (codes "G" ++ (0xD1 ∷ 0x96 ∷ codes "ven a lamp")) ≡ Some Given)
unfolding is_utf8 chars lib.Utf8.encode is_other_blank letter like begun_like spelt_heading spelt_step is_one_off is_exchanged differ_at_first common_len same_letters
letters_of_others = (refl, refl)

-- A no-break space before a keyword, in it and after it.
no_break_spaces :
    (like (0xC2 ∷ 0xA0 ∷ codes "Rule: one") ≡ Some Rule)
    × (like (codes "Scenario" ++ (0xC2 ∷ 0xA0 ∷ codes "Outline:")) ≡ Some ScenarioOutline)
    × (like (codes "And" ++ (0xC2 ∷ 0xA0 ∷ codes "a lamp")) ≡ Some And)
unfolding is_utf8 chars lib.Utf8.encode is_other_blank letter like begun_like spelt_heading spelt_step is_one_off is_exchanged differ_at_first common_len same_letters
no_break_spaces = (refl, refl, refl)

-- A Cyrillic letter in a short keyword, of which the first is named where several are as near, and a bullet, which is a letter in place of `*`.
short_keywords :
    (like (codes "Th" ++ (0xD0 ∷ 0xB5 ∷ codes "n it is lit")) ≡ Some Then)
    × (like (0xD0 ∷ 0xA2 ∷ codes "hen it is lit") ≡ Some When)
    × (like (0xE2 ∷ 0x80 ∷ 0xA2 ∷ codes " one lamp") ≡ None)
unfolding is_utf8 chars lib.Utf8.encode is_other_blank letter like begun_like spelt_heading spelt_step is_one_off is_exchanged differ_at_first common_len same_letters
short_keywords = (refl, refl, refl)
