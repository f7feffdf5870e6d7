-- The first word of a tag line, where it is a tag.
use Rattle.gk_gherkin.proofs.Common.{codes, ◌≡◌, ℕ, true, false, ◌<◌, List, length, take, Option, Some, Result, Ok, Err, IfErr, arith, common_steps, prefix_len, position_or_len, ReadFault, LineValue, begins, is_blank, trim_front, tags_of, is_tag, BeginsWithTag}
use Rattle.gk_gherkin.proofs.TagWords.{after_blanks, first_word, some_before, begins_cut}

-- a line whose words are all tags begins with one
pub good_tags : (line : LineValue) (tags : List (List ℕ)) → tags_of line ≡ Some tags → BeginsWithTag line
unfolding tags_of
good_tags line tags h word others e = grind (arith, common_steps)

-- the first word that is kept is the line's first
pub first_tag : (line : LineValue) (t : List ℕ) (n : ℕ) → t ≡ trim_front line.text → 0 < length t → prefix_len is_blank t ≡ 0 → n ≡ position_or_len is_blank t → begins t (codes "#") ≡ false → is_tag (take n t) ≡ true → BeginsWithTag line
first_tag line t n e some start at plain good word others is = grind (arith, common_steps, some_before, after_blanks, first_word, begins_cut)

pub good_found : (line : LineValue) (tags : List (List ℕ)) → ◌≡◌ {A = Result (Option (List (List ℕ))) ReadFault} (Ok (tags_of line)) (Ok (Some tags)) → BeginsWithTag line
good_found line tags h = let same : tags_of line ≡ Some tags = cc in good_tags line tags same

pub whatever : {T E : Type 0} (r : Result T E) (P : Type 0) → P → IfErr r (λ e. P)
whatever (Ok x) P h = tt
whatever (Err e) P h = h
