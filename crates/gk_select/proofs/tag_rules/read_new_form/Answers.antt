use Rattle.gk_select.proofs.Common.{◌≡◌, ◌⊎◌, ◌≤◌, map, List, subst, arith, common_steps, length-map, err_from_is_err_and, BadTagText, Memory, Word, Expression, depth, depth_limit, spelling, word_value}
use Rattle.gk_select.proofs.TagReading.{no_rule, first_word_said}
use Rattle.gk_select.proofs.tag_rules.read_new_form.Goals as goal

pub returns-in_err-check_words-clause-fault : goal.returns-in_err-check_words-clause-fault
returns-in_err-check_words-clause-fault c =
    let p = err_from_is_err_and c.from_residual-in_err-check_words.result c.from_residual-in_err-check_words.ensures.1 in
    let fault = c.in_err-check_words.field-0.0 in
    rw (p.1, p.2) (no_rule c.args.text.now (map word_value c.in_ok-words.words.items) c.requires c.in_ok-words.ensures.found fault
    (subst (λ (ws : List Word). (fault ≡ Memory) ⊎ ((fault ≡ BadTagText) × ((x : Expression) → spelling x ≡ map word_value ws → depth x ≤ depth_limit → ⊥))) c.deref.ensures.value c.in_err-check_words.ensures.fault))

pub returns-in_err-check_words-clause-memory : goal.returns-in_err-check_words-clause-memory
returns-in_err-check_words-clause-memory c = grind (arith, common_steps, err_from_is_err_and, first_word_said, length-map)
