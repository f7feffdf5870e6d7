-- The choice of cases by tags and lines.
use Rattle.std.specs.Prelude.{ℕ, Bool, ◌==◌, ◌||◌, ◌&&◌, List, length, refl}
use Rattle.std.specs.Coded.{Coded, code_by, coded×, coded_list, coded_ℕ}
use Rattle.std.specs.List.{list_any, list_all}
use Rattle.gk_select.specs.Case.{CaseValue}
use Rattle.gk_select.specs.TagGrammar.{Expression}
use Rattle.gk_select.specs.TagTrees.{expression_code}
use Rattle.gk_select.specs.TagValues.{holds}

-- What a `Choice` chooses by: tag rules and lines.
pub record ChoiceValue : Type 0 where
  pub rules : List Expression
  pub lines : List ℕ

-- It is stored as the pair of its fields.
abbrev pub choice_code : Coded ChoiceValue
choice_code =
    code_by (List Expression × List ℕ) (coded× (coded_list expression_code) (coded_list coded_ℕ)) (λ choice. (choice.rules, choice.lines)) (λ pair. record { rules = pair.0; lines = pair.1 }) (λ _. refl)

-- Whether every tag rule holds for these tags. (behave's documentation: tag expressions)
abbrev pub all_hold : List Expression → List (List ℕ) → Bool
all_hold rules tags = list_all (λ rule. holds rule tags) rules

-- Whether a line is among the lines, or there are no lines.
abbrev pub is_at_lines : List ℕ → ℕ → Bool
is_at_lines lines line = (length lines == 0) || list_any (λ other. other == line) lines

-- Whether a case is chosen: every tag rule holds for its tags, and its line is among the lines or there are none. (behave's documentation: tag expressions; lines are this project's profile)
unfoldable pub is_chosen : List Expression → List ℕ → CaseValue → Bool
is_chosen rules lines case = all_hold rules case.tags && is_at_lines lines case.line

-- Whether a `Choice` chooses a case.
abbrev pub chosen_by : ChoiceValue → CaseValue → Bool
chosen_by choice = is_chosen choice.rules choice.lines
