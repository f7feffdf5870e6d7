-- Worked hooks files and what they read as, or which fault they have, by computation.
use Rattle.std.specs.Prelude.{[], ◌∷◌, codes, List, Some, None, refl}
use Rattle.gk_gherkin.specs.declared.feature.StepType.TheVariants.{Given, Then}
use Rattle.gk_gherkin.specs.declared.hooks.HookKind.TheVariants.{BeforeAll, BeforeRule, AfterRule, AfterScenario, BeforeTag}
use Rattle.gk_gherkin.specs.declared.read_fault.ReadFault.TheVariants.{Unexpected, BadHook, BadRow, CellCount, UnclosedText}
use Rattle.gk_gherkin.specs.Lines.{Lines, lines_of}
use Rattle.gk_gherkin.specs.Class.{class, class_of, class_of_words, step_keyword, step_text}
use Rattle.gk_gherkin.specs.Rows.{cells_of, parts_of, unescaped}
use Rattle.gk_gherkin.specs.DocStrings.{closes, content_of}
use Rattle.gk_gherkin.specs.StepTypes.{type_after}
use Rattle.gk_gherkin.specs.Feature.{Empty, Text, Table}
use Rattle.gk_gherkin.specs.Hooks.{HookValue}
use Rattle.gk_gherkin.specs.HookHeadings.{hooks_class, hook_heading}
use Rattle.gk_gherkin.specs.HooksGrammar.{ReadsHooks}
use Rattle.gk_gherkin.specs.ReadFault.{HooksFault}
use Rattle.gk_gherkin.specs.OpenParts.{on_row, on_block, on_steps, with_last}
use Rattle.gk_gherkin.specs.Reading.{step, run_by, finish, reading}
use Rattle.gk_gherkin.specs.HooksReader.{on_hook, on_plain_line, on}
use Rattle.gk_gherkin.proofs.HooksReaderSound.{hooks_sound}
use Rattle.gk_gherkin.proofs.HooksReaderStops.{hooks_faulty}

-- An empty file has no hooks.
abbrev empty : Lines
empty = lines_of ([])

abbrev empty_say : List HookValue
empty_say = []

reads_empty : ReadsHooks empty empty_say
unfolding class class_of class_of_words step_keyword step_text cells_of parts_of unescaped closes content_of type_after on_row on_block on_steps with_last hooks_class hook_heading on_hook on_plain_line on step run_by finish reading
reads_empty = hooks_sound empty empty_say refl

-- Nor has one of blank lines and comments, whatever language they name.
abbrev comments : Lines
comments = lines_of (codes "\n# language: de\n")

abbrev comments_say : List HookValue
comments_say = []

reads_comments : ReadsHooks comments comments_say
unfolding class class_of class_of_words step_keyword step_text cells_of parts_of unescaped closes content_of type_after on_row on_block on_steps with_last hooks_class hook_heading on_hook on_plain_line on step run_by finish reading
reads_comments = hooks_sound comments comments_say refl

-- A hook may have no steps.
abbrev hook_without_steps : Lines
hook_without_steps = lines_of (codes "  before_all:  \n\n# none\n")

abbrev hook_without_steps_say : List HookValue
hook_without_steps_say = record { kind = BeforeAll; tag = None; line = 1; steps = [] } ∷ []

reads_hook_without_steps : ReadsHooks hook_without_steps hook_without_steps_say
unfolding class class_of class_of_words step_keyword step_text cells_of parts_of unescaped closes content_of type_after on_row on_block on_steps with_last hooks_class hook_heading on_hook on_plain_line on step run_by finish reading
reads_hook_without_steps = hooks_sound hook_without_steps hook_without_steps_say refl

-- Steps with a table and with a doc string, under blank lines and comments.
abbrev one_hook : Lines
one_hook = lines_of (codes "before_tag @a:b:\n\n  And x\n  # c\n  | a | |\n  Then y\n    \"\"\"\n    before_all:\n    \"\"\"\n")

abbrev one_hook_say : List HookValue
one_hook_say = record { kind = BeforeTag; tag = Some (codes "@a:b"); line = 1; steps = record { keyword = codes "And"; step_type = Given; text = codes "x"; block = Table ((codes "a" ∷ [] ∷ []) ∷ []); line = 3 } ∷ record { keyword = codes "Then"; step_type = Then; text = codes "y"; block = Text (codes "before_all:"); line = 6 } ∷ [] } ∷ []

reads_one_hook : ReadsHooks one_hook one_hook_say
unfolding class class_of class_of_words step_keyword step_text cells_of parts_of unescaped closes content_of type_after on_row on_block on_steps with_last hooks_class hook_heading on_hook on_plain_line on step run_by finish reading
reads_one_hook = hooks_sound one_hook one_hook_say refl

-- The types of steps begin again in each hook, and a hook for another tag is another hook.
abbrev two_hooks : Lines
two_hooks = lines_of (codes "before_tag @a:\nThen x\nbefore_tag @b:\nAnd y\nafter_scenario:")

abbrev two_hooks_say : List HookValue
two_hooks_say = record { kind = BeforeTag; tag = Some (codes "@a"); line = 1; steps = record { keyword = codes "Then"; step_type = Then; text = codes "x"; block = Empty; line = 2 } ∷ [] } ∷ record { kind = BeforeTag; tag = Some (codes "@b"); line = 3; steps = record { keyword = codes "And"; step_type = Given; text = codes "y"; block = Empty; line = 4 } ∷ [] } ∷ record { kind = AfterScenario; tag = None; line = 5; steps = [] } ∷ []

reads_two_hooks : ReadsHooks two_hooks two_hooks_say
unfolding class class_of class_of_words step_keyword step_text cells_of parts_of unescaped closes content_of type_after on_row on_block on_steps with_last hooks_class hook_heading on_hook on_plain_line on step run_by finish reading
reads_two_hooks = hooks_sound two_hooks two_hooks_say refl

-- Hooks for rules.
abbrev rule_hooks : Lines
rule_hooks = lines_of (codes "before_rule:\nGiven x\nafter_rule:")

abbrev rule_hooks_say : List HookValue
rule_hooks_say = record { kind = BeforeRule; tag = None; line = 1; steps = record { keyword = codes "Given"; step_type = Given; text = codes "x"; block = Empty; line = 2 } ∷ [] } ∷ record { kind = AfterRule; tag = None; line = 3; steps = [] } ∷ []

reads_rule_hooks : ReadsHooks rule_hooks rule_hooks_say
unfolding class class_of class_of_words step_keyword step_text cells_of parts_of unescaped closes content_of type_after on_row on_block on_steps with_last hooks_class hook_heading on_hook on_plain_line on step run_by finish reading
reads_rule_hooks = hooks_sound rule_hooks rule_hooks_say refl

-- A hook line that is no heading.
step_hook : HooksFault (BadHook 2) (lines_of (codes "before_all:\nafter_step:"))
unfolding class class_of class_of_words step_keyword step_text cells_of parts_of unescaped closes content_of type_after on_row on_block on_steps with_last hooks_class hook_heading on_hook on_plain_line on step run_by finish reading
step_hook = hooks_faulty (lines_of (codes "before_all:\nafter_step:")) (BadHook 2) refl

blank_before_colon : HooksFault (BadHook 1) (lines_of (codes "before_all :"))
unfolding class class_of class_of_words step_keyword step_text cells_of parts_of unescaped closes content_of type_after on_row on_block on_steps with_last hooks_class hook_heading on_hook on_plain_line on step run_by finish reading
blank_before_colon = hooks_faulty (lines_of (codes "before_all :")) (BadHook 1) refl

two_tags : HooksFault (BadHook 1) (lines_of (codes "before_tag @a @b:"))
unfolding class class_of class_of_words step_keyword step_text cells_of parts_of unescaped closes content_of type_after on_row on_block on_steps with_last hooks_class hook_heading on_hook on_plain_line on step run_by finish reading
two_tags = hooks_faulty (lines_of (codes "before_tag @a @b:")) (BadHook 1) refl

-- A heading that stood before, with its tag.
twice : HooksFault (BadHook 5) (lines_of (codes "before_all:\nGiven x\nafter_all:\n\nbefore_all:"))
unfolding class class_of class_of_words step_keyword step_text cells_of parts_of unescaped closes content_of type_after on_row on_block on_steps with_last hooks_class hook_heading on_hook on_plain_line on step run_by finish reading
twice = hooks_faulty (lines_of (codes "before_all:\nGiven x\nafter_all:\n\nbefore_all:")) (BadHook 5) refl

twice_with_tag : HooksFault (BadHook 3) (lines_of (codes "before_tag @a:\nbefore_tag @b:\nbefore_tag\t@a:"))
unfolding class class_of class_of_words step_keyword step_text cells_of parts_of unescaped closes content_of type_after on_row on_block on_steps with_last hooks_class hook_heading on_hook on_plain_line on step run_by finish reading
twice_with_tag = hooks_faulty (lines_of (codes "before_tag @a:\nbefore_tag @b:\nbefore_tag\t@a:")) (BadHook 3) refl

-- What can't stand where it stands.
step_above : HooksFault (Unexpected 2) (lines_of (codes "# c\nGiven x\nbefore_all:"))
unfolding class class_of class_of_words step_keyword step_text cells_of parts_of unescaped closes content_of type_after on_row on_block on_steps with_last hooks_class hook_heading on_hook on_plain_line on step run_by finish reading
step_above = hooks_faulty (lines_of (codes "# c\nGiven x\nbefore_all:")) (Unexpected 2) refl

feature_heading : HooksFault (Unexpected 2) (lines_of (codes "before_all:\nFeature: a"))
unfolding class class_of class_of_words step_keyword step_text cells_of parts_of unescaped closes content_of type_after on_row on_block on_steps with_last hooks_class hook_heading on_hook on_plain_line on step run_by finish reading
feature_heading = hooks_faulty (lines_of (codes "before_all:\nFeature: a")) (Unexpected 2) refl

tag_line : HooksFault (Unexpected 2) (lines_of (codes "before_all:\n@a"))
unfolding class class_of class_of_words step_keyword step_text cells_of parts_of unescaped closes content_of type_after on_row on_block on_steps with_last hooks_class hook_heading on_hook on_plain_line on step run_by finish reading
tag_line = hooks_faulty (lines_of (codes "before_all:\n@a")) (Unexpected 2) refl

description : HooksFault (Unexpected 2) (lines_of (codes "before_all:\ntext"))
unfolding class class_of class_of_words step_keyword step_text cells_of parts_of unescaped closes content_of type_after on_row on_block on_steps with_last hooks_class hook_heading on_hook on_plain_line on step run_by finish reading
description = hooks_faulty (lines_of (codes "before_all:\ntext")) (Unexpected 2) refl

row_above_steps : HooksFault (Unexpected 2) (lines_of (codes "before_all:\n|a|"))
unfolding class class_of class_of_words step_keyword step_text cells_of parts_of unescaped closes content_of type_after on_row on_block on_steps with_last hooks_class hook_heading on_hook on_plain_line on step run_by finish reading
row_above_steps = hooks_faulty (lines_of (codes "before_all:\n|a|")) (Unexpected 2) refl

fence_above_steps : HooksFault (Unexpected 2) (lines_of (codes "before_all:\n```\n```"))
unfolding class class_of class_of_words step_keyword step_text cells_of parts_of unescaped closes content_of type_after on_row on_block on_steps with_last hooks_class hook_heading on_hook on_plain_line on step run_by finish reading
fence_above_steps = hooks_faulty (lines_of (codes "before_all:\n```\n```")) (Unexpected 2) refl

second_block : HooksFault (Unexpected 4) (lines_of (codes "before_all:\nGiven x\n|a|\n```\n```"))
unfolding class class_of class_of_words step_keyword step_text cells_of parts_of unescaped closes content_of type_after on_row on_block on_steps with_last hooks_class hook_heading on_hook on_plain_line on step run_by finish reading
second_block = hooks_faulty (lines_of (codes "before_all:\nGiven x\n|a|\n```\n```")) (Unexpected 4) refl

-- Rows.
bad_row : HooksFault (BadRow 3) (lines_of (codes "before_all:\nGiven x\n|a"))
unfolding class class_of class_of_words step_keyword step_text cells_of parts_of unescaped closes content_of type_after on_row on_block on_steps with_last hooks_class hook_heading on_hook on_plain_line on step run_by finish reading
bad_row = hooks_faulty (lines_of (codes "before_all:\nGiven x\n|a")) (BadRow 3) refl

many_cells : HooksFault (CellCount 4) (lines_of (codes "before_all:\nGiven x\n|a|\n|b|c|"))
unfolding class class_of class_of_words step_keyword step_text cells_of parts_of unescaped closes content_of type_after on_row on_block on_steps with_last hooks_class hook_heading on_hook on_plain_line on step run_by finish reading
many_cells = hooks_faulty (lines_of (codes "before_all:\nGiven x\n|a|\n|b|c|")) (CellCount 4) refl

-- A doc string without end.
open_text : HooksFault (UnclosedText 3) (lines_of (codes "before_all:\nGiven x\n```\n\nafter_all:\n"))
unfolding class class_of class_of_words step_keyword step_text cells_of parts_of unescaped closes content_of type_after on_row on_block on_steps with_last hooks_class hook_heading on_hook on_plain_line on step run_by finish reading
open_text = hooks_faulty (lines_of (codes "before_all:\nGiven x\n```\n\nafter_all:\n")) (UnclosedText 3) refl

-- Of two faulty lines the first.
first_of_two : HooksFault (BadHook 1) (lines_of (codes "before_step:\nFeature: a"))
unfolding class class_of class_of_words step_keyword step_text cells_of parts_of unescaped closes content_of type_after on_row on_block on_steps with_last hooks_class hook_heading on_hook on_plain_line on step run_by finish reading
first_of_two = hooks_faulty (lines_of (codes "before_step:\nFeature: a")) (BadHook 1) refl
