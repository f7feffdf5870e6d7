-- Worked headings of hooks, by computation.
use Rattle.std.specs.Prelude.{codes, ◌≡◌, ℕ, List, Some, None, refl}
use Rattle.gk_gherkin.specs.declared.class.Class.TheVariants.{StepLine}
use Rattle.gk_gherkin.specs.declared.hook_headings.HooksClass.TheVariants.{HookLine, Plain}
use Rattle.gk_gherkin.specs.declared.hooks.HookKind.TheVariants.{BeforeRule, AfterScenario, BeforeTag, AfterTag}
use Rattle.gk_gherkin.specs.Lines.{LineValue, line_at}
use Rattle.gk_gherkin.specs.Class.{class, class_of, class_of_words}
use Rattle.gk_gherkin.specs.HookHeadings.{hooks_class, hook_heading}

abbrev line : List ℕ → LineValue
line text = line_at 1 text

heading_alone : hook_heading (line (codes "\tafter_scenario: ")) ≡ Some (record { kind = AfterScenario; tag = None })
unfolding hook_heading
heading_alone = refl

heading_of_tag : hook_heading (line (codes "after_tag @a:")) ≡ Some (record { kind = AfterTag; tag = Some (codes "@a") })
unfolding hook_heading
heading_of_tag = refl

-- The last colon is the heading's.
heading_with_colon : hook_heading (line (codes "before_tag\t @a:b: ")) ≡ Some (record { kind = BeforeTag; tag = Some (codes "@a:b") })
unfolding hook_heading
heading_with_colon = refl

heading_of_rule : (hooks_class (line (codes "before_rule:")) ≡ HookLine) × (hook_heading (line (codes "before_rule:")) ≡ Some (record { kind = BeforeRule; tag = None }))
unfolding hooks_class hook_heading
heading_of_rule = (refl, refl)

-- Steps have no hooks.
heading_of_step : (hooks_class (line (codes "before_step:")) ≡ HookLine) × (hook_heading (line (codes "before_step:")) ≡ None)
unfolding hooks_class hook_heading
heading_of_step = (refl, refl)

-- A heading without a tag has none, and one with a tag has it.
heading_without_tag : hook_heading (line (codes "before_tag @:")) ≡ None
unfolding hook_heading
heading_without_tag = refl

heading_with_no_blank : hook_heading (line (codes "before_tag@a:")) ≡ None
unfolding hook_heading
heading_with_no_blank = refl

heading_with_two_tags : hook_heading (line (codes "before_tag @a @b:")) ≡ None
unfolding hook_heading
heading_with_two_tags = refl

-- A blank before the colon of a heading, or anything after it, is refused.
heading_with_blank : hook_heading (line (codes "before_all :")) ≡ None
unfolding hook_heading
heading_with_blank = refl

tag_with_blank : hook_heading (line (codes "before_tag @a :")) ≡ None
unfolding hook_heading
tag_with_blank = refl

heading_with_comment : hook_heading (line (codes "after_tag @a: # c")) ≡ None
unfolding hook_heading
heading_with_comment = refl

-- Other lines have the classes that they have in a feature file.
step_in_hooks : hooks_class (line (codes "  Given it passes")) ≡ Plain StepLine
unfolding hooks_class class class_of class_of_words
step_in_hooks = refl
