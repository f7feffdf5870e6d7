-- The context of a line: among steps, in a doc string or elsewhere.
use Rattle.std.specs.Prelude.{ℕ, List, if◌then◌else◌}
use Rattle.gk_gherkin.specs.declared.class.Class.{Class}
use Rattle.gk_gherkin.specs.declared.class.Class.TheVariants.{Blank, Comment, TagLine, FeatureHeading, RuleHeading, BackgroundHeading, ScenarioHeading, ExamplesHeading, StepLine, RowLine, FenceLine, Other}
use Rattle.gk_gherkin.specs.declared.class.Fence.{Fence}
use Rattle.gk_gherkin.specs.Lines.{LineValue}
use Rattle.gk_gherkin.specs.Class.{class}
use Rattle.gk_gherkin.specs.DocStrings.{closes}
use Rattle.gk_lint.specs.declared.line_context.LineContext.{LineContext}
use Rattle.gk_lint.specs.declared.line_context.LineContext.TheVariants.{Elsewhere, AmongSteps, AfterStep, InText}

-- A line with this text. Its place doesn't matter.
abbrev pub unplaced : List ℕ → LineValue
unplaced text = record { line = 1; column = 1; text = text }

-- The class of a line in this context. A line of a doc string may hold anything, so it counts as blank.
abbrev pub class_in : LineContext → List ℕ → Class
class_in (InText fence) text = Blank
class_in context text = class (unplaced text)

-- The context `next` if steps are possible here. If none is possible here, none is possible on the next line either.
abbrev pub under : LineContext → LineContext → LineContext
under next Elsewhere = Elsewhere
under next context = next

-- A fence opens a doc string only after a step. (Cucumber's Gherkin reference: doc strings)
abbrev pub after_fence : Fence → LineContext → LineContext
after_fence fence Elsewhere = Elsewhere
after_fence fence AfterStep = InText fence
after_fence fence context = AmongSteps

-- The context of the line after one of this class, outside of doc strings. Steps are only under the headings of backgrounds and scenarios. (Cucumber's Gherkin reference: steps)
abbrev pub after_class : LineContext → Class → LineContext
after_class context Blank = context
after_class context Comment = context
after_class context BackgroundHeading = AmongSteps
after_class context ScenarioHeading = AmongSteps
after_class context FeatureHeading = Elsewhere
after_class context RuleHeading = Elsewhere
after_class context ExamplesHeading = Elsewhere
after_class context StepLine = under AfterStep context
after_class context (FenceLine fence) = after_fence fence context
after_class context TagLine = under AmongSteps context
after_class context RowLine = under AmongSteps context
after_class context Other = under AmongSteps context

-- The context of the line after this one, which has this class in its own context. A doc string continues up to the line that closes it. (Cucumber's Gherkin reference: doc strings)
unfoldable pub after : LineContext → Class → List ℕ → LineContext
after (InText fence) class text = if closes fence (unplaced text) then AmongSteps else InText fence
after context class text = after_class context class
