-- Proof machinery: the hooks read so far, and the effect of each line. No public contract cites it.
use Rattle.std.specs.Prelude.{◌≢◌, ℕ, Bool, true, false, List, [], ◌∷◌, ◌++◌, Option, Some, None, Result, Ok, Err}
use Rattle.std.specs.List.{last_or, list_any}
use Rattle.gk_gherkin.specs.declared.class.Class.{Class}
use Rattle.gk_gherkin.specs.declared.class.Class.TheVariants.{Blank, Comment}
use Rattle.gk_gherkin.specs.declared.hook_headings.HooksClass.{HooksClass}
use Rattle.gk_gherkin.specs.declared.hook_headings.HooksClass.TheVariants.{HookLine, Plain}
use Rattle.gk_gherkin.specs.declared.read_fault.ReadFault.{ReadFault}
use Rattle.gk_gherkin.specs.declared.read_fault.ReadFault.TheVariants.{Unexpected, BadHook}
use Rattle.gk_gherkin.specs.Lines.{LineValue}
use Rattle.gk_gherkin.specs.Feature.{StepValue}
use Rattle.gk_gherkin.specs.Hooks.{HookValue, is_for}
use Rattle.gk_gherkin.specs.HookHeadings.{hooks_class, HookHeadingValue, hook_heading}
use Rattle.gk_gherkin.specs.Results.{◌>>=◌}
use Rattle.gk_gherkin.specs.OpenParts.{with_last, on_steps, steps_take_text, steps_with_text}
use Rattle.gk_gherkin.specs.Reading.{Readers}

-- Whether one of these hooks has this heading.
abbrev pub has_heading : HookHeadingValue → List HookValue → Bool
has_heading heading hooks = list_any (λ (hook : HookValue). is_for hook heading.kind heading.tag) hooks

-- The hook that a heading begins.
abbrev pub hook_from : HookHeadingValue → LineValue → HookValue
hook_from heading line = record { kind = heading.kind; tag = heading.tag; line = line.line; steps = [] }

-- A hook with these steps.
abbrev pub hook_with : HookValue → List StepValue → HookValue
hook_with hook steps = record { kind = hook.kind; tag = hook.tag; line = hook.line; steps = steps }

-- The hooks after a heading, given whether one of them has it; or the heading's fault.
abbrev pub hook_begun : Bool → List HookValue → HookHeadingValue → LineValue → Result (List HookValue) ReadFault
hook_begun true hooks heading line = Err (BadHook line.line)
hook_begun false hooks heading line = Ok (hooks ++ hook_from heading line ∷ [])

-- The hooks after a hook line, given its heading, if it is one; or the line's fault.
abbrev pub hook_after : Option HookHeadingValue → List HookValue → LineValue → Result (List HookValue) ReadFault
hook_after None hooks line = Err (BadHook line.line)
hook_after (Some heading) hooks line = hook_begun (has_heading heading hooks) hooks heading line

-- The hooks after a hook line, or the line's fault.
unfoldable pub on_hook : List HookValue → LineValue → Result (List HookValue) ReadFault
on_hook hooks line = hook_after (hook_heading line) hooks line

-- The hooks after a line under this last one, or the line's fault. Before the first hook there is none.
abbrev pub under_last : Option HookValue → List HookValue → LineValue → Class → Result (List HookValue) ReadFault
under_last None hooks line class = Err (Unexpected line.line)
under_last (Some hook) hooks line class = on_steps hook.steps line class >>= λ steps. Ok (with_last (hook_with hook steps) hooks)

-- The hooks after a line that isn't a hook line, or the line's fault.
unfoldable pub on_plain_line : List HookValue → LineValue → Class → Result (List HookValue) ReadFault
on_plain_line hooks line class = under_last (last_or None hooks) hooks line class

-- The hooks after a line of this class, or the line's fault.
unfoldable pub on : List HookValue → LineValue → HooksClass → Result (List HookValue) ReadFault
on hooks line HookLine = on_hook hooks line
on hooks line (Plain Blank) = Ok hooks
on hooks line (Plain Comment) = Ok hooks
on hooks line (Plain class) = on_plain_line hooks line class

-- Whether a doc string is allowed under the steps of this last hook.
abbrev pub last_hook_takes_text : Option HookValue → Bool
last_hook_takes_text None = false
last_hook_takes_text (Some hook) = steps_take_text hook.steps

-- Whether a doc string is allowed there.
abbrev pub takes_text : List HookValue → Bool
takes_text hooks = last_hook_takes_text (last_or None hooks)

-- The hooks with a doc string under the last step of this last one.
abbrev pub last_hook_with_text : Option HookValue → List HookValue → List ℕ → List HookValue
last_hook_with_text None hooks text = hooks
last_hook_with_text (Some hook) hooks text = with_last (hook_with hook (steps_with_text hook.steps text)) hooks

-- The hooks after a doc string.
abbrev pub after_text : List HookValue → List ℕ → List HookValue
after_text hooks text = last_hook_with_text (last_or None hooks) hooks text

-- Of hook lines, only a heading needs memory, and any other line only after a heading.
abbrev pub Needs : List HookValue → LineValue → HooksClass → Type 0
Needs hooks line HookLine = hook_heading line ≢ None
Needs hooks line (Plain class) = hooks ≢ []

-- The functions that read a hooks file.
abbrev pub hooks_readers : Readers (List HookValue) (List HookValue)
hooks_readers = record { first = []; after_line = λ hooks line. on hooks line (hooks_class line); takes_text = takes_text; after_text = after_text; answer = λ hooks. Ok hooks; needs = λ hooks line. Needs hooks line (hooks_class line) }
