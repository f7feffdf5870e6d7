-- The headings of a hooks file.
use Rattle.std.specs.Prelude.{codes, not, nat_eq, ℕ, ◌||◌, ◌&&◌, List, [], ◌∷◌, length, drop, slice_index, find, Option, Some, None, option_map, if◌then◌else◌}
use Rattle.std.specs.List.{list_all, ends_with, before_last}
use Rattle.std.specs.Option.{option_or}
use Rattle.std.specs.Str.{bytes_eq}
use Rattle.gk_gherkin.specs.declared.hooks.HookKind.{HookKind}
use Rattle.gk_gherkin.specs.declared.hooks.HookKind.TheVariants.{BeforeAll, AfterAll, BeforeFeature, AfterFeature, BeforeRule, AfterRule, BeforeScenario, AfterScenario, BeforeTag, AfterTag}
use Rattle.gk_gherkin.specs.declared.hook_headings.HookHeading.{HookHeading}
use Rattle.gk_gherkin.specs.declared.hook_headings.HooksClass.{HooksClass}
use Rattle.gk_gherkin.specs.declared.hook_headings.HooksClass.TheVariants.{HookLine, Plain}
use Rattle.gk_gherkin.specs.Lines.{LineValue}
use Rattle.gk_gherkin.specs.Text.{is_blank, trim, trim_front}
use Rattle.gk_gherkin.specs.Class.{class, is_colon}
use Rattle.gk_gherkin.specs.Text.{begins}
use Rattle.gk_gherkin.specs.Tags.{is_tag}

-- The class of a line in a hooks file: a hook line if its trimmed text begins with `before_` or `after_`, and otherwise the line's class in a feature file.
unfoldable pub hooks_class : LineValue → HooksClass
hooks_class line = if begins (trim line.text) (codes "before_") || begins (trim line.text) (codes "after_") then HookLine else Plain (class line)

-- The contents of a hook's heading: its kind, and the tag that it is for, if its kind has one. (behave's documentation: environment file functions)
pub record HookHeadingValue : Type 0 where
  pub kind : HookKind
  pub tag : Option (List ℕ)

-- A heading without a tag, and its kind. (behave's documentation: environment file functions; those of a rule are this project's profile)
pub record PlainHeading : Type 0 where
  pub text : List ℕ
  pub kind : HookKind

-- All headings without a tag. (behave's documentation: environment file functions; those of a rule are this project's profile)
abbrev pub plain_headings : List PlainHeading
plain_headings =
    record { text = codes "before_all:"; kind = BeforeAll } ∷ record { text = codes "after_all:"; kind = AfterAll }
    ∷ record { text = codes "before_feature:"; kind = BeforeFeature } ∷ record { text = codes "after_feature:"; kind = AfterFeature }
    ∷ record { text = codes "before_rule:"; kind = BeforeRule } ∷ record { text = codes "after_rule:"; kind = AfterRule }
    ∷ record { text = codes "before_scenario:"; kind = BeforeScenario } ∷ record { text = codes "after_scenario:"; kind = AfterScenario } ∷ []

-- The heading that a text spells, if it is one without a tag.
abbrev pub plain_heading : List ℕ → Option HookHeadingValue
plain_heading text = option_map (λ (h : PlainHeading). record { kind = h.kind; tag = None }) (find (λ (h : PlainHeading). bytes_eq text h.text) plain_headings)

-- A heading without a tag, of this kind. Proof machinery.
abbrev pub plain : HookKind → HookHeadingValue
plain kind = record { kind = kind; tag = None }

-- The text, if it is a tag without spaces and tabs.
abbrev pub tag_alone : List ℕ → Option (List ℕ)
tag_alone text = if is_tag text && list_all (λ b. not (is_blank b)) text then Some text else None

-- The tag in a text between a word followed by at least one space or tab and the colon at the text's end.
abbrev pub tag_between : List ℕ → List ℕ → Option (List ℕ)
tag_between word text =
    if begins text word && (is_blank (slice_index text (length word)) && ends_with nat_eq text (codes ":"))
    then tag_alone (trim_front (before_last is_colon (drop (length word) text))) else None

-- The heading with a tag that a text spells, if it is one that begins with this word.
abbrev pub tag_heading : List ℕ → HookKind → List ℕ → Option HookHeadingValue
tag_heading word kind text = option_map (λ tag. record { kind = kind; tag = Some tag }) (tag_between word text)

-- The heading that a line spells: one without a tag, or `before_tag` or `after_tag`, at least one space or tab, a tag and a colon; `None` for any other text. (behave's documentation: environment file functions; that hooks have a separate file is this project's profile)
unfoldable pub hook_heading : LineValue → Option HookHeadingValue
hook_heading line = option_or (plain_heading (trim line.text))
    (option_or (tag_heading (codes "before_tag") BeforeTag (trim line.text)) (tag_heading (codes "after_tag") AfterTag (trim line.text)))

-- The value of a `HookHeading`. Proof machinery.
abbrev pub heading_value : HookHeading → HookHeadingValue
heading_value h = record { kind = h.kind; tag = option_map (λ t. t.now) h.tag }
