-- Proof machinery: the feature read so far, and the effect of each line. No public contract cites it.
pub mod Views
use Rattle.std.specs.Prelude.{codes, ◌≡◌, ℕ, Bool, true, false, if◌then◌else◌, List, [], ◌∷◌, ◌++◌, Option, Some, None, option_map, Result, Ok, Err}
use Rattle.std.specs.List.{last_or}
use Rattle.std.specs.Str.{bytes_eq}
use Rattle.gk_gherkin.specs.declared.class.Class.{Class}
use Rattle.gk_gherkin.specs.declared.class.Class.TheVariants.{Blank, Comment, TagLine, FeatureHeading, RuleHeading, BackgroundHeading, ScenarioHeading, ExamplesHeading, StepLine, RowLine, FenceLine, Other}
use Rattle.gk_gherkin.specs.declared.read_fault.ReadFault.{ReadFault}
use Rattle.gk_gherkin.specs.declared.read_fault.ReadFault.TheVariants.{Unexpected, BadTag, Language, TagsAtEnd}
use Rattle.gk_gherkin.specs.Lines.{LineValue}
use Rattle.gk_gherkin.specs.Class.{class, heading_name}
use Rattle.gk_gherkin.specs.Tags.{tags_of}
use Rattle.gk_gherkin.specs.Language.{language_of}
use Rattle.gk_gherkin.specs.Feature.{RuleValue, FeatureValue}
use Rattle.gk_gherkin.specs.ReadFault.{BeginsWithTag}
use Rattle.gk_gherkin.specs.Results.{◌>>=◌}
use Rattle.gk_gherkin.specs.OpenParts.{ChildrenValue, with_last, with_scenarios, on_children, heading_in, children_take_text, children_with_text}
use Rattle.gk_gherkin.specs.Reading.{Readers}

-- A rule with these children.
abbrev pub rule_with : RuleValue → ChildrenValue → RuleValue
rule_with r children = record { name = r.name; line = r.line; tags = r.tags; background = children.background; scenarios = children.scenarios }

-- The children of this last rule, or of the feature if there is no rule.
abbrev pub children_in : Option RuleValue → FeatureValue → ChildrenValue
children_in None f = record { background = f.background; scenarios = f.scenarios }
children_in (Some r) f = record { background = r.background; scenarios = r.scenarios }

-- The children of the last rule, or of the feature if it has no rule.
abbrev pub last_children : FeatureValue → ChildrenValue
last_children f = children_in (last_or None f.rules) f

-- A feature with these rules.
abbrev pub with_rules : FeatureValue → List RuleValue → FeatureValue
with_rules f rules = record { name = f.name; line = f.line; tags = f.tags; background = f.background; scenarios = f.scenarios; rules = rules }

-- A feature with these children of this last rule, or of its own if there is no rule.
abbrev pub children_put : Option RuleValue → FeatureValue → ChildrenValue → FeatureValue
children_put None f children = record { name = f.name; line = f.line; tags = f.tags; background = children.background; scenarios = children.scenarios; rules = f.rules }
children_put (Some r) f children = with_rules f (with_last (rule_with r children) f.rules)

-- A feature with these children of its last rule, or of its own if it has no rule.
abbrev pub with_children : FeatureValue → ChildrenValue → FeatureValue
with_children f children = children_put (last_or None f.rules) f children

-- The rule that a heading begins, with these tags.
abbrev pub rule_from : List (List ℕ) → LineValue → RuleValue
rule_from tags line = record { name = heading_name line; line = line.line; tags = tags; background = None; scenarios = [] }

-- The feature that a heading begins, with these tags.
abbrev pub feature_from : List (List ℕ) → LineValue → FeatureValue
feature_from tags line = record { name = heading_name line; line = line.line; tags = tags; background = None; scenarios = []; rules = [] }

-- A feature after the heading of a scenario or of examples, with these tags, or the heading's fault.
abbrev pub heading_in_feature : FeatureValue → List (List ℕ) → LineValue → Class → Result FeatureValue ReadFault
heading_in_feature f tags line class = heading_in (last_children f).scenarios tags line class >>= λ scenarios. Ok (with_children f (with_scenarios (last_children f) scenarios))

-- A feature after a line that takes no tags, or the line's fault.
abbrev pub line_in_feature : FeatureValue → LineValue → Class → Result FeatureValue ReadFault
line_in_feature f line class = on_children (last_children f) line class >>= λ children. Ok (with_children f children)

-- The feature so far after a heading that takes tags, with these tags, or its fault.
unfoldable pub on_heading : Option FeatureValue → List (List ℕ) → LineValue → Class → Result (Option FeatureValue) ReadFault
on_heading None tags line FeatureHeading = Ok (Some (feature_from tags line))
on_heading None tags line _ = Err (Unexpected line.line)
on_heading (Some f) tags line RuleHeading = Ok (Some (with_rules f (f.rules ++ rule_from tags line ∷ [])))
on_heading (Some f) tags line class = heading_in_feature f tags line class >>= λ f. Ok (Some f)

-- The feature so far after a line that takes no tags, or its fault.
unfoldable pub on_line : Option FeatureValue → LineValue → Class → Result (Option FeatureValue) ReadFault
on_line None line class = Err (Unexpected line.line)
on_line (Some f) line class = line_in_feature f line class >>= λ f. Ok (Some f)

-- The feature so far, after no tags or after tags, with the line of the last of them.
pub data FeatureReader : Type 0 where
  Untagged : Option FeatureValue → FeatureReader
  Tagged : Option FeatureValue → List (List ℕ) → ℕ → FeatureReader

-- The reader after no tags, or the fault.
abbrev pub without_tags : Result (Option FeatureValue) ReadFault → Result FeatureReader ReadFault
without_tags (Ok feature) = Ok (Untagged feature)
without_tags (Err e) = Err e

-- The reader after a tag line, given the tags of the line and those before it, or the line's fault.
abbrev pub tag_line : Option (List (List ℕ)) → Option FeatureValue → List (List ℕ) → LineValue → Result FeatureReader ReadFault
tag_line (Some more) feature tags line = Ok (Tagged feature (tags ++ more) line.line)
tag_line None feature tags line = Err (BadTag line.line)

-- The reader after a tag line, given the tags before it, or the line's fault.
abbrev pub on_tags : Option FeatureValue → List (List ℕ) → LineValue → Result FeatureReader ReadFault
on_tags feature tags line = tag_line (tags_of line) feature tags line

-- The reader after a comment that names this language or none, if only English is allowed; or the comment's fault.
abbrev pub by_language : Option (List ℕ) → FeatureReader → LineValue → Result FeatureReader ReadFault
by_language None reader line = Ok reader
by_language (Some word) reader line = if bytes_eq word (codes "en") then Ok reader else Err (Language line.line)

-- The reader after a comment. Above the feature, naming a language other than English is a fault.
abbrev pub on_comment : Option FeatureValue → FeatureReader → LineValue → Result FeatureReader ReadFault
on_comment None reader line = by_language (language_of line) reader line
on_comment (Some f) reader line = Ok reader

-- The reader after a line of this class, or the line's fault.
unfoldable pub on : FeatureReader → LineValue → Class → Result FeatureReader ReadFault
on (Untagged feature) line Blank = Ok (Untagged feature)
on (Untagged feature) line Comment = on_comment feature (Untagged feature) line
on (Untagged feature) line TagLine = tag_line (tags_of line) feature [] line
on (Untagged feature) line FeatureHeading = without_tags (on_heading feature [] line FeatureHeading)
on (Untagged feature) line RuleHeading = without_tags (on_heading feature [] line RuleHeading)
on (Untagged feature) line ScenarioHeading = without_tags (on_heading feature [] line ScenarioHeading)
on (Untagged feature) line ExamplesHeading = without_tags (on_heading feature [] line ExamplesHeading)
on (Untagged feature) line class = without_tags (on_line feature line class)
on (Tagged feature tags last) line Blank = Ok (Tagged feature tags last)
on (Tagged feature tags last) line Comment = on_comment feature (Tagged feature tags last) line
on (Tagged feature tags last) line TagLine = tag_line (tags_of line) feature tags line
on (Tagged feature tags last) line class = without_tags (on_heading feature tags line class)

-- Whether a doc string is allowed there.
abbrev pub takes_text : FeatureReader → Bool
takes_text (Untagged None) = false
takes_text (Untagged (Some f)) = children_take_text (last_children f)
takes_text (Tagged feature tags last) = false

-- A feature with this doc string under its last step.
abbrev pub with_text : List ℕ → FeatureValue → FeatureValue
with_text text f = with_children f (children_with_text (last_children f) text)

-- The reader after a doc string.
abbrev pub after_text : FeatureReader → List ℕ → FeatureReader
after_text (Untagged feature) text = Untagged (option_map (with_text text) feature)
after_text (Tagged feature tags last) text = Tagged feature tags last

-- What the file says if the lines end there.
abbrev pub answer : FeatureReader → Result (Option FeatureValue) ReadFault
answer (Untagged feature) = Ok feature
answer (Tagged feature tags last) = Err (TagsAtEnd last)

-- Above the feature, only a line that begins with a tag and a feature's heading need memory.
abbrev pub NeedsAt : Option FeatureValue → LineValue → Class → Type 0
NeedsAt None line TagLine = BeginsWithTag line
NeedsAt None line FeatureHeading = Unit {0}
NeedsAt None line _ = ⊥
NeedsAt (Some f) line class = Unit {0}

-- A line of this class needs memory.
abbrev pub Needs : FeatureReader → LineValue → Class → Type 0
Needs (Untagged feature) line class = NeedsAt feature line class
Needs (Tagged feature tags last) line class = Unit {0}

-- The functions that read a feature file.
abbrev pub feature_readers : Readers FeatureReader (Option FeatureValue)
feature_readers = record { first = Untagged None; after_line = λ reader line. on reader line (class line); takes_text = takes_text; after_text = after_text; answer = answer; needs = λ reader line. Needs reader line (class line) }
