-- The meaning of each fault of a feature file and of a hooks file.
use Rattle.std.specs.Prelude.{codes, ◌≡◌, ◌≢◌, ℕ, true, false, ◌⊎◌, List, [], ◌∷◌, ◌++◌, length, Option, Some, None, IfSome, Result, Ok, Err}
use Rattle.std.specs.List.{AllByRecursion}
use Rattle.gk_gherkin.specs.declared.read_fault.ReadFault.{ReadFault}
use Rattle.gk_gherkin.specs.declared.read_fault.ReadFault.TheVariants.{NotUtf8, Unexpected, BadTag, CellCount, UnclosedText, TagsAtEnd, Language, TooLong, Memory, BadHook, BadRow}
use Rattle.gk_gherkin.specs.Lines.{LineValue, Lines, lines_of, IsText, IsTooLong, IsNotUtf8At}
use Rattle.gk_gherkin.specs.declared.class.Class.{Class}
use Rattle.gk_gherkin.specs.declared.class.Class.TheVariants.{Comment, TagLine, FeatureHeading, RuleHeading, ScenarioHeading, ExamplesHeading, RowLine, FenceLine}
use Rattle.gk_gherkin.specs.declared.class.Fence.{Fence}
use Rattle.gk_gherkin.specs.Class.{class}
use Rattle.gk_gherkin.specs.Tags.{is_tag, words_before_comment, tags_of}
use Rattle.gk_gherkin.specs.Rows.{cells_of}
use Rattle.gk_gherkin.specs.DocStrings.{closes}
use Rattle.gk_gherkin.specs.Language.{NamesOtherLanguage}
use Rattle.gk_gherkin.specs.Grammar.{IsIgnored, IsIgnoredAbove, Skips, Next, IsReadable}
use Rattle.gk_gherkin.specs.declared.hook_headings.HooksClass.TheVariants.{HookLine}
use Rattle.gk_gherkin.specs.Hooks.{HookValue}
use Rattle.gk_gherkin.specs.HookHeadings.{hooks_class, hook_heading}
use Rattle.gk_gherkin.specs.HooksGrammar.{heading_of, ReadsHooks, AreHooksReadable}

-- The line that a fault names.
abbrev pub line_of_fault : ReadFault → Option ℕ
line_of_fault (NotUtf8 n) = Some n
line_of_fault (Unexpected n) = Some n
line_of_fault (BadTag n) = Some n
line_of_fault (CellCount n) = Some n
line_of_fault (UnclosedText n) = Some n
line_of_fault (TagsAtEnd n) = Some n
line_of_fault (Language n) = Some n
line_of_fault TooLong = None
line_of_fault Memory = None
line_of_fault (BadHook n) = Some n
line_of_fault (BadRow n) = Some n

-- Definitions for both grammars. `Readable` says which lists of lines have a reading, and `kind` gives the class of a line.
module _ (Readable : Lines → Type 0) {C : Type 0} (kind : LineValue → C) where
  -- Some readable list begins with these lines.
  abbrev pub BeginsSome : Lines → Type 0
  BeginsSome ls = (more : Lines) × Readable (ls ++ more)

  -- No readable list begins with these lines.
  abbrev pub BeginsNone : Lines → Type 0
  BeginsNone ls = (more : Lines) → Readable (ls ++ more) → ⊥

  -- Some line of the class of this one can follow the lines before.
  abbrev pub SomeLikeIt : Lines → LineValue → Type 0
  SomeLikeIt before line = (other : LineValue) × (kind other ≡ kind line) × BeginsSome (before ++ other ∷ [])

  -- No line of the class of this one can follow the lines before.
  abbrev pub NoneLikeIt : Lines → LineValue → Type 0
  NoneLikeIt before line = (other : LineValue) → kind other ≡ kind line → BeginsNone (before ++ other ∷ [])

  -- A fault on a line. The lines before it are readable, alone or with one more line after them. With the line they begin no readable list. What such a fault says of a line holds for it.
  pub record StopsAt (ls : Lines) (fault : ReadFault) (Says : ReadFault → Lines → LineValue → Type 0) : Type 0 where
    pub before : Lines
    pub line : LineValue
    pub after : Lines
    pub whole : ls ≡ before ++ line ∷ after
    pub number : line_of_fault fault ≡ Some line.line
    pub fits : Readable before ⊎ ((extra : LineValue) × Readable (before ++ extra ∷ []))
    pub stops : BeginsNone (before ++ line ∷ [])
    pub says : Says fault before line

  -- A row that isn't between two bars, in a place where rows are allowed.
  pub record IsBadRow (before : Lines) (line : LineValue) : Type 0 where
    pub is : class line ≡ RowLine
    pub fits : SomeLikeIt before line
    pub bad : cells_of line ≡ None

  -- A row, in a place where rows are allowed, whose number of cells differs from that of each row allowed there.
  pub record IsOtherWidth (before : Lines) (line : LineValue) : Type 0 where
    pub is : class line ≡ RowLine
    pub fits : SomeLikeIt before line
    pub cells : List (List ℕ)
    pub good : cells_of line ≡ Some cells
    pub width : ℕ
    pub wanted : (other : LineValue) → class other ≡ RowLine → BeginsSome (before ++ other ∷ []) → IfSome (cells_of other) (λ wanted. length wanted ≡ width)
    pub differs : length cells ≢ width

  -- What a fault on a line says of the line and of those before it, if both kinds of file have it.
  abbrev pub AnyLineSays : ReadFault → Lines → LineValue → Type 0
  AnyLineSays (Unexpected n) before line = NoneLikeIt before line
  AnyLineSays (BadRow n) before line = IsBadRow before line
  AnyLineSays (CellCount n) before line = IsOtherWidth before line
  AnyLineSays _ before line = ⊥

  -- The lines end in a doc string that line `n` opened. The lines before it are readable, and with it they aren't. Any line that closes it would make all of them readable, but there is none.
  pub record EndsInDocString (ls : Lines) (n : ℕ) : Type 0 where
    pub before : Lines
    pub fence : Fence
    pub opening : LineValue
    pub content : Lines
    pub whole : ls ≡ before ++ opening ∷ content
    pub number : opening.line ≡ n
    pub is : class opening ≡ FenceLine fence
    pub inside : AllByRecursion (λ line. closes fence line ≡ false) content
    pub fits : Readable before
    pub opens : Readable (before ++ opening ∷ []) → ⊥
    pub unread : Readable ls → ⊥
    pub closed : (closing : LineValue) → closes fence closing ≡ true → Readable (ls ++ closing ∷ [])

-- A tag line with a word that isn't a tag, in a place where tag lines are allowed.
pub record IsBadTag (before : Lines) (line : LineValue) : Type 0 where
  pub is : class line ≡ TagLine
  pub fits : SomeLikeIt IsReadable class before line
  pub bad : tags_of line ≡ None

-- A comment that names a language other than English, without a Feature line above it.
pub record IsOtherLanguage (before : Lines) (line : LineValue) : Type 0 where
  pub is : class line ≡ Comment
  pub above : AllByRecursion (λ other. class other ≢ FeatureHeading) before
  pub names : NamesOtherLanguage line

-- A heading that takes tags.
abbrev pub TakesTags : Class → Type 0
TakesTags FeatureHeading = Unit {0}
TakesTags RuleHeading = Unit {0}
TakesTags ScenarioHeading = Unit {0}
TakesTags ExamplesHeading = Unit {0}
TakesTags _ = ⊥

-- The lines end after tag line `n`, apart from blank lines and comments. A heading that takes tags would make them readable, but there is none.
pub record EndsInTags (ls : Lines) (n : ℕ) : Type 0 where
  pub before : Lines
  pub line : LineValue
  pub ignored : Lines
  pub whole : ls ≡ before ++ line ∷ ignored
  pub number : line.line ≡ n
  pub is : class line ≡ TagLine
  pub skipped : Skips IsIgnored ignored []
  pub unread : IsReadable ls → ⊥
  pub fits : (heading : LineValue) × TakesTags (class heading) × IsReadable (ls ++ heading ∷ [])

-- If a line has a word before any comment, the first one is a tag.
abbrev pub BeginsWithTag : LineValue → Type 0
BeginsWithTag line = (word : List ℕ) (others : List (List ℕ)) → words_before_comment line.text ≡ word ∷ others → is_tag word ≡ true

-- The first line that isn't ignored is a feature's heading, or a tag line that begins with a tag. No line before it needs memory, and no other line in its place does.
pub record NeedsMemory (ls : Lines) : Type 0 where
  pub line : LineValue
  pub rest : Lines
  pub next : Next IsIgnoredAbove ls line rest
  pub needs : (class line ≡ FeatureHeading) ⊎ ((class line ≡ TagLine) × BeginsWithTag line)

-- What a fault on a line of a feature file says of the line and of those before it.
abbrev pub LineSays : ReadFault → Lines → LineValue → Type 0
LineSays (BadTag n) before line = IsBadTag before line
LineSays (Language n) before line = IsOtherLanguage before line
LineSays fault before line = AnyLineSays IsReadable class fault before line

-- A fault on a line of a feature file.
abbrev pub IsLineFault : ReadFault → Lines → Type 0
IsLineFault fault ls = StopsAt IsReadable class ls fault LineSays

-- The meaning of a fault for the lines of a feature file. Refused memory means that they need some.
abbrev pub FeatureFault : ReadFault → Lines → Type 0
FeatureFault (UnclosedText n) ls = EndsInDocString IsReadable class ls n
FeatureFault (TagsAtEnd n) ls = EndsInTags ls n
FeatureFault Memory ls = NeedsMemory ls
FeatureFault fault ls = IsLineFault fault ls

-- A heading that an earlier hook has, with the same tag if it has one.
pub record StoodBefore (before : Lines) (line : LineValue) : Type 0 where
  pub hooks : List HookValue
  pub reading : ReadsHooks before hooks
  pub earlier : List HookValue
  pub hook : HookValue
  pub later : List HookValue
  pub whole : hooks ≡ earlier ++ hook ∷ later
  pub same : hook_heading line ≡ Some (heading_of hook)

-- A hook line that isn't a heading, or that repeats an earlier one, in a place where hook lines are allowed.
pub record IsBadHook (before : Lines) (line : LineValue) : Type 0 where
  pub is : hooks_class line ≡ HookLine
  pub fits : SomeLikeIt AreHooksReadable hooks_class before line
  pub bad : (hook_heading line ≡ None) ⊎ StoodBefore before line

-- The first line that isn't ignored is a hook's heading. No line before it needs memory, and no other line in its place does.
pub record HooksNeedMemory (ls : Lines) : Type 0 where
  pub line : LineValue
  pub rest : Lines
  pub next : Next IsIgnored ls line rest
  pub is : hooks_class line ≡ HookLine
  pub heading : hook_heading line ≢ None

-- What a fault on a line of a hooks file says of the line and of those before it.
abbrev pub HooksLineSays : ReadFault → Lines → LineValue → Type 0
HooksLineSays (BadHook n) before line = IsBadHook before line
HooksLineSays fault before line = AnyLineSays AreHooksReadable hooks_class fault before line

-- A fault on a line of a hooks file.
abbrev pub IsHooksLineFault : ReadFault → Lines → Type 0
IsHooksLineFault fault ls = StopsAt AreHooksReadable hooks_class ls fault HooksLineSays

-- The meaning of a fault for the lines of a hooks file. Refused memory means that they need some.
abbrev pub HooksFault : ReadFault → Lines → Type 0
HooksFault (UnclosedText n) ls = EndsInDocString AreHooksReadable hooks_class ls n
HooksFault Memory ls = HooksNeedMemory ls
HooksFault fault ls = IsHooksLineFault fault ls

-- The meaning of a fault for the bytes. Too many bytes come before bytes that aren't UTF-8, and both come before any fault of the lines.
abbrev pub FaultSays : (ReadFault → Lines → Type 0) → ReadFault → List ℕ → Type 0
FaultSays OfLines TooLong bytes = IsTooLong bytes
FaultSays OfLines (NotUtf8 n) bytes = IsNotUtf8At bytes n
FaultSays OfLines fault bytes = IsText bytes × OfLines fault (lines_of bytes)

-- No bytes have two faults, neither of two classes nor on two lines. Refused memory doesn't count: it is no fault of the bytes.
abbrev pub HaveOneFault : (ReadFault → Lines → Type 0) → Type 0
HaveOneFault OfLines = (bytes : List ℕ) (one other : ReadFault) → one ≢ Memory → other ≢ Memory → FaultSays OfLines one bytes → FaultSays OfLines other bytes → one ≡ other

-- The meaning of a fault if only the lines are read.
abbrev pub LinesFaultSays : ReadFault → List ℕ → Type 0
LinesFaultSays Memory bytes = IsText bytes
LinesFaultSays fault bytes = FaultSays (λ other ls. ⊥) fault bytes

-- The result has this value, or memory was refused.
abbrev pub AnswersOrLacksMemory : {X V : Type 0} → (X → V) → Result X ReadFault → V → Type 0
AnswersOrLacksMemory value (Ok answer) said = value answer ≡ said
AnswersOrLacksMemory value (Err fault) said = fault ≡ Memory

-- The text of a fault, without its line. (this project's profile)
abbrev pub text_of_fault : ReadFault → List ℕ
text_of_fault (NotUtf8 n) = codes "not UTF-8"
text_of_fault (Unexpected n) = codes "unexpected line"
text_of_fault (BadTag n) = codes "bad tag"
text_of_fault (CellCount n) = codes "row with another number of cells"
text_of_fault (UnclosedText n) = codes "doc string without end"
text_of_fault (TagsAtEnd n) = codes "tags before nothing"
text_of_fault (Language n) = codes "language not known"
text_of_fault TooLong = codes "longer than 16777216 bytes"
text_of_fault Memory = codes "out of memory"
text_of_fault (BadHook n) = codes "bad hook heading"
text_of_fault (BadRow n) = codes "row without closing bar"
