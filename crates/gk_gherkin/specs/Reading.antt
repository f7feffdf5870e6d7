-- Proof machinery: how a file is read line by line, the same for feature files and hooks files. No public contract cites it.
-- A reader holds what was read so far. A fence opens a doc string if the last step may have one. Every line before the fence that closes it is content. The kind of file says what any other line adds.
pub mod Views
use Rattle.std.specs.Prelude.{◌≡◌, ◌≢◌, ◌⊎◌, ℕ, ◌-◌, Bool, true, false, List, [], ◌∷◌, ◌++◌, Option, Some, None, Result, Ok, Err}
use Rattle.gk_gherkin.specs.declared.class.Class.{Class}
use Rattle.gk_gherkin.specs.declared.class.Class.TheVariants.{FenceLine}
use Rattle.gk_gherkin.specs.declared.class.Fence.{Fence}
use Rattle.gk_gherkin.specs.declared.read_fault.ReadFault.{ReadFault}
use Rattle.gk_gherkin.specs.declared.read_fault.ReadFault.TheVariants.{UnclosedText, Memory}
use Rattle.gk_gherkin.specs.Lines.{LineValue, Lines, lines_of, IsText}
use Rattle.gk_gherkin.specs.Class.{class}
use Rattle.gk_gherkin.specs.DocStrings.{closes, content_of}
use Rattle.gk_gherkin.specs.ReadFault.{LinesFaultSays}
use Rattle.gk_gherkin.specs.Results.{◌>>=◌}

-- An open doc string: its fence, the column and the number of the fence's line, and the text so far, if it has a line.
pub record DocStringValue : Type 0 where
  pub fence : Fence
  pub column : ℕ
  pub line : ℕ
  pub content : Option (List ℕ)

-- The functions that read a kind of file.
pub record Readers (P A : Type 0) : Type 1 where
  -- the reader before the first line
  pub first : P
  -- the reader after a line that isn't part of a doc string
  pub after_line : P → LineValue → Result P ReadFault
  -- whether the last step may have a doc string, and the reader after it
  pub takes_text : P → Bool
  pub after_text : P → List ℕ → P
  -- what the file says if the lines end there
  pub answer : P → Result A ReadFault
  -- whether a line there needs memory
  pub needs : P → LineValue → Type 0

-- The state of reading: outside of doc strings, or in a doc string under the last step.
pub data State (P : Type 0) : Type 0 where
  Outside : P → State P
  InText : P → DocStringValue → State P

-- The state outside of doc strings, or the fault.
abbrev pub outside : {P : Type 0} → Result P ReadFault → Result (State P) ReadFault
outside (Ok reader) = Ok (Outside reader)
outside (Err e) = Err e

-- The state with this doc string open, or with none.
abbrev pub state_of : {P : Type 0} → P → Option DocStringValue → State P
state_of reader None = Outside reader
state_of reader (Some text) = InText reader text

-- The fence of a line that opens a doc string, if one is allowed there.
abbrev pub opening : Bool → Class → Option Fence
opening true (FenceLine fence) = Some fence
opening _ _ = None

-- The doc string that a fence opens.
abbrev pub opened : Fence → LineValue → DocStringValue
opened fence line = record { fence = fence; column = line.column; line = line.line; content = None }

-- A text with one more line.
abbrev pub with_line : Option (List ℕ) → List ℕ → List ℕ
with_line None text = text
with_line (Some before) text = before ++ 10 ∷ text

-- A doc string with its next line.
abbrev pub longer : DocStringValue → LineValue → DocStringValue
longer text line = record { fence = text.fence; column = text.column; line = text.line; content = Some (with_line text.content (content_of text.fence (text.column - 1) line)) }

-- The text of a doc string.
abbrev pub whole_text : Option (List ℕ) → List ℕ
whole_text None = []
whole_text (Some text) = text

-- The state after some lines, by the effect of one line on a state.
unfoldable pub run_by : {S : Type 0} → (S → LineValue → Result S ReadFault) → S → Lines → Result S ReadFault
run_by step state [] = Ok state
run_by step state (line ∷ lines) = step state line >>= λ next. run_by step next lines

-- Starting in a state, some line that is reached needs memory.
pub data Need {S : Type 0} (step : S → LineValue → Result S ReadFault) (In : S → LineValue → Type 0) : S → Lines → Type 0 where
  need_here : {state : S} {line : LineValue} {lines : Lines} → In state line → Need step In state (line ∷ lines)
  need_later : {state next : S} {line : LineValue} {lines : Lines} → step state line ≡ Ok next → Need step In next lines → Need step In state (line ∷ lines)

module _ {P A : Type 0} (readers : Readers P A) where
  -- The state after a line outside of doc strings, given its fence if it opens one.
  abbrev pub outside_text : Option Fence → P → LineValue → Result (State P) ReadFault
  outside_text (Some fence) reader line = Ok (InText reader (opened fence line))
  outside_text None reader line = outside (readers.after_line reader line)

  -- The state after a line in a doc string, which it closes or not.
  abbrev pub in_text : Bool → P → DocStringValue → LineValue → State P
  in_text true reader text line = Outside (readers.after_text reader (whole_text text.content))
  in_text false reader text line = InText reader (longer text line)

  -- The state after a line.
  unfoldable pub step : State P → LineValue → Result (State P) ReadFault
  step (Outside reader) line = outside_text (opening (readers.takes_text reader) (class line)) reader line
  step (InText reader text) line = Ok (in_text (closes text.fence line) reader text line)

  -- The state after some lines.
  abbrev pub run : State P → Lines → Result (State P) ReadFault
  run state lines = run_by step state lines

  -- What the file says if the lines end in this state.
  unfoldable pub finish : State P → Result A ReadFault
  finish (Outside reader) = readers.answer reader
  finish (InText reader text) = Err (UnclosedText text.line)

  -- What a file with these lines says.
  unfoldable pub reading : Lines → Result A ReadFault
  reading lines = run (Outside readers.first) lines >>= finish

  -- A line needs memory in a state.
  abbrev pub NeedsIn : State P → LineValue → Type 0
  NeedsIn (Outside reader) line = readers.needs reader line
  NeedsIn (InText reader text) line = Unit {0}

  -- Starting in a state, some line that is reached needs memory.
  abbrev pub NeedSome : State P → Lines → Type 0
  NeedSome state lines = Need step NeedsIn state lines

  -- A fault of the lines is that of reading them. For refused memory, some line needs memory.
  abbrev pub FailsBy : ReadFault → Lines → Type 0
  FailsBy Memory lines = NeedSome (Outside readers.first) lines
  FailsBy fault lines = reading lines ≡ Err fault

  -- A fault of the bytes is one of their text, or one of reading its lines.
  abbrev pub FailsAs : ReadFault → List ℕ → Type 0
  FailsAs fault bytes = (LinesFaultSays fault bytes × (fault ≢ Memory)) ⊎ (IsText bytes × FailsBy fault (lines_of bytes))
