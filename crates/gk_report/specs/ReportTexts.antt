-- The texts that the formats share, and what each format leaves out.
use Rattle.std.specs.Prelude.{◌≡◌, ℕ, Bool, cond, not, ◌&&◌, ◌==◌, List, [], ◌∷◌, ◌++◌, codes, filter, flat_map, String, string_bytes, Result, OnOk, IfOk}
use Rattle.gk_run.specs.declared.results.Status.{Status}
use Rattle.gk_run.specs.declared.results.Status.TheVariants as statuses
use Rattle.gk_run.specs.declared.results.Reason.{Reason}
use Rattle.gk_run.specs.declared.results.Reason.TheVariants as reasons
use Rattle.gk_run.specs.Results.{CaseRow, is_skipped}

-- A status as it is printed. (behave's documentation: the statuses of steps, all but memory)
unfoldable pub status_text : Status → List ℕ
status_text statuses.Passed = codes "passed"
status_text statuses.Failed = codes "failed"
status_text statuses.Skipped = codes "skipped"
status_text statuses.Undefined = codes "undefined"
status_text statuses.Untested = codes "untested"
status_text statuses.Memory = codes "memory"

-- A reason as it is printed.
unfoldable pub reason_text : Reason → List ℕ
reason_text reasons.Absent = codes "absent"
reason_text reasons.Present = codes "present"
reason_text reasons.Differs = codes "differs"
reason_text reasons.TextTooLong = codes "text too long"
reason_text reasons.BadName = codes "bad name"
reason_text reasons.OtherLayer = codes "other layer"
reason_text reasons.NoText = codes "no text"
reason_text reasons.NoTable = codes "no table"
reason_text reasons.BadTable = codes "bad table"
reason_text reasons.NotNumber = codes "not a number"
reason_text reasons.OutOfRange = codes "out of range"
reason_text reasons.NoStep = codes "no such step"
reason_text reasons.NotHere = codes "not allowed here"
reason_text reasons.Asked = codes "fail step"

-- A byte of a name or a text as it is printed: a line feed becomes a backslash and `n`.
abbrev pub byte_text : ℕ → List ℕ
byte_text byte = cond (byte == 10) (92 ∷ 110 ∷ []) (byte ∷ [])

-- A name or a text on one line.
unfoldable pub one_line : List ℕ → List ℕ
one_line text = flat_map byte_text text

-- The end of a line.
abbrev pub line_feed : List ℕ
line_feed = 10 ∷ []

-- Whether a feature or a scenario with this verdict is hidden: it is skipped, and skipped ones are left out. (behave's documentation: `--no-skipped`)
abbrev pub is_hidden : Bool → Status → Bool
is_hidden no_skipped status = no_skipped && is_skipped status

-- The scenarios of a feature that are printed. (behave's documentation: `--no-skipped`)
abbrev pub printed_cases : Bool → List CaseRow → List CaseRow
printed_cases no_skipped cases = filter (λ c. not (is_hidden no_skipped c.status)) cases

-- If a call succeeds, the new text is the old one followed by this text.
abbrev pub Pushes : {T E Y Z : Type 0} → String Y → List ℕ → Result T E → String Z → Type 0
Pushes old part result new = OnOk result (string_bytes new ≡ string_bytes old ++ part)

-- Proof machinery: if a call succeeds, what it pushed and what is still left are what was left before.
abbrev pub PushesSome : {T E Y Z : Type 0} → String Y → List ℕ → Result T E → String Z → List ℕ → Type 0
PushesSome old left result new still = OnOk result (string_bytes new ++ still ≡ string_bytes old ++ left)

-- If a call succeeds, it returns this text.
abbrev pub AnswersText : {E Y : Type 0} → Result (String Y) E → List ℕ → Type 0
AnswersText result expected = IfOk result (λ text. string_bytes text ≡ expected)
