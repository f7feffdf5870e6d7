-- The meaning of the faults of a library file.
use Rattle.std.specs.Prelude.{codes, ◌≡◌, ◌≢◌, ℕ, List, Option, Some, None}
use Rattle.gk_gherkin.specs.Lines.{Lines, lines_of, IsText, IsTooLong, IsNotUtf8At}
use Rattle.gk_steps.specs.declared.library_fault.LibraryFault.{LibraryFault}
use Rattle.gk_steps.specs.declared.library_fault.LibraryFault.TheVariants as faults
use Rattle.gk_steps.specs.LibraryFile.{StopsLibraryAt, IsBadType, IsBadPattern, IsUnknownAction, IsMissingField, IsOtherKind, IsAmbiguous, LibraryNeedsMemory}

-- What a fault says about the lines. Refused memory says that they ask for some.
abbrev pub LibraryLinesFaultSays : LibraryFault → Lines → Type 0
LibraryLinesFaultSays faults.Memory ls = LibraryNeedsMemory ls
LibraryLinesFaultSays (faults.BadType n) ls = StopsLibraryAt ls n IsBadType
LibraryLinesFaultSays (faults.BadPattern n) ls = StopsLibraryAt ls n IsBadPattern
LibraryLinesFaultSays (faults.UnknownAction n) ls = StopsLibraryAt ls n IsUnknownAction
LibraryLinesFaultSays (faults.MissingField n) ls = StopsLibraryAt ls n IsMissingField
LibraryLinesFaultSays (faults.FieldKind n) ls = StopsLibraryAt ls n IsOtherKind
LibraryLinesFaultSays (faults.Ambiguous n) ls = StopsLibraryAt ls n IsAmbiguous
LibraryLinesFaultSays _ ls = ⊥

-- What a fault says about the bytes. `TooLong` comes before `NotUtf8`, and both come before any fault of the lines.
abbrev pub LibraryFaultSays : LibraryFault → List ℕ → Type 0
LibraryFaultSays faults.TooLong bytes = IsTooLong bytes
LibraryFaultSays (faults.NotUtf8 n) bytes = IsNotUtf8At bytes n
LibraryFaultSays fault bytes = IsText bytes × LibraryLinesFaultSays fault (lines_of bytes)

-- No bytes have two faults as a library file, neither of two kinds nor on two lines. Refused memory is excluded: it is no fault of the bytes.
abbrev pub LibraryFaultIsUnique : Type 0
LibraryFaultIsUnique = (bytes : List ℕ) (one other : LibraryFault) → one ≢ faults.Memory → other ≢ faults.Memory → LibraryFaultSays one bytes → LibraryFaultSays other bytes → one ≡ other

-- The line that a fault names, if it names one.
abbrev pub line_of_library_fault : LibraryFault → Option ℕ
line_of_library_fault (faults.NotUtf8 n) = Some n
line_of_library_fault (faults.BadType n) = Some n
line_of_library_fault (faults.BadPattern n) = Some n
line_of_library_fault (faults.UnknownAction n) = Some n
line_of_library_fault (faults.MissingField n) = Some n
line_of_library_fault (faults.FieldKind n) = Some n
line_of_library_fault (faults.Ambiguous n) = Some n
line_of_library_fault faults.TooLong = None
line_of_library_fault faults.Memory = None

-- The text of a fault, without its line. (this project's profile)
abbrev pub text_of_library_fault : LibraryFault → List ℕ
text_of_library_fault (faults.NotUtf8 n) = codes "not UTF-8"
text_of_library_fault (faults.BadType n) = codes "bad step type"
text_of_library_fault (faults.BadPattern n) = codes "bad pattern"
text_of_library_fault (faults.UnknownAction n) = codes "unknown action"
text_of_library_fault (faults.MissingField n) = codes "missing field"
text_of_library_fault (faults.FieldKind n) = codes "wrong kind of field"
text_of_library_fault (faults.Ambiguous n) = codes "ambiguous with an earlier line"
text_of_library_fault faults.TooLong = codes "longer than 16777216 bytes"
text_of_library_fault faults.Memory = codes "out of memory"
