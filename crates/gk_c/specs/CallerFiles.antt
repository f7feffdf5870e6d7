-- The files of a call.
use denote.Ref.{Bor}
use Rattle.std.specs.Prelude.{◌≡◌, ◌<◌, ◌≤◌, ℕ, Bool, List, length, find, Option, Some, None, Result, Ok, Err, option_map}
use Rattle.std.specs.BTreeMap.{BTreeMap, get_by}
use Rattle.std.specs.Cmp.Lexicographic.{slice_cmp}
use Rattle.std.specs.Ordering.{nat_cmp}
use Rattle.std.specs.Str.{bytes_eq}
use Rattle.gk_gherkin.specs.Lines.{limit}
use Rattle.gk_request.specs.Source.{SourceValue}
use Rattle.gk_io.specs.declared.whole_read.SourceFault.{SourceFault}
use Rattle.gk_io.specs.declared.whole_read.SourceFault.TheVariants.{Device, TooLong, Memory}
use Rattle.gk_program.specs.Files.{Reading}
use Rattle.gk_c.specs.declared.caller_files.File.{File}

-- A `File` as plain values.
abbrev pub file_value : File → SourceValue
file_value file = record { name = file.name.now; bytes = file.bytes.now }

-- Whether a file has this name.
abbrev pub is_named : List ℕ → SourceValue → Bool
is_named name file = bytes_eq file.name name

-- The bytes of the first file of this name, if there is one.
abbrev pub bytes_of : List SourceValue → List ℕ → Option (List ℕ)
bytes_of files name = option_map (λ (file : SourceValue). file.bytes) (find (is_named name) files)

-- The bytes that an index has for a name, if any.
abbrev pub bytes_in : BTreeMap (Bor (List ℕ)) (Bor (List ℕ)) → List ℕ → Option (List ℕ)
bytes_in index name = option_map (λ (bytes : Bor (List ℕ)). bytes.now) (get_by (λ key. slice_cmp nat_cmp name key.now) index)

-- An index has the bytes of the first file of each name.
abbrev pub IsIndexOf : BTreeMap (Bor (List ℕ)) (Bor (List ℕ)) → List SourceValue → Type 0
IsIndexOf index files = (name : List ℕ) → bytes_in index name ≡ bytes_of files name

-- A copy of these bytes, or why there is none. Only more bytes than a source may have are too long.
abbrev pub SaysCopy : List ℕ → Result (List ℕ) SourceFault → Type 0
SaysCopy bytes (Ok copy) = (copy ≡ bytes) × (length bytes ≤ limit)
SaysCopy bytes (Err TooLong) = limit < length bytes
SaysCopy bytes (Err Memory) = Unit {0}
SaysCopy bytes (Err Device) = ⊥

-- What reading a file returns: a copy of its bytes, or, if there is no such file, that it can't be read.
abbrev pub SaysFile : Option (List ℕ) → Result (List ℕ) SourceFault → Type 0
SaysFile None answer = answer ≡ Err Device
SaysFile (Some bytes) answer = SaysCopy bytes answer

-- Reading a name returns what the first file of this name has, and changes nothing.
abbrev pub reads_first : Reading (List SourceValue)
reads_first before name answer after = SaysFile (bytes_of before name) answer × (before ≡ after)
