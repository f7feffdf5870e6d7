-- What each fault of a run means.
use Rattle.std.specs.Prelude.{◌≡◌, ◌≢◌, ℕ, suc, Bool, List, [], ◌∷◌, take, slice_get, Option, Some, None}
use Rattle.std.specs.List.{AllByRecursion}
use denote.Ref.{Bor}
use Rattle.gk_gherkin.specs.declared.read_fault.ReadFault.TheVariants as read_faults
use Rattle.gk_select.specs.declared.select_fault.SelectFault.TheVariants as select_faults
use Rattle.gk_gherkin.specs.Feature.{FeatureValue}
use Rattle.gk_gherkin.specs.Grammar.{Reads}
use Rattle.gk_gherkin.specs.Hooks.{HookValue}
use Rattle.gk_gherkin.specs.Lines.{IsText, lines_of}
use Rattle.gk_gherkin.specs.ReadFault.{FaultSays, FeatureFault, HooksFault}
use Rattle.gk_select.specs.Case.{CaseValue}
use Rattle.gk_select.specs.Expansion.{HasTooManySteps}
use Rattle.gk_select.specs.TagGrammar.{Expression}
use Rattle.gk_steps.specs.declared.library_fault.LibraryFault.TheVariants as library_faults
use Rattle.gk_steps.specs.Finding.{LibraryValue}
use Rattle.gk_steps.specs.LibraryFault.{LibraryFaultSays}
use Rattle.gk_run.specs.Chosen.{ChosenValue}
use Rattle.gk_request.specs.declared.request.Options.{Options}
use Rattle.gk_request.specs.declared.run_fault.RunFault.{RunFault}
use Rattle.gk_request.specs.declared.run_fault.RunFault.TheVariants.{Read, Library, Hooks, Select, Write, Memory}
use Rattle.gk_request.specs.Source.{SourceValue}
use Rattle.gk_request.specs.Inputs.{AreHooks, AreRead, AreRules, IsFirstBadText, IsLibrary, IsReadAs}
use Rattle.gk_request.specs.Request.{Request, asked_of}

-- A file that a run reads: the library file and the hooks file, with their bytes if they are given, or the source at a place, counted from 0.
pub data RunFile : Type 0 where
  library_file : Option (List ℕ) → RunFile
  hooks_file : Option (List ℕ) → RunFile
  source_at : ℕ → List ℕ → RunFile

-- The file reads; a source is within the limit of steps. A file that isn't given reads.
abbrev pub DoesRead : RunFile → Type 0
DoesRead (library_file file) = (entries : LibraryValue) × IsLibrary file entries
DoesRead (hooks_file file) = (hooks : List HookValue) × AreHooks file hooks
DoesRead (source_at place bytes) = (reading : Option FeatureValue) × IsReadAs bytes reading

-- The file doesn't read, for this reason.
abbrev pub IsFaultOf : RunFile → RunFault → Type 0
IsFaultOf (library_file file) (Library fault) = (bytes : List ℕ) × (file ≡ Some bytes) × LibraryFaultSays fault bytes × (fault ≢ library_faults.Memory)
IsFaultOf (hooks_file file) (Hooks fault) = (bytes : List ℕ) × (file ≡ Some bytes) × FaultSays HooksFault fault bytes × (fault ≢ read_faults.Memory)
IsFaultOf (source_at place bytes) (Read input fault) = (input ≡ place) × FaultSays FeatureFault fault bytes × (fault ≢ read_faults.Memory)
IsFaultOf (source_at place bytes) (Select (Some input) select_faults.TooMany) = (input ≡ place) × (f : FeatureValue) × IsText bytes × Reads (lines_of bytes) (Some f) × HasTooManySteps f
IsFaultOf file fault = ⊥

-- Sources, counted from this place.
abbrev pub sources_from : ℕ → List SourceValue → List RunFile
sources_from place [] = []
sources_from place (source ∷ sources) = source_at place source.bytes ∷ sources_from (suc place) sources

-- The library file, the hooks file and the sources, in the order in which a run reads them.
abbrev pub reading_order : Option (List ℕ) → Option (List ℕ) → List SourceValue → List RunFile
reading_order library hooks sources = library_file library ∷ hooks_file hooks ∷ sources_from 0 sources

-- The number of the file with this fault among the files of a run, counted from 0.
abbrev pub number_of : RunFault → ℕ
number_of (Hooks fault) = 1
number_of (Read input fault) = suc (suc input)
number_of (Select (Some input) fault) = suc (suc input)
number_of fault = 0

-- The texts of tags and the files before the one with the fault read, and that one doesn't, for this reason.
pub record StopsAtFile (r : Request) (fault : RunFault) : Type 0 where
  pub rules : List Expression
  pub tags : AreRules r.tags rules
  pub before : AllByRecursion DoesRead (take (number_of fault) (reading_order r.library r.hooks r.sources))
  pub file : RunFile
  pub numbered : slice_get (reading_order r.library r.hooks r.sources) (number_of fault) ≡ Some file
  pub says : IsFaultOf file fault

-- The request doesn't read, for this reason. Memory says nothing about the request.
abbrev pub IsUnread : Request → RunFault → Type 0
IsUnread r (Select None select_faults.BadTagText) = (text : List ℕ) × IsFirstBadText r.tags text
IsUnread r (Select None fault) = ⊥
IsUnread r Write = ⊥
IsUnread r Memory = Unit {0}
IsUnread r fault = StopsAtFile r fault

-- With any sources, this is the reason why the request doesn't read.
abbrev pub IsUnreadBefore : Options → Option (Bor (List ℕ)) → Option (Bor (List ℕ)) → RunFault → Type 0
IsUnreadBefore options library hooks fault = (sources : List SourceValue) → IsUnread (asked_of options library hooks sources) fault

-- The file doesn't read, for this reason. Memory says nothing about it.
abbrev pub SaysFile : RunFile → RunFault → Type 0
SaysFile file Memory = Unit {0}
SaysFile file fault = IsFaultOf file fault

-- The source at a place has these bytes, and doesn't read for this reason. Memory says nothing about it.
abbrev pub SaysSourceAt : ℕ → List ℕ → RunFault → Type 0
SaysSourceAt place bytes fault = SaysFile (source_at place bytes) fault

-- The status of a run that ended with a fault.
abbrev pub status_of_fault : RunFault → ℕ
status_of_fault Memory = 4
status_of_fault (Select input select_faults.BadTagText) = 2
status_of_fault fault = 3

-- Proof machinery, from here on: the source at a place, counted from 0, is the first that doesn't read, for this reason.
pub record IsFirstUnread (chooses : CaseValue → Bool) (sources : List SourceValue) (fault : RunFault) : Type 0 where
  pub input : ℕ
  pub features : List ChosenValue
  pub read : AreRead chooses (take input sources) features
  pub source : SourceValue
  pub place : slice_get sources input ≡ Some source
  pub says : IsFaultOf (source_at input source.bytes) fault

-- The first source that doesn't read has this fault, or memory was refused.
abbrev pub SaysSources : (CaseValue → Bool) → List SourceValue → RunFault → Type 0
SaysSources chooses sources Memory = Unit {0}
SaysSources chooses sources fault = IsFirstUnread chooses sources fault
