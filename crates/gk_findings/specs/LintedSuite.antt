-- The findings in a whole request.
use Rattle.std.specs.Prelude.{◌≡◌, ℕ, Bool, length, List, [], ◌++◌, map, Option, Some, None, string_bytes, if◌then◌else◌}
use Rattle.std.specs.Str.Lines.{lines}
use Rattle.gk_gherkin.specs.Feature.{FeatureValue, feature_value}
use Rattle.gk_gherkin.specs.Hooks.{HookValue, hooks_value}
use Rattle.gk_gherkin.specs.Lines.{without_mark, IsText}
use Rattle.gk_select.specs.TagGrammar.{Expression}
use Rattle.gk_steps.specs.Finding.{LibraryValue}
use Rattle.gk_lint.specs.Findings.{AreInOrder, FindingValue}
use Rattle.gk_lint.specs.LibraryUse.{unused_entries}
use Rattle.gk_lint.specs.NamedTags.{nowhere}
use Rattle.gk_lint.specs.ScenarioLines.{without_scenario}
use Rattle.gk_lint.specs.TagUse.{hooks_of_no_tag}
use Rattle.gk_lint.specs.WrittenSteps.{of_hooks, found_in, used_in}
use Rattle.gk_request.specs.declared.inputs.ReadBefore.{ReadBefore}
use Rattle.gk_findings.specs.declared.linted_sources.LintSoFar.{LintSoFar}
use Rattle.gk_findings.specs.FindingLines.{NotedLibraryValue, noted_lines, finding_lines, count_line, tag_lines, idle_lines}
use Rattle.gk_request.specs.Inputs.{AreRules, IsLibrary, AreHooks}
use Rattle.gk_request.specs.Request.{Request}
use Rattle.gk_findings.specs.LintedSources.{features_in, looked_up, used_by, AreLinted}

-- A library with these entries and this name of its file, in which steps are looked up or not, as notes name it.
abbrev pub noted_library : Bool → List ℕ → LibraryValue → NotedLibraryValue
noted_library steps name entries = record { entries = entries; steps = steps; name = name }

-- The lines of a hooks file.
abbrev pub lines_of_hooks : Option (List ℕ) → List (List ℕ)
lines_of_hooks None = []
lines_of_hooks (Some bytes) = lines (without_mark bytes)

-- The lines of a library, given the places of the entries that are used: the findings of the others, and their number beside that of all. If no file is given or no step is looked up, there are none.
abbrev pub library_lines : Option (List ℕ) → NotedLibraryValue → List ℕ → List ℕ
library_lines None library used = []
library_lines (Some bytes) library used =
    let findings = unused_entries used library.entries in
    if library.steps then finding_lines library.name findings ++ count_line library.name (length findings) (length library.entries) else []

-- The inputs that a lint has read: the tag rules, the library as notes name it, the hooks and the features; and the text of the sources' findings.
pub record LintRead : Type 0 where
  pub rules : List Expression
  pub library : NotedLibraryValue
  pub hooks : List HookValue
  pub features : List FeatureValue
  pub of_sources : List ℕ

-- The places of the entries that hooks and features use.
abbrev pub all_used : LintRead → List ℕ
all_used read = used_in read.library.entries (looked_up read.library.steps (of_hooks read.hooks)) ++ used_by read.library read.features

-- The findings of the hooks: hooks for tags that occur nowhere in the features, and the findings of the hooks' steps.
abbrev pub hook_findings : LintRead → List FindingValue
hook_findings read = hooks_of_no_tag read.features read.hooks ++ found_in read.library.entries (looked_up read.library.steps (of_hooks read.hooks))

-- The text about these inputs, with this name of the hooks file. It has the findings of the hooks and of the sources, the tags of `--tags` that occur nowhere, the lines of `--line` that choose nothing, and at last the unused entries of the library.
abbrev pub IsTextOf : Request → List ℕ → LintRead → List ℕ → Type 0
IsTextOf r hooks read text =
    (ordered : List FindingValue) × AreInOrder (hook_findings read) ordered
    × (text ≡ noted_lines read.library.name hooks (lines_of_hooks r.hooks) ordered
    ++ (read.of_sources ++ (tag_lines (nowhere read.features read.rules) ++ (idle_lines (without_scenario read.features r.lines) ++ library_lines r.library read.library (all_used read)))))

-- The request reads, and this is the text of all its findings, those of each file in the order of lines. Steps are looked up or not.
pub record IsLinted (steps : Bool) (r : Request) (library_file hooks_file text : List ℕ) : Type 0 where
  pub read : LintRead
  pub tags : AreRules r.tags read.rules
  pub library : IsLibrary r.library read.library.entries
  pub noted : read.library ≡ noted_library steps library_file read.library.entries
  pub hooks : AreHooks r.hooks read.hooks
  pub readings : List (Option FeatureValue)
  pub features : read.features ≡ features_in readings
  pub sources : AreLinted read.library r.sources readings read.of_sources
  pub whole : IsTextOf r hooks_file read text

-- Proof machinery: the bytes of an optional file are a text.
abbrev pub AreTexts : Option (List ℕ) → Type 0
AreTexts None = Unit {0}
AreTexts (Some bytes) = IsText bytes

-- Proof machinery: the inputs read before the sources, and the results for the sources.
abbrev pub read_of : NotedLibraryValue → ReadBefore → LintSoFar → LintRead
read_of library before so_far = record { rules = before.rules.items; library = library; hooks = hooks_value before.hooks; features = map feature_value so_far.features.items; of_sources = string_bytes so_far.text }
