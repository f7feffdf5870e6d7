-- What is asked of a run, and its files.
use denote.Ref.{Bor}
use Rattle.std.specs.Prelude.{ℕ, Bool, false, List, [], map, unwrap_or, Option, None, option_map}
use Rattle.gk_gherkin.specs.Feature.{texts}
use Rattle.gk_report.specs.declared.report.Style.{Style}
use Rattle.gk_report.specs.Report.{plain_style}
use Rattle.gk_request.specs.declared.request.Options.{Options}
use Rattle.gk_request.specs.declared.request.SuiteFiles.{SuiteFiles}
use Rattle.gk_request.specs.declared.source.Source.{Source}
use Rattle.gk_request.specs.Source.{SourceValue, source_value}

-- A request for a run: the texts of tags, the lines, whether it is a dry run, whether the first failure stops it, and the report's style; the bytes of the library file and of the hooks file, if they are given; and the sources.
pub record Request : Type 0 where
  pub tags : List (List ℕ)
  pub lines : List ℕ
  pub dry_run : Bool
  pub stop : Bool
  pub style : Style
  pub library : Option (List ℕ)
  pub hooks : Option (List ℕ)
  pub sources : List SourceValue

-- The request that options, a library file, a hooks file and sources make.
abbrev pub request_of : Options → Option (List ℕ) → Option (List ℕ) → List SourceValue → Request
request_of options library hooks sources = record {
  tags = texts options.tags.items;
  lines = options.lines.items;
  dry_run = options.dry_run;
  stop = options.stop;
  style = options.style;
  library = library;
  hooks = hooks;
  sources = sources;
}

-- The request for a plain report of all scenarios of some sources, with the default library and without hooks and flags.
abbrev pub plain_request : List SourceValue → Request
plain_request sources = record {
  tags = [];
  lines = [];
  dry_run = false;
  stop = false;
  style = plain_style;
  library = None;
  hooks = None;
  sources = sources;
}

-- The request that options, the bytes of a library file and of a hooks file, and sources make.
abbrev pub asked_of : Options → Option (Bor (List ℕ)) → Option (Bor (List ℕ)) → List SourceValue → Request
asked_of options library hooks sources =
    request_of options (option_map (λ (bytes : Bor (List ℕ)). bytes.now) library) (option_map (λ (bytes : Bor (List ℕ)). bytes.now) hooks) sources

-- The request that the arguments of a run make.
abbrev pub asked : Options → Option (Bor (List ℕ)) → Option (Bor (List ℕ)) → List Source → Request
asked options library hooks sources = asked_of options library hooks (map source_value sources)

-- The files of a run as the definitions see them: the library file and the hooks file, if they are given, and the feature files.
pub record FilesValue : Type 0 where
  pub library : Option SourceValue
  pub hooks : Option SourceValue
  pub sources : List SourceValue

-- The value of a run's files.
abbrev pub files_value : SuiteFiles → FilesValue
files_value files = record { library = option_map source_value files.library; hooks = option_map source_value files.hooks; sources = map source_value files.sources.items }

-- The bytes of an optional file.
abbrev pub bytes_of : Option SourceValue → Option (List ℕ)
bytes_of file = option_map (λ (s : SourceValue). s.bytes) file

-- The name of an optional file; the empty name if there is no file.
abbrev pub name_of : Option SourceValue → List ℕ
name_of file = unwrap_or (option_map (λ (s : SourceValue). s.name) file) []

-- The request that options and these files make.
abbrev pub request_of_files : Options → FilesValue → Request
request_of_files options files = request_of options (bytes_of files.library) (bytes_of files.hooks) files.sources

-- The name of the library file; the empty name if there is none.
abbrev pub library_name : FilesValue → List ℕ
library_name files = name_of files.library

-- The name of the hooks file; the empty name if there is none.
abbrev pub hooks_name : FilesValue → List ℕ
hooks_name files = name_of files.hooks
