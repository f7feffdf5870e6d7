-- What clap's definitions say of arguments that are written out.
use Rattle.std.proofs.Common.{◌≡◌, List, [], ◌∷◌, Some, codes, map, true, false, refl}
use Rattle.clap.specs.Words.{Kinds, Text, first_of}
use Rattle.clap.specs.declared.error.kind.ErrorKind.TheVariants as kind
use Rattle.clap.proofs.OnLiterals.{clap_on_literals}
use Rattle.gk_cli.specs.Arguments.{split_at_equals, faults_in, format_asked, found_in, is_set, line_number, mode_asked, values_of}
use Rattle.gk_cli.specs.declared.arguments.Mode.TheVariants.{Explanation, Findings}

abbrev program : Text
program = codes "gherkin_run"

-- options and files in any order, `--opt=value`, and `--`
abbrev mixed : List Text
mixed = program ∷ codes "--line" ∷ codes "3" ∷ codes "a" ∷ codes "--tags=-x" ∷ codes "--library" ∷ codes "l" ∷ codes "--hooks=h" ∷ codes "--line=4" ∷ codes "--" ∷ codes "--tags" ∷ []

mixed_found :
    (faults_in mixed ≡ [])
    × (values_of (codes "files") (found_in mixed) ≡ codes "a" ∷ codes "--tags" ∷ [])
    × (values_of (codes "tags") (found_in mixed) ≡ codes "-x" ∷ [])
    × (values_of (codes "line") (found_in mixed) ≡ codes "3" ∷ codes "4" ∷ [])
    × (first_of (codes "library") (found_in mixed) ≡ Some (codes "l"))
    × (first_of (codes "hooks") (found_in mixed) ≡ Some (codes "h"))
unfolding clap_on_literals
mixed_found = (refl, refl, refl, refl, refl, refl)

-- one flag among other options, and the same line twice
abbrev stopping : List Text
stopping =
    program ∷ codes "--line" ∷ codes "3" ∷ codes "--line" ∷ codes "3" ∷ codes "--env" ∷ codes "A=b=c" ∷ codes "--stop" ∷ codes "f.feature" ∷ codes "g.feature" ∷ []

stopping_found :
    (faults_in stopping ≡ [])
    × (map line_number (values_of (codes "line") (found_in stopping)) ≡ 3 ∷ 3 ∷ [])
    × (map split_at_equals (values_of (codes "env") (found_in stopping)) ≡ record { name = codes "A"; text = codes "b=c" } ∷ [])
    × (is_set (codes "stop") (found_in stopping) ≡ true)
    × (is_set (codes "dry-run") (found_in stopping) ≡ false)
    × (is_set (codes "no-skipped") (found_in stopping) ≡ false)
    × (format_asked (found_in stopping) ≡ codes "plain")
    × (values_of (codes "files") (found_in stopping) ≡ codes "f.feature" ∷ codes "g.feature" ∷ [])
unfolding clap_on_literals
stopping_found = (refl, refl, refl, refl, refl, refl, refl, refl)

-- the other flags, and a format
abbrev dry : List Text
dry = program ∷ codes "a" ∷ codes "--no-skipped" ∷ codes "--format=json" ∷ codes "--dry-run" ∷ []

dry_found :
    (faults_in dry ≡ [])
    × (is_set (codes "dry-run") (found_in dry) ≡ true)
    × (is_set (codes "no-skipped") (found_in dry) ≡ true)
    × (is_set (codes "stop") (found_in dry) ≡ false)
    × (format_asked (found_in dry) ≡ codes "json")
unfolding clap_on_literals
dry_found = (refl, refl, refl, refl, refl)

-- files of the world, each with the name and the path that it has
abbrev placing : List Text
placing = program ∷ codes "--file" ∷ codes "out=a=b" ∷ codes "a" ∷ codes "--file=n=p" ∷ codes "--explain" ∷ []

placing_found :
    (faults_in placing ≡ [])
    × (map split_at_equals (values_of (codes "file") (found_in placing)) ≡ record { name = codes "out"; text = codes "a=b" } ∷ record { name = codes "n"; text = codes "p" } ∷ [])
unfolding clap_on_literals
placing_found = (refl, refl)

-- The faults of arguments after the program's name.
abbrev Have : List Text → Kinds → Type 0
Have arguments kinds = faults_in (program ∷ arguments) ≡ kinds

-- Each fault, and requests for help and the version, which come as faults do.
have_faults :
    Have [] (kind.MissingRequiredArgument ∷ [])
    × Have (codes "--line" ∷ codes "0" ∷ codes "a" ∷ []) (kind.ValueValidation ∷ [])
    × Have (codes "--library=l" ∷ codes "--library=l" ∷ codes "a" ∷ []) (kind.ArgumentConflict ∷ [])
    × Have (codes "--hooks=h" ∷ codes "--hooks=h" ∷ codes "a" ∷ []) (kind.ArgumentConflict ∷ [])
    × Have (codes "--start" ∷ codes "a" ∷ []) (kind.UnknownArgument ∷ [])
    × Have (codes "a" ∷ codes "-h" ∷ []) (kind.DisplayHelp ∷ [])
    × Have (codes "--format" ∷ codes "progress" ∷ codes "a" ∷ []) []
    × Have (codes "--format" ∷ codes "xml" ∷ codes "a" ∷ []) (kind.InvalidValue ∷ [])
    × Have (codes "--format=JSON" ∷ codes "a" ∷ []) (kind.InvalidValue ∷ [])
    × Have (codes "--format=xml" ∷ codes "--help" ∷ []) (kind.DisplayHelp ∷ [])
    × Have (codes "--format=json" ∷ codes "--format=json" ∷ codes "a" ∷ []) (kind.ArgumentConflict ∷ [])
    × Have (codes "--stop" ∷ codes "a" ∷ codes "--stop" ∷ []) (kind.ArgumentConflict ∷ [])
    × Have (codes "--dry-run" ∷ codes "--dry-run" ∷ codes "a" ∷ []) (kind.ArgumentConflict ∷ [])
    × Have (codes "--no-skipped" ∷ codes "--no-skipped" ∷ codes "a" ∷ []) (kind.ArgumentConflict ∷ [])
    × Have (codes "--stop=true" ∷ codes "a" ∷ []) (kind.TooManyValues ∷ [])
    -- the version is clap's own option, and a request for it comes as help does
    × Have (codes "--version" ∷ []) (kind.DisplayVersion ∷ [])
    × Have (codes "-V" ∷ []) (kind.DisplayVersion ∷ [])
    × Have (codes "a" ∷ codes "--explain" ∷ codes "--stop" ∷ []) []
    × Have (codes "--dry-run" ∷ codes "--explain" ∷ codes "a" ∷ []) (kind.ArgumentConflict ∷ [])
    × Have (codes "--explain" ∷ codes "--format=plain" ∷ codes "a" ∷ []) (kind.ArgumentConflict ∷ [])
    × Have (codes "--explain" ∷ codes "--no-skipped" ∷ codes "a" ∷ []) (kind.ArgumentConflict ∷ [])
    × Have (codes "a" ∷ codes "--no-steps" ∷ []) (kind.ArgumentConflict ∷ [])
    × Have (codes "a" ∷ codes "--no-steps" ∷ codes "--lint" ∷ codes "--library=l" ∷ []) (kind.ArgumentConflict ∷ [])
    × Have (codes "--library=l" ∷ codes "--hooks=h" ∷ codes "--lint" ∷ codes "a" ∷ []) []
    × Have (codes "--lint" ∷ codes "--explain" ∷ codes "a" ∷ []) (kind.ArgumentConflict ∷ [])
    × Have (codes "--lint" ∷ codes "--format=plain" ∷ codes "a" ∷ []) (kind.ArgumentConflict ∷ [])
    × Have (codes "--dry-run" ∷ codes "--lint" ∷ codes "a" ∷ []) (kind.ArgumentConflict ∷ [])
    × Have (codes "--lint" ∷ codes "--no-skipped" ∷ codes "a" ∷ []) (kind.ArgumentConflict ∷ [])
    × Have (codes "--stop" ∷ codes "a" ∷ codes "--lint" ∷ []) (kind.ArgumentConflict ∷ [])
    × Have (codes "--lint" ∷ codes "--env" ∷ codes "A=" ∷ codes "a" ∷ []) []
    × Have (codes "--file=n=p" ∷ codes "--lint" ∷ codes "a" ∷ []) (kind.ArgumentConflict ∷ [])
    × Have (codes "--lint" ∷ codes "a" ∷ codes "--lint" ∷ []) (kind.ArgumentConflict ∷ [])
unfolding clap_on_literals
have_faults = (refl, refl, refl, refl, refl, refl, refl, refl, refl, refl, refl, refl, refl, refl, refl, refl, refl, refl, refl, refl, refl, refl, refl, refl, refl, refl, refl, refl, refl, refl, refl, refl)

-- Single values, and what is written.
ask_for :
    (line_number (codes "+3") ≡ 3)
    × (split_at_equals (codes "A=b=c") ≡ record { name = codes "A"; text = codes "b=c" })
    -- after `--` a flag is a file
    × (is_set (codes "stop") (found_in (program ∷ codes "--" ∷ codes "--stop" ∷ [])) ≡ false)
    -- an explanation, and what there is none of
    × (mode_asked (found_in (program ∷ codes "a" ∷ codes "--explain" ∷ codes "--stop" ∷ [])) ≡ Explanation)
    -- findings, and what there is none of
    × (mode_asked (found_in (program ∷ codes "a" ∷ codes "--lint" ∷ codes "--tags" ∷ codes "t" ∷ codes "--line=3" ∷ [])) ≡ Findings true)
    × (mode_asked (found_in (program ∷ codes "a" ∷ codes "--no-steps" ∷ codes "--lint" ∷ [])) ≡ Findings false)
unfolding clap_on_literals
ask_for = (refl, refl, refl, refl, refl, refl)
