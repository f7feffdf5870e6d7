-- Worked examples of running, which hold by computation. The steps' texts are short: "write a 1" is a file named a with the text 1.
use Rattle.std.specs.Fmt.{digits}
use Rattle.std.specs.Str.{chars, is_utf8}
use lib.Utf8
use Rattle.std.proofs.Common.{◌≡◌, ℕ, Bool, true, false, List, [], ◌∷◌, ◌++◌, map, refl, Option, Some, None, codes}
use Rattle.gk_gherkin.specs.declared.feature.StepType.TheVariants.{Given}
use Rattle.gk_gherkin.specs.declared.hooks.HookKind.{HookKind}
use Rattle.gk_gherkin.specs.declared.hooks.HookKind.TheVariants as kinds
use Rattle.gk_gherkin.specs.Feature.{BlockValue, Empty, Table, StepValue}
use Rattle.gk_gherkin.specs.Hooks.{HookValue}
use Rattle.gk_steps.specs.declared.action.Action.{Action}
use Rattle.gk_steps.specs.declared.action.Action.TheVariants as actions
use Rattle.gk_steps.specs.declared.pattern.FieldKind.TheVariants.{Plain, Decimal}
use Rattle.gk_steps.specs.Pattern.{PieceValue, FieldPiece, Literal}
use Rattle.gk_steps.specs.Matching.{match_of}
use Rattle.gk_steps.specs.Finding.{EntryValue, LibraryValue, found, found_any}
use Rattle.gk_world.specs.State.{Contents, State, nothing}
use Rattle.gk_run.specs.declared.results.Status.{Status}
use Rattle.gk_run.specs.declared.results.Status.TheVariants.{Passed, Failed, Skipped, Undefined, Untested, Memory}
use Rattle.gk_run.specs.declared.results.Reason.{Reason}
use Rattle.gk_run.specs.declared.results.Reason.TheVariants as reasons
use Rattle.gk_run.specs.declared.results.Outcome.{Outcome}
use Rattle.gk_run.specs.declared.results.Outcome.TheVariants as outcomes
use Rattle.gk_run.specs.Acting.{act}
use Rattle.gk_run.specs.Results.{CaseRow, RuleRow, FeatureRow, Results}
use Rattle.gk_run.specs.Section.{Cut, nowhere, in_before, in_steps, in_after, in_cleanups}
use Rattle.gk_run.specs.OpenSection.{Run}
use Rattle.gk_run.specs.Running.{reached_row}
use Rattle.gk_run.specs.Chosen.{MemberValue, ChosenValue}
use Rattle.gk_run.specs.Features.{FeatureCuts, uncut_feature}
use Rattle.gk_run.specs.Judged.{uncut, results_from, results_of}
use Rattle.gk_run.specs.OwnResult.{above, only, own_row}

-- a step with a block
abbrev step_with : List ℕ → BlockValue → StepValue
step_with text block = record { keyword = codes "Given"; step_type = Given; text = text; block = block; line = 1 }

-- steps without blocks
abbrev steps_of : List (List ℕ) → List StepValue
steps_of texts = map (λ text. step_with text Empty) texts

-- a hook without a tag
abbrev hook : HookKind → List (List ℕ) → HookValue
hook kind texts = record { kind = kind; tag = None; line = 1; steps = steps_of texts }

-- a hook for a tag
abbrev tag_hook : HookKind → List ℕ → List (List ℕ) → HookValue
tag_hook kind tag texts = record { kind = kind; tag = Some tag; line = 1; steps = steps_of texts }

-- a selected scenario with tags
abbrev tagged : List (List ℕ) → List StepValue → MemberValue
tagged tags steps = record { scenario = record { name = codes "S"; keyword = codes "Scenario"; line = 1; rule = None; tags = tags; own_tags = tags; steps = steps }; selected = true }

-- a selected scenario
abbrev scenario : List (List ℕ) → MemberValue
scenario texts = tagged [] (steps_of texts)

-- a scenario that isn't selected
abbrev unselected : List (List ℕ) → MemberValue
unselected texts = record (scenario texts) { selected = false }

-- a feature
abbrev feature : List MemberValue → ChosenValue
feature members = record { source = codes "f"; name = codes "f"; line = 1; tags = []; rules = []; members = members }

-- a run that isn't dry and doesn't stop at a failure
abbrev run : List HookValue → LibraryValue → Run
run hooks library = record { library = library; hooks = hooks; dry_run = false; stop = false }

-- nothing is there
abbrev start : State
start = record { files = nothing; env = nothing; outer = nothing; own = nothing }

-- a step's status, with the reason of one that failed
abbrev StepSeen : Type 0
StepSeen = Status × Option Reason

abbrev ok : StepSeen
ok = (Passed, None)

abbrev failed : Reason → StepSeen
failed why = (Failed, Some why)

abbrev with_status : Status → StepSeen
with_status status = (status, None)

-- what is looked at of a scenario: its verdict, how its hooks and cleanups ended, the outcomes of its cleanups, and its steps
abbrev CaseSeen : Type 0
CaseSeen = Status × Status × List Outcome × List StepSeen

abbrev case_seen : CaseRow → CaseSeen
case_seen row = (row.status, row.around, row.cleanups, map (λ s. (s.status, s.reason)) row.steps)

-- a scenario without cleanups, whose hooks passed
abbrev simple : Status → List StepSeen → CaseSeen
simple verdict steps = (verdict, Passed, [], steps)

-- a scenario with two steps that isn't reached
abbrev two_untested : CaseSeen
two_untested = simple Untested (with_status Untested ∷ with_status Untested ∷ [])

-- what is looked at of a feature: its verdict, how its hooks and cleanups ended, and its scenarios
abbrev FeatureSeen : Type 0
FeatureSeen = Status × Status × List CaseSeen

abbrev feature_seen : FeatureRow → FeatureSeen
feature_seen row = (row.status, row.around, map case_seen row.cases)

-- what is looked at of a run: how its hooks and cleanups ended, and its features
abbrev RunSeen : Type 0
RunSeen = Status × List FeatureSeen

abbrev run_seen : Results → RunSeen
run_seen results = (results.around, map feature_seen results.features)

-- a run with one feature, cut so in this feature
abbrev one_cut : Run → List MemberValue → FeatureCuts → RunSeen
one_cut r members cuts = run_seen (results_from r start (record uncut { features = cuts ∷ [] }) (feature members ∷ []))

-- a run with one feature
abbrev one_run : Run → List MemberValue → RunSeen
one_run r members = one_cut r members uncut_feature

-- what one feature comes to in a run whose own hooks passed
abbrev comes_to : Status → Status → List CaseSeen → RunSeen
comes_to verdict around cases = (Passed, (verdict, around, cases) ∷ [])

-- a scenario, cut so
abbrev cut_row : Run → MemberValue → Cut → CaseSeen
cut_row r m cut = case_seen (reached_row r start cut m.scenario)

-- an entry for steps of each type
abbrev entry : List PieceValue → Action → EntryValue
entry pattern action = record { line = 1; step_type = None; pattern = pattern; action = action }

-- an entry without fields
abbrev word : List ℕ → Action → EntryValue
word text action = entry (Literal text ∷ []) action

abbrev name_piece : PieceValue
name_piece = FieldPiece (codes "name") Plain

-- an entry with a name
abbrev of_name : List ℕ → Action → EntryValue
of_name literal action = entry (Literal literal ∷ name_piece ∷ []) action

-- an entry with a name and a text
abbrev of_text : List ℕ → Action → EntryValue
of_text literal action = entry (Literal literal ∷ name_piece ∷ Literal (codes " ") ∷ FieldPiece (codes "text") Plain ∷ []) action

-- an entry with a name and a number
abbrev of_number : List ℕ → Action → EntryValue
of_number literal action = entry (Literal literal ∷ name_piece ∷ Literal (codes " ") ∷ FieldPiece (codes "n") Decimal ∷ []) action

abbrev write : EntryValue
write = of_text (codes "write ") actions.WriteFile

abbrev append : EntryValue
append = of_text (codes "append ") actions.AppendFile

abbrev is : EntryValue
is = of_text (codes "is ") actions.FileIs

abbrev later : EntryValue
later = entry (Literal (codes "later ") ∷ FieldPiece (codes "step") Plain ∷ []) actions.AtCleanup

abbrev pass : EntryValue
pass = word (codes "pass") actions.Pass

abbrev fail : EntryValue
fail = word (codes "fail") actions.Fail

abbrev skip : EntryValue
skip = word (codes "skip") actions.SkipScenario

-- What a failed scenario changed is undone, and its feature's files are there again.
undone_wholly : one_run
    (run (hook kinds.BeforeFeature (codes "write a 1" ∷ codes "write b 2" ∷ []) ∷ [])
    (write ∷ is ∷ fail ∷ of_name (codes "remove ") actions.RemoveFile ∷ entry (Literal (codes "move ") ∷ name_piece ∷ Literal (codes " ") ∷ FieldPiece (codes "to") Plain ∷ []) actions.RenameFile ∷ []))
    (scenario (codes "remove a" ∷ codes "write a 3" ∷ codes "move a b" ∷ codes "write a 4" ∷ codes "fail" ∷ []) ∷ scenario (codes "is a 1" ∷ codes "is b 2" ∷ []) ∷ []) ≡
    comes_to Failed Passed (simple Failed (ok ∷ ok ∷ ok ∷ ok ∷ failed reasons.Asked ∷ []) ∷ simple Passed (ok ∷ ok ∷ []) ∷ [])
unfolding found found_any match_of is_utf8 chars lib.Utf8.encode act
undone_wholly = refl

-- a table of files; the last has no name
abbrev three_files : BlockValue
three_files = Table ((codes "name" ∷ codes "text" ∷ []) ∷ (codes "one" ∷ codes "1" ∷ []) ∷ (codes "two" ∷ codes "2" ∷ []) ∷ ([] ∷ codes "3" ∷ []) ∷ [])

-- Rows that were written before the refused one stay until the layer ends: a cleanup still sees them, the next scenario doesn't.
earlier_rows_stay : one_run
    (run [] (later ∷ of_name (codes "exists ") actions.FileExists ∷ word (codes "files") actions.WriteFiles ∷ of_name (codes "absent ") actions.FileAbsent ∷ []))
    (tagged [] (step_with (codes "later exists two") Empty ∷ step_with (codes "files") three_files ∷ []) ∷ scenario (codes "absent one" ∷ []) ∷ []) ≡
    comes_to Failed Passed ((Failed, Passed, outcomes.Passed ∷ [], ok ∷ failed reasons.BadName ∷ []) ∷ simple Passed (ok ∷ []) ∷ [])
unfolding found found_any match_of is_utf8 chars lib.Utf8.encode act
earlier_rows_stay = refl

-- A value of the feature is hidden in a scenario, and seen again; it is deleted only in the layer that set it.
hidden_and_seen_again : one_run
    (run (hook kinds.BeforeFeature (codes "set n 5" ∷ []) ∷ [])
    (of_number (codes "set ") actions.SetNumber ∷ of_number (codes "add ") actions.AddNumber ∷ of_number (codes "is ") actions.NumberIs ∷ of_name (codes "delete ") actions.DeleteValue ∷ []))
    (scenario (codes "add n 2" ∷ codes "is n 7" ∷ codes "delete n" ∷ codes "is n 5" ∷ codes "delete n" ∷ []) ∷ []) ≡
    comes_to Failed Passed (simple Failed (ok ∷ ok ∷ ok ∷ ok ∷ failed reasons.OtherLayer ∷ []) ∷ [])
unfolding found found_any match_of is_utf8 chars lib.Utf8.encode act digits
hidden_and_seen_again = refl

-- Cleanups run last in, first out, and one that fails doesn't keep the others from running: the first registered asks for what the others wrote. If memory is refused in one, its outcome is the last.
last_in_first_out : map
    (cut_row (run [] (later ∷ write ∷ append ∷ is ∷ fail ∷ [])) (scenario (codes "later is l rp" ∷ codes "later append l p" ∷ codes "later fail" ∷ codes "later write l r" ∷ [])))
    (nowhere ∷ in_cleanups 2 start ∷ []) ≡
    (Failed, Failed, outcomes.Passed ∷ outcomes.Failed reasons.Asked ∷ outcomes.Passed ∷ outcomes.Passed ∷ [], ok ∷ ok ∷ ok ∷ ok ∷ []) ∷
    (Memory, Memory, outcomes.Passed ∷ outcomes.Failed reasons.Asked ∷ outcomes.Memory ∷ [], ok ∷ ok ∷ ok ∷ ok ∷ []) ∷ []
unfolding found found_any match_of is_utf8 chars lib.Utf8.encode act
last_in_first_out = refl

-- A cleanup that registers a cleanup fails, and so does one that skips; one that no entry matches isn't registered.
not_here : cut_row (run [] (later ∷ skip ∷ [])) (scenario (codes "later later skip" ∷ codes "later skip" ∷ codes "later pass" ∷ [])) nowhere ≡
    (Failed, Failed, outcomes.Failed reasons.NotHere ∷ outcomes.Failed reasons.NotHere ∷ [], ok ∷ ok ∷ failed reasons.NoStep ∷ [])
unfolding found found_any match_of is_utf8 chars lib.Utf8.encode act
not_here = refl

-- entries without fields
abbrev common : LibraryValue
common = pass ∷ fail ∷ skip ∷ []

abbrev failing : MemberValue
failing = scenario (codes "fail" ∷ codes "pass" ∷ codes "unknown" ∷ [])

-- After a failed step a step is skipped if the library matches it, and otherwise undefined. Memory may be refused while it is looked up.
after_a_failure : map (cut_row (run [] common) failing) (nowhere ∷ in_steps 1 start ∷ []) ≡
    simple Failed (failed reasons.Asked ∷ with_status Skipped ∷ with_status Undefined ∷ []) ∷
    simple Memory (failed reasons.Asked ∷ with_status Memory ∷ with_status Untested ∷ []) ∷ []
unfolding found found_any match_of act
after_a_failure = refl

-- After an undefined step too, and no later step is carried out.
after_an_undefined_step : cut_row (run [] common) (scenario (codes "unknown" ∷ codes "fail" ∷ [])) nowhere ≡ simple Failed (with_status Undefined ∷ with_status Skipped ∷ [])
unfolding found found_any match_of act
after_an_undefined_step = refl

-- A scenario that skips itself: every later step is skipped, matched or not.
skips_itself : one_run (run [] common) (scenario (codes "pass" ∷ codes "skip" ∷ codes "unknown" ∷ []) ∷ []) ≡
    comes_to Skipped Passed (simple Skipped (ok ∷ with_status Skipped ∷ with_status Skipped ∷ []) ∷ [])
unfolding found found_any match_of act
skips_itself = refl

-- One that skips itself in its before hook: all of its steps are skipped. Its after hook still runs, and may not skip.
skips_before :
    let skipping = hook kinds.BeforeScenario (codes "skip" ∷ []) in
    let all_skipped = with_status Skipped ∷ with_status Skipped ∷ with_status Skipped ∷ [] in
    map (λ hooks. cut_row (run hooks common) failing nowhere) ((skipping ∷ []) ∷ (skipping ∷ hook kinds.AfterScenario (codes "skip" ∷ []) ∷ []) ∷ []) ≡
    simple Skipped all_skipped ∷ (Failed, Failed, [], all_skipped) ∷ []
unfolding found found_any match_of act
skips_before = refl

-- hooks that write down that they ran, before and after a scenario
abbrev ordered_hooks : List HookValue
ordered_hooks =
    tag_hook kinds.BeforeTag (codes "@a") (codes "write l a" ∷ []) ∷ tag_hook kinds.BeforeTag (codes "@b") (codes "append l b" ∷ []) ∷ hook kinds.BeforeScenario (codes "append l s" ∷ []) ∷
    hook kinds.AfterScenario (codes "append l S" ∷ []) ∷ tag_hook kinds.AfterTag (codes "@a") (codes "is l absS" ∷ []) ∷ tag_hook kinds.AfterTag (codes "@b") (codes "append l B" ∷ []) ∷ []

-- a run with these hooks and others
abbrev ordered : List HookValue → Run
ordered others = run (ordered_hooks ++ others) (later ∷ write ∷ append ∷ is ∷ fail ∷ [])

-- a scenario that looks at what they wrote
abbrev ordered_scenario : MemberValue
ordered_scenario = tagged (codes "@a" ∷ codes "@b" ∷ []) (steps_of (codes "later is l absSB" ∷ codes "is l abs" ∷ []))

-- what it comes to without a cut
abbrev ordered_row : CaseSeen
ordered_row = (Passed, Passed, outcomes.Passed ∷ [], ok ∷ ok ∷ [])

-- The hooks of tags come before the before hook, and after the after hook, and cleanups after all of them. With a before hook of the feature that fails, nothing of the scenario is run.
hooks_in_order : map (λ others. one_run (ordered others) (ordered_scenario ∷ [])) ([] ∷ (hook kinds.BeforeFeature (codes "fail" ∷ []) ∷ []) ∷ []) ≡
    comes_to Passed Passed (ordered_row ∷ []) ∷ comes_to Failed Failed (two_untested ∷ []) ∷ []
unfolding found found_any match_of is_utf8 chars lib.Utf8.encode act
hooks_in_order = refl

-- If memory is refused in its before hooks, all steps are untested; if in a step, the later ones are; if in its after hooks, its steps' statuses stay. No later hook and no cleanup runs. A cut at a missing event has no effect.
cuts_of_a_scenario : map (cut_row (ordered []) ordered_scenario) (in_before 1 start ∷ in_steps 0 start ∷ in_after 1 start ∷ in_after 3 start ∷ []) ≡
    (Memory, Memory, [], with_status Untested ∷ with_status Untested ∷ []) ∷
    simple Memory (with_status Memory ∷ with_status Untested ∷ []) ∷
    (Memory, Memory, [], ok ∷ ok ∷ []) ∷
    ordered_row ∷ []
unfolding found found_any match_of is_utf8 chars lib.Utf8.encode act
cuts_of_a_scenario = refl

-- The first step of an after hook that fails ends that hook, and the others still run.
after_hooks_by_themselves : cut_row
    (run (hook kinds.AfterScenario (codes "fail" ∷ codes "write l x" ∷ []) ∷ tag_hook kinds.AfterTag (codes "@a") (codes "write l a" ∷ []) ∷ []) (later ∷ write ∷ is ∷ fail ∷ []))
    (tagged (codes "@a" ∷ []) (steps_of (codes "later is l a" ∷ []))) nowhere ≡
    (Failed, Failed, outcomes.Passed ∷ [], ok ∷ [])
unfolding found found_any match_of is_utf8 chars lib.Utf8.encode act
after_hooks_by_themselves = refl

-- a scenario that is selected, and one that isn't
abbrev two_scenarios : List MemberValue
two_scenarios = scenario (codes "pass" ∷ codes "unknown" ∷ []) ∷ unselected (codes "fail" ∷ []) ∷ []

abbrev not_selected : CaseSeen
not_selected = simple Skipped (with_status Skipped ∷ [])

-- A feature whose before list failed, since the hook of a feature may not skip: its after hook still runs, and memory may be refused in it.
failed_before_list : map
    (one_cut (run (hook kinds.BeforeFeature (codes "skip" ∷ []) ∷ hook kinds.AfterFeature (codes "pass" ∷ []) ∷ []) common) two_scenarios)
    (uncut_feature ∷ record uncut_feature { own = in_after 0 start } ∷ []) ≡
    comes_to Failed Failed (two_untested ∷ not_selected ∷ []) ∷ comes_to Memory Memory (two_untested ∷ not_selected ∷ []) ∷ []
unfolding found found_any match_of act
failed_before_list = refl

-- Memory was refused in its before list: its scenarios are untested.
cut_before_feature : one_cut (run (hook kinds.BeforeFeature (codes "pass" ∷ codes "pass" ∷ []) ∷ []) common) two_scenarios (record uncut_feature { own = in_before 1 start; cases = in_steps 0 start ∷ [] }) ≡
    comes_to Memory Memory (two_untested ∷ not_selected ∷ [])
unfolding found found_any match_of act
cut_before_feature = refl

-- A feature without a selected scenario runs no hook.
none_selected : one_run (run (hook kinds.BeforeFeature (codes "fail" ∷ []) ∷ []) common) (unselected (codes "fail" ∷ []) ∷ []) ≡ comes_to Skipped Passed (not_selected ∷ [])
unfolding found found_any match_of act
none_selected = refl

-- A run whose before hook failed: no feature is begun.
failed_before_all : one_run (run (hook kinds.BeforeAll (codes "unknown" ∷ []) ∷ hook kinds.BeforeFeature (codes "fail" ∷ []) ∷ []) common) two_scenarios ≡
    (Failed, (Untested, Passed, two_untested ∷ not_selected ∷ []) ∷ [])
unfolding found found_any match_of act
failed_before_all = refl

-- a scenario that finds no file, and writes one
abbrev same_steps : MemberValue
same_steps = scenario (codes "absent f" ∷ codes "write f x" ∷ codes "is f x" ∷ codes "pass" ∷ [])

-- Memory was refused in the third step of the second scenario: it alone is spoilt, and the third starts from the feature's state.
spoilt_alone : one_cut (run [] (of_name (codes "absent ") actions.FileAbsent ∷ write ∷ is ∷ pass ∷ [])) (same_steps ∷ same_steps ∷ same_steps ∷ []) (record uncut_feature { cases = nowhere ∷ in_steps 2 start ∷ [] }) ≡
    comes_to Memory Passed (simple Passed (ok ∷ ok ∷ ok ∷ ok ∷ []) ∷ simple Memory (ok ∷ ok ∷ with_status Memory ∷ with_status Untested ∷ []) ∷ simple Passed (ok ∷ ok ∷ ok ∷ ok ∷ []) ∷ [])
unfolding found found_any match_of is_utf8 chars lib.Utf8.encode act
spoilt_alone = refl

-- two features; the second scenario of the first one fails
abbrev two_features : List ChosenValue
two_features = feature (scenario (codes "pass" ∷ []) ∷ scenario (codes "fail" ∷ []) ∷ scenario (codes "pass" ∷ []) ∷ scenario (codes "pass" ∷ []) ∷ []) ∷ feature (scenario (codes "pass" ∷ []) ∷ []) ∷ []

-- their run, with after hooks that fail, which stops at a failure or doesn't
abbrev stopping : Bool → Run
stopping stop = record (run (hook kinds.AfterFeature (codes "fail" ∷ []) ∷ hook kinds.AfterAll (codes "fail" ∷ []) ∷ []) common) { stop = stop }

-- their run, which stops at a failure or doesn't, with a first feature that is cut so
abbrev two_cut : Bool → FeatureCuts → RunSeen
two_cut stop cuts = run_seen (results_from (stopping stop) start (record uncut { features = cuts ∷ [] }) two_features)

abbrev one_passed : CaseSeen
one_passed = simple Passed (ok ∷ [])

abbrev one_failed : CaseSeen
one_failed = simple Failed (failed reasons.Asked ∷ [])

abbrev one_untested : CaseSeen
one_untested = simple Untested (with_status Untested ∷ [])

-- If a run stops at a failure, later scenarios are untested and later features aren't begun; the after hooks of what was begun still run. Memory in a scenario stops it, too. Otherwise all are run.
stops : two_cut true uncut_feature ∷ two_cut true (record uncut_feature { cases = in_steps 0 start ∷ [] }) ∷ two_cut false uncut_feature ∷ [] ≡
    (Failed, (Failed, Failed, one_passed ∷ one_failed ∷ one_untested ∷ one_untested ∷ []) ∷ (Untested, Passed, one_untested ∷ []) ∷ []) ∷
    (Failed, (Memory, Failed, simple Memory (with_status Memory ∷ []) ∷ one_untested ∷ one_untested ∷ one_untested ∷ []) ∷ (Untested, Passed, one_untested ∷ []) ∷ []) ∷
    (Failed, (Failed, Failed, one_passed ∷ one_failed ∷ one_passed ∷ one_passed ∷ []) ∷ (Failed, Failed, one_passed ∷ []) ∷ []) ∷ []
unfolding found found_any match_of act
stops = refl

-- a scenario that spoils what others could find, and fails
abbrev spoils : MemberValue
spoils = scenario (codes "write a 2" ∷ codes "write b 3" ∷ codes "fail" ∷ [])

-- one that finds its feature's file and no other, and fails
abbrev finds : MemberValue
finds = scenario (codes "is a 1" ∷ codes "absent b" ∷ codes "fail" ∷ [])

-- what a scenario with three steps comes to whose third fails, and one that isn't selected
abbrev third_failed : CaseSeen
third_failed = simple Failed (ok ∷ ok ∷ failed reasons.Asked ∷ [])

abbrev three_skipped : CaseSeen
three_skipped = simple Skipped (with_status Skipped ∷ with_status Skipped ∷ with_status Skipped ∷ [])

abbrev three_untested : CaseSeen
three_untested = simple Untested (with_status Untested ∷ with_status Untested ∷ with_status Untested ∷ [])

-- a suite in which the second comes last, and its features' hook
abbrev last_of_four : List ChosenValue
last_of_four = feature (spoils ∷ spoils ∷ []) ∷ feature (spoils ∷ finds ∷ []) ∷ []

abbrev with_a_file : Bool → Run
with_a_file stop = record (run (hook kinds.BeforeFeature (codes "write a 1" ∷ []) ∷ []) (of_name (codes "absent ") actions.FileAbsent ∷ write ∷ is ∷ fail ∷ [])) { stop = stop }

-- The last scenario of a suite comes to the same in the suite, and alone in a run that is to stop: its own result. In such a run of the whole suite, it is untested.
own_result : case_seen (own_row (with_a_file false) start (above (feature (spoils ∷ finds ∷ [])) finds.scenario) finds.scenario) ≡ third_failed
unfolding found found_any match_of is_utf8 chars lib.Utf8.encode act
own_result = refl

alone_and_in_a_suite : run_seen (results_from (with_a_file false) start uncut last_of_four) ∷ run_seen (results_from (with_a_file true) start uncut (only 1 1 last_of_four)) ∷ run_seen (results_from (with_a_file true) start uncut last_of_four) ∷ [] ≡
    (Passed, (Failed, Passed, third_failed ∷ third_failed ∷ []) ∷ (Failed, Passed, third_failed ∷ third_failed ∷ []) ∷ []) ∷
    (Passed, (Skipped, Passed, three_skipped ∷ three_skipped ∷ []) ∷ (Failed, Passed, three_skipped ∷ third_failed ∷ []) ∷ []) ∷
    (Passed, (Failed, Passed, third_failed ∷ three_untested ∷ []) ∷ (Untested, Passed, three_untested ∷ three_untested ∷ []) ∷ []) ∷ []
unfolding found found_any match_of is_utf8 chars lib.Utf8.encode act
alone_and_in_a_suite = refl

-- A dry run of them: no hook runs, and it doesn't matter that the run is to stop.
dry_and_stopping : (contents : Contents) → run_seen (results_of (record (stopping true) { dry_run = true }) contents uncut two_features) ≡
    (Passed, (Untested, Passed, one_untested ∷ one_untested ∷ one_untested ∷ one_untested ∷ []) ∷ (Untested, Passed, one_untested ∷ []) ∷ [])
unfolding found found_any match_of act
dry_and_stopping contents = refl

-- a dry run in which each hook would fail, of scenarios of one feature
abbrev dry_one : Contents → FeatureCuts → List MemberValue → RunSeen
dry_one contents cuts members =
    let hooks = hook kinds.BeforeAll (codes "it fails" ∷ []) ∷ hook kinds.BeforeFeature (codes "it fails" ∷ []) ∷ hook kinds.AfterScenario (codes "it fails" ∷ []) ∷ [] in
    let r = record (run hooks (word (codes "it passes") actions.Pass ∷ word (codes "it fails") actions.Fail ∷ [])) { dry_run = true } in
    run_seen (results_of r contents (record uncut { features = cuts ∷ [] }) (feature members ∷ []))

-- a scenario with a step that would fail, one that would pass, and one that no entry matches
abbrev looked_at : MemberValue
looked_at = scenario (codes "it fails" ∷ codes "it passes" ∷ codes "nothing knows this" ∷ [])

abbrev looked_up : CaseSeen
looked_up = simple Untested (with_status Untested ∷ with_status Untested ∷ with_status Undefined ∷ [])

-- In a dry run a step is untested if the library matches it, and otherwise undefined; its scenario and its feature are untested. Memory may be refused while a step is looked up; there is no hook to refuse it in. A scenario that isn't selected is skipped, and no step of it is looked up.
looked_up_alone : (contents : Contents) →
    dry_one contents uncut_feature (looked_at ∷ []) ∷
    dry_one contents (record uncut_feature { own = in_before 0 start; cases = in_steps 1 start ∷ in_before 0 start ∷ [] }) (looked_at ∷ looked_at ∷ []) ∷
    dry_one contents uncut_feature (unselected (codes "nothing knows this" ∷ []) ∷ []) ∷ [] ≡
    comes_to Untested Passed (looked_up ∷ []) ∷
    comes_to Memory Passed (simple Memory (with_status Untested ∷ with_status Memory ∷ with_status Untested ∷ []) ∷ looked_up ∷ []) ∷
    comes_to Skipped Passed (not_selected ∷ []) ∷ []
unfolding found found_any match_of act
looked_up_alone contents = refl

-- a selected scenario of a rule, which has the rule's tags and none of its own
abbrev of_rule : ℕ → List (List ℕ) → List (List ℕ) → MemberValue
of_rule place tags texts = record { scenario = record { name = codes "S"; keyword = codes "Scenario"; line = 1; rule = Some place; tags = tags; own_tags = []; steps = steps_of texts }; selected = true }

-- a feature with a scenario of its own, and two rules with two scenarios and one
abbrev two_rules : ChosenValue
two_rules =
    record (feature (scenario (codes "is n 1" ∷ []) ∷ of_rule 0 (codes "@x" ∷ []) (codes "add n 100" ∷ codes "is n 111" ∷ []) ∷ of_rule 0 (codes "@x" ∷ []) (codes "is n 11" ∷ []) ∷ of_rule 1 [] (codes "is n 11" ∷ []) ∷ [])) {
      rules = record { line = 5; tags = codes "@x" ∷ [] } ∷ record { line = 11; tags = [] } ∷ [];
    }

-- its run, in which each rule begins with a number of the feature grown by 10, with further hooks
abbrev growing : List HookValue → Run
growing hooks =
    run (hook kinds.BeforeFeature (codes "set n 1" ∷ []) ∷ hook kinds.BeforeRule (codes "add n 10" ∷ []) ∷ hook kinds.AfterRule (codes "is n 11" ∷ []) ∷ hook kinds.AfterFeature (codes "is n 1" ∷ []) ∷ hooks)
    (of_number (codes "set ") actions.SetNumber ∷ of_number (codes "add ") actions.AddNumber ∷ of_number (codes "is ") actions.NumberIs ∷ fail ∷ [])

-- each rule's line with how its hooks and cleanups ended, and what is looked at of their feature, cut so
abbrev rules_cut : Run → FeatureCuts → List (List RuleRow × FeatureSeen)
rules_cut r cuts =
    let results = results_from r start (record uncut { features = cuts ∷ [] }) (two_rules ∷ []) in
    map (λ (row : FeatureRow). (row.rules, feature_seen row)) results.features

-- what it comes to if its own hooks and cleanups pass: its verdict, how its rules' hooks and cleanups ended, and its scenarios
abbrev rules_come_to : Status → Status → Status → List CaseSeen → List (List RuleRow × FeatureSeen)
rules_come_to verdict first second cases = (record { line = 5; around = first } ∷ record { line = 11; around = second } ∷ [], (verdict, Passed, cases)) ∷ []

-- Each scenario of a rule sees what the rule's hooks set up, and not what another scenario changed. After the rule the feature's number is seen again. If memory is refused in the first rule's after hook, its scenarios stay as they were, and the feature goes on.
rules_in_layers : map (rules_cut (growing [])) (uncut_feature ∷ record uncut_feature { rules = record { own = in_after 0 start; cases = [] } ∷ [] } ∷ []) ≡
    rules_come_to Passed Passed Passed (one_passed ∷ simple Passed (ok ∷ ok ∷ []) ∷ one_passed ∷ one_passed ∷ []) ∷
    rules_come_to Memory Memory Passed (one_passed ∷ simple Passed (ok ∷ ok ∷ []) ∷ one_passed ∷ one_passed ∷ []) ∷ []
unfolding found found_any match_of is_utf8 chars lib.Utf8.encode act digits
rules_in_layers = refl

-- With a hook for the first rule's tag that fails, its scenarios are untested. The feature goes on, unless the run stops at a failure: then the rules after it aren't begun.
failed_before_rule : map (λ stop. rules_cut (record (growing (tag_hook kinds.BeforeTag (codes "@x") (codes "fail" ∷ []) ∷ [])) { stop = stop }) uncut_feature) (false ∷ true ∷ []) ≡
    map (λ last. rules_come_to Failed Failed Passed (one_passed ∷ two_untested ∷ one_untested ∷ last ∷ [])) (one_passed ∷ one_untested ∷ [])
unfolding found found_any match_of is_utf8 chars lib.Utf8.encode act digits
failed_before_rule = refl
