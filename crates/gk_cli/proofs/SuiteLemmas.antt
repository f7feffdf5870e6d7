-- Features, one after another, and what their status says of them.
use Rattle.gk_cli.proofs.Common.{◌≡◌, ◌≢◌, ℕ, Bool, true, false, cond, ◌&&◌, ◌||◌, List, [], ◌∷◌, Result, Ok, Err, IfOk, IfErr, ◌++◌, map, refl, ap, sym, subst, ◌∙◌, inl, inr, length, arith, AllByRecursion, list_any, true≢false, list_any-append, Contents, State, state_of, SandboxValue, IsSame, Status, CaseRow, FeatureRow, RuleRow, Results, is_memory, is_failed, is_undefined, section_now, result_of, Run, IsBegun, ChosenValue, case_statuses, first_or, without_first, stays_open, FeatureCuts, uncut_feature, rule_statuses, verdict_by, feature_verdict, feature_of, features_of, Cuts, dry_results, results_from, Judged, plain_results, is_memory_case, is_memory_feature, is_memory_rule, has_memory, OneList, AreFeatures, FinishedRunsAreJudged, IsFinished, IsKept, IsStarted, SuiteValue, opens_features, dry_features_of, LibraryValue, feature_statuses, scenario_statuses, step_statuses, status, RunFault, Read, Library, Hooks, Select, Write, Memory, Inputs, AreInputs, InputsAreUnique, Request, IsUnread, IsReported, JudgedReport, OnlyReport, AreJudged, ReportedInPart, SaysFaultBy, run_with, Device, IsUntouched, IsWritten, StopsBy, UsesWriter, IsWhole, IsPrefix, common_steps}
use Rattle.gk_run.specs.declared.section.Level.TheVariants as levels

-- A list without length.
pub nothing_in : {A : Type 0} (xs : List A) → length xs ≡ 0 → xs ≡ []
nothing_in [] h = refl
nothing_in (x ∷ xs) h = absurd (omega arith)

pub and_left : (a b : Bool) → (a && b) ≡ true → a ≡ true
and_left true b h = refl
and_left false b h = h

-- One feature after another keeps what the suite is.
pub kept_through : (a b d : SuiteValue) → IsKept a b → IsKept b d → IsKept a d
kept_through a b d p q = q ∙ ap (λ (x : SuiteValue). record x { has_failed = d.has_failed }) p

-- And what the sandbox is.
pub same_through : (a b d : SandboxValue) → IsSame a b → IsSame b d → IsSame a d
same_through a b d p q = record { contents = q.contents ∙ p.contents; saved = q.saved ∙ p.saved; starts = q.starts ∙ p.starts; recorded = q.recorded ∙ p.recorded }

-- A run that was begun is so still after features that leave the sandbox as it was.
pub begun_still : (run : Run) (old started without_first : SandboxValue) (suite left : SuiteValue) → (start : IsStarted run old started suite) → IsKept suite left → IsSame started without_first → IsBegun run levels.Run [] (state_of old.now) start.opened.first left.before (section_now without_first left.cleanups)
begun_still run old started without_first suite left start kept same = grind (arith, common_steps)

-- A run that was begun, whose features were run, and that was finished.
pub judged_by : FinishedRunsAreJudged → (run : Run) (old started without_first : SandboxValue) (suite left : SuiteValue) (around : Status) (features : List ChosenValue) (rows : List FeatureRow) →
    IsStarted run old started suite → IsKept suite left → IsSame started without_first → AreFeatures run (state_of started.now) (opens_features suite) features rows → IsFinished run left without_first around →
    Judged run old.now features (record { features = rows; around = around })
judged_by law run old started without_first suite left around features rows start kept same are finish =
    law run old started suite features rows around start are finish.0 (finish.1.whole (state_of old.now) start.opened.first (begun_still run old started without_first suite left start kept same))

-- A feature's status is its verdict, by how its hooks and cleanups and those of its rules ended and by its cases.
abbrev pub HasVerdict : FeatureRow → Type 0
HasVerdict row = row.status ≡ feature_verdict row.around (rule_statuses row.rules) (case_statuses row.cases)

all_verdicts : (run : Run) (outside : State) (is_open : Bool) (cuts : List FeatureCuts) (fs : List ChosenValue) → AllByRecursion HasVerdict (result_of (features_of run outside is_open cuts fs))
all_verdicts run outside is_open cuts [] = tt
all_verdicts run outside is_open cuts (f ∷ fs) =
    let row = result_of (feature_of run outside is_open (first_or uncut_feature cuts) f) in
    (refl, all_verdicts run outside (is_open && stays_open run row.status) (without_first cuts) fs)

all_dry_verdicts : (library : LibraryValue) (cuts : List FeatureCuts) (fs : List ChosenValue) → AllByRecursion HasVerdict (dry_features_of library cuts fs)
all_dry_verdicts library cuts [] = tt
all_dry_verdicts library cuts (f ∷ fs) = (refl, all_dry_verdicts library (without_first cuts) fs)

either_verdicts : (b : Bool) (x y : Results) → AllByRecursion HasVerdict x.features → AllByRecursion HasVerdict y.features → (let r : Results = cond b x y in AllByRecursion HasVerdict r.features)
either_verdicts true x y p q = p
either_verdicts false x y p q = q

run_verdicts : (run : Run) (start : State) (cuts : Cuts) (fs : List ChosenValue) → (let r : Results = results_from run start cuts fs in AllByRecursion HasVerdict r.features)
run_verdicts run start cuts fs = grind (arith, common_steps, all_verdicts)

or_left : (a b : Bool) → (a || b) ≡ false → a ≡ false
or_left false b h = refl
or_left true b h = h

or_none : (a b : Bool) → a ≡ false → b ≡ false → (a || b) ≡ false
or_none a b p q = ap (λ x. x || b) p ∙ q

or_right : (a b : Bool) → (a || b) ≡ false → b ≡ false
or_right false b h = h
or_right true b h = absurd (true≢false h)

memory_cases : (cs : List CaseRow) → list_any is_memory_case cs ≡ list_any is_memory (map (λ (c : CaseRow). c.status) cs)
memory_cases [] = refl
memory_cases (c ∷ cs) = ap (λ b. is_memory c.status || b) (memory_cases cs)

memory_verdict : (memory failed untested passed : Bool) → is_memory (verdict_by memory failed untested passed) ≡ false → memory ≡ false
memory_verdict false failed untested passed h = refl
memory_verdict true failed untested passed h = h

memory_rules : (rs : List RuleRow) → list_any is_memory_rule rs ≡ list_any is_memory (rule_statuses rs)
memory_rules [] = refl
memory_rules (r ∷ rs) = ap (λ b. is_memory r.around || b) (memory_rules rs)

or_assoc : (a b c : Bool) → (a || (b || c)) ≡ ((a || b) || c)
or_assoc true b c = refl
or_assoc false b c = refl

memory_feature : (row : FeatureRow) → HasVerdict row → is_memory row.status ≡ false → is_memory_feature row ≡ false
memory_feature row verdict none = grind (arith, common_steps, memory_cases, memory_rules, or_assoc, memory_verdict)

memory_features : (rows : List FeatureRow) → AllByRecursion HasVerdict rows → list_any is_memory (feature_statuses rows) ≡ false → list_any is_memory_feature rows ≡ false
memory_features [] all none = refl
memory_features (f ∷ fs) all none =
    let first = or_left (is_memory f.status) (list_any is_memory (feature_statuses fs)) none in
    let others = or_right (is_memory f.status) (list_any is_memory (feature_statuses fs)) none in
    or_none (is_memory_feature f) (list_any is_memory_feature fs) (memory_feature f all.0 first) (memory_features fs all.1 others)

not_four : (b c : Bool) → (◌≡◌ {A = ℕ} (cond b 4 (cond c 1 0)) 4 → ⊥) → b ≡ false
not_four true c h = absurd (h refl)
not_four false c h = refl

-- Where the status of judged results isn't 4, nothing in them is marked memory.
pub no_memory : (run : Run) (contents : Contents) (features : List ChosenValue) (results : Results) → Judged run contents features results → status results ≢ 4 → has_memory results ≡ false
no_memory run contents features results judged h =
    let rows = results.features in
    let ends = feature_statuses rows ++ scenario_statuses rows in
    let none : (is_memory results.around || list_any is_memory ends) ≡ false =
    not_four (is_memory results.around || list_any is_memory ends) ((is_failed results.around || list_any is_failed ends) || list_any is_undefined (step_statuses rows)) h in
    let cuts = judged.0 in
    let either = either_verdicts run.dry_run (dry_results run cuts features) (results_from run (state_of contents) cuts features) (all_dry_verdicts run.library cuts.features features) (run_verdicts run (state_of contents) cuts features) in
    let verdicts = subst (λ (r : Results). AllByRecursion HasVerdict r.features) (sym judged.1) either in
    let others = sym (list_any-append is_memory (feature_statuses rows) (scenario_statuses rows)) ∙ or_right (is_memory results.around) (list_any is_memory ends) none in
    or_none (is_memory results.around) (list_any is_memory_feature rows) (or_left (is_memory results.around) (list_any is_memory ends) none)
    (memory_features rows verdicts (or_left (list_any is_memory (feature_statuses rows)) (list_any is_memory (scenario_statuses rows)) others))

-- Of the judged lists of what is asked for, the plain one alone has a status other than 4.
pub only_list : InputsAreUnique → OneList → (r : Request) (contents : Contents) (answer : ℕ) → answer ≢ 4 → (inputs : Inputs) → AreInputs r inputs →
    (results : Results) → AreJudged r contents results → answer ≡ status results → results ≡ plain_results (run_with r inputs) contents inputs.features
only_list unique one r contents answer other inputs read results also returned =
    one (run_with r also.inputs) contents also.inputs.features results also.judged (no_memory (run_with r also.inputs) contents also.inputs.features results also.judged (λ four. other (returned ∙ four)))
    ∙ ap (λ i. plain_results (run_with r i) contents i.features) (unique r also.inputs inputs also.read read)

-- What was written whole is the report of a judged list.
pub whole_is_judged : (r : Request) (contents : Contents) (old new : Device) (inputs : Inputs) (answer : ℕ) → AreInputs r inputs → IsWhole (run_with r inputs) contents inputs.features r.style old new answer → JudgedReport r contents old new answer
whole_is_judged r contents old new inputs answer read whole = (whole.0, whole.2, record { inputs = inputs; read = read; judged = whole.1 })

-- At each status but 4 that list is the plain one.
pub whole_is_only : InputsAreUnique → OneList → (r : Request) (contents : Contents) (old new : Device) (inputs : Inputs) (answer : ℕ) → AreInputs r inputs →
    IsWhole (run_with r inputs) contents inputs.features r.style old new answer → OnlyReport r contents old new answer
whole_is_only unique one r contents old new inputs answer read whole other =
    let results = whole.0 in
    let reported = whole.2 in
    let run = run_with r inputs in
    let unmarked = no_memory run contents inputs.features results whole.1 (λ four. other (reported.returned ∙ four)) in
    let same = one run contents inputs.features results whole.1 unmarked in
    record {
      inputs = inputs;
      read = read;
      reported = subst (IsReported r.style old new answer) same reported;
      unmarked = ap has_memory (sym same) ∙ unmarked;
      only = only_list unique one r contents answer other inputs read;
    }

-- A prefix of the report of a judged list was written.
pub reported_in_part : (r : Request) (contents : Contents) (old new : Device) (inputs : Inputs) (fault : RunFault) → AreInputs r inputs → IsPrefix (run_with r inputs) contents inputs.features r.style old new fault → ReportedInPart r contents old new fault
reported_in_part r contents old new inputs fault read part = (part.0, record { inputs = inputs; read = read; judged = part.1 }, part.2)

-- What a fault says if a prefix of the output was written.
pub cut_says : (IsCut : RunFault → Type 0) (r : Request) (old new : Device) (fault : RunFault) → StopsBy old new fault → IsCut fault → SaysFaultBy IsCut r old new fault
cut_says IsCut r old new (Read input why) by cut = absurd by
cut_says IsCut r old new (Library why) by cut = absurd by
cut_says IsCut r old new (Hooks why) by cut = absurd by
cut_says IsCut r old new (Select input why) by cut = absurd by
cut_says IsCut r old new Write by cut = cut
cut_says IsCut r old new Memory by cut = inr cut

-- What a fault says if the request doesn't read: nothing was written.
pub unread_says : (IsCut : RunFault → Type 0) (r : Request) (old new : Device) (fault : RunFault) → IsUnread r fault → IsUntouched old new → SaysFaultBy IsCut r old new fault
unread_says IsCut r old new (Read input why) unread same = (unread, same)
unread_says IsCut r old new (Library why) unread same = (unread, same)
unread_says IsCut r old new (Hooks why) unread same = (unread, same)
unread_says IsCut r old new (Select input why) unread same = (unread, same)
unread_says IsCut r old new Write unread same = absurd unread
unread_says IsCut r old new Memory unread same = inl same

-- How the writer was used, by what was written.
pub used_by_run : {P : ℕ → Type 0} {Q : RunFault → Type 0} (result : Result ℕ RunFault) (old new : Device) → ((status : ℕ) → P status → (text : List ℕ) × IsWritten old new text) → ((fault : RunFault) → Q fault → new.flushes ≡ old.flushes)
    → IfOk result P → IfErr result Q → UsesWriter result old new
used_by_run (Ok status) old new whole part done failed = let written = whole status done in (written.1.quiet, written.1.busy, written.1.unflushed)
used_by_run (Err fault) old new whole part done failed = part fault failed
