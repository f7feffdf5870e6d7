-- Whole runs by computation, in which memory may have been refused: each report that such a run may write.
use Rattle.std.specs.Prelude.{◌≡◌, ◌⊎◌, ℕ, zero, suc, List, [], ◌∷◌, map, Option, Some, None, codes}
use Rattle.std.specs.Io.KnownBytes.{Appends}
use Rattle.std.proofs.Common.{refl, ap₂, sym, subst, ◌∙◌, inl, inr, false}
use Rattle.gk_select.specs.Case.{CaseValue}
use Rattle.gk_select.specs.Expansion.{cases}
use Rattle.gk_select.specs.Choice.{is_chosen}
use Rattle.gk_steps.specs.DefaultFile.{default_entries}
use Rattle.gk_steps.specs.Finding.{LibraryValue}
use Rattle.gk_world.specs.State.{nothing_yet, State}
use Rattle.gk_run.specs.declared.results.Status.{Status}
use Rattle.gk_run.specs.declared.results.Status.TheVariants as statuses
use Rattle.gk_run.specs.declared.results.Reason.{Reason}
use Rattle.gk_run.specs.declared.results.Reason.TheVariants as reasons
use Rattle.gk_run.specs.declared.section.Level.TheVariants as levels
use Rattle.gk_run.specs.Results.{StepRow, CaseRow, Results}
use Rattle.gk_run.specs.Section.{Cut, nowhere, in_before, in_steps, in_after, in_cleanups}
use Rattle.gk_run.specs.OpenSection.{Run, section_state}
use Rattle.gk_run.specs.Running.{reached_row, first_or, without_first}
use Rattle.gk_run.specs.Chosen.{MemberValue, ChosenValue}
use Rattle.gk_run.specs.Features.{FeatureCuts, uncut_feature, feature_verdict, RuleCuts}
use Rattle.gk_run.specs.Judged.{Cuts, Judged}
use Rattle.gk_report.specs.Report.{plain_style}
use Rattle.gk_examples.proofs.Reports.{Gives, plain_on_literals}
use Rattle.gk_request.specs.Inputs.{Inputs, AreInputs, IsLibrary, member_by, InputsAreUnique}
use Rattle.gk_request.specs.Request.{Request}
use Rattle.gk_cli.specs.Suite.{IsReported, JudgedReport, run_with}
use Rattle.gk_cli.specs.Writing.{Device}
use Rattle.gk_examples.proofs.Run.{on_literals, bare_state, results_from_bare, same_from_bare, one_feature, one_request, one_inputs, one_inputs_read, one_report, set_step, ask_step, two_feature, two_request, two_inputs, two_inputs_read, two_report}

-- This report was written, and this status is returned.
abbrev IsReturned : Device → Device → ℕ → List ℕ → ℕ → Type 0
IsReturned old new answer text number = Appends old.bytes new.bytes text × (answer ≡ number)

-- What was written and is returned, if these results were reported and have this report and this status.
returned : (old new : Device) (answer : ℕ) (results : Results) (text : List ℕ) (number : ℕ) → IsReported plain_style old new answer results → Gives plain_style results text number → IsReturned old new answer text number
returned old new answer results text number r gives =
    (subst (λ (bytes : List ℕ). Appends old.bytes new.bytes bytes) gives.0 r.written.written, r.returned ∙ gives.1)

-- A run of a request whose inputs are known writes and answers what some cuts give.
judged_ends : (r : Request) (inputs : Inputs) → r.dry_run ≡ false → AreInputs r inputs → InputsAreUnique → (old new : Device) (answer : ℕ) → JudgedReport r nothing_yet old new answer → (cuts : Cuts) × IsReported r.style old new answer (results_from_bare (run_with r inputs) cuts inputs.features)
judged_ends r inputs runs read unique old new answer (results, reported, are) =
    let same : are.inputs ≡ inputs = unique r are.inputs inputs are.read read in
    let judged : Judged (run_with r inputs) nothing_yet inputs.features results = subst (λ (i : Inputs). Judged (run_with r i) nothing_yet i.features results) same are.judged in
    (judged.0, subst (λ (x : Results). IsReported r.style old new answer x) (judged.1 ∙ same_from_bare (run_with r inputs) judged.0 inputs.features runs) reported)

-- The cuts of a run of one feature, in its scenarios alone.
abbrev cuts_of : List Cut → Cuts
cuts_of cuts = record { own = nowhere; features = record { own = nowhere; cases = cuts; rules = [] } ∷ [] }

-- A run without hooks.
abbrev bare_run : LibraryValue → Run
bare_run library = record { library = library; hooks = []; dry_run = false; stop = false }

-- A feature without tags.
abbrev bare_feature : List ℕ → List ℕ → ℕ → List MemberValue → ChosenValue
bare_feature source name line members = record { source = source; name = name; line = line; tags = []; rules = []; members = members }

-- Such a run has nothing of its own to cut.
run_uncut : (library : LibraryValue) (own : Cut) (cuts : List FeatureCuts) (features : List ChosenValue) →
    results_from_bare (bare_run library) (record { own = own; features = cuts }) features ≡ results_from_bare (bare_run library) (record { own = nowhere; features = cuts }) features
run_uncut library nowhere cuts features = refl
run_uncut library (in_before n s) cuts features = refl
run_uncut library (in_steps n s) cuts features = refl
run_uncut library (in_after n s) cuts features = refl
run_uncut library (in_cleanups n s) cuts features = refl

-- Nor has such a feature in it.
feature_uncut : (library : LibraryValue) (own : Cut) (cuts : List Cut) (rules : List RuleCuts) (source name : List ℕ) (line : ℕ) (members : List MemberValue) →
    results_from_bare (bare_run library) (record { own = nowhere; features = record { own = own; cases = cuts; rules = rules } ∷ [] }) (bare_feature source name line members ∷ [])
    ≡ results_from_bare (bare_run library) (cuts_of cuts) (bare_feature source name line members ∷ [])
feature_uncut library nowhere cuts rules source name line members = refl
feature_uncut library (in_before n s) cuts rules source name line members = refl
feature_uncut library (in_steps n s) cuts rules source name line members = refl
feature_uncut library (in_after n s) cuts rules source name line members = refl
feature_uncut library (in_cleanups n s) cuts rules source name line members = refl

-- So its scenarios alone are cut.
scenarios_cut : (library : LibraryValue) (cuts : Cuts) (source name : List ℕ) (line : ℕ) (members : List MemberValue) →
    results_from_bare (bare_run library) cuts (bare_feature source name line members ∷ []) ≡ results_from_bare (bare_run library) (cuts_of (first_or uncut_feature cuts.features).cases) (bare_feature source name line members ∷ [])
scenarios_cut library cuts source name line members =
    let first = first_or uncut_feature cuts.features in
    run_uncut library cuts.own (first ∷ []) (bare_feature source name line members ∷ []) ∙ feature_uncut library first.own first.cases first.rules source name line members

-- One scenario with one step, at which memory was refused.
abbrev one_memory_report : List ℕ
one_memory_report = codes "Feature: one ... memory\n  Scenario: first ... memory\n    Given it passes ... memory\n\n0 features passed, 0 failed, 0 skipped, 1 memory\n0 scenarios passed, 0 failed, 0 skipped, 1 memory\n0 steps passed, 0 failed, 0 skipped, 0 undefined, 1 memory\n"

-- Results have the plain report of that scenario, or the one in which memory was refused.
abbrev IsOneOfTwo : Results → Type 0
IsOneOfTwo results = Gives plain_style results one_report 0 ⊎ Gives plain_style results one_memory_report 4

-- So it is by the scenario's cut: a cut at an event that it doesn't have is none.
one_by_cut : (cut : Cut) → IsOneOfTwo (results_from_bare (run_with one_request one_inputs) (cuts_of (cut ∷ [])) one_inputs.features)
unfolding on_literals
one_by_cut nowhere = inl (refl, refl)
one_by_cut (in_before n s) = inl (refl, refl)
one_by_cut (in_steps zero s) = inr (refl, refl)
one_by_cut (in_steps (suc n) s) = inl (refl, refl)
one_by_cut (in_after n s) = inl (refl, refl)
one_by_cut (in_cleanups n s) = inl (refl, refl)

-- The same by all cuts of a run.
one_by_cuts : (cuts : Cuts) → IsOneOfTwo (results_from_bare (run_with one_request one_inputs) cuts one_inputs.features)
unfolding cases
one_by_cuts cuts =
    let same = scenarios_cut one_inputs.library cuts (codes "one.feature") (codes "one") 1 (map (member_by (is_chosen [] [])) (cases one_feature)) in
    subst (λ (results : Results). IsOneOfTwo results) (sym same) (one_by_cut (first_or nowhere (first_or uncut_feature cuts.features).cases))

-- A run of that request writes the plain report and ends with 0, or writes that memory was refused and ends with 4.
pub one_judged : IsLibrary None default_entries → InputsAreUnique → (old new : Device) (answer : ℕ) → JudgedReport one_request nothing_yet old new answer →
    IsReturned old new answer one_report 0 ⊎ IsReturned old new answer one_memory_report 4
one_judged spelled unique old new answer judged =
    let (cuts, reported) = judged_ends one_request one_inputs refl (one_inputs_read spelled) unique old new answer judged in
    let results : Results = results_from_bare (run_with one_request one_inputs) cuts one_inputs.features in
    elim (one_by_cuts cuts) [
      | inl is ↦ inl (returned old new answer results one_report 0 reported is)
      | inr is ↦ inr (returned old new answer results one_memory_report 4 reported is)
    ]

-- The row of a scenario with one step, and the rows of the two scenarios, by what became of their steps.
abbrev one_step_row : List ℕ → ℕ → StepRow → CaseRow
one_step_row name line s = record { keyword = codes "Scenario"; name = name; line = line; status = s.status; around = statuses.Passed; cleanups = []; steps = s ∷ [] }

abbrev row_A : Status → CaseRow
row_A verdict = one_step_row (codes "A") 2 (record { keyword = codes "When"; text = codes "the variable \"X\" is set to \"1\""; line = 3; status = verdict; reason = None })

abbrev row_B : Status → Option Reason → CaseRow
row_B verdict reason = one_step_row (codes "B") 4 (record { keyword = codes "Then"; text = codes "the variable \"X\" should be \"1\""; line = 5; status = verdict; reason = reason })

-- The row of the second scenario, if its step was carried out, and if memory was refused in it.
abbrev failed_B : CaseRow
failed_B = row_B statuses.Failed (Some reasons.Absent)

abbrev memory_B : CaseRow
memory_B = row_B statuses.Memory None

-- The results with these two rows.
abbrev two_of : CaseRow → CaseRow → Results
two_of a b = record {
  features = record { source = codes "two.feature"; name = codes "two"; line = 1; status = feature_verdict statuses.Passed [] (a.status ∷ b.status ∷ []); around = statuses.Passed; rules = []; cases = a ∷ b ∷ [] } ∷ [];
  around = statuses.Passed;
}

-- The reports if memory was refused in the first scenario, in the second, and in each.
abbrev memory_in_A_report : List ℕ
memory_in_A_report = codes "Feature: two ... memory\n  Scenario: A ... memory\n    When the variable \"X\" is set to \"1\" ... memory\n  Scenario: B ... failed\n    Then the variable \"X\" should be \"1\" ... failed: absent\n\n0 features passed, 0 failed, 0 skipped, 1 memory\n0 scenarios passed, 1 failed, 0 skipped, 1 memory\n0 steps passed, 1 failed, 0 skipped, 0 undefined, 1 memory\n"

abbrev memory_in_B_report : List ℕ
memory_in_B_report = codes "Feature: two ... memory\n  Scenario: A ... passed\n    When the variable \"X\" is set to \"1\" ... passed\n  Scenario: B ... memory\n    Then the variable \"X\" should be \"1\" ... memory\n\n0 features passed, 0 failed, 0 skipped, 1 memory\n1 scenario passed, 0 failed, 0 skipped, 1 memory\n1 step passed, 0 failed, 0 skipped, 0 undefined, 1 memory\n"

abbrev memory_in_both_report : List ℕ
memory_in_both_report = codes "Feature: two ... memory\n  Scenario: A ... memory\n    When the variable \"X\" is set to \"1\" ... memory\n  Scenario: B ... memory\n    Then the variable \"X\" should be \"1\" ... memory\n\n0 features passed, 0 failed, 0 skipped, 1 memory\n0 scenarios passed, 0 failed, 0 skipped, 2 memory\n0 steps passed, 0 failed, 0 skipped, 0 undefined, 2 memory\n"

-- Results have one of four reports.
abbrev IsOneOfFour : Results → Type 0
IsOneOfFour results = Gives plain_style results two_report 1 ⊎ (Gives plain_style results memory_in_A_report 4 ⊎ (Gives plain_style results memory_in_B_report 4 ⊎ Gives plain_style results memory_in_both_report 4))

-- The scenarios' cases, and the state of their section.
abbrev case_A : CaseValue
case_A = record { keyword = codes "Scenario"; name = codes "A"; line = 2; rule = None; steps = set_step ∷ []; tags = []; own_tags = [] }

-- The second.
abbrev case_B : CaseValue
case_B = record { keyword = codes "Scenario"; name = codes "B"; line = 4; rule = None; steps = ask_step ∷ []; tags = []; own_tags = [] }

-- The state that both begin from.
abbrev two_section : State
two_section = section_state (run_with two_request two_inputs) levels.Feature [] (section_state (run_with two_request two_inputs) levels.Run [] bare_state)

-- The row of the first scenario, by its cut.
A_by_cut : (cut : Cut) → let row = reached_row (run_with two_request two_inputs) two_section cut case_A in (row ≡ row_A statuses.Passed) ⊎ (row ≡ row_A statuses.Memory)
unfolding on_literals
A_by_cut nowhere = inl refl
A_by_cut (in_before n s) = inl refl
A_by_cut (in_steps zero s) = inr refl
A_by_cut (in_steps (suc n) s) = inl refl
A_by_cut (in_after n s) = inl refl
A_by_cut (in_cleanups n s) = inl refl

-- The row of the second scenario, by its cut.
B_by_cut : (cut : Cut) → let row = reached_row (run_with two_request two_inputs) two_section cut case_B in (row ≡ failed_B) ⊎ (row ≡ memory_B)
unfolding on_literals
B_by_cut nowhere = inl refl
B_by_cut (in_before n s) = inl refl
B_by_cut (in_steps zero s) = inr refl
B_by_cut (in_steps (suc n) s) = inl refl
B_by_cut (in_after n s) = inl refl
B_by_cut (in_cleanups n s) = inl refl

-- The results are those with the two scenarios' rows.
two_by_rows : (a b : Cut) → results_from_bare (run_with two_request two_inputs) (cuts_of (a ∷ b ∷ [])) two_inputs.features ≡ two_of (reached_row (run_with two_request two_inputs) two_section a case_A) (reached_row (run_with two_request two_inputs) two_section b case_B)
unfolding cases is_chosen
two_by_rows a b = refl

-- The results with these rows have one of four reports.
one_of_four : (a b : CaseRow) → (a ≡ row_A statuses.Passed) ⊎ (a ≡ row_A statuses.Memory) → (b ≡ failed_B) ⊎ (b ≡ memory_B) → IsOneOfFour (two_of a b)
unfolding plain_on_literals
one_of_four a b (inl p) (inl q) = subst (λ (r : Results). IsOneOfFour r) (sym (ap₂ two_of p q)) (inl (refl, refl))
one_of_four a b (inr p) (inl q) = subst (λ (r : Results). IsOneOfFour r) (sym (ap₂ two_of p q)) (inr (inl (refl, refl)))
one_of_four a b (inl p) (inr q) = subst (λ (r : Results). IsOneOfFour r) (sym (ap₂ two_of p q)) (inr (inr (inl (refl, refl))))
one_of_four a b (inr p) (inr q) = subst (λ (r : Results). IsOneOfFour r) (sym (ap₂ two_of p q)) (inr (inr (inr (refl, refl))))

-- The same by all cuts of a run.
two_by_cuts : (cuts : Cuts) → IsOneOfFour (results_from_bare (run_with two_request two_inputs) cuts two_inputs.features)
unfolding cases
two_by_cuts cuts =
    let own = (first_or uncut_feature cuts.features).cases in
    let a = first_or nowhere own in
    let b = first_or nowhere (without_first own) in
    let run = run_with two_request two_inputs in
    let same = scenarios_cut two_inputs.library cuts (codes "two.feature") (codes "two") 1 (map (member_by (is_chosen [] [])) (cases two_feature)) in
    subst (λ (results : Results). IsOneOfFour results) (sym (same ∙ two_by_rows a b)) (one_of_four (reached_row run two_section a case_A) (reached_row run two_section b case_B) (A_by_cut a) (B_by_cut b))

-- A run of that request writes the plain report and ends with 1, or writes where memory was refused and ends with 4. Whatever is refused, the second scenario never passes.
pub two_judged : IsLibrary None default_entries → InputsAreUnique → (old new : Device) (answer : ℕ) → JudgedReport two_request nothing_yet old new answer →
    IsReturned old new answer two_report 1 ⊎ (IsReturned old new answer memory_in_A_report 4 ⊎ (IsReturned old new answer memory_in_B_report 4 ⊎ IsReturned old new answer memory_in_both_report 4))
two_judged spelled unique old new answer judged =
    let (cuts, reported) = judged_ends two_request two_inputs refl (two_inputs_read spelled) unique old new answer judged in
    let results : Results = results_from_bare (run_with two_request two_inputs) cuts two_inputs.features in
    elim (two_by_cuts cuts) [
      | inl is ↦ inl (returned old new answer results two_report 1 reported is)
      | inr (inl is) ↦ inr (inl (returned old new answer results memory_in_A_report 4 reported is))
      | inr (inr (inl is)) ↦ inr (inr (inl (returned old new answer results memory_in_B_report 4 reported is)))
      | inr (inr (inr is)) ↦ inr (inr (inr (returned old new answer results memory_in_both_report 4 reported is)))
    ]
