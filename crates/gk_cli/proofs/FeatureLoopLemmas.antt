-- Features of which a reporter is notified one after another, and what is written of them.
use Rattle.gk_cli.proofs.Common.{FoldsTo, ◌≡◌, ℕ, Bool, true, List, [], ◌∷◌, ◌++◌, inl, inr, refl, ap, sym, subst, ◌∙◌, append_assoc, arith, append-nil, Contents, State, state_of, SandboxValue, IsSame, LibraryValue, Status, FeatureRow, Results, Run, NotifiesEnd, ChosenValue, dry_features_of, AreDryFeatures, FeatureCuts, features_of, Judged, BeginsJudged, result_of, Event, AreFeatures, FinishedRunsAreJudged, NotifiesFinish, IsKept, IsStarted, SuiteValue, opens_features, summary_of, RunFault, Memory, CountingReporter, Device, IsWritten, IsStopped, results_with, StopsAdding, stays, NotifiesOfFeatures, NotifiesOfFirst, IsRunWritten, IsRunWrittenUpTo, WritesNext, StopsAtNext, IsNextResult, IsDryResult, AreWritten, AreWrittenUpTo, IsClosed, StopsClosing, stays_begun, common_steps}
use Rattle.gk_run.specs.declared.section.Level.TheVariants as levels
use Rattle.gk_cli.proofs.ReportRunLemmas.{written_more, stopped_after, stopped_here}
use Rattle.gk_cli.proofs.SuiteLemmas.{judged_by, begun_still}

-- However the features that come next are cut, all have cuts with these rows before the others.
abbrev pub RowsSoFar : Run → State → Bool → List ChosenValue → List FeatureRow → Bool → Type 0
RowsSoFar run first first_open done rows is_open =
    (outside : State) → (first_open ≡ true → first ≡ outside) → (left : List ChosenValue) (cuts : List FeatureCuts) →
    (whole : List FeatureCuts) × (rows ++ result_of (features_of run outside is_open cuts left) ≡ result_of (features_of run outside first_open whole (done ++ left)))

pub rows_first : (run : Run) (first : State) (first_open : Bool) → RowsSoFar run first first_open [] [] first_open
rows_first run first first_open outside opens left cuts = (cuts, refl)

pub rows_next : (run : Run) (first : State) (first_open is_open next : Bool) (f : ChosenValue) → (is_open ≡ true → first_open ≡ true) → (done : List ChosenValue) (rows : List FeatureRow) (row : FeatureRow) →
    IsNextResult run first is_open next f row → RowsSoFar run first first_open done rows is_open → RowsSoFar run first first_open (done ++ f ∷ []) (rows ++ row ∷ []) next
rows_next run first first_open is_open next f earlier done rows row one held outside opens left cuts =
    let here = one.0 outside (λ o. opens (earlier o)) in
    let whole = held outside opens (f ∷ left) (here.0 ∷ cuts) in (
      whole.0,
      append_assoc rows (row ∷ []) (result_of (features_of run outside next cuts left))
          ∙ ap (λ b. rows ++ row ∷ result_of (features_of run outside b cuts left)) one.1
          ∙ ap (λ (x : FeatureRow). rows ++ x ∷ result_of (features_of run outside (stays run is_open x) cuts left)) here.1
          ∙ whole.1
          ∙ ap (λ fs. result_of (features_of run outside first_open whole.0 fs)) (sym (append_assoc done (f ∷ []) left)),
    )

pub rows_last : (run : Run) (first : State) (first_open : Bool) (done : List ChosenValue) (rows : List FeatureRow) (is_open : Bool) →
    RowsSoFar run first first_open done rows is_open → AreFeatures run first first_open done rows
rows_last run first first_open done rows is_open held outside opens =
    let whole = held outside opens [] [] in
    (whole.0, sym (append-nil rows) ∙ whole.1 ∙ ap (λ fs. result_of (features_of run outside first_open whole.0 fs)) (append-nil done))

-- The same of a dry run.
abbrev pub DryRowsSoFar : LibraryValue → List ChosenValue → List FeatureRow → Bool → Type 0
DryRowsSoFar library done rows is_open =
    (left : List ChosenValue) (cuts : List FeatureCuts) → (whole : List FeatureCuts) × (rows ++ dry_features_of library cuts left ≡ dry_features_of library whole (done ++ left))

pub dry_rows_first : (library : LibraryValue) (is_open : Bool) → DryRowsSoFar library [] [] is_open
dry_rows_first library is_open left cuts = (cuts, refl)

pub dry_rows_next : (library : LibraryValue) (is_open next : Bool) (f : ChosenValue) (done : List ChosenValue) (rows : List FeatureRow) (row : FeatureRow) →
    IsDryResult library f row → DryRowsSoFar library done rows is_open → DryRowsSoFar library (done ++ f ∷ []) (rows ++ row ∷ []) next
dry_rows_next library is_open next f done rows row one held left cuts =
    let whole = held (f ∷ left) (one.0 ∷ cuts) in (
      whole.0,
      append_assoc rows (row ∷ []) (dry_features_of library cuts left)
          ∙ ap (λ (x : FeatureRow). rows ++ x ∷ dry_features_of library cuts left) one.1
          ∙ whole.1
          ∙ ap (dry_features_of library whole.0) (sym (append_assoc done (f ∷ []) left)),
    )

pub dry_rows_last : (library : LibraryValue) (done : List ChosenValue) (rows : List FeatureRow) (is_open : Bool) → DryRowsSoFar library done rows is_open → AreDryFeatures library done rows
dry_rows_last library done rows is_open held =
    let whole = held [] [] in
    (whole.0, sym (append-nil rows) ∙ whole.1 ∙ ap (dry_features_of library whole.0) (append-nil done))

-- ---- one feature after another

-- What a reporter was notified of so far goes on with the features that are left.
abbrev pub NotifiedSoFar : {S : Type 0} → (Bool → ChosenValue → FeatureRow → List ℕ → S → S → Type 0) → (Bool → FeatureRow → Bool) → Bool → S → List ChosenValue → List FeatureRow → List ℕ → Bool → S → Type 0
NotifiedSoFar {S} notifies next first_open first done rows text is_open notified =
    (left : List ChosenValue) (more : List FeatureRow) (later : List ℕ) (end : S) →
    NotifiesOfFeatures notifies next is_open left more later notified end → NotifiesOfFeatures notifies next first_open (done ++ left) (rows ++ more) (text ++ later) first end

notified_next : {S : Type 0} (notifies : Bool → ChosenValue → FeatureRow → List ℕ → S → S → Type 0) (next : Bool → FeatureRow → Bool) (first_open : Bool) (first : S) (done : List ChosenValue) (rows : List FeatureRow) (text : List ℕ) (is_open : Bool) (notified : S)
    (f : ChosenValue) (row : FeatureRow) (this : List ℕ) (here : S) → notifies is_open f row this notified here →
    NotifiedSoFar notifies next first_open first done rows text is_open notified → NotifiedSoFar notifies next first_open first (done ++ f ∷ []) (rows ++ row ∷ []) (text ++ this) (next is_open row) here
notified_next notifies next first_open first done rows text is_open notified f row this here one held left more later end h = grind (arith, common_steps)

notified_last : {S : Type 0} (notifies : Bool → ChosenValue → FeatureRow → List ℕ → S → S → Type 0) (next : Bool → FeatureRow → Bool) (first_open : Bool) (first : S) (done : List ChosenValue) (rows : List FeatureRow) (text : List ℕ) (is_open : Bool) (notified : S) →
    NotifiedSoFar notifies next first_open first done rows text is_open notified → NotifiesOfFeatures notifies next first_open done rows text first notified
notified_last notifies next first_open first done rows text is_open notified held =
    subst (λ fs. NotifiesOfFeatures notifies next first_open fs rows text first notified) (append-nil done)
    (subst (λ rs. NotifiesOfFeatures notifies next first_open (done ++ []) rs text first notified) (append-nil rows)
    (subst (λ ts. NotifiesOfFeatures notifies next first_open (done ++ []) (rows ++ []) ts first notified) (append-nil text) (held [] [] [] notified (refl, refl))))

-- A reporter was notified of the features that aren't left, and the text of them was written.
pub record Progress {R : Type 0} (notifies : Bool → ChosenValue → FeatureRow → List ℕ → R → R → Type 0) (next : Bool → FeatureRow → Bool) (Rows : List ChosenValue → List FeatureRow → Bool → Type 0) (first_open : Bool) (all : List ChosenValue) (old : Device) (so_far : CountingReporter R) (left : List ChosenValue) (is_open : Bool) (there : Device) (grown : CountingReporter R) : Type 0 where
  pub done : List ChosenValue
  pub rows : List FeatureRow
  pub text : List ℕ
  pub whole : all ≡ done ++ left
  pub are : Rows done rows is_open
  pub notified : NotifiedSoFar notifies next first_open so_far.reporter done rows text is_open grown.reporter
  pub written : IsWritten old there text
  pub counted : so_far.summary ≡ summary_of [] → grown.summary ≡ summary_of rows

pub progress_first : {R : Type 0} (notifies : Bool → ChosenValue → FeatureRow → List ℕ → R → R → Type 0) (next : Bool → FeatureRow → Bool) (Rows : List ChosenValue → List FeatureRow → Bool → Type 0) (first_open : Bool) (all : List ChosenValue) (old : Device) (so_far : CountingReporter R) →
    Rows [] [] first_open → Progress notifies next Rows first_open all old so_far all first_open old so_far
progress_first notifies next Rows first_open all old so_far none = grind (arith, common_steps)

pub progress_next : {R : Type 0} (notifies : Bool → ChosenValue → FeatureRow → List ℕ → R → R → Type 0) (next : Bool → FeatureRow → Bool) (Rows : List ChosenValue → List FeatureRow → Bool → Type 0) (Result : FeatureRow → Type 0) (first_open : Bool) (all : List ChosenValue) (old : Device) (so_far : CountingReporter R)
    (f : ChosenValue) (left : List ChosenValue) (is_open still : Bool) (there : Device) (h : CountingReporter R) (new : Device) (grown : CountingReporter R) →
    ((done : List ChosenValue) (rows : List FeatureRow) (row : FeatureRow) → Result row → Rows done rows is_open → Rows (done ++ f ∷ []) (rows ++ row ∷ []) still) → ((row : FeatureRow) → Result row → still ≡ next is_open row) →
    WritesNext notifies Result is_open f there h new grown → Progress notifies next Rows first_open all old so_far (f ∷ left) is_open there h → Progress notifies next Rows first_open all old so_far left still new grown
progress_next notifies next Rows Result first_open all old so_far f left is_open still there h new grown more opens one was = record {
  done = was.done ++ f ∷ [];
  rows = was.rows ++ one.row ∷ [];
  text = was.text ++ one.text;
  whole = was.whole ∙ sym (append_assoc was.done (f ∷ []) left);
  are = more was.done was.rows one.row one.result was.are;
  notified = subst (λ b. NotifiedSoFar notifies next first_open so_far.reporter (was.done ++ f ∷ []) (was.rows ++ one.row ∷ []) (was.text ++ one.text) b grown.reporter) (sym (opens one.row one.result))
      (notified_next notifies next first_open so_far.reporter was.done was.rows was.text is_open h.reporter f one.row one.text grown.reporter one.notified was.notified);
  written = written_more old there new was.text one.text was.written one.written;
  counted = λ e. one.counted was.rows (was.counted e);
}

pub progress_last : {R : Type 0} (notifies : Bool → ChosenValue → FeatureRow → List ℕ → R → R → Type 0) (next : Bool → FeatureRow → Bool) (Rows : List ChosenValue → List FeatureRow → Bool → Type 0) (Give : List ChosenValue → List FeatureRow → Type 0) (first_open : Bool) (all : List ChosenValue) (old : Device) (so_far : CountingReporter R)
    (left : List ChosenValue) (is_open : Bool) (there : Device) (grown : CountingReporter R) → left ≡ [] → ((done : List ChosenValue) (rows : List FeatureRow) → Rows done rows is_open → Give done rows) →
    Progress notifies next Rows first_open all old so_far left is_open there grown → AreWritten notifies next Give first_open all old so_far there grown
progress_last notifies next Rows Give first_open all old so_far left is_open there grown none gives was =
    let done : was.done ≡ all = sym (was.whole ∙ ap (λ (fs : List ChosenValue). was.done ++ fs) none ∙ append-nil was.done) in
    record {
      rows = was.rows;
      results = subst (λ fs. Give fs was.rows) done (gives was.done was.rows was.are);
      text = was.text;
      notified = subst (λ fs. NotifiesOfFeatures notifies next first_open fs was.rows was.text so_far.reporter grown.reporter) done
          (notified_last notifies next first_open so_far.reporter was.done was.rows was.text is_open grown.reporter was.notified);
      written = was.written;
      counted = was.counted;
    }

pub progress_stopped : {R : Type 0} (notifies : Bool → ChosenValue → FeatureRow → List ℕ → R → R → Type 0) (next : Bool → FeatureRow → Bool) (Rows : List ChosenValue → List FeatureRow → Bool → Type 0) (Give : List ChosenValue → List FeatureRow → Type 0) (Result : FeatureRow → Type 0) (first_open : Bool) (all : List ChosenValue) (old : Device) (so_far : CountingReporter R)
    (f : ChosenValue) (left : List ChosenValue) (is_open : Bool) (there : Device) (h : CountingReporter R) (new : Device) (fault : RunFault) →
    ((done : List ChosenValue) (rows : List FeatureRow) → Rows done rows is_open → Give done rows) → ((done : List ChosenValue) (rows : List FeatureRow) (row : FeatureRow) → Result row → Rows done rows is_open → Give (done ++ f ∷ []) (rows ++ row ∷ [])) →
    StopsAtNext notifies Result is_open f there h new fault → Progress notifies next Rows first_open all old so_far (f ∷ left) is_open there h → AreWrittenUpTo notifies next Give first_open all old so_far new fault
progress_stopped notifies next Rows Give Result first_open all old so_far f left is_open there h new fault gives gives_more (inl refused) was = record {
  done = was.done;
  others = f ∷ left;
  whole = was.whole;
  rows = was.rows;
  results = gives was.done was.rows was.are;
  text = was.text;
  last = h.reporter;
  notified = notified_last notifies next first_open so_far.reporter was.done was.rows was.text is_open h.reporter was.notified;
  stopped = subst (λ w. IsStopped old new was.text w) (sym refused.1) (subst (λ d. IsStopped old d was.text Memory) refused.0 (stopped_here old there was.text was.written));
}
progress_stopped notifies next Rows Give Result first_open all old so_far f left is_open there h new fault gives gives_more (inr ended) was =
    let row = ended.0 in
    let text = ended.1 in
    record {
      done = was.done ++ f ∷ [];
      others = left;
      whole = was.whole ∙ sym (append_assoc was.done (f ∷ []) left);
      rows = was.rows ++ row ∷ [];
      results = gives_more was.done was.rows row ended.3 was.are;
      text = was.text ++ text;
      last = ended.2;
      notified = notified_last notifies next first_open so_far.reporter (was.done ++ f ∷ []) (was.rows ++ row ∷ []) (was.text ++ text) (next is_open row) ended.2
          (notified_next notifies next first_open so_far.reporter was.done was.rows was.text is_open h.reporter f row text ended.2 ended.4 was.notified);
      stopped = stopped_after old there new was.text text fault was.written ended.5;
    }

-- The text of the next feature wasn't written whole.
pub next_stopped : {R : Type 0} (adds : R → FeatureRow → List ℕ → R → Type 0) (notifies : Bool → ChosenValue → FeatureRow → List ℕ → R → R → Type 0) (Result : FeatureRow → Type 0) (is_open : Bool) (f : ChosenValue) (row : FeatureRow) (heard : R) (so_far : CountingReporter R) (there new : Device) (fault : RunFault) →
    Result row → ((text : List ℕ) (notified : R) → adds heard row text notified → notifies is_open f row text so_far.reporter notified) → StopsAdding adds row heard there new fault → StopsAtNext notifies Result is_open f there so_far new fault
next_stopped adds notifies Result is_open f row heard so_far there new fault result notified (inl refused) = inl refused
next_stopped adds notifies Result is_open f row heard so_far there new fault result notified (inr (text, after, added, stopped)) = inr (row, text, after, result, notified text after added, stopped)

-- How far a run has come.
abbrev pub RunProgress : {R : Type 0} → (Bool → ChosenValue → FeatureRow → List ℕ → R → R → Type 0) → Run → State → Bool → List ChosenValue → Device → CountingReporter R → List ChosenValue → Bool → Device → CountingReporter R → Type 0
RunProgress notifies run first first_open = Progress notifies (stays run) (RowsSoFar run first first_open) first_open

-- The same of a dry run.
abbrev pub DryRunProgress : {R : Type 0} → (Bool → ChosenValue → FeatureRow → List ℕ → R → R → Type 0) → LibraryValue → List ChosenValue → Device → CountingReporter R → List ChosenValue → Device → CountingReporter R → Type 0
DryRunProgress notifies library all old so_far left there grown = Progress notifies stays_begun (DryRowsSoFar library) true all old so_far left true there grown

-- ---- the run around its features

-- A reporter was notified of the beginning of a run and of its features.
pub first_notified : {S : Type 0} (hears : S → Event → S → Type 0) (notifies : Run → State → Bool → ChosenValue → FeatureRow → List ℕ → S → S → Type 0) (run : Run) (old started : SandboxValue) (suite : SuiteValue) (first begun : S) (features : List ChosenValue) (rows : List FeatureRow) (text : List ℕ) (notified : S) →
    (start : IsStarted run old started suite) → FoldsTo hears first start.opened.first begun →
    NotifiesOfFeatures (notifies run (state_of started.now)) (stays run) (opens_features suite) features rows text begun notified → NotifiesOfFirst hears notifies run (state_of old.now) start.opened.first features rows text first notified
first_notified hears notifies run old started suite first begun features rows text notified start opening notified_so = grind (arith, common_steps)

-- What is known of a finished run of whose features a reporter was notified.
pub record IsRunNotified {S : Type 0} (hears : S → Event → S → Type 0) (notifies : Run → State → Bool → ChosenValue → FeatureRow → List ℕ → S → S → Type 0) (run : Run) (contents : Contents) (opening : List Event) (features : List ChosenValue) (rows : List FeatureRow) (around : Status) (parts : List ℕ) (first notified last : S) : Type 0 where
  pub judged : Judged run contents features (results_with rows around)
  pub begins : NotifiesOfFirst hears notifies run (state_of contents) opening features rows parts first notified
  pub finish : NotifiesEnd hears run levels.Run [] (state_of contents) around opening notified last

pub run_notified : {S : Type 0} (hears : S → Event → S → Type 0) (notifies : Run → State → Bool → ChosenValue → FeatureRow → List ℕ → S → S → Type 0) → FinishedRunsAreJudged → (run : Run) (old started later : SandboxValue) (suite left : SuiteValue) (first begun notified last : S) (features : List ChosenValue) (rows : List FeatureRow) (around : Status) (parts : List ℕ) →
    (start : IsStarted run old started suite) → FoldsTo hears first start.opened.first begun → AreFeatures run (state_of started.now) (opens_features suite) features rows →
    NotifiesOfFeatures (notifies run (state_of started.now)) (stays run) (opens_features suite) features rows parts begun notified → IsKept suite left → IsSame started later → NotifiesFinish hears run left later around notified last →
    IsRunNotified hears notifies run old.now start.opened.first features rows around parts first notified last
run_notified hears notifies law run old started later suite left first begun notified last features rows around parts start opening are notified_so kept same finish = record {
  judged = judged_by law run old started later suite left around features rows start kept same are (finish.0, finish.2);
  begins = first_notified hears notifies run old started suite first begun features rows parts notified start opening notified_so;
  finish = (finish.0, finish.1, finish.2.whole (state_of old.now) start.opened.first (begun_still run old started later suite left start kept same));
}

-- All of a run was written.
pub whole_notified : {S : Type 0} (hears : S → Event → S → Type 0) (notifies : Run → State → Bool → ChosenValue → FeatureRow → List ℕ → S → S → Type 0) (closes : S → Results → List ℕ → Type 0) (run : Run) (contents : Contents) (opening : List Event) (features : List ChosenValue) (rows : List FeatureRow) (around : Status) (parts : List ℕ) (first notified : S) (end : CountingReporter S) (old there new : Device) (answer : ℕ) →
    end.summary ≡ summary_of rows → IsRunNotified hears notifies run contents opening features rows around parts first notified end.reporter → IsWritten old there parts → IsClosed closes end around there new answer → IsRunWritten hears notifies closes run contents features first old new answer
whole_notified hears notifies closes run contents opening features rows around parts first notified end old there new answer counted so written closed =
    let done = closed rows counted in
    record {
      results = results_with rows around;
      judged = so.judged;
      text = parts ++ done.0;
      notifies_all = record { opening = opening; parts = parts; notified = notified; begins = so.begins; last = end.reporter; finish = so.finish; tail = done.0; closed = done.1; whole = refl };
      written = written_more old there new parts done.0 written done.2;
      returned = done.3;
    }

-- The last text of a run wasn't written whole.
pub whole_stopped : {S : Type 0} (hears : S → Event → S → Type 0) (notifies : Run → State → Bool → ChosenValue → FeatureRow → List ℕ → S → S → Type 0) (closes : S → Results → List ℕ → Type 0) (run : Run) (contents : Contents) (opening : List Event) (features : List ChosenValue) (rows : List FeatureRow) (around : Status) (parts : List ℕ) (first notified : S) (end : CountingReporter S) (old there new : Device) (fault : RunFault) →
    end.summary ≡ summary_of rows → IsRunNotified hears notifies run contents opening features rows around parts first notified end.reporter → IsWritten old there parts → StopsClosing closes end around there new fault → IsRunWrittenUpTo hears notifies closes run contents features first old new fault
whole_stopped hears notifies closes run contents opening features rows around parts first notified end old there new fault counted so written (inl refused) = (
  parts,
  inl
      (record {
        done = features;
        others = [];
        whole = sym (append-nil features);
        rows = rows;
        judged = (results_with rows around, [], so.judged, sym (append-nil rows));
        opening = opening;
        notified = notified;
        begins = so.begins;
      }),
  subst (λ w. IsStopped old new parts w) (sym refused.1) (subst (λ d. IsStopped old d parts Memory) refused.0 (stopped_here old there parts written)),
)
whole_stopped hears notifies closes run contents opening features rows around parts first notified end old there new fault counted so written (inr stops) =
    let done = stops rows counted in (
      parts ++ done.0,
      inr (results_with rows around, so.judged, record { opening = opening; parts = parts; notified = notified; begins = so.begins; last = end.reporter; finish = so.finish; tail = done.0; closed = done.1; whole = refl }),
      stopped_after old there new parts done.0 fault written done.2,
    )

-- Not all features of a run were written.
pub part_notified : {S : Type 0} (hears : S → Event → S → Type 0) (notifies : Run → State → Bool → ChosenValue → FeatureRow → List ℕ → S → S → Type 0) (closes : S → Results → List ℕ → Type 0) (run : Run) (old started : SandboxValue) (suite : SuiteValue) (first : S) (features : List ChosenValue) (before : Device) (so_far : CountingReporter S) (new : Device) (fault : RunFault) →
    (start : IsStarted run old started suite) → FoldsTo hears first start.opened.first so_far.reporter →
    ((done others : List ChosenValue) (rows : List FeatureRow) → AreFeatures run (state_of started.now) (opens_features suite) done rows → BeginsJudged run old.now (done ++ others) rows) →
    AreWrittenUpTo (notifies run (state_of started.now)) (stays run) (AreFeatures run (state_of started.now) (opens_features suite)) (opens_features suite) features before so_far new fault → IsRunWrittenUpTo hears notifies closes run old.now features first before new fault
part_notified hears notifies closes run old started suite first features before so_far new fault start opening begins up_to = (
  up_to.text,
  inl
      (record {
        done = up_to.done;
        others = up_to.others;
        whole = up_to.whole;
        rows = up_to.rows;
        judged = subst (λ fs. BeginsJudged run old.now fs up_to.rows) (sym up_to.whole) (begins up_to.done up_to.others up_to.rows up_to.results);
        opening = start.opened.first;
        notified = up_to.last;
        begins = first_notified hears notifies run old started suite first so_far.reporter up_to.done up_to.rows up_to.text up_to.last start opening up_to.notified;
      }),
  up_to.stopped,
)
