-- Bytes that are written piece by piece, and the report that they make up.
use Rattle.gk_cli.proofs.Common.{FoldsTo, ◌≡◌, ◌≢◌, ◌+◌, ℕ, zero, suc, Bool, true, false, ◌&&◌, List, [], ◌∷◌, ◌++◌, length, take, refl, ap, ap₂, sym, subst, ◌∙◌, append_assoc, arith, inl, inr, Appends, Appends-trans, append-nil, length-append, Contents, State, state_of, LibraryValue, FeatureRow, Results, Run, ChosenValue, AreDryFeatures, has_passed, Event, ended_in, Judged, uncut, plain_results, DryRunsAreJudged, UnfinishedDryRunsAreJudged, Style, head, parts, parts_from, tail, report, is_empty, ReportsGrowByParts, status, summary_of, IsPiece, GrowingReport, RunFault, Read, Library, Hooks, Select, Write, Memory, one_more, IsReported, Device, IsUntouched, IsWritten, StopsBy, IsStopped, results_with, Stays, AddsPart, ClosesByTail, CountingReporter, stays, stays_begun, NotifiesOfFeature, NotifiesOfDryFeature, NotifiesOfFeatures, NotifiesOfFirst, IsWholeText, IsTextSoFar, IsRunWritten, IsRunWrittenUpTo, AreWritten, AreWrittenUpTo, IsClosed, StopsClosing, IsWhole, IsPrefix, common_steps}
use Rattle.gk_run.specs.declared.results.Status.TheVariants as statuses

-- A writer that isn't called is untouched.
pub untouched : (d : Device) → IsUntouched d d
untouched d = grind (arith, common_steps)

pub written_more : (a b d : Device) (xs ys : List ℕ) → IsWritten a b xs → IsWritten b d ys → IsWritten a d (xs ++ ys)
written_more a b d xs ys p q = grind (arith, common_steps)

take_after_at : (m n : ℕ) (xs ys : List ℕ) → m ≡ length xs + n → take m (xs ++ ys) ≡ xs ++ take n ys
take_after_at m n [] ys h = let e : m ≡ n = omega (arith, h) in ap (λ (k : ℕ). take k ys) e
take_after_at zero n (x ∷ xs) ys h = absurd (omega (arith, h))
take_after_at (suc m) n (x ∷ xs) ys h = ap (λ (zs : List ℕ). x ∷ zs) (take_after_at m n xs ys (omega (arith, h)))

take_after : (xs ys : List ℕ) (n : ℕ) → take (length xs + n) (xs ++ ys) ≡ xs ++ take n ys
take_after xs ys n = take_after_at (length xs + n) n xs ys refl

take_whole : (xs ys : List ℕ) → take (length xs) (xs ++ ys) ≡ xs
take_whole [] ys = refl
take_whole (x ∷ xs) ys = grind (arith, common_steps)

stops_after : (a b d : Device) (fault : RunFault) → b.failures ≡ a.failures → b.idle ≡ a.idle → StopsBy b d fault → StopsBy a d fault
stops_after a b d (Read input why) quiet busy h = h
stops_after a b d (Library why) quiet busy h = h
stops_after a b d (Hooks why) quiet busy h = h
stops_after a b d (Select input why) quiet busy h = h
stops_after a b d Write quiet busy h = (h.0 ∙ ap one_more quiet, h.1 ∙ ap one_more busy)
stops_after a b d Memory quiet busy h = (h.0 ∙ quiet, h.1 ∙ busy)

-- One piece was written, and the next wasn't whole.
pub stopped_after : (a b d : Device) (xs ys : List ℕ) (fault : RunFault) → IsWritten a b xs → IsStopped b d ys fault → IsStopped a d (xs ++ ys) fault
stopped_after a b d xs ys fault p q =
    let n = q.written.0 in
    record {
      written = (
        length xs + n,
        (let e = length-append xs ys in let le = q.written.1 in omega arith),
        subst (Appends a.bytes d.bytes) (sym (take_after xs ys n)) (Appends-trans a.bytes b.bytes d.bytes xs (take n ys) p.written q.written.2),
      );
      calls = let e = length-append xs ys in let f = p.calls in let s = q.calls in omega arith;
      why = stops_after a b d fault p.quiet p.busy q.why;
      unflushed = q.unflushed ∙ p.unflushed;
    }

-- One piece was written, and memory was refused for the next.
pub stopped_before : (a b : Device) (xs ys : List ℕ) → IsWritten a b xs → IsStopped a b (xs ++ ys) Memory
stopped_before a b xs ys p = record {
  written = (length xs, (let e = length-append xs ys in omega arith), subst (Appends a.bytes b.bytes) (sym (take_whole xs ys)) p.written);
  calls = let e = length-append xs ys in let f = p.calls in omega arith;
  why = (p.quiet, p.busy);
  unflushed = p.unflushed;
}

-- These bytes were written, and memory was refused.
pub stopped_here : (a b : Device) (xs : List ℕ) → IsWritten a b xs → IsStopped a b xs Memory
stopped_here a b xs p = subst (λ ys. IsStopped a b ys Memory) (append-nil xs) (stopped_before a b xs [] p)

-- Memory was refused, and nothing was written.
pub refused : (d : Device) (xs : List ℕ) → IsStopped d d xs Memory
refused d xs = grind (arith, common_steps)

-- What stops in a prefix stops in the whole.
pub stopped_within : (a b : Device) (xs ys whole : List ℕ) (fault : RunFault) → whole ≡ xs ++ ys → IsStopped a b xs fault → IsStopped a b whole fault
stopped_within a b xs ys whole fault is q = grind (arith, common_steps)

-- ---- the pieces of a part

-- Of a whole these bytes were written, and the rest is left. Nothing is printed yet where nothing was and none was written.
pub record IsWrittenUpTo (old new : Device) (first still : Bool) (whole left : List ℕ) : Type 0 where
  pub done : List ℕ
  pub written : IsWritten old new done
  pub split : done ++ left ≡ whole
  pub is_first : still ≡ (first && is_empty done)

both_true : (b : Bool) → b ≡ (b && true)
both_true true = refl
both_true false = refl

both_false : (b : Bool) → false ≡ (b && false)
both_false true = refl
both_false false = refl

not_empty : (xs ys : List ℕ) → ys ≢ [] → is_empty (xs ++ ys) ≡ false
not_empty [] [] some = absurd (some refl)
not_empty [] (y ∷ ys) some = refl
not_empty (x ∷ xs) ys some = refl

-- No piece was written.
pub none_written : (d : Device) (first : Bool) (whole left : List ℕ) → left ≡ whole → IsWrittenUpTo d d first first whole left
none_written d first whole left e = grind (arith, common_steps, both_true)

-- One piece more was written.
pub piece_written : (old mid new : Device) (first still : Bool) (whole left text later : List ℕ) → IsWrittenUpTo old mid first still whole left → IsPiece left text later → IsWritten mid new text →
    IsWrittenUpTo old new first false whole later
piece_written old mid new first still whole left text later w p q = record {
  done = w.done ++ text;
  written = written_more old mid new w.done text w.written q;
  split = append_assoc w.done text later ∙ ap (λ (xs : List ℕ). w.done ++ xs) (sym p.whole) ∙ w.split;
  is_first = both_false first ∙ ap (λ (b : Bool). first && b) (sym (not_empty w.done text p.some));
}

-- A piece wasn't written whole.
pub piece_stopped : (old mid new : Device) (first still : Bool) (whole left text later : List ℕ) (fault : RunFault) → IsWrittenUpTo old mid first still whole left → IsPiece left text later → IsStopped mid new text fault →
    IsStopped old new whole fault
piece_stopped old mid new first still whole left text later fault w p q =
    stopped_within old new (w.done ++ text) later whole fault (sym (append_assoc w.done text later ∙ ap (λ (xs : List ℕ). w.done ++ xs) (sym p.whole) ∙ w.split))
    (stopped_after old mid new w.done text fault w.written q)

-- Memory was refused for the next piece.
pub piece_refused : (old new : Device) (first still : Bool) (whole left : List ℕ) → IsWrittenUpTo old new first still whole left → IsStopped old new whole Memory
piece_refused old new first still whole left w = subst (λ xs. IsStopped old new xs Memory) w.split (stopped_before old new w.done left w.written)

-- ---- the parts of a report

-- What changes nothing changes nothing, however often.
none_changed : {T : Type 0} (R : GrowingReport → T → GrowingReport → Type 0) → ((g : GrowingReport) (x : T) (h : GrowingReport) → R g x h → h ≡ g) → (g : GrowingReport) (xs : List T) (h : GrowingReport) → FoldsTo R g xs h → h ≡ g
none_changed R same g [] h is = sym is
none_changed R same g (x ∷ xs) h notified = none_changed R same notified.0 xs h notified.2 ∙ same g x notified.0 notified.1

events_stay : (g : GrowingReport) (events : List Event) (h : GrowingReport) → FoldsTo Stays g events h → h ≡ g
events_stay = none_changed Stays (λ g x h is. is)

-- The text of a feature is its part.
pub adds_part : (run : Run) (now : State) (is_open : Bool) (f : ChosenValue) (row : FeatureRow) (text : List ℕ) (g h : GrowingReport) → NotifiesOfFeature Stays Stays Stays AddsPart run now is_open f row text g h → AddsPart g row text h
adds_part run now is_open f row text g h t = grind (arith, common_steps, none_changed)

-- The text of features is their parts.
pub adds_parts : (notified : Bool → ChosenValue → FeatureRow → List ℕ → GrowingReport → GrowingReport → Type 0) (next : Bool → FeatureRow → Bool) →
    ((b : Bool) (f : ChosenValue) (row : FeatureRow) (text : List ℕ) (g h : GrowingReport) → notified b f row text g h → AddsPart g row text h) →
    (b : Bool) (fs : List ChosenValue) (rows : List FeatureRow) (text : List ℕ) (g h : GrowingReport) → NotifiesOfFeatures notified next b fs rows text g h → (text ≡ parts_from g.style g.is_first rows) × (h.style ≡ g.style)
adds_parts notified next adds b [] [] text g h (none, same) = (none, ap (λ (g : GrowingReport). g.style) (sym same))
adds_parts notified next adds b [] (row ∷ rows) text g h none = absurd none
adds_parts notified next adds b (f ∷ fs) [] text g h none = absurd none
adds_parts notified next adds b (f ∷ fs) (row ∷ rows) text g h (this, later, between, is, one, more) = grind (arith, common_steps, adds_parts notified next adds (next b row) fs rows later between h more)

-- A report of whose parts none is written.
abbrev pub new_report : Style → GrowingReport
new_report style = record { style = style; is_first = true }

-- Its parts are all parts.
new_parts : (style : Style) (first last : GrowingReport) (rows : List FeatureRow) (text : List ℕ) → first ≡ new_report style → (text ≡ parts_from first.style first.is_first rows) × (last.style ≡ first.style) → (text ≡ parts style rows) × (last.style ≡ style)
new_parts style first last rows text same h = (h.0 ∙ ap (λ (g : GrowingReport). parts_from g.style g.is_first rows) same, h.1 ∙ ap (λ (g : GrowingReport). g.style) same)

first_parts : (run : Run) (outside : State) (opening : List Event) (features : List ChosenValue) (rows : List FeatureRow) (text : List ℕ) (new : GrowingReport) (style : Style) →
    NotifiesOfFirst Stays (NotifiesOfFeature Stays Stays Stays AddsPart) run outside opening features rows text (new_report style) new → (text ≡ parts style rows) × (new.style ≡ style)
first_parts run outside opening features rows text new style t =
    new_parts style t.begun new rows text (events_stay (new_report style) opening t.begun t.start)
    (adds_parts (NotifiesOfFeature Stays Stays Stays AddsPart run t.state) (stays run) (adds_part run t.state) (has_passed (ended_in opening)) features rows text t.begun new t.notified)

-- The whole text of a run is its report, without the head.
whole_text : (run : Run) (contents : Contents) (features : List ChosenValue) (results : Results) (text : List ℕ) (style : Style) →
    IsWholeText Stays (NotifiesOfFeature Stays Stays Stays AddsPart) ClosesByTail run contents features results (new_report style) text → head style ++ text ≡ report style results
whole_text run contents features results text style w =
    let begun = first_parts run (state_of contents) w.opening features results.features w.parts w.notified style w.begins in
    let last = events_stay w.notified w.finish.0 w.last w.finish.1 in
    let end = w.closed ∙ ap (λ (s : Style). tail s results.features results.around) (ap (λ (g : GrowingReport). g.style) last ∙ begun.1) in
    ap (λ (xs : List ℕ). head style ++ xs) (w.whole ∙ ap₂ (λ (xs ys : List ℕ). xs ++ ys) begun.0 end)

-- The text of a run so far begins the report of judged results.
text_so_far : ReportsGrowByParts → (run : Run) (contents : Contents) (features : List ChosenValue) (text : List ℕ) (style : Style) →
    IsTextSoFar Stays (NotifiesOfFeature Stays Stays Stays AddsPart) ClosesByTail run contents features (new_report style) text →
    (results : Results) × Judged run contents features results × ((rest : List ℕ) × (report style results ≡ (head style ++ text) ++ rest))
text_so_far law run contents features text style (inl part) =
    let begun = first_parts run (state_of contents) part.opening part.done part.rows text part.notified style part.begins in
    let some = part.judged in
    let rest = law.begins style some.0 part.rows some.1 some.3 in
    (some.0, some.2, (rest.0, rest.1 ∙ ap (λ (xs : List ℕ). (head style ++ xs) ++ rest.0) (sym begun.0)))
text_so_far law run contents features text style (inr (results, judged, whole)) =
    (results, judged, ([], sym (whole_text run contents features results text style whole) ∙ sym (append-nil (head style ++ text))))

-- ---- a report from its head on

reported : (style : Style) (old there new : Device) (text : List ℕ) (results : Results) (answer : ℕ) → IsWritten old there (head style) → IsWritten there new text → head style ++ text ≡ report style results → answer ≡ status results →
    IsReported style old new answer results
reported style old there new text results answer headed written is returned = grind (arith, common_steps, written_more)

-- The head wasn't written whole.
pub head_stopped : (run : Run) (contents : Contents) (features : List ChosenValue) (style : Style) (old new : Device) (fault : RunFault) → IsStopped old new (head style) fault → IsPrefix run contents features style old new fault
head_stopped run contents features style old new fault stopped =
    let results : Results = plain_results run contents features in
    (results, (uncut, refl), stopped_within old new (head style) (parts style results.features ++ tail style results.features results.around) (report style results) fault refl stopped)

-- A run that was written whole has its report written.
pub run_reported : (run : Run) (contents : Contents) (features : List ChosenValue) (style : Style) (old there new : Device) (answer : ℕ) → IsWritten old there (head style) →
    IsRunWritten Stays (NotifiesOfFeature Stays Stays Stays AddsPart) ClosesByTail run contents features (new_report style) there new answer → IsWhole run contents features style old new answer
run_reported run contents features style old there new answer headed notified =
    (notified.results, notified.judged, reported style old there new notified.text notified.results answer headed notified.written (whole_text run contents features notified.results notified.text style notified.notifies_all) notified.returned)

-- A run that wasn't written whole has a prefix written.
pub run_stopped : ReportsGrowByParts → (run : Run) (contents : Contents) (features : List ChosenValue) (style : Style) (old there new : Device) (fault : RunFault) → IsWritten old there (head style) →
    IsRunWrittenUpTo Stays (NotifiesOfFeature Stays Stays Stays AddsPart) ClosesByTail run contents features (new_report style) there new fault → IsPrefix run contents features style old new fault
run_stopped law run contents features style old there new fault headed (text, notified, stopped) =
    let so_far = text_so_far law run contents features text style notified in
    (so_far.0, so_far.1, stopped_within old new (head style ++ text) so_far.2.0 (report style so_far.0) fault so_far.2.1 (stopped_after old there new (head style) text fault headed stopped))

-- The parts of a dry run.
dry_parts : (library : LibraryValue) (features : List ChosenValue) (rows : List FeatureRow) (so_far : CountingReporter GrowingReport) (text : List ℕ) (last : GrowingReport) (style : Style) → so_far.reporter ≡ new_report style →
    NotifiesOfFeatures (NotifiesOfDryFeature Stays AddsPart) stays_begun true features rows text so_far.reporter last → (text ≡ parts style rows) × (last.style ≡ style)
dry_parts library features rows so_far text last style fresh notified =
    new_parts style so_far.reporter last rows text fresh (adds_parts (NotifiesOfDryFeature Stays AddsPart) stays_begun (λ b f row text g h t. subst (λ x. AddsPart x row text h) t.start t.added) true features rows text so_far.reporter last notified)

-- A dry run that was written whole has its report written.
pub dry_reported : DryRunsAreJudged → (run : Run) → run.dry_run ≡ true → (contents : Contents) (features : List ChosenValue) (so_far end : CountingReporter GrowingReport) (style : Style) (old headed there new : Device) (answer : ℕ) →
    so_far.reporter ≡ new_report style → so_far.summary ≡ summary_of [] → IsWritten old headed (head style) →
    AreWritten (NotifiesOfDryFeature Stays AddsPart) stays_begun (AreDryFeatures run.library) true features headed so_far there end → IsClosed ClosesByTail end statuses.Passed there new answer → IsWhole run contents features style old new answer
dry_reported judge run dry contents features so_far end style old headed there new answer fresh counts head_written notified closed =
    let last = closed notified.rows (notified.counted counts) in
    let is = dry_parts run.library features notified.rows so_far notified.text end.reporter style fresh notified.notified in
    let tail_is = last.1 ∙ ap (λ (s : Style). tail s notified.rows statuses.Passed) is.1 in
    let results = results_with notified.rows statuses.Passed in (
      results,
      judge run contents features notified.rows dry notified.results,
      reported style old headed new (notified.text ++ last.0) results answer head_written (written_more headed there new notified.text last.0 notified.written last.2)
          (ap (λ (xs : List ℕ). head style ++ xs) (ap₂ (λ (xs ys : List ℕ). xs ++ ys) is.0 tail_is)) last.3,
    )

-- Its last text wasn't written whole.
pub dry_close_stopped : DryRunsAreJudged → (run : Run) → run.dry_run ≡ true → (contents : Contents) (features : List ChosenValue) (so_far end : CountingReporter GrowingReport) (style : Style) (old headed there new : Device) (fault : RunFault) →
    so_far.reporter ≡ new_report style → so_far.summary ≡ summary_of [] → IsWritten old headed (head style) →
    AreWritten (NotifiesOfDryFeature Stays AddsPart) stays_begun (AreDryFeatures run.library) true features headed so_far there end → StopsClosing ClosesByTail end statuses.Passed there new fault → IsPrefix run contents features style old new fault
dry_close_stopped judge run dry contents features so_far end style old headed there new fault fresh counts head_written notified stops =
    let is = dry_parts run.library features notified.rows so_far notified.text end.reporter style fresh notified.notified in
    let results = results_with notified.rows statuses.Passed in
    let before = written_more old headed there (head style) notified.text head_written notified.written in
    let whole : (head style ++ parts style notified.rows) ++ tail style notified.rows statuses.Passed ≡ report style results = append_assoc (head style) (parts style notified.rows) (tail style notified.rows statuses.Passed) in
    let stopped : IsStopped old new (report style results) fault = elim stops [
      | inl refused ↦ subst (λ w. IsStopped old new (report style results) w) (sym refused.1)
          (subst (λ d. IsStopped old d (report style results) Memory) refused.0
          (stopped_within old there (head style ++ notified.text) (tail style notified.rows statuses.Passed) (report style results) Memory
          (sym whole ∙ ap (λ (xs : List ℕ). (head style ++ xs) ++ tail style notified.rows statuses.Passed) (sym is.0)) (stopped_here old there (head style ++ notified.text) before)))
      | inr most ↦
          let last = most notified.rows (notified.counted counts) in
          let tail_is = last.1 ∙ ap (λ (s : Style). tail s notified.rows statuses.Passed) is.1 in
          subst (λ (xs : List ℕ). IsStopped old new xs fault) (ap₂ (λ (xs ys : List ℕ). (head style ++ xs) ++ ys) is.0 tail_is ∙ whole) (stopped_after old there new (head style ++ notified.text) last.0 fault before last.2)
    ] in
    (results, judge run contents features notified.rows dry notified.results, stopped)

-- Not all of its features were written.
pub dry_run_stopped : ReportsGrowByParts → UnfinishedDryRunsAreJudged → (run : Run) → run.dry_run ≡ true → (contents : Contents) (features : List ChosenValue) (so_far : CountingReporter GrowingReport) (style : Style) (old headed new : Device) (fault : RunFault) →
    so_far.reporter ≡ new_report style → IsWritten old headed (head style) →
    AreWrittenUpTo (NotifiesOfDryFeature Stays AddsPart) stays_begun (AreDryFeatures run.library) true features headed so_far new fault → IsPrefix run contents features style old new fault
dry_run_stopped law begins run dry contents features so_far style old headed new fault fresh head_written part =
    let all = dry_parts run.library part.done part.rows so_far part.text part.last style fresh part.notified in
    let some = begins run contents part.done part.others part.rows dry part.results in
    let rest = law.begins style some.0 part.rows some.1 some.3 in
    let is = rest.1 ∙ ap (λ (xs : List ℕ). (head style ++ xs) ++ rest.0) (sym all.0) in (
      some.0,
      subst (λ fs. Judged run contents fs some.0) (sym part.whole) some.2,
      stopped_within old new (head style ++ part.text) rest.0 (report style some.0) fault is (stopped_after old headed new (head style) part.text fault head_written part.stopped),
    )
