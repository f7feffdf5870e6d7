-- Where a run stops, and what the lines before say, the same for both kinds of file.
use Rattle.gk_gherkin.proofs.Common.{◌≡◌, ℕ, Bool, true, false, List, [], ◌∷◌, ◌++◌, Option, Some, None, Result, Ok, Err, refl, ap, sym, subst, ◌∙◌, append_assoc, append-nil, AllByRecursion, FenceLine, Fence, ReadFault, LineValue, Lines, class, closes, BeginsSome, BeginsNone, EndsInDocString, ◌>>=◌, DocStringValue, Readers, State, Outside, InText, opening, opened, longer, whole_text, outside_text, in_text, step, run, run_by, need_here, need_later, NeedsIn, NeedSome}
use Rattle.gk_gherkin.proofs.ReadingRuns.{ok_same, no_ok, run-append, run_nil, halted_run, one_more_line, no_err}
use Rattle.gk_gherkin.proofs.ReadingSound.{All-push}
use Rattle.gk_gherkin.proofs.ReadingStates.{opens_by, outside_ok, step_at, step_refused, step_plain, step_opens, step_closes, step_stays}

-- Where memory is needed from the first reader on, a line there needs it, or one after lines that stay there.
module _ {P A : Type 0} (readers : Readers P A) (Needed : Lines → Type 0)
    (here : (l : LineValue) (ls : Lines) → readers.needs readers.first l → Needed (l ∷ ls))
    (later : (l : LineValue) (ls : Lines) (next : P) → readers.after_line readers.first l ≡ Ok next → (readers.first ≡ next → Needed ls) → Needed (l ∷ ls))
    (no_text : readers.takes_text readers.first ≡ false)
  where
    none_opens : (l : LineValue) → opening (readers.takes_text readers.first) (class l) ≡ None
    none_opens l = ap (λ (b : Bool). opening b (class l)) no_text

    needs_from : (s : State P) (ls : Lines) → Outside readers.first ≡ s → NeedSome readers s ls → Needed ls
    needs_from s [] same h = elim h [ ]
    needs_from s (l ∷ ls) same (need_here h) = here l ls (subst (λ (s : State P). NeedsIn readers s l) (sym same) h)
    needs_from s (l ∷ ls) same (need_later {next = t} e rest) =
        let taken : outside_text readers None readers.first l ≡ Ok t = sym (step_at readers readers.first l None (none_opens l)) ∙ subst (λ (s : State P). step readers s l ≡ Ok t) (sym same) e in
        let r = outside_ok (readers.after_line readers.first l) t taken in
        later l ls r.0 r.1 (λ again. needs_from t ls (ap (λ (reader : P). let s : State P = Outside reader in s) again ∙ r.2) rest)

    pub needed : (ls : Lines) → NeedSome readers (Outside readers.first) ls → Needed ls
    needed ls h = needs_from (Outside readers.first) ls refl h

-- What is remembered of the lines before a state: of a reader what Marked says, and of a doc string its fence.
module _ {P A : Type 0} (readers : Readers P A) where
  pub record IsInText (reader : P) (text : DocStringValue) (done : Lines) : Type 0 where
    pub before : Lines
    pub opening : LineValue
    pub content : Lines
    pub whole : done ≡ before ++ opening ∷ content
    pub number : opening.line ≡ text.line
    pub is : class opening ≡ FenceLine text.fence
    pub inside : AllByRecursion (λ line. closes text.fence line ≡ false) content
    pub reached : run readers (Outside readers.first) before ≡ Ok (Outside reader)
    pub takes : readers.takes_text reader ≡ true

  module _ (Marked : P → Lines → Type 0)
      (next_marked : (reader next : P) (l : LineValue) (done : Lines) → Marked reader done → readers.after_line reader l ≡ Ok next → Marked next (done ++ l ∷ []))
      (text_marked : (reader : P) (text : List ℕ) (done : Lines) → readers.takes_text reader ≡ true → Marked (readers.after_text reader text) done)
    where
      abbrev pub Marks : State P → Lines → Type 0
      Marks (Outside reader) done = Marked reader done
      Marks (InText reader text) done = IsInText reader text done

      at_marks : (o : Option Fence) (reader : P) (l : LineValue) (t : State P) (done : Lines) → opening (readers.takes_text reader) (class l) ≡ o → run readers (Outside readers.first) done ≡ Ok (Outside reader) → Marked reader done → outside_text readers o reader l ≡ Ok t → Marks t (done ++ l ∷ [])
      at_marks (Some fence) reader l t done w r m e =
          let k = opens_by (readers.takes_text reader) (class l) fence w in
          let made : IsInText reader (opened fence l) (done ++ l ∷ []) = record { before = done; opening = l; content = []; whole = refl; number = refl; is = k.1; inside = tt; reached = r; takes = k.0 } in
          subst (λ t. Marks t (done ++ l ∷ [])) (ok_same e) made
      at_marks None reader l t done w r m e =
          let k = outside_ok (readers.after_line reader l) t e in
          subst (λ t. Marks t (done ++ l ∷ [])) k.2 (next_marked reader k.0 l done m k.1)

      text_marks : (b : Bool) (reader : P) (text : DocStringValue) (l : LineValue) (done : Lines) → closes text.fence l ≡ b → IsInText reader text done → Marks (in_text readers b reader text l) (done ++ l ∷ [])
      text_marks true reader text l done c m = text_marked reader (whole_text text.content) (done ++ l ∷ []) m.takes
      text_marks false reader text l done c m = record { before = m.before; opening = m.opening; content = m.content ++ l ∷ []; whole = ap (λ (ls : Lines). ls ++ l ∷ []) m.whole ∙ append_assoc m.before (m.opening ∷ m.content) (l ∷ []); number = m.number; is = m.is; inside = All-push (λ line. closes text.fence line ≡ false) m.content l m.inside c; reached = m.reached; takes = m.takes }

      marks_step : (s : State P) (l : LineValue) (t : State P) (done : Lines) → run readers (Outside readers.first) done ≡ Ok s → Marks s done → step readers s l ≡ Ok t → Marks t (done ++ l ∷ [])
      unfolding step
      marks_step (Outside reader) l t done r m e = at_marks (opening (readers.takes_text reader) (class l)) reader l t done refl r m e
      marks_step (InText reader text) l t done r m e = subst (λ t. Marks t (done ++ l ∷ [])) (ok_same e) (text_marks (closes text.fence l) reader text l done refl m)

      marks_by : (r : Result (State P) ReadFault) (ls : Lines) (t : State P) (done : Lines) → ((u : State P) → r ≡ Ok u → run readers u ls ≡ Ok t → Marks t (done ++ ls)) → (r >>= λ u. run readers u ls) ≡ Ok t → Marks t (done ++ ls)
      marks_by (Ok u) ls t done again e = again u refl e
      marks_by (Err x) ls t done again e = no_ok e

      marks_from : (s : State P) (ls : Lines) (t : State P) (done : Lines) → run readers (Outside readers.first) done ≡ Ok s → Marks s done → run readers s ls ≡ Ok t → Marks t (done ++ ls)
      unfolding run_by
      marks_from s [] t done r m e = subst (λ t. Marks t (done ++ [])) (ok_same e) (subst (Marks s) (sym (append-nil done)) m)
      marks_from s (l ∷ ls) t done r m e =
          subst (Marks t) (append_assoc done (l ∷ []) ls)
          (marks_by (step readers s l) ls t (done ++ l ∷ []) (λ u h k. marks_from u ls t (done ++ l ∷ []) (one_more_line (step readers) (Outside readers.first) done s u l r h) (marks_step s l u done r m h) k) e)

      pub marks : (ls : Lines) (t : State P) → Marked readers.first [] → run readers (Outside readers.first) ls ≡ Ok t → Marks t ls
      marks ls t m e = marks_from (Outside readers.first) ls t [] (run_nil (step readers) (Outside readers.first)) m e

-- What has a reading is run over, up to a reader.
module _ {P A : Type 0} (readers : Readers P A) (Readable : Lines → Type 0) {C : Type 0} (kind : LineValue → C)
    (runs : (ls : Lines) → Readable ls → (reader : P) × (run readers (Outside readers.first) ls ≡ Ok (Outside reader)))
  where
    -- after a line that halts, nothing is readable
    pub halted : (before : Lines) (l : LineValue) (s : State P) (e : ReadFault) → run readers (Outside readers.first) before ≡ Ok s → step readers s l ≡ Err e → BeginsNone Readable kind (before ++ l ∷ [])
    halted before l s e r h rest readable =
        let k = runs ((before ++ l ∷ []) ++ rest) readable in
        no_err (sym k.1 ∙ halted_run (step readers) (Outside readers.first) s before l e rest r h)

    at_or_in : {p reader : P} {text : DocStringValue} {Q : Type 0} → ◌≡◌ {A = Result (State P) ReadFault} (Ok (Outside p)) (Ok (InText reader text)) → Q
    at_or_in e = cc

    -- in a doc string nothing is readable
    pub not_in_text : (ls : Lines) (reader : P) (text : DocStringValue) → run readers (Outside readers.first) ls ≡ Ok (InText reader text) → Readable ls → ⊥
    not_in_text ls reader text r readable = at_or_in (sym (runs ls readable).1 ∙ r)

    -- Where a doc string may stand, and after one, the lines are readable.
    module _ (before_text : (ls : Lines) (reader : P) → run readers (Outside readers.first) ls ≡ Ok (Outside reader) → readers.takes_text reader ≡ true → Readable ls)
        (after_text : (ls : Lines) (reader : P) (text : List ℕ) → run readers (Outside readers.first) ls ≡ Ok (Outside (readers.after_text reader text)) → readers.takes_text reader ≡ true → Readable ls)
      where
        pub closed : (ls : Lines) (reader : P) (text : DocStringValue) (closing : LineValue) → run readers (Outside readers.first) ls ≡ Ok (InText reader text) → readers.takes_text reader ≡ true → closes text.fence closing ≡ true → Readable (ls ++ closing ∷ [])
        closed ls reader text closing r takes c =
            let next = readers.after_text reader (whole_text text.content) in
            after_text (ls ++ closing ∷ []) reader (whole_text text.content) (one_more_line (step readers) (Outside readers.first) ls (InText reader text) (Outside next) closing r (step_closes readers reader text closing c)) takes

        pub ends_in_text : (ls : Lines) (reader : P) (text : DocStringValue) → run readers (Outside readers.first) ls ≡ Ok (InText reader text) → IsInText readers reader text ls → EndsInDocString Readable kind ls text.line
        ends_in_text ls reader text r m =
            let o : run readers (Outside readers.first) (m.before ++ m.opening ∷ []) ≡ Ok (InText reader (opened text.fence m.opening)) = one_more_line (step readers) (Outside readers.first) m.before (Outside reader) (InText reader (opened text.fence m.opening)) m.opening m.reached (step_opens readers reader m.opening text.fence m.takes m.is) in
            record { before = m.before; fence = text.fence; opening = m.opening; content = m.content; whole = m.whole; number = m.number; is = m.is; inside = m.inside; fits = before_text m.before reader m.reached m.takes; opens = λ readable. not_in_text (m.before ++ m.opening ∷ []) reader (opened text.fence m.opening) o readable; unread = λ readable. not_in_text ls reader text r readable; closed = λ closing c. closed ls reader text closing r m.takes c }

    -- a doc string stays open over lines that don't close it
    pub stays : (mid : Lines) (reader : P) (text : DocStringValue) → AllByRecursion (λ line. closes text.fence line ≡ false) mid → (more : DocStringValue) × (run readers (InText reader text) mid ≡ Ok (InText reader more)) × (more.fence ≡ text.fence)
    unfolding run_by
    stays [] reader text a = (text, refl, refl)
    stays (l ∷ mid) reader text a =
        let k = stays mid reader (longer text l) a.1 in
        (k.0, ap (λ (r : Result (State P) ReadFault). r >>= λ t. run readers t mid) (step_stays readers reader text l a.0) ∙ k.1, k.2)

    -- A fence that is no more than a line of its reader leaves the lines readable.
    module _ (plain_fence : (ls : Lines) (reader next : P) (l : LineValue) (fence : Fence) → class l ≡ FenceLine fence → readers.after_line reader l ≡ Ok next → run readers (Outside readers.first) ls ≡ Ok (Outside next) → Readable ls) where
      fence_by : (b : Bool) (r : Result P ReadFault) (before : Lines) (reader : P) (l : LineValue) (fence : Fence) → readers.takes_text reader ≡ b → readers.after_line reader l ≡ r → run readers (Outside readers.first) before ≡ Ok (Outside reader) → class l ≡ FenceLine fence → (Readable (before ++ l ∷ []) → ⊥) → BeginsSome Readable kind (before ++ l ∷ []) → readers.takes_text reader ≡ true
      fence_by true r before reader l fence t w reached is unread some = t
      fence_by false (Ok next) before reader l fence t w reached is unread some =
          let plain = step_plain readers reader next l (ap (λ (b : Bool). opening b (class l)) t) w in
          absurd (unread (plain_fence (before ++ l ∷ []) reader next l fence is w (one_more_line (step readers) (Outside readers.first) before (Outside reader) (Outside next) l reached plain)))
      fence_by false (Err e) before reader l fence t w reached is unread some =
          let plain = step_refused readers reader l e (ap (λ (b : Bool). opening b (class l)) t) w in
          absurd (halted before l (Outside reader) e reached plain some.0 some.1)

      -- a fence that makes readable lines unreadable opens a doc string, and it is open until it is closed
      pub record IsOpen (ls : Lines) (fence : Fence) : Type 0 where
        pub reader : P
        pub text : DocStringValue
        pub takes : readers.takes_text reader ≡ true
        pub same : text.fence ≡ fence
        pub reached : run readers (Outside readers.first) ls ≡ Ok (InText reader text)

      pub still_open : (before mid : Lines) (opening : LineValue) (fence : Fence) → class opening ≡ FenceLine fence → Readable before → (Readable (before ++ opening ∷ []) → ⊥) → AllByRecursion (λ line. closes fence line ≡ false) mid → BeginsSome Readable kind (before ++ opening ∷ []) → IsOpen (before ++ opening ∷ mid) fence
      still_open before mid opening fence is readable unread inside some =
          let k = runs before readable in
          let takes = fence_by (readers.takes_text k.0) (readers.after_line k.0 opening) before k.0 opening fence refl refl k.1 is unread some in
          let o : run readers (Outside readers.first) (before ++ opening ∷ []) ≡ Ok (InText k.0 (opened fence opening)) = one_more_line (step readers) (Outside readers.first) before (Outside k.0) (InText k.0 (opened fence opening)) opening k.1 (step_opens readers k.0 opening fence takes is) in
          let s = stays mid k.0 (opened fence opening) inside in
          let cut : before ++ opening ∷ mid ≡ (before ++ opening ∷ []) ++ mid = sym (append_assoc before (opening ∷ []) mid) in
          record { reader = k.0; text = s.0; takes = takes; same = s.2; reached = ap (run readers (Outside readers.first)) cut ∙ run-append (step readers) (Outside readers.first) (before ++ opening ∷ []) mid ∙ ap (λ (r : Result (State P) ReadFault). r >>= λ t. run readers t mid) o ∙ s.1 }

      pub open_until : (before mid : Lines) (opening : LineValue) (fence : Fence) → class opening ≡ FenceLine fence → Readable before → (Readable (before ++ opening ∷ []) → ⊥) → AllByRecursion (λ line. closes fence line ≡ false) mid → Readable (before ++ opening ∷ mid) → ⊥
      open_until before mid opening fence is readable unread inside whole =
          let o = still_open before mid opening fence is readable unread inside (mid, subst Readable (sym (append_assoc before (opening ∷ []) mid)) whole) in
          not_in_text (before ++ opening ∷ mid) o.reader o.text o.reached whole
