-- Steps with their tables and doc strings, run over line after line, the same for both kinds of file.
use Rattle.gk_gherkin.proofs.Common.{◌≡◌, ℕ, ◌-◌, true, false, List, [], ◌∷◌, ◌++◌, length, map, Option, Some, None, Result, Ok, refl, sym, subst, ap, ◌∙◌, append_assoc, append-nil, AllByRecursion, FenceLine, Class, RowLine, StepLine, Fence, ReadFault, StepType, Outside, InText, Readers, State, opening, run, run_by, step, whole_text, with_line, is_empty, last_type, on_block, on_steps, step_from, steps_take_text, steps_with_text, takes_text_under, type_of_last, with_block, LineValue, Lines, class, step_keyword, step_text, closes, content_of, doc_string, AreTypedAfter, type_after, BlockValue, Empty, RowValue, StepValue, Table, Text, texts, AreOfOneWidth, IsBlock, IsDocString, IsIgnored, IsRow, IsStep, Many, Next, Skips, more, none, skip, skip_none, ◌>>=◌}
use Rattle.gk_gherkin.proofs.LastItems.{last_or-push, with_last-push}
use Rattle.gk_gherkin.proofs.ReadingRuns.{no_ok, run_over}
use Rattle.gk_gherkin.proofs.ReadingSound.{joined, joined_push, joined_text}
use Rattle.gk_gherkin.proofs.ReadingStates.{IsNoFence, ignored_no_fence, no_fence, step_closes, step_opens, step_plain, step_stays}
use Rattle.gk_gherkin.proofs.RowStops.{row_takes}

-- what a step's line says
same_step : (st : StepValue) (before : StepType) (l : LineValue) → st.keyword ≡ step_keyword l → st.step_type ≡ type_after before st.keyword → st.text ≡ step_text l → st.line ≡ l.line → step_from before l ≡ with_block st Empty
same_step st before l k ty t n = rw (← k, ← ty, ← t, ← n) refl

-- rows
abbrev cells_in : List RowValue → List (List (List ℕ))
cells_in rows = map (λ (row : RowValue). row.cells) rows

abbrev pub AllAre : ℕ → List RowValue → Type 0
AllAre width rows = AllByRecursion (λ (row : RowValue). length row.cells ≡ width) rows

-- steps and the last of them
takes_row : (steps : List StepValue) (st : StepValue) (l : LineValue) (next : BlockValue) → on_block st.block l ≡ Ok next → on_steps (steps ++ st ∷ []) l RowLine ≡ Ok (steps ++ with_block st next ∷ [])
unfolding on_steps
takes_row steps st l next e = rw (last_or-push None steps st, e, with_last-push (with_block st next) steps st) refl

text_below : (steps : List StepValue) (st : StepValue) (text : List ℕ) → steps_with_text (steps ++ st ∷ []) text ≡ steps ++ with_block st (Text text) ∷ []
text_below steps st text = rw (last_or-push None steps st, with_last-push (with_block st (Text text)) steps st) refl

takes_step : (steps : List StepValue) (l : LineValue) → on_steps steps l StepLine ≡ Ok (steps ++ step_from (last_type steps) l ∷ [])
unfolding on_steps
takes_step steps l = refl

-- step: what a line makes of a state; at: after some steps; quoted: in a doc string under the last of them.
module _ {S : Type 0} (step : S → LineValue → Result S ReadFault) (at : List StepValue → S) (quoted : List StepValue → Fence → ℕ → ℕ → Option (List ℕ) → S)
    (quiet : (steps : List StepValue) (l : LineValue) → IsIgnored l → step (at steps) l ≡ Ok (at steps))
    (on_taken : (steps next : List StepValue) (l : LineValue) (c : Class) → class l ≡ c → on_steps steps l c ≡ Ok next → step (at steps) l ≡ Ok (at next))
    (on_fence_under : (steps : List StepValue) (st : StepValue) (l : LineValue) (fence : Fence) → class l ≡ FenceLine fence → st.block ≡ Empty → step (at (steps ++ st ∷ [])) l ≡ Ok (quoted (steps ++ st ∷ []) fence l.column l.line None))
    (on_closing : (steps : List StepValue) (fence : Fence) (column n : ℕ) (texts : Option (List ℕ)) (l : LineValue) → closes fence l ≡ true → step (quoted steps fence column n texts) l ≡ Ok (at (steps_with_text steps (whole_text texts))))
    (on_content : (steps : List StepValue) (fence : Fence) (column n : ℕ) (texts : Option (List ℕ)) (l : LineValue) → closes fence l ≡ false → step (quoted steps fence column n texts) l ≡ Ok (quoted steps fence column n (Some (with_line texts (content_of fence (column - 1) l)))))
  where
    run_skips : (steps : List StepValue) {ls rest : Lines} → Skips IsIgnored ls rest → run_by step (at steps) ls ≡ run_by step (at steps) rest
    run_skips steps skip_none = refl
    run_skips steps (skip {l = l} {ls = ls} n sk) = run_over step (at steps) (at steps) l ls (quiet steps l n) ∙ run_skips steps sk

    run_next : {ls rest : Lines} (steps : List StepValue) (t : S) (l : LineValue) → Next IsIgnored ls l rest → step (at steps) l ≡ Ok t → run_by step (at steps) ls ≡ run_by step t rest
    run_next {ls} {rest} steps t l n e = run_skips steps n ∙ run_over step (at steps) t l rest e

    abbrev Under : List StepValue → StepValue → BlockValue → S
    Under steps st block = at (steps ++ with_block st block ∷ [])

    run_row : {ls rest : Lines} (steps : List StepValue) (st : StepValue) (block next : BlockValue) (row : RowValue) → (i : IsRow ls row rest) → on_block block i.line ≡ Ok next → run_by step (Under steps st block) ls ≡ run_by step (Under steps st next) rest
    run_row steps st block next row i e =
        run_next (steps ++ with_block st block ∷ []) (Under steps st next) i.line i.next (on_taken (steps ++ with_block st block ∷ []) (steps ++ with_block st next ∷ []) i.line RowLine i.is (takes_row steps (with_block st block) i.line next e))

    run_rows : {ls rest : Lines} {rows : List RowValue} (steps : List StepValue) (st : StepValue) (first : List (List ℕ)) (others : List (List (List ℕ))) → Many IsRow ls rows rest → AllAre (length first) rows
        → run_by step (Under steps st (Table (first ∷ others))) ls ≡ run_by step (Under steps st (Table (first ∷ others ++ cells_in rows))) rest
    unfolding on_block
    run_rows {rest = rest} steps st first others none w = ap (λ (cells : List (List (List ℕ))). run_by step (Under steps st (Table (first ∷ cells))) rest) (sym (append-nil others))
    run_rows {rest = rest} steps st first others (more {x = x} {xs = xs} p many) w =
        run_row steps st (Table (first ∷ others)) (Table (first ∷ others ++ x.cells ∷ [])) x p (ap (λ (r : Result (List (List ℕ)) ReadFault). r >>= λ cells. let b : Result BlockValue ReadFault = Ok (Table (first ∷ others ++ cells ∷ [])) in b) (row_takes (Some (length first)) p.line x.cells p.cells w.0))
        ∙ run_rows steps st first (others ++ x.cells ∷ []) many w.1
        ∙ ap (λ (cells : List (List (List ℕ))). run_by step (Under steps st (Table (first ∷ cells))) rest) (append_assoc others (x.cells ∷ []) (cells_in xs))

    run_table : {ls rest : Lines} {rows : List RowValue} (steps : List StepValue) (st : StepValue) → Many IsRow ls rows rest → AreOfOneWidth rows
        → run_by step (Under steps st Empty) ls ≡ run_by step (Under steps st (Table (cells_in rows))) rest
    unfolding on_block
    run_table steps st none w = absurd w
    run_table steps st (more {x = x} {xs = xs} p many) w =
        run_row steps st Empty (Table (x.cells ∷ [])) x p (ap (λ (r : Result (List (List ℕ)) ReadFault). r >>= λ cells. let b : Result BlockValue ReadFault = Ok (Table (cells ∷ [])) in b) (row_takes None p.line x.cells p.cells tt))
        ∙ run_rows steps st x.cells [] many w

    run_quote : (steps : List StepValue) (fence : Fence) (column n : ℕ) (texts : List (List ℕ)) (content : Lines) (closing : LineValue) (rest : Lines) → AllByRecursion (λ line. closes fence line ≡ false) content → closes fence closing ≡ true
        → run_by step (quoted steps fence column n (joined texts)) (content ++ closing ∷ rest) ≡ run_by step (at (steps_with_text steps (whole_text (joined (texts ++ map (content_of fence (column - 1)) content))))) rest
    run_quote steps fence column n texts [] closing rest a c =
        run_over step (quoted steps fence column n (joined texts)) (at (steps_with_text steps (whole_text (joined texts)))) closing rest (on_closing steps fence column n (joined texts) closing c)
        ∙ ap (λ (texts : List (List ℕ)). run_by step (at (steps_with_text steps (whole_text (joined texts)))) rest) (sym (append-nil texts))
    run_quote steps fence column n texts (l ∷ content) closing rest a c =
        let text = content_of fence (column - 1) l in
        run_over step (quoted steps fence column n (joined texts)) (quoted steps fence column n (Some (with_line (joined texts) (content_of fence (column - 1) l)))) l (content ++ closing ∷ rest) (on_content steps fence column n (joined texts) l a.0)
        ∙ ap (λ (texts : Option (List ℕ)). run_by step (quoted steps fence column n texts) (content ++ closing ∷ rest)) (joined_push texts text)
        ∙ run_quote steps fence column n (texts ++ text ∷ []) content closing rest a.1 c
        ∙ ap (λ (texts : List (List ℕ)). run_by step (at (steps_with_text steps (whole_text (joined texts)))) rest) (append_assoc texts (text ∷ []) (map (content_of fence (column - 1)) content))

    run_doc_string : {ls rest : Lines} {text : List ℕ} (steps : List StepValue) (st : StepValue) → IsDocString ls text rest → run_by step (Under steps st Empty) ls ≡ run_by step (Under steps st (Text text)) rest
    unfolding doc_string
    run_doc_string {rest = rest} steps st i =
        let o = i.opening in
        let empty : StepValue = with_block st Empty in
        let under : List StepValue = steps ++ empty ∷ [] in
        run_next under (quoted under i.fence o.column o.line None) o i.next (on_fence_under steps empty o i.fence i.is refl)
        ∙ run_quote under i.fence o.column o.line [] i.content i.closing rest i.inside i.closed
        ∙ ap (λ (text : List ℕ). run_by step (at (steps_with_text under text)) rest) (joined_text (map (content_of i.fence (o.column - 1)) i.content) ∙ sym i.says)
        ∙ ap (λ (steps : List StepValue). run_by step (at steps) rest) (text_below steps empty _)

    run_block : (ls rest : Lines) (steps : List StepValue) (st : StepValue) (block : BlockValue) → IsBlock ls block rest → run_by step (Under steps st Empty) ls ≡ run_by step (Under steps st block) rest
    run_block ls rest steps st Empty i = ap (run_by step (Under steps st Empty)) i
    run_block ls rest steps st (Text text) i = run_doc_string steps st i
    run_block ls rest steps st (Table cells) i = run_table steps st i.1.lines i.1.width ∙ ap (λ (cells : List (List (List ℕ))). run_by step (Under steps st (Table cells)) rest) (sym i.2)

    run_step : {ls rest : Lines} (steps : List StepValue) (st : StepValue) → IsStep ls st rest → st.step_type ≡ type_after (last_type steps) st.keyword → run_by step (at steps) ls ≡ run_by step (at (steps ++ st ∷ [])) rest
    run_step {ls} {rest} steps st i ty =
        let l = i.line.line in
        let taken : on_steps steps l StepLine ≡ Ok (steps ++ with_block st Empty ∷ []) = takes_step steps l ∙ ap (λ (st : StepValue). let r : Result (List StepValue) ReadFault = Ok (steps ++ st ∷ []) in r) (same_step st (last_type steps) l i.line.keyword ty i.line.text i.line.number) in
        run_next steps (Under steps st Empty) l i.line.next (on_taken steps (steps ++ with_block st Empty ∷ []) l StepLine i.line.is taken)
        ∙ run_block i.after_line rest steps st st.block i.block

    pub run_all_steps : {ls rest : Lines} {sts : List StepValue} (steps : List StepValue) → Many IsStep ls sts rest → AreTypedAfter (last_type steps) sts → run_by step (at steps) ls ≡ run_by step (at (steps ++ sts)) rest
    run_all_steps {rest = rest} steps none ty = ap (λ (steps : List StepValue). run_by step (at steps) rest) (sym (append-nil steps))
    run_all_steps {rest = rest} steps (more {x = st} {xs = sts} p many) ty =
        run_step steps st p ty.0
        ∙ run_all_steps (steps ++ st ∷ []) many (subst (λ (o : Option StepValue). AreTypedAfter (type_of_last o) sts) (sym (last_or-push None steps st)) ty.1)
        ∙ ap (λ (steps : List StepValue). run_by step (at steps) rest) (append_assoc steps (st ∷ []) sts)

-- The same over the lines of a kind of file. at: the reader with some steps.
module _ {P A : Type 0} (readers : Readers P A) (at : List StepValue → P)
    (quiet : (steps : List StepValue) (l : LineValue) → IsIgnored l → readers.after_line (at steps) l ≡ Ok (at steps))
    (on_taken : (steps next : List StepValue) (l : LineValue) (c : Class) → class l ≡ c → on_steps steps l c ≡ Ok next → readers.after_line (at steps) l ≡ Ok (at next))
    (takes : (steps : List StepValue) → readers.takes_text (at steps) ≡ steps_take_text steps)
    (with_text : (steps : List StepValue) (text : List ℕ) → readers.after_text (at steps) text ≡ at (steps_with_text steps text))
  where
    plain : (steps next : List StepValue) (l : LineValue) (c : Class) → class l ≡ c → IsNoFence c → readers.after_line (at steps) l ≡ Ok (at next) → step readers (Outside (at steps)) l ≡ Ok (Outside (at next))
    plain steps next l c is n e = step_plain readers (at steps) (at next) l (ap (opening (readers.takes_text (at steps))) is ∙ no_fence (readers.takes_text (at steps)) c n) e

    ignored_line : (steps : List StepValue) (l : LineValue) → IsIgnored l → step readers (Outside (at steps)) l ≡ Ok (Outside (at steps))
    ignored_line steps l i = plain steps steps l (class l) refl (ignored_no_fence (class l) i) (quiet steps l i)

    no_fence_taken : (steps next : List StepValue) (l : LineValue) (c : Class) → on_steps steps l c ≡ Ok next → IsNoFence c
    unfolding on_steps
    no_fence_taken steps next l (FenceLine fence) e = no_ok e
    no_fence_taken steps next l _ e = tt

    taken_line : (steps next : List StepValue) (l : LineValue) (c : Class) → class l ≡ c → on_steps steps l c ≡ Ok next → step readers (Outside (at steps)) l ≡ Ok (Outside (at next))
    taken_line steps next l c is e = plain steps next l c is (no_fence_taken steps next l c e) (on_taken steps next l c is e)

    abbrev within : List StepValue → Fence → ℕ → ℕ → Option (List ℕ) → State P
    within steps fence column n texts = InText (at steps) (record { fence = fence; column = column; line = n; content = texts })

    fence_line : (steps : List StepValue) (st : StepValue) (l : LineValue) (fence : Fence) → class l ≡ FenceLine fence → st.block ≡ Empty → step readers (Outside (at (steps ++ st ∷ []))) l ≡ Ok (within (steps ++ st ∷ []) fence l.column l.line None)
    fence_line steps st l fence is empty = step_opens readers (at (steps ++ st ∷ [])) l fence (takes (steps ++ st ∷ []) ∙ ap takes_text_under (last_or-push None steps st) ∙ ap is_empty empty) is

    closing_line : (steps : List StepValue) (fence : Fence) (column n : ℕ) (texts : Option (List ℕ)) (l : LineValue) → closes fence l ≡ true → step readers (within steps fence column n texts) l ≡ Ok (Outside (at (steps_with_text steps (whole_text texts))))
    closing_line steps fence column n texts l c =
        step_closes readers (at steps) (record { fence = fence; column = column; line = n; content = texts }) l c
        ∙ ap (λ (reader : P). let r : Result (State P) ReadFault = Ok (Outside reader) in r) (with_text steps (whole_text texts))

    content_line : (steps : List StepValue) (fence : Fence) (column n : ℕ) (texts : Option (List ℕ)) (l : LineValue) → closes fence l ≡ false → step readers (within steps fence column n texts) l ≡ Ok (within steps fence column n (Some (with_line texts (content_of fence (column - 1) l))))
    content_line steps fence column n texts l c = step_stays readers (at steps) (record { fence = fence; column = column; line = n; content = texts }) l c

    pub run_steps : {ls rest : Lines} {sts : List StepValue} (steps : List StepValue) → Many IsStep ls sts rest → AreTypedAfter (last_type steps) sts → run readers (Outside (at steps)) ls ≡ run readers (Outside (at (steps ++ sts))) rest
    run_steps steps many types = run_all_steps (step readers) (λ steps. Outside (at steps)) within ignored_line taken_line fence_line closing_line content_line steps many types
