use Rattle.gk_run.proofs.Common.{Global, List, String, Vec, ℕ, ◌∙◌, ◌≡◌, ap, map, subst, sym, StepValue, step_value, texts, case_value, state_of, section_now, Status, around_status, verdict_status, worse, CaseRow, step_row, run_value, after_lists, before_events, entered, Happens, IsClosing, NotifiesEvents}
use Rattle.gk_run.specs.declared.ending.Ending.TheVariants as endings
use Rattle.gk_run.specs.declared.section.Level.TheVariants as levels
use Rattle.gk_run.proofs.SectionLemmas.{case_messages}
use Rattle.gk_run.proofs.WalkLemmas.{AllSteps}
use Rattle.gk_run.proofs.running.case_in.Goals as goal

pub returns-clause-notified : goal.returns-clause-notified
returns-clause-notified g c =
    let hears = g.O.Observer.hears in
    let run = run_value c.args.run.now in
    let section = state_of c.args.sandbox.now.now in
    let case = case_value c.args.case in
    let opened = c.open_section-opened.result in
    let b = opened.before in
    let e = c.run_steps-stepped.result.ending in
    let closed = c.end_section-closed.result in
    let start = section_now c.open_section-opened.new.sandbox opened.cleanups in
    let mid = section_now c.run_steps-stepped.new.sandbox c.run_steps-stepped.new.cleanups in
    let rows = map step_row c.run_steps-stepped.result.results.items in
    let first = c.args.observer.now in
    let here = c.open_section-opened.new.observer in
    let there = c.run_steps-stepped.new.observer in
    let last = c.end_section-closed.new.observer in
    let tags : texts c.as_slice.result.now ≡ case.own_tags = ap texts c.as_slice.ensures.value ∙ ap (λ (tags : Vec (String Global) Global). texts tags.items) c.deref.ensures in
    let opens = c.open_section-opened.ensures in
    let begins = opens.0.begins in
    let Begins : List (List ℕ) → Type 0 = λ ts. Happens hears endings.Passed (before_events run.library run.hooks levels.Scenario ts section) (entered section) start b first here in
    let before0 : Begins (texts c.as_slice.result.now) = record { messages = opens.0.first; heard = opens.1; so_far = begins.so_far; ends = begins.ends; leaves = begins.leaves } in
    let before : Begins case.own_tags = subst Begins tags before0 in
    let ran = c.run_steps-stepped.ensures.stepped in
    let Ran : List StepValue → Type 0 = λ ss. AllSteps hears run.library b start mid ss e rows here there in
    let steps0 : Ran (map step_value c.in_ok-steps.steps.list.items) = record { goes = ran.goes; rows_are = ran.rows } in
    let steps : Ran case.steps = subst Ran (ap (λ ss. map step_value ss.items) c.in_ok-steps.ensures) steps0 in
    let closing = subst (λ (ts : List (List ℕ)). IsClosing hears run.library levels.Scenario (after_lists run.hooks levels.Scenario ts) e mid closed.ending closed.outcomes.items there last) tags c.end_section-closed.ensures.closed in
    let row : Status → Status → CaseRow = λ v a. record { keyword = case.keyword; name = case.name; line = case.line; status = v; around = a; cleanups = closed.outcomes.items; steps = rows } in
    subst (λ (v : Status). NotifiesEvents hears run section case (row v c.around_status.result) first last) (sym (c.verdict_status.ensures ∙ ap verdict_status c.worse.ensures))
    (subst (λ (a : Status). NotifiesEvents hears run section case (row (verdict_status (worse e closed.ending)) a) first last) (sym (c.around_status.ensures ∙ ap around_status c.worse-2.ensures))
    (case_messages hears run section case b e closed.ending start mid closed.outcomes.items rows first here there last before steps.goes steps.rows_are closing))
