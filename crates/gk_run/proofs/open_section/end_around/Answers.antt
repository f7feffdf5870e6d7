use Rattle.gk_run.proofs.Common.{◌∙◌, ap, subst, sym, texts, Status, around_status, section_now, run_value, EndsAround}
use Rattle.gk_run.proofs.SectionLemmas.{section_ends}
use Rattle.gk_run.proofs.open_section.end_around.Goals as goal

pub returns-clause-around : goal.returns-clause-around
returns-clause-around g c =
    let run = run_value c.args.run.now in
    let tags = texts c.args.section.now.tags.now in
    let level = c.args.section.now.level in
    let before = c.args.opened.before in
    let now = section_now c.args.sandbox.now c.args.opened.cleanups in
    let closed = c.end_section-closed.result in
    let first = c.args.observer.now in
    let last = c.end_section-closed.new.observer in
    subst (λ (x : Status). EndsAround g.O.Observer.hears run level tags before now x first last) (sym (c.around_status.ensures ∙ ap around_status c.worse.ensures))
    (section_ends g.O.Observer.hears run level tags before now closed.ending closed.outcomes.items first last c.end_section-closed.ensures.closed)
