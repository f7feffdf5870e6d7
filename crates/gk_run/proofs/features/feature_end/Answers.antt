use Rattle.gk_run.proofs.Common.{◌∙◌, Bool, inl, refl, subst, sym, texts, State, state_of, groups_in, inside_value, members_in, inside_by, Inside, NotifiesInPart, section_now, IsRan, Ran, notifies, IsBegun, section_of, section_state, run_value}
use Rattle.gk_run.specs.declared.section.Level.TheVariants as levels
use Rattle.gk_run.proofs.FeaturesLemmas.{feature_unbegun, unbegun_in_part}
use Rattle.gk_run.proofs.PartLemmas.{at_err, section_in_part}
use Rattle.gk_run.proofs.SectionLemmas.{begun_still, passed_state, ready}
use Rattle.gk_run.proofs.NotifiedLemmas.{section_ran}
use Rattle.gk_run.proofs.features.feature_end.Goals as goal

pub returns-then-not-is_begun-clause-end : goal.returns-then-not-is_begun-clause-end
returns-then-not-is_begun-clause-end g c =
    let content = c.args.content in
    feature_unbegun (notifies g.O.Observer.hears g.O.Observer.ends) (run_value c.args.run.now) (state_of c.args.sandbox.now.now) c.args.is_begun (texts c.args.tags.now) (members_in content.own.items) (groups_in content.rules.list.items) (inside_value c.in_ok-inside.inside)
    c.args.observer.now c.run_inside.new.observer c.if-not-is_begun.true c.in_ok-inside.ensures.inside

pub returns-in-Ok-clause-end : goal.returns-in-Ok-clause-end
returns-in-Ok-clause-end g c = λ there open_at.
    let hears = g.O.Observer.hears in
    let ends = g.O.Observer.ends in
    let run = run_value c.args.run.now in
    let outside = state_of c.args.sandbox.now.now in
    let tags = texts c.args.tags.now in
    let opened = c.open_section-opened.result in
    let now = c.open_section-opened.new.sandbox in
    let opens = c.open_section-opened.ensures in
    let first = opens.0.first in
    let own = members_in c.args.content.own.items in
    let groups = groups_in c.args.content.rules.list.items in
    let around = c.end_around.result in
    let before = opened.before in
    let begins : IsBegun run levels.Feature tags there first before (section_now now opened.cleanups) = subst (λ (x : State). IsBegun run levels.Feature tags x first before (section_now now opened.cleanups)) (open_at c.if-not-is_begun.false) opens.0.begins in
    let known = c.in-Ok.ensures.inside (section_state run levels.Feature tags there) (λ o. passed_state run levels.Feature tags there first before (section_now now opened.cleanups) begins (sym c.has_passed.ensures ∙ o)) in
    let ended = c.end_around.ensures.around in
    let end = ended.2.whole there first (begun_still run levels.Feature tags there first before opened.cleanups now c.run_inside-2.new.sandbox c.in-Ok.ensures.same.contents begins) in
    let passes = c.has_passed.ensures ∙ ready run levels.Feature tags there around first ended.0 before begins.ends end in
    let inside : State → Bool → Ran Inside = λ section is_ready. inside_by run section is_ready known.0 known.1 own groups in
    let end_inside = inside_value c.in-Ok.inside in (
      end.cut,
      known.0,
      known.1,
      subst (λ (b : Bool). IsRan (notifies hears ends) (section_of run levels.Feature tags there b end.cut inside) (record { around = around; inside = end_inside }) c.args.observer.now c.end_around.new.observer) (sym c.if-not-is_begun.false)
          (section_ran hears ends run levels.Feature tags there c.has_passed.result around first ended.0 end_inside inside c.args.observer.now c.open_section-opened.new.observer c.run_inside-2.new.observer c.end_around.new.observer end passes opens.1 known.2 ended.1),
    )

pub returns-in_err-inside-clause-stopped : goal.returns-in_err-inside-clause-stopped
returns-in_err-inside-clause-stopped g c =
    let content = c.args.content in
    at_err _ (unbegun_in_part (notifies g.O.Observer.hears g.O.Observer.ends) (run_value c.args.run.now) (state_of c.args.sandbox.now.now) c.args.is_begun (texts c.args.tags.now) (members_in content.own.items) (groups_in content.rules.list.items)
    c.args.observer.now c.run_inside.new.observer c.if-not-is_begun.true c.in_err-inside.ensures.stopped)

pub returns-in-Err-clause-stopped : goal.returns-in-Err-clause-stopped
returns-in-Err-clause-stopped g c = λ there open_at.
    let run = run_value c.args.run.now in
    let tags = texts c.args.tags.now in
    let opened = c.open_section-opened.result in
    let now = section_now c.open_section-opened.new.sandbox opened.cleanups in
    let opens = c.open_section-opened.ensures in
    let first = opens.0.first in
    let own = members_in c.args.content.own.items in
    let groups = groups_in c.args.content.rules.list.items in
    let before = opened.before in
    let begin = c.args.observer.now in
    let last = c.run_inside-2.new.observer in
    let begins : IsBegun run levels.Feature tags there first before now = subst (λ (x : State). IsBegun run levels.Feature tags x first before now) (open_at c.if-not-is_begun.false) opens.0.begins in
    let known = c.in-Err.ensures.stopped (section_state run levels.Feature tags there) (λ o. passed_state run levels.Feature tags there first before now begins (sym c.has_passed.ensures ∙ o)) in
    let inside : State → Bool → Ran Inside = λ section is_ready. inside_by run section is_ready known.0 known.1 own groups in
    let part = section_in_part g.O.Observer.hears g.O.Observer.ends run levels.Feature tags there first before now c.has_passed.result inside begin c.open_section-opened.new.observer last (inl refl) begins c.has_passed.ensures opens.1 known.2 in (
      part.0,
      known.0,
      known.1,
      subst (λ (b : Bool). NotifiesInPart (notifies g.O.Observer.hears g.O.Observer.ends) (section_of run levels.Feature tags there b part.0 inside) begin last) (sym c.if-not-is_begun.false) part.1,
    )
