use Rattle.gk_run.proofs.Common.{◌∙◌, ◌&&◌, Bool, List, ap, inr, length, refl, sym, texts, State, state_of, all_stay_open, cases_of, stays_open, group_value, section_now, Ran, notifies, section_state, run_value, CaseRow}
use Rattle.gk_run.specs.declared.section.Level.TheVariants as levels
use Rattle.gk_run.proofs.CasesLemmas.{begins_by}
use Rattle.gk_run.proofs.PartLemmas.{at_err, section_in_part}
use Rattle.gk_run.proofs.RulesLemmas.{passed_stays, rule_begun, rule_begun_in_part, rule_unbegun, rule_unbegun_in_part}
use Rattle.gk_run.proofs.SectionLemmas.{begun_still, passed_state, ready}
use Rattle.gk_run.proofs.NotifiedLemmas.{section_ran}
use Rattle.gk_run.proofs.rules.run_rule.Goals as goal

pub returns-then-not-both-clause-rule : goal.returns-then-not-both-clause-rule
returns-then-not-both-clause-rule g c =
    let run = run_value c.args.run.now in
    let begins = begins_by _ c.args.is_open _ c.args.rule.members.items _ c.both.ensures c.selects.ensures c.as_slice.ensures.value in
    let ran = c.in_ok-all_stay.ensures.cases in
    record {
      rows = ran.rows;
      added = ran.added;
      is = rule_unbegun (notifies g.O.Observer.hears g.O.Observer.ends) (length c.args.results.now.items) run (state_of c.args.sandbox.now.now) c.args.is_open c.both.result (group_value c.args.rule) ran.rows c.args.observer.now c.run_cases.new.observer begins c.if-not-both.true ran.are;
      stay = ran.stay ∙ ap (λ (b : Bool). b && all_stay_open run ran.rows) (sym (passed_stays run));
    }

pub returns-clause-rule : goal.returns-clause-rule
returns-clause-rule g c =
    let hears = g.O.Observer.hears in
    let ends = g.O.Observer.ends in
    let run = run_value c.args.run.now in
    let outside = state_of c.args.sandbox.now.now in
    let index = length c.args.results.now.items in
    let group = group_value c.args.rule in
    let tags = texts c.as_slice-2.result.now in
    let opened = c.open_section-opened.result in
    let now = c.open_section-opened.new.sandbox in
    let opens = c.open_section-opened.ensures in
    let first = opens.0.first in
    let begins = opens.0.begins in
    let ran = c.in-Ok.ensures.cases in
    let around = c.end_around-around.result in
    let before = opened.before in
    let known = ran.are (section_state run levels.Rule tags outside) (λ o. passed_state run levels.Rule tags outside first before (section_now now opened.cleanups) begins (sym c.has_passed-is_ready.ensures ∙ o)) in
    let ended = c.end_around-around.ensures.around in
    let end = ended.2.whole outside first (begun_still run levels.Rule tags outside first before opened.cleanups now c.run_cases-2.new.sandbox c.in-Ok.ensures.same.contents begins) in
    let passes = c.has_passed-is_ready.ensures ∙ ready run levels.Rule tags outside around first ended.0 before begins.ends end in
    let inside : State → Bool → Ran (List CaseRow) = λ section is_ready. cases_of index run section is_ready known.0 group.members in
    let is = section_ran hears ends run levels.Rule tags outside c.has_passed-is_ready.result around first ended.0 ran.rows inside c.args.observer.now c.open_section-opened.new.observer c.run_cases-2.new.observer c.end_around-around.new.observer end passes opens.1 known.1 ended.1 in
    let begins_so = begins_by _ c.args.is_open _ c.args.rule.members.items _ c.both.ensures c.selects.ensures c.as_slice.ensures.value in
    record {
      rows = ran.rows;
      added = ran.added;
      is = rule_begun (notifies hears ends) index run outside c.args.is_open c.both.result tags group (record { around = around; inside = ran.rows }) c.args.observer.now c.end_around-around.new.observer begins_so c.if-not-both.false (ap texts c.as_slice-2.ensures.value) (end.cut, known.0, is);
      stay = c.both-in-Ok.ensures ∙ ap (λ (x : Bool). x && c.in-Ok.all_stay) c.stays_open.ensures ∙ ap (λ (x : Bool). stays_open run around && x) ran.stay;
    }

pub returns-in_err-all_stay-clause-stopped : goal.returns-in_err-all_stay-clause-stopped
returns-in_err-all_stay-clause-stopped g c =
    let begins = begins_by _ c.args.is_open _ c.args.rule.members.items _ c.both.ensures c.selects.ensures c.as_slice.ensures.value in
    at_err _ (rule_unbegun_in_part (notifies g.O.Observer.hears g.O.Observer.ends) (length c.args.results.now.items) (run_value c.args.run.now) (state_of c.args.sandbox.now.now) c.args.is_open c.both.result (group_value c.args.rule) c.args.observer.now c.run_cases.new.observer begins c.if-not-both.true c.in_err-all_stay.ensures.stopped)

pub returns-in-Err-clause-stopped : goal.returns-in-Err-clause-stopped
returns-in-Err-clause-stopped g c =
    let hears = g.O.Observer.hears in
    let ends = g.O.Observer.ends in
    let run = run_value c.args.run.now in
    let outside = state_of c.args.sandbox.now.now in
    let index = length c.args.results.now.items in
    let group = group_value c.args.rule in
    let tags = texts c.as_slice-2.result.now in
    let opened = c.open_section-opened.result in
    let now = section_now c.open_section-opened.new.sandbox opened.cleanups in
    let opens = c.open_section-opened.ensures in
    let first = opens.0.first in
    let begins = opens.0.begins in
    let begin = c.args.observer.now in
    let last = c.run_cases-2.new.observer in
    let known = c.in-Err.ensures.stopped (section_state run levels.Rule tags outside) (λ o. passed_state run levels.Rule tags outside first opened.before now begins (sym c.has_passed-is_ready.ensures ∙ o)) in
    let inside : State → Bool → Ran (List CaseRow) = λ section is_ready. cases_of index run section is_ready known.0 group.members in
    let part = section_in_part hears ends run levels.Rule tags outside first opened.before now c.has_passed-is_ready.result inside begin c.open_section-opened.new.observer last (inr refl) begins c.has_passed-is_ready.ensures opens.1 known.1 in
    let begins_so = begins_by _ c.args.is_open _ c.args.rule.members.items _ c.both.ensures c.selects.ensures c.as_slice.ensures.value in
    rule_begun_in_part (notifies hears ends) index run outside c.args.is_open c.both.result tags group begin last begins_so c.if-not-both.false (ap texts c.as_slice-2.ensures.value) (part.0, known.0, part.1)
