use Rattle.gk_steps.proofs.Common.{◌+◌, ℕ, length, map, take, ap, sym, subst, ◌∙◌, arith, err_from_is_err_and, YieldsList-from_lines, YieldsList-turn, YieldsList-end, length_push, lines, LineValue, Lines, line_at, numbered_from, entry_value, ReadsLibrary, AddsLine, LineFaultSays}
use Rattle.gk_steps.proofs.LineLemmas.{line_there, no_more_lines}
use Rattle.gk_steps.proofs.LibraryFileLemmas.{added_at, stopped_at}
use Rattle.gk_steps.proofs.library_file.read_entries.Goals as goal

pub returns-in_err-add_line-clause-fault : goal.returns-in_err-add_line-clause-fault
returns-in_err-add_line-clause-fault c =
    let all = lines c.args.text.now in
    let done = length c.loop-part.yielded in
    let before = map entry_value c.loop-part.builder.entries.items in
    let turn = YieldsList-turn (YieldsList-from_lines c.args.text.now cc) c.loop-part.yielded _ c.loop-part.yielded_by _ _ _ c.in-Some.is c.next.ensures.steps in
    let there = line_there 1 all done c.in-Some.part.now turn.0 turn.1 in
    let line = c.borrowed_line.ensures ∙ ap (λ (n : ℕ). line_at n c.in-Some.part.now) c.loop-part.invariant.counted in
    let p = err_from_is_err_and c.from_residual.result c.from_residual.ensures.1 in
    rw (p.1, p.2) (stopped_at c.in_err-add_line.field-0.0 (numbered_from 1 all) done (line_at (1 + done) c.in-Some.part.now) before there.0 there.1 c.loop-part.invariant.so_far
    (subst (λ (l : LineValue). LineFaultSays c.in_err-add_line.field-0.0 before l) line c.in_err-add_line.ensures.fault))

pub loop-part-preserved : goal.loop-part-preserved
loop-part-preserved c =
    let all = lines c.args.text.now in
    let done = length c.loop-part.yielded in
    let before = map entry_value c.loop-part.builder.entries.items in
    let after = map entry_value c.add_line.new.builder.entries.items in
    let turn = YieldsList-turn (YieldsList-from_lines c.args.text.now cc) c.loop-part.yielded _ c.loop-part.yielded_by _ _ _ c.in-Some.is c.next.ensures.steps in
    let there = line_there 1 all done c.in-Some.part.now turn.0 turn.1 in
    let line = c.borrowed_line.ensures ∙ ap (λ (n : ℕ). line_at n c.in-Some.part.now) c.loop-part.invariant.counted in
    let longer = length_push c.loop-part.yielded c.in-Some.part in
    let next = added_at (numbered_from 1 all) done (line_at (1 + done) c.in-Some.part.now) before after there.0 there.1 c.loop-part.invariant.so_far
    (subst (λ (l : LineValue). AddsLine before l after) line c.in_ok-add_line.ensures.added) in
    record {
      so_far = subst (λ (i : ℕ). ReadsLibrary (take i (numbered_from 1 all)) after) (sym longer) next;
      indexed = c.in_ok-add_line.ensures.indexed;
      counted = omega (arith, longer);
    }

pub returns-clause-found : goal.returns-clause-found
returns-clause-found c =
    let all = lines c.args.text.now in
    let t = YieldsList-end (YieldsList-from_lines c.args.text.now cc) c.loop-part.yielded _ c.loop-part.yielded_by _ _ c.in-None.is c.next.ensures.steps in
    subst (λ (ls : Lines). ReadsLibrary ls (map entry_value c.loop-part.builder.entries.items)) (no_more_lines 1 all (length c.loop-part.yielded) (omega (arith, t.1))) c.loop-part.invariant.so_far
