use Rattle.gk_steps.proofs.Common.{◌≤◌, ◌+◌, arith, sym, map, drop, subst, refl, Some, None, common_steps, CellCounter, cells_of_type, NoneBefore, entry_value, found_at, IsKeptResult, kept_if, piece_value}
use Rattle.gk_steps.proofs.FilledCellsLemmas.{asked, passed_over}
use Rattle.gk_steps.proofs.FindingLemmas.{entry_at, none_more, none_all, first_at, candidate, table_candidate, of_fault}
use Rattle.gk_steps.proofs.CaptureLemmas.{kept_some, kept_none}
use Rattle.gk_steps.proofs.EntryIndexLemmas.{none_skipped, cells_skipped}
use Rattle.gk_steps.proofs.finding.find_of.Goals as goal
use Rattle.gk_steps.proofs.finding.find_of.Goals.{else-is_same-via-then-is_same+then-can_match+in_ok-match_fitting+else-branch, else-is_same-via-then-is_same+else-can_match, else-is_same-via-else-is_same}

pub returns-then-branch-clause-found : goal.returns-then-branch-clause-found
returns-then-branch-clause-found g c =
    let kept = c.match_fitting.new.kept in
    let pieces = c.index-entries-position.result.pattern.pieces.items in
    let m = kept_some g.K.Captures.keeps (map piece_value pieces) c.args.text.now kept
    (subst (λ found. IsKeptResult g.K.Captures.keeps (map piece_value pieces) c.args.text.now (kept_if found kept)) c.if-branch.true
    (subst (λ ps. IsKeptResult g.K.Captures.keeps (map piece_value ps) c.args.text.now (kept_if c.in_ok-match_fitting.field-0 kept)) c.deref.ensures.value c.in_ok-match_fitting.ensures.found)) in (
      Some (found_at c.loop-position.position m.0),
      record {
        position = refl;
        entry = entry_value c.index-entries-position.result;
        stands = entry_at c.args.indexed.now.entries.now c.loop-position.position c.index-entries-position.result c.loop-position-test.true c.index-entries-position.is;
        kept = m.1;
      },
      first_at c.args.indexed.now.entries.now c.args.step_type c.args.text.now c.loop-position.position c.index-entries-position.result m.0 c.loop-position-test.true c.index-entries-position.is c.if-is_same.ensures m.2 c.loop-position.invariant.0,
    )

pub returns-clause-found : goal.returns-clause-found
returns-clause-found g c = (None, tt, none_all c.args.indexed.now.entries.now c.args.step_type c.args.text.now c.loop-position.position c.loop-position-test.false c.loop-position.invariant.0)

pub returns-in_err-match_fitting-clause-memory : goal.returns-in_err-match_fitting-clause-memory
returns-in_err-match_fitting-clause-memory g c = grind (arith, common_steps, of_fault, candidate)

pub returns-in_err-match_fitting-clause-table : goal.returns-in_err-match_fitting-clause-table
returns-in_err-match_fitting-clause-table g c = grind (arith, common_steps, of_fault, table_candidate)

pub loop-position-init : goal.loop-position-init
loop-position-init g c =
    let entries = c.args.indexed.now.entries.now in
    let next = c.next-position.result in
    let start : c.args.cells.now.filled + cells_of_type (map entry_value entries) c.args.step_type c.args.text.now ≤ c.args.cells.now.filled + cells_of_type (map entry_value entries) c.args.step_type c.args.text.now = omega arith in (
      none_skipped entries c.args.step_type c.args.text.now 0 next (λ earlier other less is same. absurd (omega arith)) c.next-position.ensures,
      cells_skipped entries 0 next c.args.step_type c.args.text.now c.args.cells.now.filled c.args.cells.now.filled (omega arith) start,
      omega arith,
    )

pub loop-position-preserved : goal.loop-position-preserved
loop-position-preserved g c =
    let entries = c.args.indexed.now.entries.now in
    let position = c.loop-position.position + 1 in
    let next = c.next-position-in-loop-position.result in
    let more = none_more entries c.args.step_type c.args.text.now c.loop-position.position c.index-entries-position.result c.loop-position-test.true c.index-entries-position.is in
    let cells = passed_over entries c.loop-position.position c.index-entries-position.result c.args.step_type c.args.text.now c.args.cells.now.filled c.loop-position.cells.filled c.loop-position-test.true c.index-entries-position.is c.loop-position.invariant.1 in
    let Left : CellCounter → Type 0 = λ cells. cells.filled + cells_of_type (map entry_value (drop position entries)) c.args.step_type c.args.text.now ≤ c.args.cells.now.filled + cells_of_type (map entry_value entries) c.args.step_type c.args.text.now in
    let here : NoneBefore position (map entry_value entries) c.args.step_type c.args.text.now × Left c.else-is_same.cells × (c.args.cells.now.filled ≤ c.else-is_same.cells.filled) = elim c.else-is_same.branch [
      | else-is_same-via-then-is_same+then-can_match+in_ok-match_fitting+else-branch w ↦ (
        more (λ same. kept_none g.K.Captures.keeps (map piece_value c.index-entries-position.result.pattern.pieces.items) c.args.text.now
            (subst (λ found. IsKeptResult g.K.Captures.keeps (map piece_value c.index-entries-position.result.pattern.pieces.items) c.args.text.now (kept_if found w.match_fitting.new.kept)) w.if-branch.false
            (subst (λ ps. IsKeptResult g.K.Captures.keeps (map piece_value ps) c.args.text.now (kept_if w.in_ok-match_fitting.field-0 w.match_fitting.new.kept)) w.deref.ensures.value w.in_ok-match_fitting.ensures.found))) c.loop-position.invariant.0,
        subst Left (sym w.cells-is)
            (asked entries c.loop-position.position c.index-entries-position.result c.args.step_type c.args.text.now w.deref.result.now c.args.cells.now.filled c.loop-position.cells.filled w.match_fitting.new.cells.filled c.loop-position-test.true c.index-entries-position.is w.if-is_same.ensures w.deref.ensures.value w.match_fitting.ensures.most c.loop-position.invariant.1),
        subst (λ (cells : CellCounter). c.args.cells.now.filled ≤ cells.filled) (sym w.cells-is) (omega (arith, c.loop-position.invariant.2, w.match_fitting.ensures.least)),
      )
      | else-is_same-via-then-is_same+else-can_match w ↦ (more (λ same. w.if-can_match.ensures.refused refl) c.loop-position.invariant.0, subst Left (sym w.cells-is) cells, subst (λ (cells : CellCounter). c.args.cells.now.filled ≤ cells.filled) (sym w.cells-is) c.loop-position.invariant.2)
      | else-is_same-via-else-is_same w ↦ (more (λ same. absurd (w.if-is_same.ensures same)) c.loop-position.invariant.0, subst Left (sym w.cells-is) cells, subst (λ (cells : CellCounter). c.args.cells.now.filled ≤ cells.filled) (sym w.cells-is) c.loop-position.invariant.2)
    ] in
    let later : position ≤ next = c.next-position-in-loop-position.ensures.low (omega (arith, c.loop-position-test.true)) in (
      none_skipped entries c.args.step_type c.args.text.now position next here.0 c.next-position-in-loop-position.ensures,
      cells_skipped entries position next c.args.step_type c.args.text.now c.args.cells.now.filled c.else-is_same.cells.filled later here.1,
      here.2,
    )

pub returns-in_err-match_fitting-clause-most : goal.returns-in_err-match_fitting-clause-most
returns-in_err-match_fitting-clause-most g c = omega (arith, asked c.args.indexed.now.entries.now c.loop-position.position c.index-entries-position.result c.args.step_type c.args.text.now c.deref.result.now c.args.cells.now.filled c.loop-position.cells.filled c.match_fitting.new.cells.filled c.loop-position-test.true c.index-entries-position.is c.if-is_same.ensures c.deref.ensures.value c.match_fitting.ensures.most c.loop-position.invariant.1)

pub returns-then-branch-clause-most : goal.returns-then-branch-clause-most
returns-then-branch-clause-most g c = omega (arith, asked c.args.indexed.now.entries.now c.loop-position.position c.index-entries-position.result c.args.step_type c.args.text.now c.deref.result.now c.args.cells.now.filled c.loop-position.cells.filled c.match_fitting.new.cells.filled c.loop-position-test.true c.index-entries-position.is c.if-is_same.ensures c.deref.ensures.value c.match_fitting.ensures.most c.loop-position.invariant.1)
