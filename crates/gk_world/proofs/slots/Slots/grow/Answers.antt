use Rattle.gk_world.proofs.Common.{◌≡◌, Some, length, take, ap, sym, subst, ◌∙◌, string_bytes, IsSplitPoint, IsCharBoundary-at_seam, take-append_seam, with_cell, cut_to, grown}
use Rattle.gk_world.proofs.SlotsLemmas.{cell-twice, cell-same, cell-back, within-written, cell-written, has_cell, writes}
use Rattle.gk_world.proofs.slots.Slots.grow.Goals as goal

pub exchange-requires-2-clause-position : goal.exchange-requires-2-clause-position
exchange-requires-2-clause-position g c = within-written c.args.self.now _ c.args.position c.args.cell _ c.exchange.ensures.set c.requires.position

pub returns-in-Ok-clause-writes : goal.returns-in-Ok-clause-writes
returns-in-Ok-clause-writes g c =
    let s = c.args.self.now in
    let e = cell-twice s _ c.exchange-2.new.self c.args.position c.args.cell _ _ c.exchange.ensures.set c.exchange-2.ensures.set c.requires.position in
    let more = ap Some c.in-Ok.ensures.bytes ∙ ap (λ x. grown x c.args.more.now) c.in-Some.ensures.old in
    λ name found. writes name s c.exchange-2.new.self c.args.position c.args.cell _ (e ∙ ap (with_cell s c.args.position c.args.cell) more) found c.exchange.ensures.within

pub returns-in-Ok-clause-fits : goal.returns-in-Ok-clause-fits
returns-in-Ok-clause-fits g c =
    let s = c.args.self.now in
    let e = cell-twice s _ c.exchange-2.new.self c.args.position c.args.cell _ _ c.exchange.ensures.set c.exchange-2.ensures.set c.requires.position in
    let seam = IsCharBoundary-at_seam (string_bytes c.push_str-answer.new.self) (string_bytes c.in-Some.text) c.args.more.now c.in-Ok.ensures.bytes c.utf8.more in
    record {
      has = has_cell g.C.Cells.width s c.exchange-2.new.self c.args.position c.args.cell _ e c.requires.position c.exchange.ensures.within c.requires.cell;
      whole = string_bytes c.push_str-answer.new.self;
      is = cell-written s c.exchange-2.new.self c.args.position c.args.cell _ e c.requires.position c.exchange.ensures.within;
      split = subst (IsSplitPoint (string_bytes c.push_str-answer.new.self)) (sym (ap length c.as_str-kept.ensures.value)) (seam.0, λ _. seam.1);
    }

pub returns-in-Ok-clause-before : goal.returns-in-Ok-clause-before
returns-in-Ok-clause-before g c =
    let s = c.args.self.now in
    let e = cell-twice s _ c.exchange-2.new.self c.args.position c.args.cell _ _ c.exchange.ensures.set c.exchange-2.ensures.set c.requires.position in
    let left : take (length c.as_str-kept.result.now) (string_bytes c.push_str-answer.new.self) ≡ string_bytes c.in-Some.text =
    ap (λ n. take n (string_bytes c.push_str-answer.new.self)) (ap length c.as_str-kept.ensures.value)
    ∙ ap (take (length (string_bytes c.in-Some.text))) c.in-Ok.ensures.bytes
    ∙ take-append_seam (string_bytes c.in-Some.text) c.args.more.now in
    cell-back s c.exchange-2.new.self c.args.position c.args.cell _ _ e c.requires.position
    (ap (cut_to (length c.as_str-kept.result.now)) (cell-written s c.exchange-2.new.self c.args.position c.args.cell _ e c.requires.position c.exchange.ensures.within) ∙ ap Some left ∙ c.in-Some.ensures.old)

pub returns-in-Err-clause-err : goal.returns-in-Err-clause-err
returns-in-Err-clause-err g c =
    let s = c.args.self.now in
    cell-twice s _ c.exchange-2.new.self c.args.position c.args.cell _ _ c.exchange.ensures.set c.exchange-2.ensures.set c.requires.position
    ∙ ap (with_cell s c.args.position c.args.cell) (ap Some c.in-Err.ensures.bytes ∙ c.in-Some.ensures.old)
    ∙ cell-same s c.args.position c.args.cell
