use Rattle.gk_select.proofs.Common.{◌≡◌, true, false, sym, ◌∙◌, string_bytes, bytes_eq}
use Rattle.gk_select.proofs.IndexedNames.{found, other, none_left}
use Rattle.gk_select.proofs.names.scan.Goals as goal

pub returns-then-eq : goal.returns-then-eq
returns-then-eq c =
    let test : bytes_eq (string_bytes c.index-list-i.result) c.args.name.now ≡ true = cc in
    sym (found c.args.list.now c.loop-i.i c.args.name.now c.index-list-i.result c.loop-i-test.true c.index-list-i.is test) ∙ c.loop-i.invariant

pub loop-i-preserved : goal.loop-i-preserved
loop-i-preserved c =
    let test : bytes_eq (string_bytes c.index-list-i.result) c.args.name.now ≡ false = cc in
    other c.args.list.now c.loop-i.i c.args.name.now c.index-list-i.result c.loop-i-test.true c.index-list-i.is test ∙ c.loop-i.invariant

pub returns : goal.returns
returns c = sym (none_left c.args.list.now c.loop-i.i c.args.name.now c.loop-i-test.false) ∙ c.loop-i.invariant
