use Rattle.gk_select.proofs.Common.{option_copied, option_map, string_bytes, ◌≡◌, ◌∙◌, Some, ap, sym, texts, position_of}
use Rattle.gk_select.proofs.IndexedNames.{cell_at, no_cell_at, looked_up}
use Rattle.gk_select.proofs.names.Names.cell.Goals as goal

pub returns-in-Some-get : goal.returns-in-Some-get
returns-in-Some-get c =
    let column : position_of c.args.self.now c.args.name.now ≡ Some c.in-Some.position = sym c.position.ensures ∙ c.in-Some.is in
    let at = looked_up c.args.row.now c.in-Some.position c.get.result c.get.ensures.lookup.0 c.get.ensures.lookup.1 ∙ ap option_copied c.in-Some-get.is in
    ap Some c.as_str.ensures.value
    ∙ sym (cell_at c.args.self.now c.args.row.now c.args.name.now c.in-Some.position column ∙ ap (option_map string_bytes) at)

pub returns-in-None-get : goal.returns-in-None-get
returns-in-None-get c =
    let column : position_of c.args.self.now c.args.name.now ≡ Some c.in-Some.position = sym c.position.ensures ∙ c.in-Some.is in
    let at = looked_up c.args.row.now c.in-Some.position c.get.result c.get.ensures.lookup.0 c.get.ensures.lookup.1 ∙ ap option_copied c.in-None-get.is in
    sym (cell_at c.args.self.now c.args.row.now c.args.name.now c.in-Some.position column ∙ ap (option_map string_bytes) at)

pub returns-in-None : goal.returns-in-None
returns-in-None c = sym (no_cell_at c.args.self.now (texts c.args.row.now) c.args.name.now (sym c.position.ensures ∙ c.in-None.is))
