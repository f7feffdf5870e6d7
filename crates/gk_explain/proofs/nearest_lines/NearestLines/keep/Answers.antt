use Rattle.gk_explain.proofs.Common.{◌≡◌, string_bytes, hash_map_updates_text, library_value, nearest_text}
use Rattle.gk_explain.proofs.NearestLinesLemmas.{still_nearest}
use Rattle.gk_explain.proofs.nearest_lines.NearestLines.keep.Goals as goal

pub invariant_of-self-2 : goal.invariant_of-self-2
invariant_of-self-2 c =
    let library = library_value c.self.inside.library.now in
    let key = string_bytes c.in_ok-text.text in
    let said = c.requires in
    let view = c.self.view_is in
    let text = c.in_ok-text.ensures.ok in
    let is : string_bytes c.args.line ≡ nearest_text library key = cc (said, view, text) in
    (still_nearest library c.self.inside.lines c.insert.new.self key c.args.line (hash_map_updates_text key c.self.inside.lines c.insert.new.self _ c.in_ok-insert.ensures.updates) is c.self.invariant.0, c.self.invariant.1)
