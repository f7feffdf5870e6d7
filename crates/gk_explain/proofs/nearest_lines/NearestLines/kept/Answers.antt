use Rattle.gk_explain.proofs.Common.{library_value}
use Rattle.gk_explain.proofs.NearestLinesLemmas.{kept_line}
use Rattle.gk_explain.proofs.nearest_lines.NearestLines.kept.Goals as goal

pub returns-in-Some : goal.returns-in-Some
returns-in-Some c =
    let library = library_value c.self.inside.library.now in
    let held = kept_line library c.self.inside.lines c.args.text.now c.in-Some.line.now c.self.invariant.0 c.in-Some.ensures.value in
    let view = c.self.view_is in
    let text = c.as_str.ensures.value in
    cc (held, view, text)
