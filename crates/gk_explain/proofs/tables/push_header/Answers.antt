use Rattle.gk_explain.proofs.Common.{◌∙◌, ◌++◌, List, ℕ, codes, refl, ap, append_assoc, string_bytes, pushed, texts, line_feed, header_line, quoted_cells}
use Rattle.gk_explain.proofs.tables.push_header.Goals as goal

pub returns : goal.returns
unfolding header_line
returns c =
    let before = string_bytes c.args.out.now in
    let mark = codes "      found    the header" in
    let cells = quoted_cells (texts c.args.cells.now) in
    let marked = pushed mark refl c.in_ok-push_str.was c.push_str.ensures.bytes in
    let shown = c.in_ok-push_cells.ensures ∙ ap (λ (bytes : List ℕ). bytes ++ cells) marked in
    pushed line_feed shown c.in_ok-push_str-2.was c.push_str-2.ensures.bytes
    ∙ append_assoc (before ++ mark) cells line_feed ∙ append_assoc before mark (cells ++ line_feed)
