use Rattle.gk_explain.proofs.Common.{◌∙◌, ◌++◌, List, ℕ, map, codes, refl, ap, append_assoc, string_bytes, pushed, on_ok_weaker, texts, found_header}
use Rattle.gk_explain.proofs.tables.push_table.Goals as goal

pub returns-in_ok-push_str-in-Table : goal.returns-in_ok-push_str-in-Table
returns-in_ok-push_str-in-Table c =
    let before = string_bytes c.args.out.now in
    let wanted = codes "      expected the header \"name\" \"text\", and rows of two cells\n" in
    let said = pushed wanted refl c.in_ok-push_str-in-Table.was c.push_str.ensures.bytes in
    let rows = c.deref.ensures.value in
    rw c.in-Table.is (on_ok_weaker c.push_first.result (λ first.
    first ∙ ap (λ (bytes : List ℕ). bytes ++ found_header (map (λ row. texts row.items) c.deref.result.now)) said
    ∙ append_assoc before wanted (found_header (map (λ row. texts row.items) c.deref.result.now))
    ∙ ap (λ xs. before ++ (wanted ++ found_header (map (λ row. texts row.items) xs))) rows) c.push_first.ensures)
