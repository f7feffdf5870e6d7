use Rattle.gk_gherkin.proofs.Common.{rules, ◌≡◌, ◌++◌, ◌∙◌, ℕ, List, ap, arith, common_steps, string_bytes, unescaped}
use Rattle.gk_gherkin.proofs.RowParts.{to_escape, no_escape_left}
use Rattle.gk_gherkin.proofs.TextEnds.{two_more, last_piece}
use Rattle.gk_gherkin.proofs.rows.unescaped.Goals as goal

pub escapes-preserved : goal.escapes-preserved
escapes-preserved c =
    let one : string_bytes c.push_str.new.self ≡ string_bytes c.escapes.cell ++ c.in-Some.before.now = search rules in
    let two : string_bytes c.push_str-in-Some.new.self ≡ string_bytes c.push_str.new.self ++ c.escape.result.0.now = search rules in (
      search rules,
      two_more (string_bytes c.escapes.cell) (string_bytes c.push_str.new.self) (string_bytes c.push_str-in-Some.new.self) c.in-Some.before.now c.escape.result.0.now (unescaped c.escapes.rest.now) (unescaped c.escape.result.1.now) _ one two
          (to_escape c.escapes.rest.now _ c.split_once.ensures.cases _ c.in-Some.is ∙ ap (λ (t : List ℕ). c.in-Some.before.now ++ t) c.escape.ensures.means)
          c.escapes.invariant.1,
    )

pub returns-in-None : goal.returns-in-None
returns-in-None c = grind (arith, common_steps, last_piece, no_escape_left)
