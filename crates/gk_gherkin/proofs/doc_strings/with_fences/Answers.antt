use Rattle.gk_gherkin.proofs.Common.{rules, ◌≡◌, ◌++◌, ◌∙◌, ℕ, List, ap, arith, common_steps, string_bytes, fence_text, fences_read}
use Rattle.gk_gherkin.proofs.FenceTexts.{found_fence, missed_fence}
use Rattle.gk_gherkin.proofs.TextEnds.{two_more, last_piece}
use Rattle.gk_gherkin.proofs.doc_strings.with_fences.Goals as goal

pub fences-preserved : goal.fences-preserved
fences-preserved c =
    let one : string_bytes c.push_str.new.self ≡ string_bytes c.fences.text ++ c.in-Some.before.now = search rules in
    let two : string_bytes c.push_str-in-Some.new.self ≡ string_bytes c.push_str.new.self ++ c.fence_text.result.now = search rules in (
      search rules,
      two_more (string_bytes c.fences.text) (string_bytes c.push_str.new.self) (string_bytes c.push_str-in-Some.new.self) c.in-Some.before.now (fence_text c.args.fence) (fences_read c.args.fence 0 c.fences.rest.now) (fences_read c.args.fence 0 c.in-Some.after.now) _ one (two ∙ ap (λ (t : List ℕ). string_bytes c.push_str.new.self ++ t) c.fence_text.ensures)
          (found_fence c.args.fence c.fences.rest.now c.escaped_fence.result.now _ c.escaped_fence.ensures c.split_once.ensures.cases _ c.in-Some.is)
          c.fences.invariant.1,
    )

pub returns-in-None : goal.returns-in-None
returns-in-None c = grind (arith, common_steps, last_piece, missed_fence)
