use Rattle.gk_steps.proofs.Common.{ℕ, List, Option, refl, map, subst, arith, common_steps, borrowed_value, NoCaptures, Piece, piece_value, pattern_value, entry_value, FitsAction, IsHit, hit_of}
use Rattle.gk_steps.proofs.CaptureLemmas.{hit_some, hit_none}
use Rattle.gk_steps.proofs.LibraryLineLemmas.{ambiguous_with, entry_with, memory_fault, pattern_needs}
use Rattle.gk_steps.proofs.library_line.entry_from.Goals as goal

pub returns-in-Some-clause-fault : goal.returns-in-Some-clause-fault
returns-in-Some-clause-fault c =
    let found = c.in_ok-find_of.ensures.found in
    let hit = hit_some {K = NoCaptures} (λ _ _ _. Unit {0}) (map entry_value c.args.earlier.now.entries.now) (record { entry = c.in-Some.field-0; kept = c.find_of.new.kept }) found.0 (subst (λ (entry : Option ℕ). IsHit (λ _ _ _. Unit {0}) (map entry_value c.args.earlier.now.entries.now) (hit_of c.find_of.new.kept entry) found.0) c.in-Some.is found.1) in (
      refl,
      ambiguous_with (map entry_value c.args.earlier.now.entries.now) (borrowed_value c.args.line.now) c.args.said.now.step_type c.args.said.now.pattern.now c.args.said.now.action.now (pattern_value c.in_ok-pattern.pattern) c.in_ok-action.action
          found.0 hit.0 hit.1 c.requires.said c.in_ok-pattern.ensures.pattern
          (subst (λ (q : List Piece). FitsAction c.args.said.now.action.now (map piece_value q) c.in_ok-action.action) c.deref.ensures.value c.in_ok-action.ensures.action) found.2,
    )

pub returns-in-None-clause-entry : goal.returns-in-None-clause-entry
returns-in-None-clause-entry c = grind (arith, common_steps, entry_with, hit_none)

pub returns-in_err-find_of-clause-fault : goal.returns-in_err-find_of-clause-fault
returns-in_err-find_of-clause-fault c = grind (arith, common_steps, memory_fault, pattern_needs)
