use Rattle.gk_steps.proofs.Common.{arith, map, subst, Some, common_steps, entry_value, library_value, HitsWhatIsFound, hit_of}
use Rattle.gk_steps.proofs.LibraryLemmas.{typed_candidate, typed_table_candidate}
use Rattle.gk_steps.proofs.FindingLemmas.{of_fault, either_more}
use Rattle.gk_steps.proofs.CaptureLemmas.{typed_hit, none_typed, own_hit, other_hit}
use Rattle.gk_steps.proofs.FilledCellsLemmas.{typed_cells}
use Rattle.gk_steps.proofs.library.Library.search.Goals as goal

pub returns-then-self-eq0-clause-found : goal.returns-then-self-eq0-clause-found
returns-then-self-eq0-clause-found g c =
    other_hit g.K.Captures.keeps (library_value c.args.self.now) c.args.step_type c.args.text.now c.search_any.new.kept c.search_any.result
    (none_typed g.K.Captures.keeps c.args.self.now.entries.items c.args.self.now.typed c.args.step_type c.args.text.now c.args.self.now.typed_end.rest c.if-self-eq0.true)
    c.search_any.ensures.found

pub returns-in-Some-clause-found : goal.returns-in-Some-clause-found
returns-in-Some-clause-found g c =
    own_hit g.K.Captures.keeps (library_value c.args.self.now) c.args.step_type c.args.text.now (record { entry = c.in-Some.entry; kept = c.find_of.new.kept })
    (subst (λ entry. HitsWhatIsFound g.K.Captures.keeps (library_value c.args.self.now) (Some c.args.step_type) c.args.text.now (hit_of c.find_of.new.kept entry)) c.in-Some.is
    (typed_hit g.K.Captures.keeps c.args.self.now.entries.items c.args.self.now.typed c.args.step_type c.args.text.now (hit_of c.find_of.new.kept c.in_ok-entry.field-0) c.args.self.now.typed_end.rest
    (subst (λ es. HitsWhatIsFound g.K.Captures.keeps (map entry_value es) (Some c.args.step_type) c.args.text.now (hit_of c.find_of.new.kept c.in_ok-entry.field-0)) c.indexed-typed.ensures.entries c.in_ok-entry.ensures.found)))

pub returns-clause-found : goal.returns-clause-found
returns-clause-found g c =
    other_hit g.K.Captures.keeps (library_value c.args.self.now) c.args.step_type c.args.text.now c.search_any-2.new.kept c.search_any-2.result
    (subst (λ entry. HitsWhatIsFound g.K.Captures.keeps (library_value c.args.self.now) (Some c.args.step_type) c.args.text.now (hit_of c.find_of.new.kept entry)) c.in_default.is
    (typed_hit g.K.Captures.keeps c.args.self.now.entries.items c.args.self.now.typed c.args.step_type c.args.text.now (hit_of c.find_of.new.kept c.in_ok-entry.field-0) c.args.self.now.typed_end.rest
    (subst (λ es. HitsWhatIsFound g.K.Captures.keeps (map entry_value es) (Some c.args.step_type) c.args.text.now (hit_of c.find_of.new.kept c.in_ok-entry.field-0)) c.indexed-typed.ensures.entries c.in_ok-entry.ensures.found)))
    c.search_any-2.ensures.found

pub returns-in_err-entry-clause-memory : goal.returns-in_err-entry-clause-memory
returns-in_err-entry-clause-memory g c = grind (arith, common_steps, typed_candidate, of_fault)

pub returns-in_err-entry-clause-most : goal.returns-in_err-entry-clause-most
returns-in_err-entry-clause-most g c = grind (arith, common_steps, typed_cells)

pub returns-in-Some-clause-most : goal.returns-in-Some-clause-most
returns-in-Some-clause-most g c = grind (arith, common_steps, typed_cells)

pub returns-clause-most : goal.returns-clause-most
returns-clause-most g c = grind (arith, common_steps, typed_cells)

pub returns-in_err-entry-clause-table : goal.returns-in_err-entry-clause-table
returns-in_err-entry-clause-table g c = grind (arith, common_steps, of_fault, typed_table_candidate)

pub returns-clause-table : goal.returns-clause-table
returns-clause-table g c = grind (arith, common_steps, either_more)
