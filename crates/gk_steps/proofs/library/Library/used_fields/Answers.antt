use Rattle.gk_steps.proofs.Common.{library_value, found_value}
use Rattle.gk_steps.proofs.library.Library.used_fields.Goals as goal

pub returns-clause-name : goal.returns-clause-name
returns-clause-name c = let used = c.used_in.ensures (library_value c.args.self.now) (found_value c.args.found.now) c.first_fields.ensures in used.name

pub returns-clause-to : goal.returns-clause-to
returns-clause-to c = let used = c.used_in.ensures (library_value c.args.self.now) (found_value c.args.found.now) c.first_fields.ensures in used.to

pub returns-clause-step : goal.returns-clause-step
returns-clause-step c = let used = c.used_in.ensures (library_value c.args.self.now) (found_value c.args.found.now) c.first_fields.ensures in used.step

pub returns-clause-number : goal.returns-clause-number
returns-clause-number c = let used = c.used_in.ensures (library_value c.args.self.now) (found_value c.args.found.now) c.first_fields.ensures in used.number

pub returns-clause-text : goal.returns-clause-text
returns-clause-text c = let used = c.used_in.ensures (library_value c.args.self.now) (found_value c.args.found.now) c.first_fields.ensures in used.text
