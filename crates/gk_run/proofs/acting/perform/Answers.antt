use Rattle.gk_run.proofs.Common.{refl, sym, ◌∙◌, ap, subst, option_copied, to_z-of_z, arith, bytes_eq, see, state_of, contains, Action, Performs, arguments_value, agrees, exists, is_absent, common_steps}
use Rattle.std.specs.FinMap as finite
use Rattle.gk_steps.specs.declared.action.Action.TheVariants as actions
use Rattle.gk_run.proofs.ActingLemmas.{absent_free, agrees_free, checked, exists_free, number_free}
use Rattle.gk_run.proofs.acting.perform.Goals as goal

pub returns-in-RemoveFile : goal.returns-in-RemoveFile
returns-in-RemoveFile c = subst (λ (a : Action). Performs a c.args.arguments.now c.args.sandbox.now c.remove_file.result c.remove_file.new.sandbox) (sym c.in-RemoveFile.is) c.remove_file.ensures

pub returns-in-FileExists : goal.returns-in-FileExists
returns-in-FileExists c = checked c.args.action actions.FileExists c.args.arguments.now c.args.sandbox.now _ _ c.in-FileExists.is (c.exists.ensures ∙ ap exists c.file.ensures) (exists_free _) refl

pub returns-in-FileAbsent : goal.returns-in-FileAbsent
returns-in-FileAbsent c = checked c.args.action actions.FileAbsent c.args.arguments.now c.args.sandbox.now _ _ c.in-FileAbsent.is (c.is_absent.ensures ∙ ap is_absent c.file-in-FileAbsent.ensures) (absent_free _) refl

pub returns-in-FileIs : goal.returns-in-FileIs
returns-in-FileIs c = checked c.args.action actions.FileIs c.args.arguments.now c.args.sandbox.now _ _ c.in-FileIs.is (c.is_text.ensures ∙ ap (λ held. agrees bytes_eq held (arguments_value c.args.arguments.now).text) c.file-in-FileIs.ensures) (agrees_free bytes_eq (finite.get c.args.sandbox.now.now.files c.args.arguments.now.name.now) (arguments_value c.args.arguments.now).text) refl

pub returns-in-FileContains : goal.returns-in-FileContains
returns-in-FileContains c = checked c.args.action actions.FileContains c.args.arguments.now c.args.sandbox.now _ _ c.in-FileContains.is (c.has_text.ensures ∙ ap (λ held. agrees contains held (arguments_value c.args.arguments.now).text) c.file-in-FileContains.ensures) (agrees_free contains (finite.get c.args.sandbox.now.now.files c.args.arguments.now.name.now) (arguments_value c.args.arguments.now).text) refl

pub returns-in-EnvIs : goal.returns-in-EnvIs
returns-in-EnvIs c = checked c.args.action actions.EnvIs c.args.arguments.now c.args.sandbox.now _ _ c.in-EnvIs.is (c.is_text-in-EnvIs.ensures ∙ ap (λ held. agrees bytes_eq held (arguments_value c.args.arguments.now).text) c.env.ensures) (agrees_free bytes_eq (finite.get c.args.sandbox.now.now.env c.args.arguments.now.name.now) (arguments_value c.args.arguments.now).text) refl

pub returns-in-EnvAbsent : goal.returns-in-EnvAbsent
returns-in-EnvAbsent c = checked c.args.action actions.EnvAbsent c.args.arguments.now c.args.sandbox.now _ _ c.in-EnvAbsent.is (c.is_absent-in-EnvAbsent.ensures ∙ ap is_absent c.env-in-EnvAbsent.ensures) (absent_free _) refl

pub returns-in-ValueIs : goal.returns-in-ValueIs
returns-in-ValueIs c = checked c.args.action actions.ValueIs c.args.arguments.now c.args.sandbox.now _ _ c.in-ValueIs.is (c.is_text-in-ValueIs.ensures ∙ ap (λ held. agrees bytes_eq held (arguments_value c.args.arguments.now).text) c.value.ensures) (agrees_free bytes_eq (see (state_of c.args.sandbox.now.now) c.args.arguments.now.name.now) (arguments_value c.args.arguments.now).text) refl

pub returns-in-ValueAbsent : goal.returns-in-ValueAbsent
returns-in-ValueAbsent c = checked c.args.action actions.ValueAbsent c.args.arguments.now c.args.sandbox.now _ _ c.in-ValueAbsent.is (c.is_absent-in-ValueAbsent.ensures ∙ ap is_absent c.value-in-ValueAbsent.ensures) (absent_free _) refl

pub returns-in-NumberIs : goal.returns-in-NumberIs
returns-in-NumberIs c = grind (arith, common_steps, option_copied, to_z-of_z, checked, number_free)
