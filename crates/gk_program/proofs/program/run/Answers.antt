use Rattle.gk_program.proofs.Common.{ap, refl, subst, Err, device_of, given_value, SaysGiven, Nothing}
use Rattle.gk_cli.proofs.ReportRunLemmas.{untouched}
use Rattle.gk_program.proofs.program.run.Goals as goal

pub returns-in-Nothing : goal.returns-in-Nothing
returns-in-Nothing g c = record {
  asked = Nothing c.in-Nothing.fault c.in-Nothing.mode;
  given = subst (SaysGiven (given_value c.args.arguments)) c.in-Nothing.is c.asked_with.ensures;
  done = Err c.from.result;
  says = ((untouched (device_of (λ w. g.W.Write.contents w) c.args.out.now), ap Err c.from.ensures), refl);
  end = c.ending-in-Nothing.ensures;
}
