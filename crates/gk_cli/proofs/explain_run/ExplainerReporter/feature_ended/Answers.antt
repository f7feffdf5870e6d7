use Rattle.gk_cli.proofs.Common.{◌∙◌, inl, inr, refl, feature_row, Adds, on_ok, if_err, passed_on}
use Rattle.gk_cli.proofs.explain_run.ExplainerReporter.feature_ended.Goals as goal

pub returns-in_err-text-clause-err : goal.returns-in_err-text-clause-err
returns-in_err-text-clause-err g c = passed_on c.from_residual.result c.from_residual.ensures.1 (λ fault same. inl (refl, same))

pub returns : goal.returns
returns g c =
    let uncut = c.in_ok-text.ensures.uncut in
    let notified : Adds c.args.self.now (feature_row c.args.feature.now) c.as_str.result.now c.take_ready.new.self = record {
      ended = c.end_feature.new.self;
      ends = c.end_feature.ensures.becomes;
      ready = c.as_str.ensures.value ∙ c.in_ok-text.ensures.text;
      taken = c.in_ok-text.ensures.left;
      uncut = (uncut, c.take_ready.ensures.still ∙ uncut);
    } in
    record {
      ok = on_ok c.write_piece.result (λ written. record { text = c.as_str.result.now; notified = notified; written = written }) c.write_piece.ensures.ok;
      err = if_err c.write_piece.result (λ fault stopped. inr (c.as_str.result.now, c.take_ready.new.self, notified, stopped)) c.write_piece.ensures.err;
    }
