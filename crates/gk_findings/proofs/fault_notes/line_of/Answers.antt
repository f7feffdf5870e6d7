use Rattle.gk_findings.proofs.Common.{◌∙◌, ap, nth_from_yields_List, YieldsList-from_lines, slice_get, lines}
use Rattle.gk_findings.proofs.fault_notes.line_of.Goals as goal

pub returns : goal.returns
returns c =
    nth_from_yields_List c.nth.result _ _ c.nth.ensures.ran (YieldsList-from_lines c.args.text.now cc)
    ∙ ap (slice_get (lines c.args.text.now)) c.saturating_sub.ensures
