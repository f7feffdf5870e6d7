use Rattle.gk_gherkin.proofs.Common.{arith, strip_prefix_char}
use Rattle.gk_gherkin.proofs.RowParts.{newline, bar, backslash, no_meaning}
use Rattle.gk_gherkin.proofs.rows.escape.Goals as goal

pub returns-in-Some-clause-means : goal.returns-in-Some-clause-means
returns-in-Some-clause-means c = newline _ _ (rw c.in-Some.is at (strip_prefix_char 110 c.args.after.now _ c.strip_prefix.ensures.cases (omega arith)))

pub returns-in-Some-strip_prefix-clause-means : goal.returns-in-Some-strip_prefix-clause-means
returns-in-Some-strip_prefix-clause-means c = bar _ _ (rw c.in-Some-strip_prefix.is at (strip_prefix_char 124 c.args.after.now _ c.strip_prefix-in_default.ensures.cases (omega arith)))

pub returns-in-Some-strip_prefix-2-clause-means : goal.returns-in-Some-strip_prefix-2-clause-means
returns-in-Some-strip_prefix-2-clause-means c = backslash _ _ (rw c.in-Some-strip_prefix-2.is at (strip_prefix_char 92 c.args.after.now _ c.strip_prefix-in_default-strip_prefix.ensures.cases (omega arith)))

pub returns-in_default-strip_prefix-2-clause-means : goal.returns-in_default-strip_prefix-2-clause-means
returns-in_default-strip_prefix-2-clause-means c =
    no_meaning c.args.after.now
    (rw c.in_default.is at (strip_prefix_char 110 c.args.after.now _ c.strip_prefix.ensures.cases (omega arith)))
    (rw c.in_default-strip_prefix.is at (strip_prefix_char 124 c.args.after.now _ c.strip_prefix-in_default.ensures.cases (omega arith)))
    (rw c.in_default-strip_prefix-2.is at (strip_prefix_char 92 c.args.after.now _ c.strip_prefix-in_default-strip_prefix.ensures.cases (omega arith)))
