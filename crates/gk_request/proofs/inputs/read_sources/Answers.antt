use Rattle.gk_request.proofs.Common.{◌++◌, ◌∷◌, [], map, take, subst, sym, arith, length-map, take_all, chosen_by, row_lists, chosen_value, source_value, AreRead, AreRowsIf, SaysSources, common_steps}
use Rattle.gk_request.proofs.InputsLemmas.{at_place, read_one, rows_one, take_one, first_unread}
use Rattle.gk_request.proofs.ResultLemmas.{passed_on}
use Rattle.gk_request.proofs.inputs.read_sources.Goals as goal

pub returns-in_err-read_onto-clause-fault : goal.returns-in_err-read_onto-clause-fault
returns-in_err-read_onto-clause-fault c =
    let chooses = chosen_by c.args.choice.now in
    let sources = map source_value c.args.sources.now in
    let input = c.loop-input.input in
    let source = source_value c.index-sources-input.result in
    let place = at_place source_value c.args.sources.now input c.index-sources-input.result c.loop-input-test.true c.index-sources-input.is in
    passed_on c.from_residual.result c.from_residual.ensures.1 (λ fault same. subst (SaysSources chooses sources) (sym same)
    (first_unread chooses sources (map chosen_value c.loop-input.read.features.items) input source c.in_err-read_onto.field-0.0 c.loop-input.invariant.read place c.in_err-read_onto.ensures.fault))

pub loop-input-preserved : goal.loop-input-preserved
loop-input-preserved c =
    let chooses = chosen_by c.args.choice.now in
    let sources = map source_value c.args.sources.now in
    let input = c.loop-input.input in
    let source = source_value c.index-sources-input.result in
    let place = at_place source_value c.args.sources.now input c.index-sources-input.result c.loop-input-test.true c.index-sources-input.is in
    let onto = c.in_ok-read_onto.ensures.ok in
    let new = c.read_onto.new.read in
    record {
      read =
          subst (λ ss. AreRead chooses ss (map chosen_value new.features.items)) (sym (take_one sources input source place))
          (subst (AreRead chooses (take input sources ++ source ∷ [])) (sym onto.added)
          (read_one chooses (take input sources) (map chosen_value c.loop-input.read.features.items) source onto.reading c.loop-input.invariant.read onto.read));
      rows =
          subst (λ ss. AreRowsIf c.args.with_rows ss (row_lists new.rows.items)) (sym (take_one sources input source place))
          (rows_one c.args.with_rows (take input sources) (row_lists c.loop-input.read.rows.items) (row_lists new.rows.items) source onto.reading c.loop-input.invariant.rows onto.read.reads onto.rows);
      formed = onto.formed c.loop-input.invariant.formed;
    }

pub returns-clause-read : goal.returns-clause-read
returns-clause-read c = grind (arith, common_steps, take_all, length-map)

pub returns-clause-rows : goal.returns-clause-rows
returns-clause-rows c = grind (arith, common_steps, take_all, length-map)
