use Rattle.gk_program.proofs.Common.{rules, ◌∷◌, ◌∙◌, ◌++◌, ap, arith, length, map, refl, sym, subst, string_bytes, [], into_iter_items, AreRead, StopsReading, name_of, source_value}
use Rattle.gk_program.proofs.FilesLemmas.{names_of_values, one_source_more, reads_one_more, stops_at, stops_for_memory, stops_later}
use Rattle.gk_request.proofs.ResultLemmas.{passed_on}
use Rattle.gk_program.proofs.files.read_files.Goals as goal

pub loop-name-init : goal.loop-name-init
loop-name-init g c =
    let gives = c.into_iter-name-iterator.ensures.into_iter_gives in
    let left = into_iter_items c.into_iter-name-iterator.result in
    record {
      named = ap (λ sources. map name_of sources ++ map string_bytes left) c.new-sources.ensures.items ∙ ap (map string_bytes) gives.0;
      read = subst (λ l. AreRead g.S.System.reads c.args.system.now (map source_value l) c.args.system.now) (sym c.new-sources.ensures.items) refl;
      counted = let here = ap length gives.0 in let small = c.args.names.ok.0 in omega (arith, here, small, gives.1);
    }

pub loop-name-preserved : goal.loop-name-preserved
loop-name-preserved g c =
    let step = c.in-Some.ensures.steps in
    let fewer = ap length step.0 in
    record {
      named = one_source_more name_of string_bytes c.loop-name.sources.items c.push.new.self.items c.in_ok-source.source (into_iter_items c.loop-name.name-iterator) c.in-Some.name (into_iter_items c.next.new.self) _
          (search rules) step.0 c.in_ok-source.ensures.named c.loop-name.invariant.named;
      read = reads_one_more g.S.System.reads c.args.system.now c.loop-name.system c.read_file.new.system c.loop-name.sources.items c.push.new.self.items c.in_ok-source.source (string_bytes c.in-Some.name)
          (search rules) c.in_ok-source.ensures.named c.loop-name.invariant.read c.in_ok-source.ensures.read;
      counted = let before = c.loop-name.invariant.counted in omega (arith, fewer, before, step.1);
    }

pub returns-in_err-source-clause-fault : goal.returns-in_err-source-clause-fault
returns-in_err-source-clause-fault g c =
    let reads = g.S.System.reads in
    let start = c.args.system.now in
    let end = c.read_file.new.system in
    let sources = c.loop-name.sources.items in
    let step = c.in-Some.ensures.steps in
    let name = string_bytes c.in-Some.name in
    let rest = map string_bytes (into_iter_items c.next.new.self) in
    passed_on c.from_residual.result c.from_residual.ensures.1 (λ fault same.
    subst (λ f. StopsReading reads start (map string_bytes c.args.names.items) end f) (sym same)
    (subst (λ names. StopsReading reads start names end c.in_err-source.field-0.0) (ap (λ l. map name_of sources ++ map string_bytes l) (sym step.0) ∙ c.loop-name.invariant.named)
    (stops_later reads start c.loop-name.system end (map source_value sources) (map name_of sources) (name ∷ rest) c.in_err-source.field-0.0
    c.loop-name.invariant.read (names_of_values sources) (stops_at reads c.loop-name.system end name rest c.in_err-source.field-0.0 c.in_err-source.ensures.fault))))

pub returns-in_err-push-clause-fault : goal.returns-in_err-push-clause-fault
returns-in_err-push-clause-fault g c =
    let reads = g.S.System.reads in
    let start = c.args.system.now in
    let end = c.read_file.new.system in
    let sources = c.loop-name.sources.items in
    let step = c.in-Some.ensures.steps in
    let source = c.in_ok-source.source in
    let rest = map string_bytes (into_iter_items c.next.new.self) in
    let read = reads_one_more reads start c.loop-name.system end sources (sources ++ source ∷ []) source (string_bytes c.in-Some.name) refl c.in_ok-source.ensures.named c.loop-name.invariant.read c.in_ok-source.ensures.read in
    let named = one_source_more name_of string_bytes sources (sources ++ source ∷ []) source (into_iter_items c.loop-name.name-iterator) c.in-Some.name (into_iter_items c.next.new.self) _
    refl step.0 c.in_ok-source.ensures.named c.loop-name.invariant.named in
    passed_on c.from_residual-in_err-push.result c.from_residual-in_err-push.ensures.1 (λ fault same.
    subst (λ names. StopsReading reads start names end fault) named
    (stops_later reads start end end (map source_value (sources ++ source ∷ [])) (map name_of (sources ++ source ∷ [])) rest fault
    read (names_of_values (sources ++ source ∷ [])) (stops_for_memory reads end rest fault same)))

pub returns-clause-read : goal.returns-clause-read
returns-clause-read g c = c.loop-name.invariant.read
