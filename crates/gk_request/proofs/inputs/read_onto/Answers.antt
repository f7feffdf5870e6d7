use Rattle.gk_request.proofs.Common.{◌++◌, ◌∷◌, [], Some, ap, ◌∙◌, map, map_push, feature_value, chosen_value, subst, sym, AllByRecursion, IsFormed}
use Rattle.gk_request.proofs.InputsLemmas.{all_push}
use Rattle.gk_request.proofs.inputs.read_onto.Goals as goal

pub chosen_of-requires : goal.chosen_of-requires
chosen_of-requires c =
    let read = rw c.in-Some.is at c.in_ok-feature.ensures.read in
    c.read_features_are_expandable.ensures _ (feature_value c.in-Some.feature) read.text read.reads

pub returns-clause-ok : goal.returns-clause-ok
returns-clause-ok c =
    let old = c.args.read.now.features.items in
    let chosen = c.in_ok-chosen.chosen in
    let items = c.in_ok-push.ensures.items in
    let value = rw c.as_str.ensures.value at c.in_ok-chosen.ensures.chosen in
    record {
      reading = Some (feature_value c.in-Some.feature);
      read = rw (c.in-Some.is, c.as_slice.ensures.value) at c.in_ok-feature.ensures.read;
      added = ap (map chosen_value) items ∙ map_push chosen_value old chosen ∙ ap (λ (x : _). map chosen_value old ++ x ∷ []) value;
      rows = c.in_ok-add_rows.ensures;
      formed = λ all. subst (AllByRecursion IsFormed) (sym items) (all_push IsFormed old chosen all c.in_ok-chosen.ensures.formed);
    }
