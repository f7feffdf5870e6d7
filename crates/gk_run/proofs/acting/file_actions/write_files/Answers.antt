use Rattle.gk_run.proofs.Common.{◌∙◌, ap, sym, subst, refl, List, map, option_map, Bor, block_value, Block, files_below, state_of, Done, IsActed, write_below, write_table}
use Rattle.gk_run.specs.declared.results.Outcome.TheVariants as outcomes
use Rattle.gk_run.specs.declared.results.Reason.TheVariants as reasons
use Rattle.gk_run.proofs.ActingLemmas.{RowInMemory, cells, stayed}
use Rattle.gk_run.proofs.acting.file_actions.write_files.Goals as goal

pub returns-in-Some : goal.returns-in-Some
returns-in-Some c =
    let s = state_of c.args.sandbox.now.now in
    let is = ap (option_map (λ (rows : Bor (List RowInMemory)). map cells rows.now)) (sym c.in-Some.is) ∙ c.files_below.ensures ∙ ap (λ (rows : List RowInMemory). files_below (map cells rows)) c.deref.ensures.value in
    subst (λ (d : Done). IsActed d c.args.sandbox.now c.write_rows.result c.write_rows.new.sandbox)
    (ap (write_below s) is ∙ ap (λ (b : Block). write_table s (block_value b)) (sym c.in-Table.is)) c.write_rows.ensures

pub returns-in-None : goal.returns-in-None
returns-in-None c =
    let old = c.args.sandbox.now in
    let s = state_of old.now in
    let is = ap (option_map (λ (rows : Bor (List RowInMemory)). map cells rows.now)) (sym c.in-None.is) ∙ c.files_below.ensures ∙ ap (λ (rows : List RowInMemory). files_below (map cells rows)) c.deref.ensures.value in
    subst (λ (d : Done). IsActed d old (outcomes.Failed reasons.BadTable) old)
    (ap (write_below s) is ∙ ap (λ (b : Block). write_table s (block_value b)) (sym c.in-Table.is)) (stayed old _ (outcomes.Failed reasons.BadTable) refl refl)
