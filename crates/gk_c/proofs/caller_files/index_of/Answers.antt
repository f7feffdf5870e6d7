use Rattle.std.proofs.Common.{◌≡◌, ◌≤◌, ◌<◌, ◌-◌, ◌+◌, subst, length, map, drop, arith}
use Rattle.std.proofs.lemmas.Map.Text.{btree_map_updates_str}
use Rattle.gk_c.specs.CallerFiles.{IsIndexOf, file_value}
use Rattle.gk_c.proofs.IndexedFiles.{indexed_more}
use Rattle.gk_c.proofs.caller_files.index_of.Goals as goal

pub files-preserved : goal.files-preserved
files-preserved c =
    let files = c.args.files.now in
    let i = c.files.left - 1 in
    let within : c.files.left ≤ length files = c.files.invariant.within in
    let more : 0 < c.files.left = c.files-test.true in
    let next : c.files.left ≡ i + 1 = omega (arith, more) in
    record {
      within = omega (arith, within);
      indexed = indexed_more c.files.index c.insert.new.self files i _ (omega (arith, within, more)) (btree_map_updates_str _ c.files.index c.insert.new.self _ c.in_ok-insert.ensures.updates)
          (subst (λ n. IsIndexOf c.files.index (map file_value (drop n files))) next c.files.invariant.indexed);
    }
