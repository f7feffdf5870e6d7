-- An index of files by their names.
use Rattle.std.proofs.Common.{◌≡◌, ◌∙◌, ◌<◌, ◌+◌, ap, refl, sym, subst, List, ℕ, Bool, true, false, cond, Option, Some, option_map, Bor, length, map, drop, get_or}
use Rattle.std.proofs.lemmas.List.{drop_more}
use Rattle.std.specs.Prelude.{bytes_eq}
use Rattle.std.specs.BTreeMap.{BTreeMap, get_by}
use Rattle.std.specs.Cmp.Lexicographic.{slice_cmp}
use Rattle.std.specs.Map.{update}
use Rattle.std.specs.Ordering.{nat_cmp}
use Rattle.gk_request.specs.Source.{SourceValue}
use Rattle.gk_c.specs.CallerFiles.{IsIndexOf, file_value}
use Rattle.gk_c.specs.declared.caller_files.File.{File}

by_name : (b : Bool) (file : SourceValue) (bytes : Bor (List ℕ)) (got : Option (Bor (List ℕ))) (found : Option SourceValue) → bytes.now ≡ file.bytes
    → option_map (λ (x : Bor (List ℕ)). x.now) got ≡ option_map (λ (f : SourceValue). f.bytes) found
    → option_map (λ (x : Bor (List ℕ)). x.now) (cond b (Some bytes) got) ≡ option_map (λ (f : SourceValue). f.bytes) (cond b (Some file) found)
by_name true file bytes got found same e = ap Some same
by_name false file bytes got found same e = e

-- one file more, before the others
pub indexed_more : (old new : BTreeMap (Bor (List ℕ)) (Bor (List ℕ))) (files : List File) (i : ℕ) (d : File) → i < length files
    → ((other : List ℕ) → get_by (λ key. slice_cmp nat_cmp other key.now) new ≡ update bytes_eq (λ ds. get_by (λ key. slice_cmp nat_cmp ds key.now) old) (get_or files i d).name.now (Some (get_or files i d).bytes) other)
    → IsIndexOf old (map file_value (drop (i + 1) files)) → IsIndexOf new (map file_value (drop i files))
indexed_more old new files i d less more before = subst (λ fs. IsIndexOf new (map file_value fs)) (sym (drop_more files i d less)) (λ other.
    ap (option_map (λ (x : Bor (List ℕ)). x.now)) (more other) ∙ by_name (bytes_eq (get_or files i d).name.now other) (file_value (get_or files i d)) (get_or files i d).bytes (get_by (λ key. slice_cmp nat_cmp other key.now) old) _ refl (before other))
