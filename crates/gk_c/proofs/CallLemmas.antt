-- Reading the arguments of a call.
use Rattle.std.proofs.Common.{◌≡◌, ◌∙◌, ◌+◌, ◌<◌, ◌++◌, subst, sym, List, [], ◌∷◌, ℕ, length, map, drop, get_or, append_assoc}
use Rattle.std.proofs.lemmas.List.{at_drop_more, drop_more, get_or-map, length-map}
use Rattle.std.proofs.lemmas.List.Elements.{All-cons}
use Rattle.std.specs.List.{All, Any}
use Rattle.std.specs.Prelude.{IsUtf8}
use Rattle.gk_c.specs.Words.{IsNoText, text_value}
use Rattle.gk_c.specs.declared.words.Text.{Text}

module _ (arguments : List Text) (i : ℕ) (d : Text) (lt : i < length arguments) where
  -- an argument that isn't UTF-8
  pub bad_here : IsNoText (text_value (get_or arguments i d)) → Any IsNoText (map text_value arguments)
  bad_here here =
      let less : i < length (map text_value arguments) = rw length-map lt in
      (i, text_value (get_or arguments i d), less, get_or-map text_value arguments i d (text_value (get_or arguments i d)) lt, here)

  -- one that is, before others
  pub good_here : IsUtf8 (text_value (get_or arguments i d)) → All IsUtf8 (map text_value (drop (i + 1) arguments)) → All IsUtf8 (map text_value (drop i arguments))
  good_here here later = subst (λ l. All IsUtf8 (map text_value l)) (sym (drop_more arguments i d lt)) (All-cons IsUtf8 (text_value (get_or arguments i d)) (map text_value (drop (i + 1) arguments)) here later)

  -- the words so far with one more, and the arguments that are left
  pub one_more : (words : List (List ℕ)) → (words ++ text_value (get_or arguments i d) ∷ []) ++ map text_value (drop (i + 1) arguments) ≡ words ++ map text_value (drop i arguments)
  one_more words = append_assoc words (text_value (get_or arguments i d) ∷ []) (map text_value (drop (i + 1) arguments)) ∙ sym (at_drop_more (λ l. words ++ map text_value l) arguments i d lt)
