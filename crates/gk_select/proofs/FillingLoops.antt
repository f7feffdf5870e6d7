-- What the loops that fill a text go by.
use Rattle.gk_select.proofs.Common.{◌≡◌, ℕ, ◌<◌, if◌then◌else◌, List, [], ◌∷◌, ◌++◌, length, Option, Some, None, Result, Ok, Err, is_ok, IfOk, option_map, Bor, String, sym, ap, ◌∙◌, length-map, IsSplitOnceResult, split_parts, string_bytes, texts, cell_of, cell_or_byte, filled_piece}
use Rattle.std.proofs.lemmas.List.{append_assoc, append-nil}
use Rattle.gk_select.proofs.FilledPieces.{Without, fills_plain}

-- What is cut off at a byte.
module _ (c : ℕ) (bs : List ℕ) (r : Option (Bor (List ℕ) × Bor (List ℕ))) (split : IsSplitOnceResult c bs r) (ascii : c < 128) where
  pub cut : (x : Bor (List ℕ) × Bor (List ℕ)) → r ≡ Some x → (bs ≡ x.0.now ++ c ∷ x.1.now) × Without c x.0.now
  cut x is = let p = rw is at (split_parts c bs r split ascii) in (p.0, record { at = p.1 })

  pub uncut : r ≡ None → Without c bs
  uncut is = record { at = rw is at (split_parts c bs r split ascii) }

-- What the text before a `>` is filled with, up to its first `<`.
module _ (headers cells : List (List ℕ)) (rest before name : List ℕ) (is : rest ≡ before ++ 60 ∷ name) (plain : Without 60 before) where
  to_placeholder : filled_piece headers cells rest ≡ before ++ cell_or_byte (cell_of headers cells name) 60 (filled_piece headers cells name)
  unfolding filled_piece
  to_placeholder = rw is (fills_plain headers cells before (60 ∷ name) plain)

  pub at_placeholder : (cell : List ℕ) → cell_of headers cells name ≡ Some cell → filled_piece headers cells rest ≡ before ++ cell
  at_placeholder cell e = to_placeholder ∙ ap (λ (o : Option (List ℕ)). before ++ cell_or_byte o 60 (filled_piece headers cells name)) e

  pub at_other : cell_of headers cells name ≡ None → filled_piece headers cells rest ≡ before ++ (60 ∷ filled_piece headers cells name)
  at_other e = to_placeholder ∙ ap (λ (o : Option (List ℕ)). before ++ cell_or_byte o 60 (filled_piece headers cells name)) e

pub at_end : (headers cells : List (List ℕ)) (rest : List ℕ) → Without 60 rest → filled_piece headers cells rest ≡ rest ++ 62 ∷ []
unfolding filled_piece
at_end headers cells rest plain = ap (filled_piece headers cells) (sym (append-nil rest)) ∙ fills_plain headers cells rest [] plain

pub no_cell : {r : Option (Bor (List ℕ))} {o : Option (List ℕ)} → option_map (λ (x : Bor (List ℕ)). x.now) r ≡ o → r ≡ None → o ≡ None
no_cell e n = sym e ∙ ap (option_map (λ (x : Bor (List ℕ)). x.now)) n

-- What was pushed goes from what is to come to what is there.
pub pushed : {s' rest total : List ℕ} (s part after : List ℕ) → s' ≡ s ++ part → rest ≡ part ++ after → s ++ rest ≡ total → s' ++ after ≡ total
pushed s part after a b t = rw a (append_assoc s part after ∙ ap (λ (bs : List ℕ). s ++ bs) (sym b) ∙ t)

-- The last push, whose answer is handed on.
pub if_ok : {T E : Type 0} (r : Result T E) {new whole total : List ℕ} (old : List ℕ) → new ≡ (if is_ok r then whole else old) → whole ≡ total → IfOk r (λ _. new ≡ total)
if_ok (Ok x) old e w = e ∙ w
if_ok (Err x) old e w = tt

pub some_cell : {r : Option (Bor (List ℕ))} {o : Option (List ℕ)} {cell : Bor (List ℕ)} → option_map (λ (x : Bor (List ℕ)). x.now) r ≡ o → r ≡ Some cell → o ≡ Some cell.now
some_cell e n = sym e ∙ ap (option_map (λ (x : Bor (List ℕ)). x.now)) n

pub fit : {Z : Type 0} (names : List (List ℕ)) (row : List (String Z)) → length row ≡ length names → length (texts row) ≡ length names
fit names row e = length-map row string_bytes ∙ e
