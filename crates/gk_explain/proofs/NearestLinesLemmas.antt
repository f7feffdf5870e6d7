-- What is kept of the nearest entries, where more is.
use Rattle.gk_explain.proofs.Common.{◌≡◌, ◌∙◌, ℕ, Bool, true, false, cond, List, String, string_bytes, Option, Some, IfSome, refl, ap, sym, subst, HashMap, get_by_text, update, bytes_eq, bytes_eq-Decides, LibraryValue, nearest_text, AreNearest}

-- What was kept for a text.
pub kept_line : {X Y S : Type 0} (library : LibraryValue) (m : HashMap (String X) (String Y) S) (text : List ℕ) (line : String Y) → AreNearest library m → Some line ≡ get_by_text m text → string_bytes line ≡ nearest_text library text
kept_line {Y = Y} library m text line held is = subst (λ (o : Option (String Y)). IfSome o (λ line. string_bytes line ≡ nearest_text library text)) (sym is) (held text)

-- One of two, by a test.
by_test : {A : Type 0} (P : A → Type 0) (this that : A) (b : Bool) → (b ≡ true → P this) → P that → P (cond b this that)
by_test P this that true here there = here refl
by_test P this that false here there = there

-- A line for one text more.
pub still_nearest : {X Y S : Type 0} (library : LibraryValue) (m n : HashMap (String X) (String Y) S) (key : List ℕ) (line : String Y) → ((text : List ℕ) → get_by_text n text ≡ update bytes_eq (get_by_text m) key (Some line) text) →
    string_bytes line ≡ nearest_text library key → AreNearest library m → AreNearest library n
still_nearest {Y = Y} library m n key line updates is held text =
    let P : Option (String Y) → Type 0 = λ o. IfSome o (λ line. string_bytes line ≡ nearest_text library text) in
    subst P (sym (updates text)) (by_test P (Some line) (get_by_text m text) (bytes_eq key text) (λ same. is ∙ ap (nearest_text library) ((bytes_eq-Decides key text).0 same)) (held text))
