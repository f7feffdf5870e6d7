-- A cache of the lines that name nearest entries.
use Rattle.std.specs.Prelude.{◌≡◌, ℕ, List, String, string_bytes, IfSome}
use Rattle.std.specs.HashMap.{HashMap, get_by_text}
use Rattle.gk_steps.specs.Finding.{LibraryValue}
use Rattle.gk_explain.specs.Nearest.{nearest_text}

-- What is kept for a text is the line, if any, that names the entry of a library nearest to it.
abbrev pub AreNearest : {X Y S : Type 0} → LibraryValue → HashMap (String X) (String Y) S → Type 0
AreNearest library lines = (text : List ℕ) → IfSome (get_by_text lines text) (λ line. string_bytes line ≡ nearest_text library text)
