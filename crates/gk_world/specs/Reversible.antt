-- The undo of a change of the contents.
use Rattle.std.specs.Prelude.{ℕ, suc, cond, nat_eq, List, [], ◌∷◌, length, Option}
use Rattle.gk_world.specs.State.{Texts, Contents, with_entries}

-- A map of the contents: the files, the variables, or the values of the layer with this number, counted from 1 at the outermost.
pub data Which : Type 0 where
  of_files : Which
  of_env : Which
  of_layer : ℕ → Which

-- An undo: a map, and names in it, each with the text that it had there, if it had one.
pub record UndoValue : Type 0 where
  pub which : Which
  pub old : List (List ℕ × Option (List ℕ))

-- The values with another map for the layer with this number. The first in the list is the innermost, whose number is the list's length.
abbrev pub with_values : ℕ → (Texts → Texts) → List Texts → List Texts
with_values number change [] = []
with_values number change (v ∷ vs) = cond (nat_eq number (suc (length vs))) (change v ∷ vs) (v ∷ with_values number change vs)

-- The contents with one of their maps changed.
abbrev pub with_map : Which → (Texts → Texts) → Contents → Contents
with_map of_files change c = record c { files = change c.files }
with_map of_env change c = record c { env = change c.env }
with_map (of_layer number) change c = record c { values = with_values number change c.values }

-- The contents after an undo: each of its names has its old text again, or is gone, and the rest stays.
abbrev pub undone : UndoValue → Contents → Contents
undone u c = with_map u.which (λ m. with_entries m u.old) c
