-- The contents of a sandbox, and the plain state that they give, which is never undone. A *layer* is opened by the run, a feature, a rule or a scenario; its end restores what its beginning found.
use Rattle.std.specs.Prelude.{◌≡◌, ℕ, cond, List, [], ◌∷◌, Option, None, Some, bytes_eq, refl}
use Rattle.std.specs.Coded.{Coded, code_by, coded×, coded_list, coded_ℕ}
use Rattle.std.specs.Option.{option_or}
use Rattle.std.specs.Ordering.{nat_cmp}
use Rattle.std.specs.Cmp.Lexicographic.{slice_cmp}
use Rattle.std.specs.FinMap as finite

-- The number of layers that can be open: run, feature, rule and scenario. (behave's documentation: context layers; that of a rule is this project's profile)
abbrev pub layers : ℕ
layers = 4

-- A finite map from names to texts.
abbrev pub Texts : Type 0
Texts = finite.FinMap {K = List ℕ} (slice_cmp nat_cmp) (List ℕ)

-- A map with this text at a name, or without the name if there is no text.
abbrev pub with_entry : Texts → List ℕ → Option (List ℕ) → Texts
with_entry m name None = finite.remove m name
with_entry m name (Some text) = finite.insert m name text

-- A map in which each of these names gets its text, or is removed if there is no text, one after another.
abbrev pub with_entries : Texts → List (List ℕ × Option (List ℕ)) → Texts
with_entries m [] = m
with_entries m (e ∷ es) = with_entries (with_entry m e.0 e.1) es

-- Files, variables, and one map of values for each open layer, the innermost first. (behave's documentation: context layers)
pub record Contents : Type 0 where
  pub files : Texts
  pub env : Texts
  pub values : List Texts

-- Empty contents: no file, no variable, no open layer.
abbrev pub nothing_yet : Contents
nothing_yet = record { files = finite.empty; env = finite.empty; values = [] }

-- The contents with one more layer, which has no values yet. (behave's documentation: context layers)
abbrev pub with_layer : Contents → Contents
with_layer c = record c { values = finite.empty ∷ c.values }

-- The maps with the first one changed.
abbrev pub with_innermost : (Texts → Texts) → List Texts → List Texts
with_innermost f [] = []
with_innermost f (v ∷ vs) = f v ∷ vs

-- A function that gives the text of each name, if any.
abbrev pub Map : Type 0
Map = List ℕ → Option (List ℕ)

-- The map without names.
abbrev pub nothing : Map
nothing name = None

-- The map with this text at a name.
abbrev pub with_text : Map → List ℕ → List ℕ → Map
with_text m name text = λ other. cond (bytes_eq other name) (Some text) (m other)

-- The map without a name.
abbrev pub without : Map → List ℕ → Map
without m name = λ other. cond (bytes_eq other name) None (m other)

-- One map laid over another: if both have a name, the upper one counts. (behave's documentation: context layers)
abbrev pub laid_over : Map → Map → Map
laid_over upper lower = λ name. option_or (upper name) (lower name)

-- Files, variables, the values of the outer layers laid over one another, and the innermost layer's own values. (behave's documentation: context layers)
pub record State : Type 0 where
  pub files : Map
  pub env : Map
  pub outer : Map
  pub own : Map

-- The visible value of a name: an own value hides an outer one. (behave's documentation: context layers)
abbrev pub see : State → List ℕ → Option (List ℕ)
see s name = option_or (s.own name) (s.outer name)

-- The state after a layer begins: the own values are laid over the outer ones, and no value is own. (behave's documentation: context layers)
abbrev pub enter : State → State
enter s = record s { outer = laid_over s.own s.outer; own = nothing }

-- The values of layers laid over one another, the innermost first. (behave's documentation: context layers)
abbrev pub laid : List Texts → Map
laid [] = nothing
laid (v ∷ vs) = laid_over (finite.get v) (laid vs)

-- The innermost layer's values; none if no layer is open. (behave's documentation: context layers)
abbrev pub own_of : List Texts → Map
own_of [] = nothing
own_of (v ∷ vs) = finite.get v

-- The values of all layers outside the innermost. (behave's documentation: context layers)
abbrev pub outer_of : List Texts → Map
outer_of [] = nothing
outer_of (v ∷ vs) = laid vs

-- The plain state that contents give. (behave's documentation: context layers)
abbrev pub state_of : Contents → State
state_of c = record { files = finite.get c.files; env = finite.get c.env; outer = outer_of c.values; own = own_of c.values }

-- Inserting a text into a finite map sets it at its name and keeps the rest.
abbrev pub PutsText : Type 0
PutsText = (m : Texts) (name text : List ℕ) → finite.get (finite.insert m name text) ≡ with_text (finite.get m) name text

-- Removing a name from a finite map leaves no text at the name and keeps the rest.
abbrev pub RemovesName : Type 0
RemovesName = (m : Texts) (name : List ℕ) → finite.get (finite.remove m name) ≡ without (finite.get m) name

-- The beginning of a layer in contents enters the plain state. (behave's documentation: context layers)
abbrev pub Enters : Type 0
Enters = (c : Contents) → state_of (with_layer c) ≡ enter (state_of c)

-- How a program's value encodes a map.
abbrev pub texts_code : Coded Texts
texts_code = finite.code (coded_list coded_ℕ) (coded_list coded_ℕ)

-- How a program's value encodes contents.
abbrev pub contents_code : Coded Contents
contents_code = code_by (Texts × (Texts × List Texts)) (coded× texts_code (coded× texts_code (coded_list texts_code)))
    (λ c. (c.files, (c.env, c.values))) (λ p. record { files = p.0; env = p.1.0; values = p.1.1 }) (λ _. refl)
