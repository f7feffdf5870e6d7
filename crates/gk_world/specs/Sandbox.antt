-- A sandbox as contracts see it.
use Rattle.std.specs.Prelude.{◌≡◌, ℕ, zero, suc, ◌<◌, List, [], ◌∷◌, ◌++◌, length, drop, Option, Some, None, IfSome, unwrap_or, false, refl}
use Rattle.std.specs.FinMap as finite
use Rattle.std.specs.List.{AllByRecursion}
use Rattle.std.specs.Coded.{Coded, code_by, coded×, coded_list, coded_option, coded_ℕ}
use Rattle.std.proofs.Common.{ap}
use Rattle.gk_world.specs.State.{Texts, Contents, with_layer, with_innermost, nothing_yet, contents_code, with_text, without, state_of}
use Rattle.gk_world.specs.Refusals.{joined, is_too_long}
use Rattle.gk_world.specs.Journal.{rewound}
use Rattle.gk_world.specs.Reversible.{Which, of_files, of_env, of_layer, UndoValue, undone}

-- A sandbox as contracts see it: the contents; for each open layer, the innermost first, what its end restores; the recorded undos, the oldest first. `starts` has the number of undos that were recorded when each layer began.
pub record SandboxValue : Type 0 where
  pub now : Contents
  pub saved : List Contents
  pub entries : List UndoValue
  pub starts : List ℕ

-- A new sandbox: empty, with no open layer.
abbrev pub new_sandbox : SandboxValue
new_sandbox = record { now = nothing_yet; saved = []; entries = []; starts = [] }

-- The number of open layers. (behave's documentation: context layers)
abbrev pub depth : SandboxValue → ℕ
depth s = length s.saved

-- The sandbox after a layer begins: the layer's end is to restore the present contents, and it has no values yet. (behave's documentation: context layers)
abbrev pub layer_begun : SandboxValue → SandboxValue
layer_begun s = record { now = with_layer s.now; saved = s.now ∷ s.saved; entries = s.entries; starts = length s.entries ∷ s.starts }

-- The end of a layer: the contents that it saved are restored, and what was recorded since its beginning is forgotten. (behave's documentation: context layers)
pub record EndsLayer (old new : SandboxValue) : Type 0 where
  pub given_back : old.saved ≡ new.now ∷ new.saved
  pub forgotten : old.starts ≡ length new.entries ∷ new.starts

-- The end of a layer: the undos recorded since its beginning, the newest first, give the new contents with an empty map for the layer. What was recorded before stays.
pub record EndsByUndos (old new : SandboxValue) : Type 0 where
  pub since : List UndoValue
  pub older : old.entries ≡ new.entries ++ since
  pub given_back : rewound undone since old.now ≡ with_layer new.now

-- A change is recorded as the newest undo, which restores the contents before it, and the older ones stay. If no layer is open, nothing is recorded.
abbrev pub Records : List Contents → SandboxValue → SandboxValue → Type 0
Records [] old new = new.entries ≡ old.entries
Records (c ∷ cs) old new = (u : UndoValue) × (new.entries ≡ old.entries ++ u ∷ []) × (undone u new.now ≡ old.now)

-- One change leads to these contents, and what each layer's end restores stays. If no layer is open, the change isn't recorded and is permanent.
pub record Becomes (now : Contents) (old new : SandboxValue) : Type 0 where
  pub contents : new.now ≡ now
  pub layers : new.saved ≡ old.saved
  pub starts : new.starts ≡ old.starts
  pub recorded : Records old.saved old new

-- A change keeps what each layer's end restores, and where each layer starts. (behave's documentation: context layers)
pub record KeepsLayers (old new : SandboxValue) : Type 0 where
  pub layers : new.saved ≡ old.saved
  pub starts : new.starts ≡ old.starts

-- The second sandbox comes from the first by changes and complete inner layers. A refused change leaves it as it is. (behave's documentation: context layers)
pub data LeadsTo : SandboxValue → SandboxValue → Type 0 where
  done : {s : SandboxValue} → LeadsTo s s
  change : {s t u : SandboxValue} → KeepsLayers s t → LeadsTo t u → LeadsTo s u
  layer : {s t u v : SandboxValue} → LeadsTo (layer_begun s) t → EndsLayer t u → LeadsTo u v → LeadsTo s v

-- The contents, what each open layer's end restores, where it starts and the number of entries are the same. (behave's documentation: context layers)
pub record IsSame (old new : SandboxValue) : Type 0 where
  pub contents : new.now ≡ old.now
  pub saved : new.saved ≡ old.saved
  pub starts : new.starts ≡ old.starts
  pub recorded : length new.entries ≡ length old.entries

-- Whatever is done in a layer, its end restores what was there at its beginning. (behave's documentation: context layers)
abbrev pub LayersGiveBack : Type 0
LayersGiveBack = (s t u : SandboxValue) → LeadsTo (layer_begun s) t → EndsLayer t u → IsSame s u

-- The contents with the given number of further layers, which have no values. (behave's documentation: context layers)
abbrev pub with_layers : ℕ → Contents → Contents
with_layers zero c = c
with_layers (suc n) c = with_layer (with_layers n c)

-- For each open layer, the undos recorded since its start lead back to what its end restores, with an empty map for that layer and each inner one. The lists have the innermost layer first, and `inside` counts the layers inside the first of them.
abbrev pub Rewinds : ℕ → List Contents → List ℕ → List UndoValue → Contents → Type 0
Rewinds inside [] [] entries now = Unit {0}
Rewinds inside (c ∷ cs) (start ∷ starts) entries now = (rewound undone (drop start entries) now ≡ with_layers (suc inside) c) × Rewinds (suc inside) cs starts entries now
Rewinds inside [] (start ∷ starts) entries now = ⊥
Rewinds inside (c ∷ cs) [] entries now = ⊥

-- An invariant of a sandbox: its undos restore what its layers saved.
abbrev pub UndosGiveBack : SandboxValue → Type 0
UndosGiveBack s = Rewinds 0 s.saved s.starts s.entries s.now

-- No text of a map is too long.
abbrev pub NoneTooLong : Texts → Type 0
NoneTooLong m = (name : List ℕ) → IfSome (finite.get m name) (λ text. is_too_long text ≡ false)

-- No text of a file, a variable or a value in contents is too long.
pub record HasShortTexts (c : Contents) : Type 0 where
  pub files : NoneTooLong c.files
  pub env : NoneTooLong c.env
  pub values : AllByRecursion NoneTooLong c.values

-- An invariant of a sandbox: no text is too long, now or after the end of a layer.
pub record TextsAreShort (s : SandboxValue) : Type 0 where
  pub now : HasShortTexts s.now
  pub saved : AllByRecursion HasShortTexts s.saved

-- A map of the contents as an option, which is how a program's value encodes it.
abbrev pub which_as_option : Which → Option (Option ℕ)
which_as_option of_files = None
which_as_option of_env = Some None
which_as_option (of_layer number) = Some (Some number)

-- The map that such an option names.
abbrev pub which_of_option : Option (Option ℕ) → Which
which_of_option None = of_files
which_of_option (Some None) = of_env
which_of_option (Some (Some number)) = of_layer number

-- Encoding a map and decoding it gives the same map.
abbrev pub which_again : (w : Which) → which_of_option (which_as_option w) ≡ w
which_again of_files = refl
which_again of_env = refl
which_again (of_layer number) = refl

-- How a program's value encodes an undo.
abbrev pub undo_code : Coded UndoValue
undo_code = code_by (Option (Option ℕ) × List (List ℕ × Option (List ℕ)))
    (coded× (coded_option (coded_option coded_ℕ)) (coded_list (coded× (coded_list coded_ℕ) (coded_option (coded_list coded_ℕ)))))
    (λ u. (which_as_option u.which, u.old)) (λ p. record { which = which_of_option p.0; old = p.1 })
    (λ u. ap (λ w. record { which = w; old = u.old }) (which_again u.which))

-- How a program's value encodes a sandbox.
abbrev pub sandbox_code : Coded SandboxValue
sandbox_code = code_by (Contents × (List Contents × (List UndoValue × List ℕ)))
    (coded× contents_code (coded× (coded_list contents_code) (coded× (coded_list undo_code) (coded_list coded_ℕ))))
    (λ s. (s.now, (s.saved, (s.entries, s.starts)))) (λ p. record { now = p.0; saved = p.1.0; entries = p.1.1.0; starts = p.1.1.1 }) (λ _. refl)

-- The contents with this text in a file.
abbrev pub with_file : Contents → List ℕ → List ℕ → Contents
with_file c name text = record c { files = finite.insert c.files name text }

-- The contents with more at the end of a file's text.
abbrev pub with_more : Contents → List ℕ → List ℕ → Contents
with_more c name more = with_file c name (joined (finite.get c.files) name more)

-- The contents without a file.
abbrev pub without_file : Contents → List ℕ → Contents
without_file c name = record c { files = finite.remove c.files name }

-- The contents in which a file's text has moved to another name. No text counts as empty.
abbrev pub with_renamed : Contents → List ℕ → List ℕ → Contents
with_renamed c name to = with_file (without_file c name) to (unwrap_or (finite.get c.files name) [])

-- The contents with this text in a variable.
abbrev pub with_env : Contents → List ℕ → List ℕ → Contents
with_env c name text = record c { env = finite.insert c.env name text }

-- The contents without a variable.
abbrev pub without_env : Contents → List ℕ → Contents
without_env c name = record c { env = finite.remove c.env name }

-- The contents with this text in a value of the innermost layer. (behave's documentation: context layers)
abbrev pub with_value : Contents → List ℕ → List ℕ → Contents
with_value c name text = record c { values = with_innermost (λ v. finite.insert v name text) c.values }

-- The contents without a value of the innermost layer. (behave's documentation: context layers)
abbrev pub without_value : Contents → List ℕ → Contents
without_value c name = record c { values = with_innermost (λ v. finite.remove v name) c.values }

-- One change gives a file a text, and what each layer's end restores stays.
abbrev pub PutsFile : SandboxValue → List ℕ → List ℕ → SandboxValue → Type 0
PutsFile old name text new = Becomes (with_file old.now name text) old new

-- One change appends to a file, and what each layer's end restores stays.
abbrev pub AppendsToFile : SandboxValue → List ℕ → List ℕ → SandboxValue → Type 0
AppendsToFile old name more new = Becomes (with_more old.now name more) old new

-- One change removes a file, and what each layer's end restores stays.
abbrev pub RemovesFile : SandboxValue → List ℕ → SandboxValue → Type 0
RemovesFile old name new = Becomes (without_file old.now name) old new

-- One change renames a file, and what each layer's end restores stays.
abbrev pub RenamesFile : SandboxValue → List ℕ → List ℕ → SandboxValue → Type 0
RenamesFile old name to new = Becomes (with_renamed old.now name to) old new

-- One change sets a variable, and what each layer's end restores stays.
abbrev pub PutsEnv : SandboxValue → List ℕ → List ℕ → SandboxValue → Type 0
PutsEnv old name text new = Becomes (with_env old.now name text) old new

-- One change removes a variable, and what each layer's end restores stays.
abbrev pub RemovesEnv : SandboxValue → List ℕ → SandboxValue → Type 0
RemovesEnv old name new = Becomes (without_env old.now name) old new

-- One change sets a value of the innermost layer, and what each layer's end restores stays. (behave's documentation: context layers)
abbrev pub SetsValue : SandboxValue → List ℕ → List ℕ → SandboxValue → Type 0
SetsValue old name text new = Becomes (with_value old.now name text) old new

-- One change deletes a value of the innermost layer, and what each layer's end restores stays. (behave's documentation: context layers)
abbrev pub DeletesValue : SandboxValue → List ℕ → SandboxValue → Type 0
DeletesValue old name new = Becomes (without_value old.now name) old new

-- The effect of each change of contents on the plain state. A value belongs to the innermost layer, so a layer has to be open. (behave's documentation: context layers)
pub record ChangesAreOfState : Type 0 where
  pub file : (c : Contents) (name text : List ℕ) → state_of (with_file c name text) ≡ record (state_of c) { files = with_text (state_of c).files name text }
  pub no_file : (c : Contents) (name : List ℕ) → state_of (without_file c name) ≡ record (state_of c) { files = without (state_of c).files name }
  pub env : (c : Contents) (name text : List ℕ) → state_of (with_env c name text) ≡ record (state_of c) { env = with_text (state_of c).env name text }
  pub no_env : (c : Contents) (name : List ℕ) → state_of (without_env c name) ≡ record (state_of c) { env = without (state_of c).env name }
  pub value : (c : Contents) (name text : List ℕ) → 0 < length c.values → state_of (with_value c name text) ≡ record (state_of c) { own = with_text (state_of c).own name text }
  pub no_value : (c : Contents) (name : List ℕ) → 0 < length c.values → state_of (without_value c name) ≡ record (state_of c) { own = without (state_of c).own name }
