-- Changes keep texts short.
use Rattle.gk_world.proofs.Common.{◌≡◌, ℕ, false, List, [], ◌∷◌, Some, None, IfSome, is_none, unwrap_or, bytes_eq, string_bytes, refl, sym, subst, arith, common_steps, AllByRecursion, get, empty, get-empty, Texts, Map, Contents, with_entry, with_innermost, state_of, Cell, is_too_long, joined, put_refusal, append_refusal, TableChange, ValueChange, WorldChange, changed, refusal, SandboxValue, NoneTooLong, HasShortTexts, TextsAreShort, layer_begun, EndsLayer}
use Rattle.gk_world.specs.declared.table.TableChange.TheVariants as tables
use Rattle.gk_world.specs.declared.values.ValueChange.TheVariants as values
use Rattle.gk_world.specs.declared.world.WorldChange.TheVariants as changes
use Rattle.gk_world.specs.Table as table
use Rattle.gk_world.specs.Values as value
use Rattle.gk_world.proofs.SlotsLemmas.{get-with_entry}

-- ---- what a change that isn't refused puts in is short

-- where nothing refuses to put more at a text's end, nothing refuses to put the joined text
pub append_puts : (m : Map) (name more : List ℕ) → append_refusal m name more ≡ None → put_refusal name (joined m name more) ≡ None
append_puts m name more h = grind (arith, common_steps, is_none)

put_short : (name text : List ℕ) → put_refusal name text ≡ None → is_too_long text ≡ false
put_short name text h = grind (arith, common_steps)

-- ---- maps
abbrev IsShort : Cell → Type 0
IsShort cell = IfSome cell (λ text. is_too_long text ≡ false)

pub short_empty : NoneTooLong empty
short_empty name = subst IsShort (sym (get-empty _ name)) tt

short_entry : (m : Texts) (name : List ℕ) (cell : Cell) → IsShort cell → NoneTooLong m → NoneTooLong (with_entry m name cell)
short_entry m name cell short h q = grind (arith, common_steps, get-with_entry, bytes_eq)

held_short : (cell : Cell) → IsShort cell → is_too_long (unwrap_or cell []) ≡ false
held_short None short = refl
held_short (Some text) short = short

short_table : (c : TableChange) (m : Texts) → table.refusal c m ≡ None → NoneTooLong m → NoneTooLong (table.changed c m)
short_table (tables.Put name text) m r h = short_entry m _ (Some _) (put_short (string_bytes name) _ r) h
short_table (tables.Append name more) m r h = short_entry m _ (Some _) (put_short (string_bytes name) _ (append_puts (get m) (string_bytes name) (string_bytes more) r)) h
short_table (tables.Remove name) m r h = short_entry m _ None tt h
short_table (tables.Rename name to) m r h = short_entry _ _ (Some _) (held_short (get m (string_bytes name)) (h (string_bytes name))) (short_entry m _ None tt h)

-- ---- contents
short_value : (c : ValueChange) (m : Contents) → value.refusal c (state_of m) ≡ None → IsShort (value.text_of c)
short_value (values.Set layer name text) m r = put_short (string_bytes name) _ r
short_value (values.Delete layer name) m r = tt

short_innermost : (name : List ℕ) (cell : Cell) (vs : List Texts) → IsShort cell → AllByRecursion NoneTooLong vs → AllByRecursion NoneTooLong (with_innermost (λ v. with_entry v name cell) vs)
short_innermost name cell [] short h = tt
short_innermost name cell (v ∷ vs) short h = (short_entry v name cell short h.0, h.1)

pub short_changed : (c : WorldChange) (m : Contents) → refusal c m ≡ None → HasShortTexts m → HasShortTexts (changed c m)
short_changed (changes.File c) m r h = record { files = short_table c m.files r h.files; env = h.env; values = h.values }
short_changed (changes.Env c) m r h = record { files = h.files; env = short_table c m.env r h.env; values = h.values }
short_changed (changes.Value c) m r h = record { files = h.files; env = h.env; values = short_innermost _ _ m.values (short_value c m r) h.values }

-- ---- layers
pub short_begun : (s : SandboxValue) → TextsAreShort s → TextsAreShort (layer_begun s)
short_begun s h = grind (arith, common_steps, short_empty)

pub short_ended : (s t : SandboxValue) → EndsLayer s t → TextsAreShort s → TextsAreShort t
short_ended s t e h = let all = subst (AllByRecursion HasShortTexts) e.given_back h.saved in record { now = all.0; saved = all.1 }
