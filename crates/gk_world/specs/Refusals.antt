-- The changes of the world that are refused, and why. The reasons for a change are listed in order, and the first that holds is the fault. A *refusal* is the fault for which a change is refused.
use Rattle.std.specs.Prelude.{◌≡◌, ◌≢◌, ℕ, Bool, cond, ◌||◌, ◌==◌, nat_lt, List, [], ◌∷◌, ◌++◌, length, Option, Some, None, is_none, unwrap_or, MatchOption, Result, Ok, Err}
use Rattle.gk_world.specs.declared.refusals.WorldFault.{WorldFault}
use Rattle.gk_world.specs.declared.refusals.WorldFault.TheVariants.{Absent, TextTooLong, BadName, OtherLayer, Memory}
use Rattle.gk_world.specs.State.{Map, State, see}

-- The first item whose test holds, if there is one.
abbrev pub first_true : {A : Type 0} → List (Bool × A) → Option A
first_true [] = None
first_true (c ∷ cs) = cond c.0 (Some c.1) (first_true cs)

-- Whether a name has no byte, or more than 255.
abbrev pub is_bad_name : List ℕ → Bool
is_bad_name name = (length name == 0) || nat_lt 255 (length name)

-- Whether a text has more than 1,048,576 bytes.
abbrev pub is_too_long : List ℕ → Bool
is_too_long text = nat_lt 1048576 (length text)

-- The text of a name with more at its end; no text counts as empty.
abbrev pub joined : Map → List ℕ → List ℕ → List ℕ
joined m name more = unwrap_or (m name) [] ++ more

-- The reason why a file or a variable can't be put, or a value can't be set.
abbrev pub put_refusal : List ℕ → List ℕ → Option WorldFault
put_refusal name text = first_true (
    (is_bad_name name, BadName) ∷
    (is_too_long text, TextTooLong) ∷ [])

-- The reason why a file can't be extended.
abbrev pub append_refusal : Map → List ℕ → List ℕ → Option WorldFault
append_refusal m name more = first_true (
    (is_bad_name name, BadName) ∷
    (is_none (m name), Absent) ∷
    (is_too_long (joined m name more), TextTooLong) ∷ [])

-- The reason why a file or a variable can't be removed.
abbrev pub remove_refusal : Map → List ℕ → Option WorldFault
remove_refusal m name = first_true (
    (is_bad_name name, BadName) ∷
    (is_none (m name), Absent) ∷ [])

-- The reason why a file can't be renamed.
abbrev pub rename_refusal : Map → List ℕ → List ℕ → Option WorldFault
rename_refusal m name to = first_true (
    (is_bad_name name || is_bad_name to, BadName) ∷
    (is_none (m name), Absent) ∷ [])

-- The reason why a value can't be deleted: it is deleted only in the layer that set it. (behave's documentation: context layers)
abbrev pub delete_refusal : State → List ℕ → Option WorldFault
delete_refusal s name = first_true (
    (is_bad_name name, BadName) ∷
    (is_none (see s name), Absent) ∷
    (is_none (s.own name), OtherLayer) ∷ [])

-- A fault that can be returned: Memory only if there is no other reason, and any other only if it is the reason.
abbrev pub IsFault : Option WorldFault → WorldFault → Type 0
IsFault refusal Memory = refusal ≡ None
IsFault refusal fault = refusal ≡ Some fault

-- A change succeeds only if nothing refuses it; otherwise it fails with the reason of the refusal. If nothing refuses it, it can still fail with Memory.
abbrev pub IsAnswer : {A : Type 0} → Option WorldFault → Result A WorldFault → Type 0
IsAnswer refusal (Ok x) = refusal ≡ None
IsAnswer refusal (Err fault) = IsFault refusal fault

-- The result is the refusal, if there is one, and none otherwise. It is never Memory.
abbrev pub IsReason : Option WorldFault → Option WorldFault → Type 0
IsReason refusal answer = MatchOption answer (refusal ≡ None) (λ fault. IsFault refusal fault × (fault ≢ Memory))
