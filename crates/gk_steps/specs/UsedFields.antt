-- Proof machinery: the first fields with the names that actions use.
use Rattle.std.specs.Prelude.{◌≡◌, codes, ℕ, Bool, List, if◌then◌else◌, Option, Some, None, option_map}
use Rattle.std.specs.Option.{option_or}
use Rattle.std.specs.Str.{bytes_eq}
use Rattle.gk_steps.specs.declared.captures.Capture.{Capture}
use Rattle.gk_steps.specs.declared.used_fields.FirstFields.{FirstFields}
use Rattle.gk_steps.specs.Pattern.{PieceValue}
use Rattle.gk_steps.specs.Matching.{FieldValue}
use Rattle.gk_steps.specs.Finding.{HaveKindsOf, field_named}
use Rattle.gk_steps.specs.Captures.{capture_value}

-- The value of a captured field, if there is one.
abbrev pub captured : Option Capture → Option FieldValue
captured taken = option_map capture_value taken

-- The first field of a name, after one more field.
abbrev pub first_of : Option FieldValue → Bool → FieldValue → Option FieldValue
first_of so_far is_named field = option_or so_far (if is_named then Some field else None)

-- The fields in `firsts` are those that `named` gives for the names.
pub record AreFirst (named : List ℕ → Option FieldValue) (firsts : FirstFields) : Type 0 where
  pub name : captured firsts.name ≡ named (codes "name")
  pub to : captured firsts.to ≡ named (codes "to")
  pub step : captured firsts.step ≡ named (codes "step")
  pub number : captured firsts.number ≡ named (codes "n")
  pub text : captured firsts.text ≡ named (codes "text")

-- The fields in `firsts` are the first ones of the names in these pieces. The values have the number and kinds of the pieces' fields.
pub record KeepsFirst (ps : List PieceValue) (firsts : FirstFields) (fs : List FieldValue) : Type 0 where
  pub fit : HaveKindsOf ps fs
  pub first : AreFirst (λ name. field_named name ps fs) firsts

-- Each field of `new` is that of `old`, or that of `later` if `old` has none.
pub record AreJoined (old later new : FirstFields) : Type 0 where
  pub name : captured new.name ≡ option_or (captured old.name) (captured later.name)
  pub to : captured new.to ≡ option_or (captured old.to) (captured later.to)
  pub step : captured new.step ≡ option_or (captured old.step) (captured later.step)
  pub number : captured new.number ≡ option_or (captured old.number) (captured later.number)
  pub text : captured new.text ≡ option_or (captured old.text) (captured later.text)

-- A field of this name was added.
pub record IsAdded (n : List ℕ) (f : FieldValue) (old new : FirstFields) : Type 0 where
  pub name : captured new.name ≡ first_of (captured old.name) (bytes_eq n (codes "name")) f
  pub to : captured new.to ≡ first_of (captured old.to) (bytes_eq n (codes "to")) f
  pub step : captured new.step ≡ first_of (captured old.step) (bytes_eq n (codes "step")) f
  pub number : captured new.number ≡ first_of (captured old.number) (bytes_eq n (codes "n")) f
  pub text : captured new.text ≡ first_of (captured old.text) (bytes_eq n (codes "text")) f

-- The first field of a name: the one found so far, or otherwise the first in what is left.
abbrev pub has_with : List ℕ → Option FieldValue → List PieceValue → List FieldValue → Option FieldValue
has_with n so_far left rest = option_or so_far (field_named n left rest)

-- After the fields found so far, what is left has the first fields of the whole.
pub record HasRest (ps : List PieceValue) (fs : List FieldValue) (firsts : FirstFields) (left : List PieceValue) (rest : List FieldValue) : Type 0 where
  pub name : has_with (codes "name") (captured firsts.name) left rest ≡ field_named (codes "name") ps fs
  pub to : has_with (codes "to") (captured firsts.to) left rest ≡ field_named (codes "to") ps fs
  pub step : has_with (codes "step") (captured firsts.step) left rest ≡ field_named (codes "step") ps fs
  pub number : has_with (codes "n") (captured firsts.number) left rest ≡ field_named (codes "n") ps fs
  pub text : has_with (codes "text") (captured firsts.text) left rest ≡ field_named (codes "text") ps fs
