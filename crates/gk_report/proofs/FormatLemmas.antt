-- Formats by name.
use Rattle.gk_report.proofs.Common.{◌≡◌, refl, ℕ, Bool, true, false, cond, List, [], ◌∷◌, Option, Some, IfSome, bytes_eq, bytes_eq-Decides, Format, format_among, format_name}

named_here : (f : Format) (name : List ℕ) (others : Option Format) (b : Bool) → bytes_eq (format_name f) name ≡ b → IfSome others (λ format. format_name format ≡ name) → IfSome (cond b (Some f) others) (λ format. format_name format ≡ name)
named_here f name others true e rest = (bytes_eq-Decides (format_name f) name).0 e
named_here f name others false e rest = rest

-- The first of some formats that has a name has this name.
pub among_named : (some : List Format) (name : List ℕ) → IfSome (format_among some name) (λ format. format_name format ≡ name)
among_named [] name = tt
among_named (f ∷ fs) name = named_here f name (format_among fs name) (bytes_eq (format_name f) name) refl (among_named fs name)
