-- Reading names one after the other.
use Rattle.gk_program.proofs.Common.{◌≡◌, inl, inr, subst, ◌++◌, ap, sym, refl, arith, ℕ, List, [], ◌∷◌, map, append_assoc, Option, Some, None, Result, Ok, String, option_map, string_bytes, Global, map-append, SourceValue, source_value, Source, SourceFault, AreRead, IsNotRead, StopsReading, name_of, one_of, Fault, OfRun, TooLong, common_steps}
use Rattle.gk_request.specs.declared.run_fault.RunFault.TheVariants.{Memory}

-- one more is read: its name goes from the names that are left to those of the sources
pub one_source_more : {X Y : Type 0} (f : X → List ℕ) (g : Y → List ℕ) (xs more : List X) (x : X) (left : List Y) (y : Y) (rest : List Y) (all : List (List ℕ))
    → more ≡ xs ++ x ∷ [] → left ≡ y ∷ rest → f x ≡ g y → map f xs ++ map g left ≡ all → map f more ++ map g rest ≡ all
one_source_more f g xs more x left y rest all grown step same before = grind (arith, common_steps)

-- one reading after another
pub reads_both : {S : Type 0} (r : S → List ℕ → Result (List ℕ) SourceFault → S → Type 0) (a b c : S) (xs ys : List SourceValue) → AreRead r a xs b → AreRead r b ys c → AreRead r a (xs ++ ys) c
reads_both r a b c [] ys first then = subst (λ s. AreRead r s ys c) (sym first) then
reads_both r a b c (x ∷ xs) ys first then = (first.0, first.1, reads_both r first.0 b c xs ys first.2 then)

pub reads_one_more : {S : Type 0} (r : S → List ℕ → Result (List ℕ) SourceFault → S → Type 0) (a b c : S) (xs more : List Source) (x : Source) (name : List ℕ)
    → more ≡ xs ++ x ∷ [] → name_of x ≡ name → AreRead r a (map source_value xs) b → r b name (Ok x.bytes.items) c → AreRead r a (map source_value more) c
reads_one_more r a b c xs more x name grown same before next = grind (arith, common_steps, map-append, reads_both)

pub names_of_values : (xs : List Source) → map (λ file. file.name) (map source_value xs) ≡ map name_of xs
names_of_values [] = refl
names_of_values (x ∷ xs) = ap (λ l. name_of x ∷ l) (names_of_values xs)

-- where reading stops, after some files more
pub stops_later : {S : Type 0} (r : S → List ℕ → Result (List ℕ) SourceFault → S → Type 0) (a b c : S) (files : List SourceValue) (names rest : List (List ℕ)) (fault : Fault)
    → AreRead r a files b → map (λ file. file.name) files ≡ names → StopsReading r b rest c fault → StopsReading r a (names ++ rest) c fault
stops_later r a b c files names rest fault before named stops = grind (arith, common_steps, map-append, append_assoc, reads_both)

-- where reading stops, before some files more
pub stops_sooner : {S : Type 0} (r : S → List ℕ → Result (List ℕ) SourceFault → S → Type 0) (a c : S) (names more : List (List ℕ)) (fault : Fault) → StopsReading r a names c fault → StopsReading r a (names ++ more) c fault
stops_sooner r a c names more fault stops = grind (arith, common_steps)

-- the first of some files isn't read
pub stops_at : {S : Type 0} (r : S → List ℕ → Result (List ℕ) SourceFault → S → Type 0) (a c : S) (name : List ℕ) (rest : List (List ℕ)) (fault : Fault) → IsNotRead r TooLong a name c fault → StopsReading r a (name ∷ rest) c fault
stops_at r a c name rest fault stops = record { files = []; left = name ∷ rest; between = a; order = refl; read = refl; stops = inl stops }

-- memory ran out before the next of some files
pub stops_for_memory : {S : Type 0} (r : S → List ℕ → Result (List ℕ) SourceFault → S → Type 0) (a : S) (names : List (List ℕ)) (fault : Fault) → fault ≡ OfRun Memory → StopsReading r a names a fault
stops_for_memory r a [] fault is = record { files = []; left = []; between = a; order = refl; read = refl; stops = (refl, is) }
stops_for_memory r a (name ∷ names) fault is = record { files = []; left = name ∷ names; between = a; order = refl; read = refl; stops = inr (refl, is) }

pub one_named : (source : Option Source) (name : Option (String Global)) → option_map name_of source ≡ option_map string_bytes name
    → map (λ file. file.name) (one_of (option_map source_value source)) ≡ one_of (option_map string_bytes name)
one_named None None same = refl
one_named None (Some n) same = absurd cc
one_named (Some s) None same = absurd cc
one_named (Some s) (Some n) same = let e : name_of s ≡ string_bytes n = cc in ap (λ x. x ∷ []) e
