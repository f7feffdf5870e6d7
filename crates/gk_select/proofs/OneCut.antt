-- Each text has one cut, and its parts filled are the filled text.
use Rattle.gk_select.proofs.Common.{◌≡◌, ℕ, zero, suc, ◌+◌, ◌<◌, Bool, true, false, ◌&&◌, cond, nat_eq, List, [], ◌∷◌, ◌++◌, length, drop, get_or, flat_map, Option, Some, None, refl, sym, ap, subst, ◌⊎◌, ◌∙◌, arith, inl, inr, and_parts, and_from, both_ways, nat_tests, Decides-eqb, starts_is, length-append, starts_with, placeholder, can_stand, header_at, cell_under, filled_at, filled_from, filled, Placeholder, Byte, IsPlaceholder, BeginsWithNone, IsCut, filled_part, FillsByCut, common_steps}
use Rattle.std.proofs.lemmas.List.{append_assoc}
use Rattle.gk_select.specs.Filling.{TextPart}

-- What a look-up of a header means for a text.
abbrev Means : List (List ℕ) → List ℕ → Option (List ℕ) → Type 0
Means headers text None = BeginsWithNone headers text
Means headers text (Some h) = IsPlaceholder headers h × (text ≡ placeholder h ++ drop (length h + 1 + 1) text)

begins_placeholder : (h text : List ℕ) (n : ℕ) → n ≡ length (placeholder h) → starts_with nat_eq text (placeholder h) ≡ true → text ≡ placeholder h ++ drop n text
begins_placeholder h text n e t = (starts_is Decides-eqb text (placeholder h) _ refl).0 t ∙ ap (λ (n : ℕ). placeholder h ++ drop n text) (sym e)

long : (h : List ℕ) → length h + 1 + 1 ≡ length (placeholder h)
long h = omega (arith, length-append h (62 ∷ []))

-- Whether a header's placeholder begins a text.
abbrev stands : List ℕ → List ℕ → Bool
stands text h = can_stand h && starts_with nat_eq text (placeholder h)

not_found : (t : Bool) (h : List ℕ) (o : Option (List ℕ)) → cond t (Some h) o ≡ None → (t ≡ false) × (o ≡ None)
not_found true h o e = let no : ⊥ = cc in absurd no
not_found false h o e = (refl, e)

was_found : (t : Bool) (x : List ℕ) (o : Option (List ℕ)) (h : List ℕ) → cond t (Some x) o ≡ Some h → ((t ≡ true) × (x ≡ h)) ⊎ (o ≡ Some h)
was_found true x o h e = inl (refl, cc)
was_found false x o h e = inr e

none_of : (headers : List (List ℕ)) (text h rest : List ℕ) (k : ℕ) → header_at headers text ≡ None → k < length headers → get_or headers k h ≡ h → can_stand h ≡ true → text ≡ placeholder h ++ rest → ⊥
none_of [] text h rest k n l e s is = omega arith
none_of (x ∷ headers) text h rest (suc k) n l e s is = grind (arith, common_steps, none_of headers text h rest k (not_found (stands text x) x (header_at headers text) n).1 (omega arith) e s)
none_of (x ∷ headers) text h rest zero n l e s is =
    let f : stands text h ≡ false = subst (λ (h : List ℕ). stands text h ≡ false) e (not_found (stands text x) x (header_at headers text) n).0 in
    both_ways (stands text h) f (and_from _ _ s ((starts_is Decides-eqb text (placeholder h) _ refl).1 rest is))

means : (headers : List (List ℕ)) (text : List ℕ) (h : Option (List ℕ)) → header_at headers text ≡ h → Means headers text h
means headers text None e = λ h rest is first. none_of headers text h rest is.0.0 e is.0.1 is.0.2 is.1 first
means [] text (Some h) e = let no : ⊥ = cc in absurd no
means (x ∷ headers) text (Some h) e = elim (was_found (stands text x) x (header_at headers text) h e) [
  | inl here ↦ (let both : (can_stand h ≡ true) × (starts_with nat_eq text (placeholder h) ≡ true) = and_parts _ _ (subst (λ (h : List ℕ). stands text h ≡ true) here.1 here.0) in (((0, omega arith, here.1), both.0), begins_placeholder h text _ (long h) both.1))
  | inr after ↦ (let m = means headers text (Some h) after in (((suc m.0.0.0, omega arith, m.0.0.2), m.0.1), m.1))
]

-- A cut of what is left of a text, and what its parts are filled with.
record Cuts (headers cells : List (List ℕ)) (skip : ℕ) (text : List ℕ) : Type 0 where
  parts : List TextPart
  cut : IsCut headers (drop skip text) parts
  says : filled_from headers cells skip text ≡ flat_map (filled_part headers cells) parts

rest_is : (h : List ℕ) (b : ℕ) (bs : List ℕ) → b ∷ bs ≡ placeholder h ++ drop (length h + 1 + 1) (b ∷ bs) → b ∷ bs ≡ placeholder h ++ drop (length h + 1) bs
rest_is h b bs e = let one : length h + 1 + 1 ≡ suc (length h + 1) = omega arith in rw one at e

at_byte : (headers cells : List (List ℕ)) (b : ℕ) (bs : List ℕ) (h : Option (List ℕ)) → Means headers (b ∷ bs) h
    → ((skip : ℕ) → Cuts headers cells skip bs)
    → (parts : List TextPart) × IsCut headers (b ∷ bs) parts × (filled_at (cell_under headers cells) h (λ skip. filled_from headers cells skip bs) b ≡ flat_map (filled_part headers cells) parts)
at_byte headers cells b bs None m rest = let r = rest 0 in (Byte b ∷ r.parts, (m, (bs, refl, r.cut)), ap (λ (bs : List ℕ). b ∷ bs) r.says)
at_byte headers cells b bs (Some h) m rest = let r = rest (length h + 1) in (Placeholder h ∷ r.parts, (m.0, (drop (length h + 1) bs, rest_is h b bs m.1, r.cut)), ap (λ (bs : List ℕ). cell_under headers cells h ++ bs) r.says)

cuts : (headers cells : List (List ℕ)) (text : List ℕ) (skip : ℕ) → Cuts headers cells skip text
unfolding filled_from
cuts headers cells [] zero = record { parts = []; cut = refl; says = refl }
cuts headers cells [] (suc skip) = record { parts = []; cut = refl; says = refl }
cuts headers cells (b ∷ bs) (suc skip) = let r = cuts headers cells bs skip in record { parts = r.parts; cut = r.cut; says = r.says }
cuts headers cells (b ∷ bs) zero =
    let r = at_byte headers cells b bs (header_at headers (b ∷ bs)) (means headers (b ∷ bs) _ refl) (cuts headers cells bs) in
    record { parts = r.0; cut = r.1; says = r.2 }

-- Where two texts end at their first `>`, they are one.
first_end : (h h' rest rest' : List ℕ) → can_stand h ≡ true → can_stand h' ≡ true → h ++ 62 ∷ rest ≡ h' ++ 62 ∷ rest' → (h ≡ h') × (rest ≡ rest')
first_end [] [] rest rest' s s' e = (refl, cc)
first_end [] (b ∷ h') rest rest' s s' e = let same : 62 ≡ b = cc in absurd (grind (arith, nat_tests))
first_end (b ∷ h) [] rest rest' s s' e = let same : b ≡ 62 = cc in absurd (grind (arith, nat_tests))
first_end (b ∷ h) (b' ∷ h') rest rest' s s' e =
    let after : h ++ 62 ∷ rest ≡ h' ++ 62 ∷ rest' = cc in
    let first : b ≡ b' = cc in
    let r = first_end h h' rest rest' (and_parts _ _ s).1 (and_parts _ _ s').1 after in
    (rw (first, r.0) refl, r.1)

only : (headers : List (List ℕ)) (text : List ℕ) (parts others : List TextPart) → IsCut headers text parts → IsCut headers text others → others ≡ parts
only headers text [] [] c d = refl
only headers text [] (Placeholder h ∷ others) c d = let no : ⊥ = cc (d.1.1) in absurd no
only headers text [] (Byte b ∷ others) c d = let no : ⊥ = cc (d.1.1) in absurd no
only headers text (Placeholder h ∷ parts) [] c d = let no : ⊥ = cc (c.1.1) in absurd no
only headers text (Placeholder h ∷ parts) (Placeholder h' ∷ others) c d =
    let both : placeholder h' ++ d.1.0 ≡ placeholder h ++ c.1.0 = sym d.1.1 ∙ c.1.1 in
    let inner : h' ++ 62 ∷ d.1.0 ≡ h ++ 62 ∷ c.1.0 = sym (append_assoc h' (62 ∷ []) d.1.0) ∙ cc both ∙ append_assoc h (62 ∷ []) c.1.0 in
    let r = first_end h' h d.1.0 c.1.0 d.0.1 c.0.1 inner in
    let rest : IsCut headers c.1.0 others = subst (λ (rest : List ℕ). IsCut headers rest others) r.1 d.1.2 in
    rw r.0 (ap (λ (ps : List TextPart). Placeholder h ∷ ps) (only headers c.1.0 parts others c.1.2 rest))
only headers text (Placeholder h ∷ parts) (Byte b ∷ others) c d = absurd (d.0 h c.1.0 c.0 c.1.1)
only headers text (Byte b ∷ parts) [] c d = let no : ⊥ = cc (c.1.1) in absurd no
only headers text (Byte b ∷ parts) (Placeholder h ∷ others) c d = absurd (c.0 h d.1.0 d.0 d.1.1)
only headers text (Byte b ∷ parts) (Byte b' ∷ others) c d =
    let both : b' ∷ d.1.0 ≡ b ∷ c.1.0 = sym d.1.1 ∙ c.1.1 in
    let first : b' ≡ b = cc in
    let after : d.1.0 ≡ c.1.0 = cc in
    let rest : IsCut headers c.1.0 others = subst (λ (rest : List ℕ). IsCut headers rest others) after d.1.2 in
    rw first (ap (λ (ps : List TextPart). Byte b ∷ ps) (only headers c.1.0 parts others c.1.2 rest))

pub fills_by_cut : (headers cells : List (List ℕ)) (text : List ℕ) → FillsByCut headers cells text
unfolding filled
fills_by_cut headers cells text = let r = cuts headers cells text 0 in record { parts = r.parts; cut = r.cut; only = λ others d. only headers text r.parts others r.cut d; says = r.says }
