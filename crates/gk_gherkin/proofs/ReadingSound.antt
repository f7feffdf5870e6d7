-- What a state stands for, and that each line keeps it, the same for both kinds of file.
use Rattle.gk_gherkin.proofs.Common.{◌≡◌, ℕ, ◌-◌, Bool, true, false, List, [], ◌∷◌, ◌++◌, map, Option, Some, None, Ok, refl, sym, subst, ap, ◌∙◌, append_assoc, map_push, AllByRecursion, join_with_byte, FenceLine, Fence, LineValue, Lines, class, closes, content_of, doc_string, skip_none, IsDocString, DocStringValue, Readers, State, Outside, InText, opening, opened, with_line, longer, whole_text, outside_text, in_text, step, run, run_by}
use Rattle.gk_gherkin.proofs.ReadingRuns.{ok_same, bind_ok}
use Rattle.gk_gherkin.proofs.ReadingStates.{opens_by, outside_ok}

pub All-push : {A : Type 0} (P : A → Type 0) (xs : List A) (x : A) → AllByRecursion P xs → P x → AllByRecursion P (xs ++ x ∷ [])
All-push P [] x h p = (p, tt)
All-push P (y ∷ ys) x h p = (h.0, All-push P ys x h.1 p)

-- The text of some lines, if there are any.
abbrev pub joined : List (List ℕ) → Option (List ℕ)
joined [] = None
joined (x ∷ xs) = Some (join_with_byte 10 (x ∷ xs))

pub joined_text : (texts : List (List ℕ)) → whole_text (joined texts) ≡ join_with_byte 10 texts
joined_text [] = refl
joined_text (x ∷ xs) = refl

join_push : (x : List ℕ) (xs : List (List ℕ)) (text : List ℕ) → join_with_byte 10 (x ∷ xs) ++ 10 ∷ text ≡ join_with_byte 10 (x ∷ xs ++ text ∷ [])
join_push x [] text = refl
join_push x (y ∷ ys) text = append_assoc x (10 ∷ join_with_byte 10 (y ∷ ys)) (10 ∷ text) ∙ ap (λ (rest : List ℕ). x ++ 10 ∷ rest) (join_push y ys text)

pub joined_push : (texts : List (List ℕ)) (text : List ℕ) → Some (with_line (joined texts) text) ≡ joined (texts ++ text ∷ [])
joined_push [] text = refl
joined_push (x ∷ xs) text = ap Some (join_push x xs text)

-- Holds: the lines of whole, up to rest, are what a reader says.
module _ {P A : Type 0} (readers : Readers P A) (Holds : P → Lines → Lines → Type 0) where
  -- In a doc string: the lines before its fence are what the reader says, and its content is read up to rest.
  pub record TextBuilt (reader : P) (text : DocStringValue) (whole rest : Lines) : Type 0 where
    pub opening : LineValue
    pub content : Lines
    pub holds : Holds reader whole (opening ∷ content ++ rest)
    pub takes : readers.takes_text reader ≡ true
    pub is : class opening ≡ FenceLine text.fence
    pub inside : AllByRecursion (λ line. closes text.fence line ≡ false) content
    pub at : text.column ≡ opening.column
    pub says : text.content ≡ joined (map (content_of text.fence (text.column - 1)) content)

  abbrev pub Built : State P → Lines → Lines → Type 0
  Built (Outside reader) whole rest = Holds reader whole rest
  Built (InText reader text) whole rest = TextBuilt reader text whole rest

  longer_text : (reader : P) (text : DocStringValue) (whole rest : Lines) (l : LineValue) → closes text.fence l ≡ false → TextBuilt reader text whole (l ∷ rest) → TextBuilt reader (longer text l) whole rest
  longer_text reader text whole rest l c b =
      let line = content_of text.fence (text.column - 1) in
      record { opening = b.opening; content = b.content ++ l ∷ []; holds = subst (λ (ls : Lines). Holds reader whole (b.opening ∷ ls)) (sym (append_assoc b.content (l ∷ []) rest)) b.holds; takes = b.takes; is = b.is; inside = All-push (λ line. closes text.fence line ≡ false) b.content l b.inside c; at = b.at; says = ap (λ (texts : Option (List ℕ)). Some (with_line texts (line l))) b.says ∙ joined_push (map line b.content) (line l) ∙ ap joined (sym (map_push line b.content l)) }

  -- keeps: so does each line outside of doc strings; after: so does a doc string.
  module _ (keeps : (reader next : P) (whole rest : Lines) (l : LineValue) → Holds reader whole (l ∷ rest) → readers.after_line reader l ≡ Ok next → Holds next whole rest)
      (after : (reader : P) (whole ls rest : Lines) (text : List ℕ) → readers.takes_text reader ≡ true → Holds reader whole ls → IsDocString ls text rest → Holds (readers.after_text reader text) whole rest)
    where
      closed_text : (reader : P) (text : DocStringValue) (whole rest : Lines) (l : LineValue) → closes text.fence l ≡ true → TextBuilt reader text whole (l ∷ rest) → Holds (readers.after_text reader (whole_text text.content)) whole rest
      unfolding doc_string
      closed_text reader text whole rest l c b =
          let said : whole_text text.content ≡ doc_string text.fence b.opening b.content = ap whole_text b.says ∙ joined_text (map (content_of text.fence (text.column - 1)) b.content) ∙ ap (λ (column : ℕ). join_with_byte 10 (map (content_of text.fence (column - 1)) b.content)) b.at in
          let read : IsDocString (b.opening ∷ b.content ++ l ∷ rest) (whole_text text.content) rest = record { fence = text.fence; opening = b.opening; content = b.content; closing = l; next = skip_none; is = b.is; inside = b.inside; closed = c; says = said } in
          after reader whole (b.opening ∷ b.content ++ l ∷ rest) rest (whole_text text.content) b.takes b.holds read

      at_built : (o : Option Fence) (reader : P) (whole rest : Lines) (l : LineValue) (t : State P) → opening (readers.takes_text reader) (class l) ≡ o → Holds reader whole (l ∷ rest) → outside_text readers o reader l ≡ Ok t → Built t whole rest
      at_built (Some fence) reader whole rest l t w b e =
          let k = opens_by (readers.takes_text reader) (class l) fence w in
          let made : TextBuilt reader (opened fence l) whole rest = record { opening = l; content = []; holds = b; takes = k.0; is = k.1; inside = tt; at = refl; says = refl } in
          subst (λ t. Built t whole rest) (ok_same e) made
      at_built None reader whole rest l t w b e =
          let r = outside_ok (readers.after_line reader l) t e in
          subst (λ t. Built t whole rest) r.2 (keeps reader r.0 whole rest l b r.1)

      text_built : (b : Bool) (reader : P) (text : DocStringValue) (whole rest : Lines) (l : LineValue) → closes text.fence l ≡ b → TextBuilt reader text whole (l ∷ rest) → Built (in_text readers b reader text l) whole rest
      text_built true reader text whole rest l c b = closed_text reader text whole rest l c b
      text_built false reader text whole rest l c b = longer_text reader text whole rest l c b

      built_step : (s : State P) (whole rest : Lines) (l : LineValue) (t : State P) → Built s whole (l ∷ rest) → step readers s l ≡ Ok t → Built t whole rest
      unfolding step
      built_step (Outside reader) whole rest l t b e = at_built (opening (readers.takes_text reader) (class l)) reader whole rest l t refl b e
      built_step (InText reader text) whole rest l t b e = subst (λ t. Built t whole rest) (ok_same e) (text_built (closes text.fence l) reader text whole rest l refl b)

      -- What is run over stands in the state.
      pub built_run : (s : State P) (whole rest : Lines) (t : State P) → Built s whole rest → run readers s rest ≡ Ok t → Built t whole []
      unfolding run_by
      built_run s whole [] t b e = subst (λ t. Built t whole []) (ok_same e) b
      built_run s whole (l ∷ rest) t b e =
          let r = bind_ok (step readers s l) (λ t. run readers t rest) t e in
          built_run r.0 whole rest t (built_step s whole rest l r.0 b r.1) r.2
