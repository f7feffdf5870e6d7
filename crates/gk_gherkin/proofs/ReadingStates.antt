-- What a line makes of a state, the same for both kinds of file.
use Rattle.gk_gherkin.proofs.Common.{◌≡◌, Bool, true, false, Option, Some, None, Result, Ok, Err, refl, ap, sym, ◌∙◌, arith, Class, Blank, Comment, FenceLine, Fence, ReadFault, LineValue, class, closes, IsIgnoredClass, DocStringValue, Readers, State, Outside, InText, outside, opening, opened, longer, whole_text, outside_text, in_text, step, common_steps}
use Rattle.gk_gherkin.proofs.ReadingRuns.{ok_same, no_ok, no_err, err_same}

-- which lines open a doc string
abbrev pub IsNoFence : Class → Type 0
IsNoFence (FenceLine fence) = ⊥
IsNoFence _ = Unit {0}

pub no_fence : (b : Bool) (c : Class) → IsNoFence c → opening b c ≡ None
no_fence true (FenceLine fence) n = absurd n
no_fence true _ n = refl
no_fence false c n = refl

pub ignored_no_fence : (c : Class) → IsIgnoredClass c → IsNoFence c
ignored_no_fence Blank i = tt
ignored_no_fence Comment i = tt
ignored_no_fence _ i = absurd i

some_same : {A : Type 0} {x y : A} → ◌≡◌ {A = Option A} (Some x) (Some y) → x ≡ y
some_same e = cc

pub opens_by : (b : Bool) (c : Class) (fence : Fence) → opening b c ≡ Some fence → (b ≡ true) × (c ≡ FenceLine fence)
opens_by true (FenceLine other) fence e = (refl, ap FenceLine (some_same e))
opens_by true _ fence e = grind (arith, common_steps)
opens_by false c fence e = grind (arith, common_steps)

pub outside_ok : {P : Type 0} (r : Result P ReadFault) (t : State P) → outside r ≡ Ok t → (reader : P) × (r ≡ Ok reader) × (Outside reader ≡ t)
outside_ok (Ok reader) t e = (reader, refl, ok_same e)
outside_ok (Err x) t e = no_ok e

outside_err : {P : Type 0} (r : Result P ReadFault) (e : ReadFault) → outside r ≡ Err e → r ≡ Err e
outside_err (Ok reader) e h = no_err h
outside_err (Err x) e h = ap Err (err_same h)

module _ {P A : Type 0} (readers : Readers P A) where
  pub step_at : (reader : P) (l : LineValue) (o : Option Fence) → opening (readers.takes_text reader) (class l) ≡ o → step readers (Outside reader) l ≡ outside_text readers o reader l
  unfolding step
  step_at reader l o e = ap (λ (o : Option Fence). outside_text readers o reader l) e

  pub step_plain : (reader next : P) (l : LineValue) → opening (readers.takes_text reader) (class l) ≡ None → readers.after_line reader l ≡ Ok next → step readers (Outside reader) l ≡ Ok (Outside next)
  step_plain reader next l o e = step_at reader l None o ∙ ap (λ (r : Result P ReadFault). outside r) e

  pub step_refused : (reader : P) (l : LineValue) (e : ReadFault) → opening (readers.takes_text reader) (class l) ≡ None → readers.after_line reader l ≡ Err e → step readers (Outside reader) l ≡ Err e
  step_refused reader l e o h = step_at reader l None o ∙ ap (λ (r : Result P ReadFault). outside r) h

  pub step_opens : (reader : P) (l : LineValue) (fence : Fence) → readers.takes_text reader ≡ true → class l ≡ FenceLine fence → step readers (Outside reader) l ≡ Ok (InText reader (opened fence l))
  step_opens reader l fence t is = step_at reader l (Some fence) (ap (λ (b : Bool). opening b (class l)) t ∙ ap (opening true) is)

  in_text_by : (b : Bool) (reader : P) (text : DocStringValue) (l : LineValue) → closes text.fence l ≡ b → step readers (InText reader text) l ≡ Ok (in_text readers b reader text l)
  unfolding step
  in_text_by b reader text l e = ap (λ (b : Bool). let r : Result (State P) ReadFault = Ok (in_text readers b reader text l) in r) e

  pub step_closes : (reader : P) (text : DocStringValue) (l : LineValue) → closes text.fence l ≡ true → step readers (InText reader text) l ≡ Ok (Outside (readers.after_text reader (whole_text text.content)))
  step_closes reader text l e = in_text_by true reader text l e

  pub step_stays : (reader : P) (text : DocStringValue) (l : LineValue) → closes text.fence l ≡ false → step readers (InText reader text) l ≡ Ok (InText reader (longer text l))
  step_stays reader text l e = in_text_by false reader text l e

  -- no line in a doc string is refused
  pub never : (reader : P) (text : DocStringValue) (l : LineValue) (e : ReadFault) {Q : Type 0} → step readers (InText reader text) l ≡ Err e → Q
  unfolding step
  never reader text l e h = no_err h

  at_refused : (o : Option Fence) (reader : P) (l : LineValue) (e : ReadFault) → opening (readers.takes_text reader) (class l) ≡ o → outside_text readers o reader l ≡ Err e → (opening (readers.takes_text reader) (class l) ≡ None) × (readers.after_line reader l ≡ Err e)
  at_refused (Some fence) reader l e w h = no_err h
  at_refused None reader l e w h = (w, outside_err (readers.after_line reader l) e h)

  -- what a reader refuses opens no doc string, and is refused there as any other line
  pub refused_at : (reader : P) (l : LineValue) (e : ReadFault) → step readers (Outside reader) l ≡ Err e → (opening (readers.takes_text reader) (class l) ≡ None) × (readers.after_line reader l ≡ Err e)
  refused_at reader l e h = at_refused (opening (readers.takes_text reader) (class l)) reader l e refl (sym (step_at reader l (opening (readers.takes_text reader) (class l)) refl) ∙ h)
