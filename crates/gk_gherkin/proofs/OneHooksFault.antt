-- No lines have two faults of a hooks file.
use Rattle.gk_gherkin.proofs.Common.{◌≡◌, ◌≢◌, ◌⊎◌, inr, ℕ, List, [], ◌∷◌, ◌++◌, Option, Some, refl, ap, sym, ◌∙◌, RowLine, HookLine, Plain, HooksClass, class, cells_of, ReadFault, hooks_readers, hooks_class, AreHooksReadable, LineValue, Lines, EndsInDocString, HooksFault, HooksLineSays, IsHooksLineFault, line_of_fault}
use Rattle.gk_gherkin.specs.declared.read_fault.ReadFault.TheVariants as faults
use Rattle.gk_gherkin.proofs.HookClasses.{class_plain}
use Rattle.gk_gherkin.proofs.ReadingStops.{open_until}
use Rattle.gk_gherkin.proofs.HooksReaderStops.{hook_runs, hooks_readable_at}
use Rattle.gk_gherkin.proofs.OneFault.{Decided, cuts, decided_any, no_fault_in_doc_string, one_line_fault, one_opening, row_fault, same_line}

-- the fault of a line that may stand, by its class
abbrev own_of : HooksClass → Option (List (List ℕ)) → ℕ → ReadFault
own_of HookLine cells n = faults.BadHook n
own_of (Plain RowLine) cells n = row_fault cells n
own_of _ cells n = faults.Unexpected n

abbrev own : LineValue → ReadFault
own l = own_of (hooks_class l) (cells_of l) l.line

own_class : (l : LineValue) (c : HooksClass) → hooks_class l ≡ c → own_of c (cells_of l) l.line ≡ own l
own_class l c is = ap (λ (c : HooksClass). own_of c (cells_of l) l.line) (sym is)

own_row : (l : LineValue) (cells : Option (List (List ℕ))) → class l ≡ RowLine → cells_of l ≡ cells → row_fault cells l.line ≡ own l
own_row l cells is w = ap (λ (cells : Option (List (List ℕ))). row_fault cells l.line) (sym w) ∙ own_class l (Plain RowLine) (class_plain l RowLine is (λ e. cc))

decided : (e : ReadFault) (before : Lines) (l : LineValue) → AreHooksReadable before ⊎ ((extra : LineValue) × AreHooksReadable (before ++ extra ∷ [])) → line_of_fault e ≡ Some l.line → HooksLineSays e before l → Decided AreHooksReadable hooks_class own e before l
decided (faults.BadHook n) before l fits number h = inr (ap faults.BadHook (same_line n l.line number) ∙ own_class l HookLine h.is, h.fits)
decided e before l fits number h = decided_any AreHooksReadable hooks_class own own_row e before l number h

-- a fence that opens a doc string is at no readable end until it is closed
one_text : (ls : Lines) (n m : ℕ) → EndsInDocString AreHooksReadable hooks_class ls n → EndsInDocString AreHooksReadable hooks_class ls m → n ≡ m
one_text ls n m f g =
    let until = open_until hooks_readers AreHooksReadable hooks_class hook_runs (λ ls reader next l fence is e r. hooks_readable_at ls next r) in
    one_opening AreHooksReadable hooks_class until ls n m f g (cuts f.before g.before f.content g.content f.opening g.opening (sym f.whole ∙ g.whole))

-- each kind of fault and any other
line_and : (ls : Lines) (one other : ReadFault) → other ≢ faults.Memory → IsHooksLineFault one ls → HooksFault other ls → one ≡ other
line_and ls one (faults.UnclosedText m) named f g = absurd (no_fault_in_doc_string AreHooksReadable hooks_class HooksLineSays ls one m f g)
line_and ls one faults.Memory named f g = absurd (named refl)
line_and ls one other named f g = one_line_fault AreHooksReadable hooks_class HooksLineSays ls own decided one other f g

text_and : (ls : Lines) (n : ℕ) (other : ReadFault) → other ≢ faults.Memory → EndsInDocString AreHooksReadable hooks_class ls n → HooksFault other ls → faults.UnclosedText n ≡ other
text_and ls n (faults.UnclosedText m) named f g = ap faults.UnclosedText (one_text ls n m f g)
text_and ls n faults.Memory named f g = absurd (named refl)
text_and ls n other named f g = absurd (no_fault_in_doc_string AreHooksReadable hooks_class HooksLineSays ls other n g f)

-- No lines have two faults.
pub one_hooks_fault : (ls : Lines) (one other : ReadFault) → one ≢ faults.Memory → other ≢ faults.Memory → HooksFault one ls → HooksFault other ls → one ≡ other
one_hooks_fault ls (faults.UnclosedText n) other m k f g = text_and ls n other k f g
one_hooks_fault ls faults.Memory other m k f g = absurd (m refl)
one_hooks_fault ls one other m k f g = line_and ls one other k f g
