-- No lines have two faults of a feature file.
use Rattle.gk_gherkin.proofs.Common.{codes, ◌≡◌, ◌≢◌, ◌⊎◌, inl, inr, ℕ, Bool, true, false, ◌&&◌, ◌==◌, length, List, [], ◌∷◌, ◌++◌, Option, Some, None, Result, Ok, Err, refl, ap, sym, subst, ◌∙◌, append_assoc, arith, nat_tests, append-nil, Comment, FenceLine, RowLine, TagLine, Class, Backticks, Quotes, Fence, ReadFault, FeatureReader, FeatureValue, Tagged, Untagged, by_language, feature_readers, on, on_comment, takes_text, Outside, InText, State, longer, opening, run, step, begins, trim, LineValue, Lines, line_at, class, class_of, class_of_words, fence_text, closes, cells_of, language_of, IsIgnored, IsIgnoredClass, IsReadable, Skips, skip, skip_none, BeginsSome, EndsInDocString, EndsInTags, FeatureFault, IsLineFault, LineSays, TakesTags, line_of_fault, ◌>>=◌}
use Rattle.gk_gherkin.specs.declared.read_fault.ReadFault.TheVariants as faults
use Rattle.gk_gherkin.proofs.ReadingRuns.{no_ok, one_more_line, run-append}
use Rattle.gk_gherkin.proofs.ReadingStates.{no_fence, step_plain, step_stays}
use Rattle.gk_gherkin.proofs.ReadingStops.{IsOpen, closed, not_in_text, open_until, still_open}
use Rattle.gk_gherkin.proofs.FeatureReaderStops.{before_text, behind_text, feature_runs, heading_for, plain_fence, readable_after_tags, readable_at, text_takes}
use Rattle.gk_gherkin.proofs.OneFault.{Cuts, Decided, closing_line, cuts, decided_any, first, no_fault_before_end, no_fault_in_doc_string, one_line_fault, one_opening, row_fault, same, same_line, second}
use Rattle.gk_gherkin.proofs.RowStops.{line_of}

-- a comment that names no language can stand wherever the lines before it begin a readable list
abbrev comment : LineValue
comment = line_of (codes "#")

comment_class : class comment ≡ Comment
unfolding class class_of
comment_class = refl

comment_language : language_of comment ≡ None
unfolding language_of
comment_language = refl

comment_open : (fence : Fence) → closes fence comment ≡ false
unfolding closes
comment_open Quotes = refl
comment_open Backticks = refl

commented : (feature : Option FeatureValue) (s : FeatureReader) → on_comment feature s comment ≡ Ok s
commented None s = ap (λ (r : Option (List ℕ)). by_language r s comment) comment_language
commented (Some f) s = refl

comment_on : (reader : FeatureReader) → on reader comment (class comment) ≡ Ok reader
unfolding on
comment_on (Untagged feature) = ap (on (Untagged feature) comment) comment_class ∙ commented feature (Untagged feature)
comment_on (Tagged feature tags n) = ap (on (Tagged feature tags n) comment) comment_class ∙ commented feature (Tagged feature tags n)

comment_step : (reader : FeatureReader) → step feature_readers (Outside reader) comment ≡ Ok (Outside reader)
comment_step reader = step_plain feature_readers reader reader comment (ap (opening (takes_text reader)) comment_class ∙ no_fence (takes_text reader) Comment tt) (comment_on reader)

comment_at : (reader : FeatureReader) (before : Lines) → run feature_readers (Outside feature_readers.first) before ≡ Ok (Outside reader) → BeginsSome IsReadable class (before ++ comment ∷ [])
comment_at (Untagged feature) before r =
    let readable = readable_at (before ++ comment ∷ []) feature (one_more_line (step feature_readers) (Outside feature_readers.first) before (Outside (Untagged feature)) (Outside (Untagged feature)) comment r (comment_step (Untagged feature))) in
    ([], subst IsReadable (sym (append-nil (before ++ comment ∷ []))) readable)
comment_at (Tagged feature tags n) before r =
    (heading_for feature ∷ [], readable_after_tags (before ++ comment ∷ []) feature tags n (one_more_line (step feature_readers) (Outside feature_readers.first) before (Outside (Tagged feature tags n)) (Outside (Tagged feature tags n)) comment r (comment_step (Tagged feature tags n))))

comment_after : (s : State FeatureReader) (before : Lines) → run feature_readers (Outside feature_readers.first) before ≡ Ok s → BeginsSome IsReadable class (before ++ comment ∷ [])
comment_after (Outside reader) before r = comment_at reader before r
comment_after (InText reader text) before r =
    let more = longer text comment in
    let end = line_at 1 (fence_text text.fence) in
    let reached : run feature_readers (Outside feature_readers.first) (before ++ comment ∷ []) ≡ Ok (InText reader more) = one_more_line (step feature_readers) (Outside feature_readers.first) before (InText reader text) (InText reader more) comment r (step_stays feature_readers reader text comment (comment_open text.fence)) in
    (end ∷ [], closed feature_readers IsReadable class feature_runs before_text behind_text (before ++ comment ∷ []) reader more end reached (text_takes before reader text r) (closing_line text.fence))

comment_by : (r : Result (State FeatureReader) ReadFault) (before : Lines) (extra : LineValue) (reader : FeatureReader) → run feature_readers (Outside feature_readers.first) before ≡ r → (r >>= λ t. run feature_readers t (extra ∷ [])) ≡ Ok (Outside reader) → BeginsSome IsReadable class (before ++ comment ∷ [])
comment_by (Ok s) before extra reader is h = comment_after s before is
comment_by (Err e) before extra reader is h = no_ok h

comment_stands : (before : Lines) → IsReadable before ⊎ ((extra : LineValue) × IsReadable (before ++ extra ∷ [])) → BeginsSome IsReadable class (before ++ comment ∷ [])
comment_stands before (inl readable) = let k = feature_runs before readable in comment_after (Outside k.0) before k.1
comment_stands before (inr (extra, readable)) =
    let k = feature_runs (before ++ extra ∷ []) readable in
    comment_by (run feature_readers (Outside feature_readers.first) before) before extra k.0 refl (sym (run-append (step feature_readers) (Outside feature_readers.first) before (extra ∷ [])) ∙ k.1)

-- the fault of a line that may stand, by its class
abbrev own_of : Class → Option (List (List ℕ)) → ℕ → ReadFault
own_of TagLine cells n = faults.BadTag n
own_of Comment cells n = faults.Language n
own_of RowLine cells n = row_fault cells n
own_of _ cells n = faults.Unexpected n

abbrev own : LineValue → ReadFault
own l = own_of (class l) (cells_of l) l.line

own_class : (l : LineValue) (c : Class) → class l ≡ c → own_of c (cells_of l) l.line ≡ own l
own_class l c is = ap (λ (c : Class). own_of c (cells_of l) l.line) (sym is)

own_row : (l : LineValue) (cells : Option (List (List ℕ))) → class l ≡ RowLine → cells_of l ≡ cells → row_fault cells l.line ≡ own l
own_row l cells is w = ap (λ (cells : Option (List (List ℕ))). row_fault cells l.line) (sym w) ∙ own_class l RowLine is

decided : (e : ReadFault) (before : Lines) (l : LineValue) → IsReadable before ⊎ ((extra : LineValue) × IsReadable (before ++ extra ∷ [])) → line_of_fault e ≡ Some l.line → LineSays e before l → Decided IsReadable class own e before l
decided (faults.BadTag n) before l fits number h = inr (ap faults.BadTag (same_line n l.line number) ∙ own_class l TagLine h.is, h.fits)
decided (faults.Language n) before l fits number h = inr (ap faults.Language (same_line n l.line number) ∙ own_class l Comment h.is, (comment, comment_class ∙ sym h.is, comment_stands before fits))
decided e before l fits number h = decided_any IsReadable class own own_row e before l number h

-- a fence that opens a doc string is at no readable end until it is closed
abbrev Open : Lines → Fence → Type 0
Open ls fence = IsOpen feature_readers IsReadable class feature_runs plain_fence ls fence

not_open : (ls : Lines) (fence : Fence) → Open ls fence → IsReadable ls → ⊥
not_open ls fence o readable = not_in_text feature_readers IsReadable class feature_runs ls o.reader o.text o.reached readable

open_at_end : (ls : Lines) (n : ℕ) (d : EndsInDocString IsReadable class ls n) → Open ls d.fence
open_at_end ls n d =
    let closing = line_at 1 (fence_text d.fence) in
    let closed : IsReadable (ls ++ closing ∷ []) = d.closed closing (closing_line d.fence) in
    let here : IsReadable ((d.before ++ d.opening ∷ d.content) ++ closing ∷ []) = subst (λ (ls : Lines). IsReadable (ls ++ closing ∷ [])) d.whole closed in
    let whole : IsReadable (d.before ++ d.opening ∷ (d.content ++ closing ∷ [])) = subst IsReadable (append_assoc d.before (d.opening ∷ d.content) (closing ∷ [])) here in
    let some : BeginsSome IsReadable class (d.before ++ d.opening ∷ []) = (d.content ++ closing ∷ [], subst IsReadable (sym (append_assoc d.before (d.opening ∷ []) (d.content ++ closing ∷ []))) whole) in
    subst (λ (ls : Lines). Open ls d.fence) (sym d.whole) (still_open feature_readers IsReadable class feature_runs plain_fence d.before d.content d.opening d.fence d.is d.fits d.opens d.inside some)

-- a line that closes a doc string is a fence
fence_alone : (fence : Fence) (text : List ℕ) → (begins text (fence_text fence) && (length text == 3)) ≡ true → text ≡ fence_text fence
fence_alone Quotes (a ∷ b ∷ c ∷ []) h = let x : a ≡ 34 = grind (arith, nat_tests) in let y : b ≡ 34 = grind (arith, nat_tests) in let z : c ≡ 34 = grind (arith, nat_tests) in cc
fence_alone Backticks (a ∷ b ∷ c ∷ []) h = let x : a ≡ 96 = grind (arith, nat_tests) in let y : b ≡ 96 = grind (arith, nat_tests) in let z : c ≡ 96 = grind (arith, nat_tests) in cc
fence_alone fence text h = absurd (grind (arith, nat_tests))

closing_class : (fence : Fence) (l : LineValue) → closes fence l ≡ true → class l ≡ FenceLine fence
unfolding closes class class_of class_of_words
closing_class Quotes l h = ap class_of (fence_alone Quotes (trim l.text) h)
closing_class Backticks l h = ap class_of (fence_alone Backticks (trim l.text) h)

heading_in_text : (b : Bool) (fence : Fence) (ls : Lines) (l : LineValue) → Open ls fence → closes fence l ≡ b → TakesTags (class l) → IsReadable (ls ++ l ∷ []) → ⊥
heading_in_text true fence ls l o c takes readable = subst TakesTags (closing_class fence l c) takes
heading_in_text false fence ls l o c takes readable =
    let more = longer o.text l in
    let stays : step feature_readers (InText o.reader o.text) l ≡ Ok (InText o.reader more) = step_stays feature_readers o.reader o.text l (ap (λ (fence : Fence). closes fence l) o.same ∙ c) in
    not_open (ls ++ l ∷ []) fence (record { reader = o.reader; text = more; takes = o.takes; same = o.same; reached = one_more_line (step feature_readers) (Outside feature_readers.first) ls (InText o.reader o.text) (InText o.reader more) l o.reached stays }) readable

text_before_tags : (ls : Lines) (n m : ℕ) → EndsInDocString IsReadable class ls n → EndsInTags ls m → ⊥
text_before_tags ls n m d t = heading_in_text (closes d.fence t.fits.0) d.fence ls t.fits.0 (open_at_end ls n d) refl t.fits.1 t.fits.2

one_text : (ls : Lines) (n m : ℕ) → EndsInDocString IsReadable class ls n → EndsInDocString IsReadable class ls m → n ≡ m
one_text ls n m f g = one_opening IsReadable class (open_until feature_readers IsReadable class feature_runs plain_fence) ls n m f g (cuts f.before g.before f.content g.content f.opening g.opening (sym f.whole ∙ g.whole))

-- of two tag lines at the end the last
ignored_in : (mid rest : Lines) (l : LineValue) {ks : Lines} → ks ≡ mid ++ l ∷ rest → Skips IsIgnored ks [] → IsIgnored l
ignored_in [] rest l e skip_none = let no : ⊥ = cc in absurd no
ignored_in (k ∷ mid) rest l e skip_none = let no : ⊥ = cc in absurd no
ignored_in [] rest l e (skip {l = x} i s) = let same : x ≡ l = cc in subst IsIgnored same i
ignored_in (k ∷ mid) rest l e (skip {ls = ys} i s) = let less : ys ≡ mid ++ l ∷ rest = cc in ignored_in mid rest l less s

no_tag_ignored : (l : LineValue) → class l ≡ TagLine → IsIgnored l → ⊥
no_tag_ignored l is i = subst IsIgnoredClass is i

one_end : (ls : Lines) (n m : ℕ) (f : EndsInTags ls n) (g : EndsInTags ls m) → Cuts f.before g.before f.ignored g.ignored f.line g.line → n ≡ m
one_end ls n m f g (same d e) = sym f.number ∙ (ap (λ (l : LineValue). l.line) e ∙ g.number)
one_end ls n m f g (first mid e more) = absurd (no_tag_ignored g.line g.is (ignored_in mid g.ignored g.line more f.skipped))
one_end ls n m f g (second mid e more) = absurd (no_tag_ignored f.line f.is (ignored_in mid f.ignored f.line more g.skipped))

-- each kind of fault and any other
line_and : (ls : Lines) (one other : ReadFault) → other ≢ faults.Memory → IsLineFault one ls → FeatureFault other ls → one ≡ other
line_and ls one (faults.UnclosedText m) named f g = absurd (no_fault_in_doc_string IsReadable class LineSays ls one m f g)
line_and ls one (faults.TagsAtEnd m) named f g = absurd (no_fault_before_end ls one m f g)
line_and ls one faults.Memory named f g = absurd (named refl)
line_and ls one other named f g = one_line_fault IsReadable class LineSays ls own decided one other f g

text_and : (ls : Lines) (n : ℕ) (other : ReadFault) → other ≢ faults.Memory → EndsInDocString IsReadable class ls n → FeatureFault other ls → faults.UnclosedText n ≡ other
text_and ls n (faults.UnclosedText m) named f g = ap faults.UnclosedText (one_text ls n m f g)
text_and ls n (faults.TagsAtEnd m) named f g = absurd (text_before_tags ls n m f g)
text_and ls n faults.Memory named f g = absurd (named refl)
text_and ls n other named f g = absurd (no_fault_in_doc_string IsReadable class LineSays ls other n g f)

tags_and : (ls : Lines) (n : ℕ) (other : ReadFault) → other ≢ faults.Memory → EndsInTags ls n → FeatureFault other ls → faults.TagsAtEnd n ≡ other
tags_and ls n (faults.UnclosedText m) named f g = absurd (text_before_tags ls m n g f)
tags_and ls n (faults.TagsAtEnd m) named f g = ap faults.TagsAtEnd (one_end ls n m f g (cuts f.before g.before f.ignored g.ignored f.line g.line (sym f.whole ∙ g.whole)))
tags_and ls n faults.Memory named f g = absurd (named refl)
tags_and ls n other named f g = absurd (no_fault_before_end ls other n g f)

-- No lines have two faults.
pub one_feature_fault : (ls : Lines) (one other : ReadFault) → one ≢ faults.Memory → other ≢ faults.Memory → FeatureFault one ls → FeatureFault other ls → one ≡ other
one_feature_fault ls (faults.UnclosedText n) other m k f g = text_and ls n other k f g
one_feature_fault ls (faults.TagsAtEnd n) other m k f g = tags_and ls n other k f g
one_feature_fault ls faults.Memory other m k f g = absurd (m refl)
one_feature_fault ls one other m k f g = line_and ls one other k f g
