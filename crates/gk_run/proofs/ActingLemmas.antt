-- What the world's changes and answers are to the table of actions.
use Rattle.gk_run.proofs.Common.{⊤, ◌||◌, unwrap_or, bytes_eq, bytes_eq-Decides, ℤ, pos, negsuc, ◌+ℤ◌, String, FitsSigned, cond, option_map, Option, Some, None, Result, Ok, Err, OnOk, OnErr, map, is_none, get-insert, get-remove, signed_decimal, inl, inr, ◌≤◌, Vec, Global, get_or, w64, ◌≡◌, ℕ, ◌+◌, ◌<◌, Bool, true, false, List, [], ◌∷◌, length, drop, refl, sym, ap, subst, ◌∙◌, arith, leb-true, le-leb, common_steps, Decides-ltb, length_signed_le, nat_list_cmp_total, is_eq-slice_cmp, WorldFault, Texts, Contents, State, Map, with_text, without, laid, see, state_of, first_true, IsAnswer, IsFault, joined, is_bad_name, is_too_long, rename_refusal, SandboxValue, Becomes, Outcome, Site, Reason, number_of, is_i64, Action, Does, Changes, Checks, Registers, Skips, UsedFields, HasUsedFields, LibraryValue, FoundValue, BlockValue, texts, Arguments, WritesFirst, WritesFile, row_file, ArgumentsValue, arguments_of, arguments_by_uses, arguments_value, table, act, does_at_site, without_cleanups, CleanupValue, HasRegistered, write_row, write_rows, Done, add_number, is_pass, and_then, moved, rename_file, put, passes, stays, unless, outcome_of, IsDone, IsActed, Performs, exists, is_absent, agrees, skip_outcome, with_file, without_file, with_env, without_env, with_own, without_own, Registration, UseValue, use_of, used_at}
use Rattle.std.specs.FinMap as finite
use Rattle.std.proofs.lemmas.List.{append-nil}
use Rattle.gk_world.specs.declared.refusals.WorldFault.TheVariants as faults
use Rattle.gk_world.specs.Sandbox as changes
use Rattle.gk_run.specs.declared.results.Outcome.TheVariants as outcomes
use Rattle.gk_run.specs.declared.acting.Site.TheVariants as sites
use Rattle.gk_run.specs.declared.results.Reason.TheVariants as reasons
use Rattle.gk_run.specs.Acting.{is_number as number_check}

not_so : (b : Bool) (P : Type 0) → (b ≡ true → P) → (P → ⊥) → b ≡ false
not_so true P so never = absurd (never (so refl))
not_so false P so never = refl

-- a number that an `i64` holds
fits_test : (z : ℤ) → FitsSigned w64 z → is_i64 z ≡ true
fits_test (pos n) fits = le-leb n 9223372036854775807 (omega (arith, fits.sfits))
fits_test (negsuc n) fits = le-leb n 9223372036854775807 (omega (arith, fits.sfits))

fits_so : (z : ℤ) → is_i64 z ≡ true → FitsSigned w64 z
fits_so (pos n) h = let within = leb-true n 9223372036854775807 h in record { sfits = omega arith }
fits_so (negsuc n) h = let within = leb-true n 9223372036854775807 h in record { sfits = omega arith }

-- a map with a text put in
inserted : (m : Texts) (name text : List ℕ) → finite.get (finite.insert m name text) ≡ with_text (finite.get m) name text
inserted m name text i other = (get-insert nat_list_cmp_total m name text other ∙ ap (λ b. cond b (Some text) (finite.get m other)) (is_eq-slice_cmp other name)) i

-- a map with a name taken out
removed : (m : Texts) (name : List ℕ) → finite.get (finite.remove m name) ≡ without (finite.get m) name
removed m name i other = (get-remove nat_list_cmp_total m name other ∙ ap (λ b. cond b None (finite.get m other)) (is_eq-slice_cmp other name)) i

-- changes of the contents are changes of the plain state
pub file_put : (c : Contents) (name text : List ℕ) → state_of (changes.with_file c name text) ≡ with_file (state_of c) name text
file_put c name text = ap (λ (m : Map). let s : State = state_of c in record s { files = m }) (inserted c.files name text)

pub file_removed : (c : Contents) (name : List ℕ) → state_of (changes.without_file c name) ≡ without_file (state_of c) name
file_removed c name = ap (λ (m : Map). let s : State = state_of c in record s { files = m }) (removed c.files name)

pub env_put : (c : Contents) (name text : List ℕ) → state_of (changes.with_env c name text) ≡ with_env (state_of c) name text
env_put c name text = ap (λ (m : Map). let s : State = state_of c in record s { env = m }) (inserted c.env name text)

pub env_removed : (c : Contents) (name : List ℕ) → state_of (changes.without_env c name) ≡ without_env (state_of c) name
env_removed c name = ap (λ (m : Map). let s : State = state_of c in record s { env = m }) (removed c.env name)

value_put_in : (c : Contents) (values : List Texts) → c.values ≡ values → 0 < length values → (name text : List ℕ) → state_of (changes.with_value c name text) ≡ with_own (state_of c) name text
value_put_in c [] e some name text = let never : ⊥ = omega (arith, some) in absurd never
value_put_in c (v ∷ vs) e some name text = rw e (ap (λ (m : Map). let s : State = record { files = finite.get c.files; env = finite.get c.env; outer = laid vs; own = m } in s) (inserted v name text))

pub value_put : (c : Contents) → 0 < length c.values → (name text : List ℕ) → state_of (changes.with_value c name text) ≡ with_own (state_of c) name text
value_put c some name text = value_put_in c c.values refl some name text

value_removed_in : (c : Contents) (values : List Texts) → c.values ≡ values → 0 < length values → (name : List ℕ) → state_of (changes.without_value c name) ≡ without_own (state_of c) name
value_removed_in c [] e some name = let never : ⊥ = omega (arith, some) in absurd never
value_removed_in c (v ∷ vs) e some name = rw e (ap (λ (m : Map). let s : State = record { files = finite.get c.files; env = finite.get c.env; outer = laid vs; own = m } in s) (removed v name))

pub value_removed : (c : Contents) → 0 < length c.values → (name : List ℕ) → state_of (changes.without_value c name) ≡ without_own (state_of c) name
value_removed c some name = value_removed_in c c.values refl some name

-- a refusal of the world as a reason; memory has none, and is in no list of tests
abbrev pub reason_of : WorldFault → Reason
reason_of faults.Absent = reasons.Absent
reason_of faults.TextTooLong = reasons.TextTooLong
reason_of faults.BadName = reasons.BadName
reason_of faults.OtherLayer = reasons.OtherLayer
reason_of faults.Memory = reasons.Absent

-- the world's tests with the reasons of their faults
abbrev pub reasons_of : List (Bool × WorldFault) → List (Bool × Reason)
reasons_of ws = map (λ w. (w.0, reason_of w.1)) ws

first_reason : (ws : List (Bool × WorldFault)) → first_true (reasons_of ws) ≡ option_map reason_of (first_true ws)
first_reason [] = refl
first_reason ((true, fault) ∷ ws) = refl
first_reason ((false, fault) ∷ ws) = first_reason ws

carried : (s : State) (ws : List (Bool × WorldFault)) (after new : State) → first_true ws ≡ None → new ≡ after → IsDone (unless s (reasons_of ws) after) outcomes.Passed new
carried s ws after new none e = let f : first_true (reasons_of ws) ≡ None = first_reason ws ∙ ap (option_map reason_of) none in rw f (refl, e)

failed : (s : State) (ws : List (Bool × WorldFault)) (after : State) (fault : WorldFault) → first_true ws ≡ Some fault → IsDone (unless s (reasons_of ws) after) (outcomes.Failed (reason_of fault)) s
failed s ws after fault why = let f : first_true (reasons_of ws) ≡ Some (reason_of fault) = first_reason ws ∙ ap (option_map reason_of) why in rw f (refl, refl)

-- a refused change
refused : (s : State) (ws : List (Bool × WorldFault)) (after : State) (fault : WorldFault) → IsFault (first_true ws) fault → IsDone (unless s (reasons_of ws) after) (outcome_of {A = ⊤} (Err fault)) s
refused s ws after faults.Memory why = let f : first_true (reasons_of ws) ≡ None = first_reason ws ∙ ap (option_map reason_of) why in rw f refl
refused s ws after faults.Absent why = failed s ws after faults.Absent why
refused s ws after faults.TextTooLong why = failed s ws after faults.TextTooLong why
refused s ws after faults.BadName why = failed s ws after faults.BadName why
refused s ws after faults.OtherLayer why = failed s ws after faults.OtherLayer why

-- none of some files was written
pub none_written : (files : List (List ℕ × List ℕ)) (old new : SandboxValue) → new ≡ old → WritesFirst files old new
none_written [] old new same = same
none_written (file ∷ files) old new same = inl same

acted_so : (ws : List (Bool × WorldFault)) (r : Result ⊤ WorldFault) (old new : SandboxValue) (changed : Contents) (after : State)
    → OnOk r (Becomes changed old new) → IsAnswer (first_true ws) r → OnErr r (new ≡ old) → state_of changed ≡ after
    → IsActed (unless (state_of old.now) (reasons_of ws) after) old (outcome_of r) new
acted_so ws (Ok x) old new changed after ok answer err e = grind (arith, common_steps, carried)
acted_so ws (Err fault) old new changed after ok answer err e = grind (arith, common_steps, refused, none_written)

-- a change of the world by one call
pub acted : (ws : List (Bool × WorldFault)) (r : Result ⊤ WorldFault) (o : Outcome) (old new : SandboxValue) (changed : Contents) (after : State) → o ≡ outcome_of r
    → OnOk r (Becomes changed old new) → IsAnswer (first_true ws) r → OnErr r (new ≡ old) → state_of changed ≡ after
    → IsActed (unless (state_of old.now) (reasons_of ws) after) old o new
acted ws r o old new changed after is ok answer err e = grind (arith, common_steps, acted_so)

-- a file that was written
pub file_written : (r : Result ⊤ WorldFault) (o : Outcome) (file : List ℕ × List ℕ) (old new : SandboxValue) → o ≡ outcome_of r → OnOk r (changes.PutsFile old file.0 file.1 new) → WritesFile file old o new
file_written r o file old new is put = grind (arith, common_steps)

-- a text at the end of a file's
pub file_extended : (c : Contents) (name more : List ℕ) → state_of (changes.with_more c name more) ≡ with_file (state_of c) name (joined (finite.get c.files) name more)
file_extended c name more = file_put c name (joined (finite.get c.files) name more)

-- the world's tests for each of its changes
abbrev pub put_tests : List ℕ → List ℕ → List (Bool × WorldFault)
put_tests name text = (is_bad_name name, faults.BadName) ∷ (is_too_long text, faults.TextTooLong) ∷ []

abbrev pub append_tests : Map → List ℕ → List ℕ → List (Bool × WorldFault)
append_tests files name more = (is_bad_name name, faults.BadName) ∷ (is_none (files name), faults.Absent) ∷ (is_too_long (joined files name more), faults.TextTooLong) ∷ []

abbrev pub remove_tests : Map → List ℕ → List (Bool × WorldFault)
remove_tests held name = (is_bad_name name, faults.BadName) ∷ (is_none (held name), faults.Absent) ∷ []

abbrev pub delete_tests : State → List ℕ → List (Bool × WorldFault)
delete_tests s name = (is_bad_name name, faults.BadName) ∷ (is_none (see s name), faults.Absent) ∷ (is_none (s.own name), faults.OtherLayer) ∷ []

-- the new name put in before or after the old one is taken out
moved_either_way : (m : Map) (name to text : List ℕ) → bytes_eq name to ≡ false → with_text (without m name) to text ≡ without (with_text m to text) name
moved_either_way m name to text differ i other = apart (m other) (bytes_eq other to) (bytes_eq other name) (both other) i
  where
    both : (other : List ℕ) → bytes_eq other to ≡ true → bytes_eq other name ≡ true → ⊥
    both other a b = grind (arith, common_steps, bytes_eq-Decides)

    apart : (x : Option (List ℕ)) (b c : Bool) → (b ≡ true → c ≡ true → ⊥) → cond b (Some text) (cond c None x) ≡ cond c None (cond b (Some text) x)
    apart x true true h = absurd (h refl refl)
    apart x true false h = refl
    apart x false c h = refl

-- a renamed file, in the plain state
file_renamed : (c : Contents) (name to : List ℕ) → bytes_eq name to ≡ false → state_of (changes.with_renamed c name to) ≡ moved (state_of c) name to
file_renamed c name to differ =
    let text = unwrap_or (finite.get c.files name) [] in
    file_put (changes.without_file c name) to text
    ∙ ap (λ (s : State). with_file s to text) (file_removed c name)
    ∙ ap (λ (m : Map). let s : State = state_of c in record s { files = m }) (moved_either_way (finite.get c.files) name to text differ)
    ∙ ap (λ b. cond b (state_of c) (without_file (with_file (state_of c) to text) name)) (sym differ)

-- a file that is there moves to another name
pub file_moved : (name to : List ℕ) (r : Result ⊤ WorldFault) (o : Outcome) (old new : SandboxValue) → is_bad_name name ≡ false → is_none (finite.get old.now.files name) ≡ false → bytes_eq name to ≡ false → o ≡ outcome_of r
    → OnOk r (changes.RenamesFile old name to new) → IsAnswer (rename_refusal (finite.get old.now.files) name to) r → OnErr r (new ≡ old) → IsActed (rename_file (state_of old.now) name to) old o new
file_moved name to r o old new good there differ is ok answer err =
    let held = is_none (finite.get old.now.files name) in
    let after = moved (state_of old.now) name to in
    let ws : List (Bool × WorldFault) = (is_bad_name to, faults.BadName) ∷ [] in
    let asked : rename_refusal (finite.get old.now.files) name to ≡ first_true ws =
    ap (λ b. first_true ((b || is_bad_name to, faults.BadName) ∷ (held, faults.Absent) ∷ [])) good
    ∙ ap (λ b. first_true ((is_bad_name to, faults.BadName) ∷ (b, faults.Absent) ∷ [])) there in
    let known : (is_bad_name name || held) ≡ false = ap (λ b. b || held) good ∙ there in
    let done = acted ws r o old new (changes.with_renamed old.now name to) after is ok (subst (λ f. IsAnswer f r) asked answer) err (file_renamed old.now name to differ) in
    subst (λ b. IsActed (unless (state_of old.now) ((b, reasons.Absent) ∷ (is_bad_name to, reasons.BadName) ∷ []) after) old o new) (sym known) done

-- memory was refused
abbrev pub refuses : Outcome → Bool
refuses outcomes.Memory = true
refuses _ = false

-- no check takes memory
pub exists_free : (held : Option (List ℕ)) → refuses (exists held) ≡ false
exists_free None = refl
exists_free (Some held) = refl

pub absent_free : (held : Option (List ℕ)) → refuses (is_absent held) ≡ false
absent_free None = refl
absent_free (Some held) = refl

pub agrees_free : (holds : List ℕ → List ℕ → Bool) (held text : Option (List ℕ)) → refuses (agrees holds held text) ≡ false
agrees_free holds None None = refl
agrees_free holds (Some held) None = refl
agrees_free holds None (Some text) = refl
agrees_free holds (Some held) (Some text) = grind (arith, common_steps)

pub number_free : (held : Option (List ℕ)) (n : ℤ) → refuses (number_check held n) ≡ false
number_free None n = refl
number_free (Some held) n = grind (arith, common_steps)

pub skip_free : (site : Site) → refuses (skip_outcome site) ≡ false
skip_free sites.Step = refl
skip_free sites.CaseHook = refl
skip_free sites.Hook = refl
skip_free sites.Cleanup = refl

-- an action that changes nothing
pub stayed : (old : SandboxValue) (o p : Outcome) → o ≡ p → refuses p ≡ false → IsActed (stays (state_of old.now) p) old o old
stayed old o p e free = grind (arith, common_steps)

-- a check, by its row
pub checked : (action row : Action) (arguments : Arguments) (old : SandboxValue) (o p : Outcome) → action ≡ row → o ≡ p → refuses p ≡ false
    → table row (arguments_value arguments) (state_of old.now) ≡ stays (state_of old.now) p → Performs action arguments old o old
checked action row arguments old o p is e free by = grind (arith, common_steps)

-- a part that comes after one that passed
pub went_on : (d : Done) (files : List (List ℕ × List ℕ)) (o : Outcome) (s : State) → IsDone d o s → IsDone (record d { takes_memory = true; files = files }) o s
went_on d files outcomes.Passed s h = h
went_on d files outcomes.Skip s h = h
went_on d files (outcomes.Failed why) s h = h
went_on d files outcomes.Memory s h = refl

-- an action in two parts, of which the first wrote a file and passed
pub part_passes : (file : List ℕ × List ℕ) (this : Done) (next : State → Done) (old mid new : SandboxValue) (written o : Outcome) → written ≡ outcomes.Passed
    → IsActed this old written mid → WritesFile file old written mid → IsActed (next (state_of mid.now)) mid o new → IsActed (and_then file this (next this.state)) old o new
part_passes file this next old mid new written o is h puts k =
    let W : Outcome → Type 0 = λ w. IsActed this old w mid in
    let first : IsActed this old outcomes.Passed mid = subst W is h in
    let P : State → Type 0 = λ s. IsActed (next s) mid o new in
    let second : IsActed (next this.state) mid o new = subst P first.carried_out.1 k in
    let both : Done = let done = next this.state in record done { takes_memory = true; files = file ∷ done.files } in
    let Q : Done → Type 0 = λ d. IsActed d old o new in
    let e : both ≡ and_then file this (next this.state) = ap (λ p. cond (is_pass p) both this) first.carried_out.0 in
    subst Q e (record {
      carried_out = went_on (next this.state) both.files o (state_of new.now) second.carried_out;
      layers = record { layers = second.layers.layers ∙ first.layers.layers; starts = second.layers.starts ∙ first.layers.starts };
      kept = λ m. inr (mid, puts is, second.kept m);
    })

-- a number's text is short
short_number : (z : ℤ) (text : List ℕ) → FitsSigned w64 z → text ≡ signed_decimal z → is_too_long text ≡ false
short_number z text fits e =
    let few = length_signed_le 19 z (omega (arith, fits.sfits)) fits.sfits in
    let same = ap (λ (bs : List ℕ). length bs) e in
    not_so (is_too_long text) (1048576 < length text) ((Decides-ltb 1048576 (length text)).0) (λ more. omega (arith, few, same, more))

pub number_set : (s : State) (name text : List ℕ) (z : ℤ) → is_bad_name name ≡ false → FitsSigned w64 z → text ≡ signed_decimal z → put s name text (with_own s name text) ≡ passes (with_own s name (signed_decimal z))
number_set s name text z good fits e =
    let short = short_number z text fits e in
    let a = ap (λ (b : Bool). unless s ((b, reasons.BadName) ∷ (is_too_long text, reasons.TextTooLong) ∷ []) (with_own s name text)) good in
    let b = ap (λ (b : Bool). unless s ((false, reasons.BadName) ∷ (b, reasons.TextTooLong) ∷ []) (with_own s name text)) short in
    a ∙ b ∙ ap (λ (bs : List ℕ). passes (with_own s name bs)) e

pub number_acted : (s : State) (name text : List ℕ) (z : ℤ) (old new : SandboxValue) (o : Outcome) → is_bad_name name ≡ false → FitsSigned w64 z → text ≡ signed_decimal z
    → IsActed (put s name text (with_own s name text)) old o new → IsActed (passes (with_own s name (signed_decimal z))) old o new
number_acted s name text z old new o good fits e h = let P : Done → Type 0 = λ d. IsActed d old o new in subst P (number_set s name text z good fits e) h

-- a row's cells, as they lie in memory
abbrev pub RowInMemory : Type 0
RowInMemory = Vec (String Global) Global

abbrev pub cells : RowInMemory → List (List ℕ)
cells row = texts row.items

-- the rows that are left, with the first of them
rows_left : (rows : List RowInMemory) (i : ℕ) (row : RowInMemory) → i < length rows → row ≡ get_or rows i row → drop i rows ≡ row ∷ drop (i + 1) rows
rows_left rows i row some is = grind (arith, common_steps)

-- rows in turn, as files that are written
abbrev pub RowsActed : List RowInMemory → SandboxValue → Outcome → SandboxValue → Type 0
RowsActed rows old o new = IsActed (write_rows (state_of old.now) (map (λ (row : RowInMemory). texts row.items) rows)) old o new

-- a row that was written, before the others
pub row_passed : (rows : List RowInMemory) (i : ℕ) (row : RowInMemory) (held : List (String Global)) (old mid new : SandboxValue) (written o : Outcome) → i < length rows → row ≡ get_or rows i row → held ≡ row.items
    → written ≡ outcomes.Passed → IsActed (write_row (state_of old.now) (texts held)) old written mid → WritesFile (row_file (texts held)) old written mid
    → RowsActed (drop (i + 1) rows) mid o new → RowsActed (drop i rows) old o new
row_passed rows i row held old mid new written o some is items passed h puts k =
    let P : List (String Global) → Type 0 = λ cs. IsActed (write_row (state_of old.now) (texts cs)) old written mid in
    let W : List (String Global) → Type 0 = λ cs. WritesFile (row_file (texts cs)) old written mid in
    let left = map (λ (row : RowInMemory). texts row.items) (drop (i + 1) rows) in
    subst (λ (rs : List RowInMemory). RowsActed rs old o new) (sym (rows_left rows i row some is))
    (part_passes (row_file (cells row)) (write_row (state_of old.now) (cells row)) (λ s. write_rows s left) old mid new written o passed (subst P items h) (subst W items puts) k)

-- a row that ended the writing
pub row_ended : (rows : List RowInMemory) (i : ℕ) (row : RowInMemory) (held : List (String Global)) (old new : SandboxValue) (o : Outcome) → i < length rows → row ≡ get_or rows i row → held ≡ row.items
    → (o ≡ outcomes.Passed → ⊥) → IsActed (write_row (state_of old.now) (texts held)) old o new → RowsActed (drop i rows) old o new
row_ended rows i row held old new o some is items never h = grind (arith, common_steps)

-- no row is left
pub rows_end : (rows : List RowInMemory) (i : ℕ) (s : SandboxValue) → length rows ≤ i → RowsActed (drop i rows) s outcomes.Passed s
rows_end rows i s none = grind (arith, common_steps)

-- a sum that no `i64` has
pub not_in_range : (z : ℤ) → (FitsSigned w64 z → ⊥) → is_i64 z ≡ false
not_in_range z never = not_so (is_i64 z) (FitsSigned w64 z) (fits_so z) never

pub out_of_range_acted : (old : SandboxValue) (name text : List ℕ) (looked : Option (List ℕ)) (n m : ℤ) → is_bad_name name ≡ false → Some text ≡ looked → number_of text ≡ Some m → is_i64 (m +ℤ n) ≡ false
    → IsActed (add_number (state_of old.now) name looked n) old (outcomes.Failed reasons.OutOfRange) old
out_of_range_acted old name text looked n m good is number far = grind (arith, common_steps)

-- a sum that is held as a number
pub sum_acted : (old new : SandboxValue) (o : Outcome) (name text : List ℕ) (looked : Option (List ℕ)) (n m sum : ℤ) → is_bad_name name ≡ false → Some text ≡ looked → number_of text ≡ Some m → sum ≡ m +ℤ n → FitsSigned w64 sum
    → IsActed (passes (with_own (state_of old.now) name (signed_decimal sum))) old o new → IsActed (add_number (state_of old.now) name looked n) old o new
sum_acted old new o name text looked n m sum good is number e fits h = grind (arith, common_steps)

-- a text that is a number has one in range
pub number_fits : (text : List ℕ) (m : ℤ) → number_of text ≡ Some m → FitsSigned w64 m
number_fits text m e = grind (arith, common_steps)

-- ---- where an action is carried out

-- an action that neither registers nor skips does what its row says
pub row_at : (does : Does) (action : Action) (site : Site) (library : LibraryValue) (g : ArgumentsValue) (s : State) → (does ≡ Registers → ⊥) → (does ≡ Skips → ⊥) → does_at_site does action site library g s ≡ without_cleanups (table action g s)
row_at Changes action site library g s n m = refl
row_at Checks action site library g s n m = refl
row_at Registers action site library g s n m = absurd (n refl)
row_at Skips action site library g s n m = absurd (m refl)

-- a cleanup that is registered where that is allowed
pub none_registered : (done : Done) (at : Registration) (cleanups : List CleanupValue) (o : Outcome) → HasRegistered (without_cleanups done) at cleanups o cleanups
none_registered done at cleanups outcomes.Memory = refl
none_registered done at cleanups outcomes.Passed = sym (append-nil cleanups)
none_registered done at cleanups outcomes.Skip = sym (append-nil cleanups)
none_registered done at cleanups (outcomes.Failed why) = sym (append-nil cleanups)

-- what the used fields of what was found give
pub used_given : (library : LibraryValue) (f : FoundValue) (u : UsedFields) (block : BlockValue) → HasUsedFields library f u → arguments_by_uses u block ≡ arguments_of library f block
used_given library f u block h = grind (arith, common_steps)

-- the action of a found step as it is called
pub called_is : (library : LibraryValue) (site : Site) (f : FoundValue) (block : BlockValue) (s : State) (used : UseValue) → used ≡ use_of library f block → used_at site library used s ≡ act library site f block s
unfolding act
called_is library site f block s used e = ap (λ x. used_at site library x s) e
