-- Inputs, one after another, and that they are determined.
use Rattle.gk_request.proofs.Common.{◌≡◌, ◌⊎◌, inl, inr, SelectFault, ℕ, suc, zero, ◌+◌, ◌<◌, Bool, true, false, List, [], ◌∷◌, ◌++◌, map, take, drop, length, get_or, Option, Some, None, refl, ap, ap₂, sym, subst, ◌∙◌, arith, add-one, slice_get, zip, AllByRecursion, lines_of, FeatureValue, Reads, HasOneReading, HookValue, HaveOneHooksReading, Case, CaseValue, case_value, ExampleRowValue, with_own_tags, Expression, ReadsTags, is_chosen, LibraryValue, default_text, LibraryReadingIsUnique, HeadValue, MemberValue, ChosenValue, member_of, members_of, SourceValue, Inputs, InputsAreUnique, IsFirstBadText, AreRules, IsLibrary, AreHooks, IsReadAs, member_by, with_reading, AreRead, with_rows, rows_onto, AreRowsOf, AreRowsIf, Request, RunFault, Read, Library, Hooks, Select, Memory, library_file, hooks_file, source_at, DoesRead, sources_from, reading_order, number_of, StopsAtFile, IsUnread, RunFile, SaysFile, SaysSourceAt, IsFirstUnread, SaysSources}
use Rattle.gk_select.specs.declared.select_fault.SelectFault.TheVariants as select_faults

-- The element at a place, as a loop has it.
pub at_place : {A B : Type 0} (f : A → B) (xs : List A) (i : ℕ) (x : A) → i < length xs → x ≡ get_or xs i x → slice_get (map f xs) i ≡ Some (f x)
at_place f [] i x less is = absurd (omega arith)
at_place f (y ∷ ys) zero x less is = ap (λ z. Some (f z)) (sym is)
at_place f (y ∷ ys) (suc i) x less is = at_place f ys i x (omega arith) is

pub same_some : {A : Type 0} (x y : A) → ◌≡◌ {A = Option A} (Some x) (Some y) → x ≡ y
same_some x y e = cc

-- One element more of a list.
pub take_one : {A : Type 0} (xs : List A) (i : ℕ) (x : A) → slice_get xs i ≡ Some x → take (i + 1) xs ≡ take i xs ++ x ∷ []
take_one xs i x is = ap (λ n. take n xs) (add-one i) ∙ go xs i x is where
  go : {A : Type 0} (xs : List A) (i : ℕ) (x : A) → slice_get xs i ≡ Some x → take (suc i) xs ≡ take i xs ++ x ∷ []
  go [] i x is = let no : ⊥ = cc in absurd no
  go (y ∷ ys) zero x is = ap (λ z. z ∷ []) (same_some y x is)
  go (y ∷ ys) (suc i) x is = ap (λ t. y ∷ t) (go ys i x is)

-- A list, split at a place.
pub split_at : {A : Type 0} (xs : List A) (i : ℕ) (x : A) → slice_get xs i ≡ Some x → xs ≡ take i xs ++ x ∷ drop (suc i) xs
split_at [] i x is = let no : ⊥ = cc in absurd no
split_at (y ∷ ys) zero x is = ap (λ z. z ∷ ys) (same_some y x is)
split_at (y ∷ ys) (suc i) x is = ap (λ t. y ∷ t) (split_at ys i x is)

-- Cases, each with whether it is selected, by their values.
abbrev paired : List CaseValue → List Bool → List MemberValue
paired cs selected = map (λ (p : CaseValue × Bool). record { scenario = p.0; selected = p.1 }) (zip cs selected)

members_paired : (cs : List Case) (selected : List Bool) → members_of cs selected ≡ paired (map case_value cs) selected
members_paired [] [] = refl
members_paired [] (b ∷ bs) = refl
members_paired (c ∷ cs) [] = refl
members_paired (c ∷ cs) (b ∷ bs) = ap (λ (ms : List MemberValue). member_of c b ∷ ms) (members_paired cs bs)

paired_by : (chooses : CaseValue → Bool) (cs : List CaseValue) → paired (map with_own_tags cs) (map chooses cs) ≡ map (member_by chooses) cs
paired_by chooses [] = refl
paired_by chooses (c ∷ cs) = ap (λ (ms : List MemberValue). member_by chooses c ∷ ms) (paired_by chooses cs)

-- The cases of a feature with their own tags, each with whether it is chosen.
pub members_chosen : (chooses : CaseValue → Bool) (cs : List Case) (whole : List CaseValue) → map case_value cs ≡ map with_own_tags whole → members_of cs (map chooses whole) ≡ map (member_by chooses) whole
members_chosen chooses cs whole are = members_paired cs (map chooses whole) ∙ ap (λ (vs : List CaseValue). paired vs (map chooses whole)) are ∙ paired_by chooses whole

-- A feature, by its source and its members.
pub chosen_again : {source source' name name' : List ℕ} {line : ℕ} {tags tags' : List (List ℕ)} {rules rules' : List HeadValue} {members members' : List MemberValue} → source ≡ source' → name ≡ name' → tags ≡ tags' → rules ≡ rules' → members ≡ members' →
    let one : ChosenValue = record { source = source; name = name; line = line; tags = tags; rules = rules; members = members } in
    let other : ChosenValue = record { source = source'; name = name'; line = line; tags = tags'; rules = rules'; members = members' } in
    one ≡ other
chosen_again a b c d e = cc

-- The rules of cases, by what the cases say.
pub rules_said : (cs : List Case) → map (λ (c : CaseValue). c.rule) (map case_value cs) ≡ map (λ (c : Case). c.rule) cs
rules_said [] = refl
rules_said (c ∷ cs) = ap (λ rs. c.rule ∷ rs) (rules_said cs)

-- One element more, of which it holds.
pub all_push : {X : Type 0} (P : X → Type 0) (xs : List X) (x : X) → AllByRecursion P xs → P x → AllByRecursion P (xs ++ x ∷ [])
all_push P [] x all h = (h, tt)
all_push P (y ∷ ys) x all h = (all.0, all_push P ys x all.1 h)

-- One text of tags more.
pub rules_one : (ts : List (List ℕ)) (rs : List Expression) (t : List ℕ) (r : Expression) → AreRules ts rs → ReadsTags t r → AreRules (ts ++ t ∷ []) (rs ++ r ∷ [])
rules_one [] rs t r none reads = (r, [], reads, refl, ap (λ x. x ++ r ∷ []) none)
rules_one (x ∷ ts) rs t r h reads = (h.0, h.1 ++ r ∷ [], h.2, rules_one ts h.1 t r h.3 reads, ap (λ x. x ++ r ∷ []) h.4)

with_more : (chooses : CaseValue → Bool) (name : List ℕ) (reading : Option FeatureValue) (others more : List ChosenValue) →
    with_reading chooses name reading others ++ more ≡ with_reading chooses name reading (others ++ more)
with_more chooses name None others more = refl
with_more chooses name (Some f) others more = refl

-- One source more.
pub read_one : (chooses : CaseValue → Bool) (ss : List SourceValue) (fs : List ChosenValue) (s : SourceValue) (reading : Option FeatureValue) →
    AreRead chooses ss fs → IsReadAs s.bytes reading → AreRead chooses (ss ++ s ∷ []) (fs ++ with_reading chooses s.name reading [])
read_one chooses [] fs s reading none read = (reading, [], read, refl, ap (λ x. x ++ with_reading chooses s.name reading []) none)
read_one chooses (x ∷ ss) fs s reading h read = (
  h.0,
  h.1 ++ with_reading chooses s.name reading [],
  h.2,
  read_one chooses ss h.1 s reading h.3 read,
  ap (λ x. x ++ with_reading chooses s.name reading []) h.4 ∙ with_more chooses x.name h.0 h.1 (with_reading chooses s.name reading []),
)

with_more_rows : (reading : Option FeatureValue) (others more : List (List (Option ExampleRowValue))) → with_rows reading others ++ more ≡ with_rows reading (others ++ more)
with_more_rows None others more = refl
with_more_rows (Some f) others more = refl

rows_of_one : (ss : List SourceValue) (rows : List (List (Option ExampleRowValue))) (s : SourceValue) (reading : Option FeatureValue) → AreRowsOf ss rows → Reads (lines_of s.bytes) reading → AreRowsOf (ss ++ s ∷ []) (rows ++ with_rows reading [])
rows_of_one [] rows s reading none reads = (reading, [], reads, refl, ap (λ x. x ++ with_rows reading []) none)
rows_of_one (x ∷ ss) rows s reading h reads = (
  h.0,
  h.1 ++ with_rows reading [],
  h.2,
  rows_of_one ss h.1 s reading h.3 reads,
  ap (λ x. x ++ with_rows reading []) h.4 ∙ with_more_rows h.0 h.1 (with_rows reading []),
)

-- The rows of one source more, if they are wanted.
pub rows_one : (wanted : Bool) (ss : List SourceValue) (old new : List (List (Option ExampleRowValue))) (s : SourceValue) (reading : Option FeatureValue) →
    AreRowsIf wanted ss old → Reads (lines_of s.bytes) reading → new ≡ rows_onto wanted reading old → AreRowsIf wanted (ss ++ s ∷ []) new
rows_one true ss old new s reading rows reads is = subst (AreRowsOf (ss ++ s ∷ [])) (sym is) (rows_of_one ss old s reading rows reads)
rows_one false ss old new s reading rows reads is = is ∙ rows

-- The first source that doesn't read is named, or memory was refused.
pub first_unread : (chooses : CaseValue → Bool) (sources : List SourceValue) (features : List ChosenValue) (input : ℕ) (source : SourceValue) (fault : RunFault) →
    AreRead chooses (take input sources) features → slice_get sources input ≡ Some source → SaysSourceAt input source.bytes fault → SaysSources chooses sources fault
first_unread chooses sources features input source Memory read place h = tt
first_unread chooses sources features input source fault read place h = record { input = input; features = features; read = read; source = source; place = place; says = h }

pub is_bad : {P : Type 0} (fault : SelectFault) → fault ≡ select_faults.BadTagText → (fault ≡ select_faults.Memory) ⊎ ((fault ≡ select_faults.BadTagText) × P) → P
is_bad fault bad (inl memory) = let no : ⊥ = cc (bad, memory) in absurd no
is_bad fault bad (inr says) = says.1

pub first_bad : (tags : List (List ℕ)) (i : ℕ) (text : List ℕ) (rules : List Expression) → slice_get tags i ≡ Some text → AreRules (take i tags) rules → ((rule : Expression) → ReadsTags text rule → ⊥) → IsFirstBadText tags text
first_bad tags i text rules place read bad = record { before = take i tags; after = drop (suc i) tags; whole = split_at tags i text place; rules = rules; read = read; bad = bad }

-- The fault of the library, after the texts of tags.
pub library_unread : (r : Request) (rules : List Expression) (fault : RunFault) → AreRules r.tags rules → SaysFile (library_file r.library) fault → IsUnread r fault
library_unread r rules (Library fault) tags h = record { rules = rules; tags = tags; before = tt; file = library_file r.library; numbered = refl; says = h }
library_unread r rules Memory tags h = tt
library_unread r rules fault tags h = absurd h

-- The fault of the hooks, after the texts of tags and the library.
pub hooks_unread : (r : Request) (rules : List Expression) (entries : LibraryValue) (fault : RunFault) →
    AreRules r.tags rules → IsLibrary r.library entries → SaysFile (hooks_file r.hooks) fault → IsUnread r fault
hooks_unread r rules entries (Hooks fault) tags library h = record { rules = rules; tags = tags; before = ((entries, library), tt); file = hooks_file r.hooks; numbered = refl; says = h }
hooks_unread r rules entries Memory tags library h = tt
hooks_unread r rules entries fault tags library h = absurd h

-- The source at a place is the file there.
file_there : (place n : ℕ) (sources : List SourceValue) (input : ℕ) (source : SourceValue) → n ≡ place + input → slice_get sources input ≡ Some source → slice_get (sources_from place sources) input ≡ Some (source_at n source.bytes)
file_there place n [] input source at is = let no : ⊥ = cc in absurd no
file_there place n (s ∷ ss) zero source at is = let same : place ≡ n = omega arith in ap₂ (λ (k : ℕ) (x : SourceValue). Some (source_at k x.bytes)) same (same_some s source is)
file_there place n (s ∷ ss) (suc input) source at is = file_there (suc place) n ss input source (omega arith) is

-- So it is among the files of a run.
pub source_file : (library hooks : Option (List ℕ)) (sources : List SourceValue) (place input : ℕ) (source : SourceValue) (file : RunFile) → place ≡ input + 2 → slice_get sources input ≡ Some source →
    slice_get (reading_order library hooks sources) place ≡ Some file → source_at input source.bytes ≡ file
source_file library hooks sources zero input source file at is there = absurd (omega arith)
source_file library hooks sources (suc zero) input source file at is there = absurd (omega arith)
source_file library hooks sources (suc (suc n)) input source file at is there =
    let same : input ≡ n = omega arith in
    same_some (source_at input source.bytes) file (sym (file_there 0 input sources n source (omega arith) (subst (λ k. slice_get sources k ≡ Some source) same is)) ∙ there)

-- Sources that read do so as files.
do_read : (chooses : CaseValue → Bool) (place n : ℕ) (sources : List SourceValue) (features : List ChosenValue) → AreRead chooses (take n sources) features → AllByRecursion DoesRead (take n (sources_from place sources))
do_read chooses place zero sources features read = tt
do_read chooses place (suc n) [] features read = tt
do_read chooses place (suc n) (s ∷ ss) features read = ((read.0, read.2), do_read chooses (suc place) n ss read.1 read.3)

-- The fault of a source, after the texts of tags, the library and the hooks.
stops_at_source : (r : Request) (rules : List Expression) (entries : LibraryValue) (hooks : List HookValue) (fault : RunFault) →
    AreRules r.tags rules → IsLibrary r.library entries → AreHooks r.hooks hooks → (first : IsFirstUnread (is_chosen rules r.lines) r.sources fault) → number_of fault ≡ suc (suc first.input) → StopsAtFile r fault
stops_at_source r rules entries hooks fault tags library around first is = record {
  rules = rules;
  tags = tags;
  before = subst (λ n. AllByRecursion DoesRead (take n (reading_order r.library r.hooks r.sources))) (sym is) ((entries, library), ((hooks, around), do_read (is_chosen rules r.lines) 0 first.input r.sources first.features first.read));
  file = source_at first.input first.source.bytes;
  numbered = subst (λ n. slice_get (reading_order r.library r.hooks r.sources) n ≡ Some (source_at first.input first.source.bytes)) (sym is) (file_there 0 first.input r.sources first.input first.source (omega arith) first.place);
  says = first.says;
}

pub sources_unread : (r : Request) (rules : List Expression) (entries : LibraryValue) (hooks : List HookValue) (fault : RunFault) →
    AreRules r.tags rules → IsLibrary r.library entries → AreHooks r.hooks hooks → SaysSources (is_chosen rules r.lines) r.sources fault → IsUnread r fault
sources_unread r rules entries hooks Memory tags library around h = tt
sources_unread r rules entries hooks (Read input fault) tags library around h = stops_at_source r rules entries hooks (Read input fault) tags library around h (ap (λ n. suc (suc n)) h.says.0)
sources_unread r rules entries hooks (Select (Some input) select_faults.TooMany) tags library around h = stops_at_source r rules entries hooks (Select (Some input) select_faults.TooMany) tags library around h (ap (λ n. suc (suc n)) h.says.0)
sources_unread r rules entries hooks fault tags library around h = absurd h.says

abbrev pub OneRule : Type 0
OneRule = (text : List ℕ) (a b : Expression) → ReadsTags text a → ReadsTags text b → a ≡ b

pub same_rules : OneRule → (ts : List (List ℕ)) (rs qs : List Expression) → AreRules ts rs → AreRules ts qs → rs ≡ qs
same_rules one [] rs qs a b = a ∙ sym b
same_rules one (t ∷ ts) rs qs (rule, others, reads, rest, is) (rule', others', reads', rest', is') =
    is ∙ ap (λ r. r ∷ others) (one t rule rule' reads reads') ∙ ap (λ x. rule' ∷ x) (same_rules one ts others others' rest rest') ∙ sym is'

same_features : HasOneReading → (chooses : CaseValue → Bool) (ss : List SourceValue) (fs gs : List ChosenValue) → AreRead chooses ss fs → AreRead chooses ss gs → fs ≡ gs
same_features one chooses [] fs gs f g = f ∙ sym g
same_features one chooses (s ∷ ss) fs gs (reading, others, read, rest, is) (reading', others', read', rest', is') =
    is ∙ ap (λ r. with_reading chooses s.name r others) (one (lines_of s.bytes) reading reading' read.reads read'.reads)
    ∙ ap (with_reading chooses s.name reading') (same_features one chooses ss others others' rest rest') ∙ sym is'

pub same_library : LibraryReadingIsUnique → (file : Option (List ℕ)) (a b : LibraryValue) → IsLibrary file a → IsLibrary file b → a ≡ b
same_library one None a b h g = one (lines_of default_text) a b h g
same_library one (Some bytes) a b h g = one (lines_of bytes) a b h.1 g.1

pub same_hooks : HaveOneHooksReading → (file : Option (List ℕ)) (a b : List HookValue) → AreHooks file a → AreHooks file b → a ≡ b
same_hooks one None a b h g = h ∙ sym g
same_hooks one (Some bytes) a b h g = one (lines_of bytes) a b h.1 g.1

alike : {l l' : LibraryValue} {hs hs' : List HookValue} {fs fs' : List ChosenValue} → l ≡ l' → hs ≡ hs' → fs ≡ fs' →
    let one : Inputs = record { library = l; hooks = hs; features = fs } in let other : Inputs = record { library = l'; hooks = hs'; features = fs' } in one ≡ other
alike a b c = cc

-- What is asked for reads in one way only.
pub unique : HasOneReading → OneRule → LibraryReadingIsUnique → HaveOneHooksReading → InputsAreUnique
unique reading rule library hooks r one other a b =
    let same = same_rules rule r.tags a.rules b.rules a.tags b.tags in
    alike (same_library library r.library one.library other.library a.library b.library) (same_hooks hooks r.hooks one.hooks other.hooks a.hooks b.hooks)
    (same_features reading (is_chosen a.rules r.lines) r.sources one.features other.features a.features (subst (λ rules. AreRead (is_chosen rules r.lines) r.sources other.features) (sym same) b.features))
