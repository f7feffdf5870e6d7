-- The command that reads the arguments, and what its matches hold.
use Rattle.gk_cli.proofs.Common.{◌≡◌, ◌≢◌, ◌⊎◌, ◌∙◌, ◌<◌, ◌≤◌, ◌&&◌, ◌||◌, ◌==◌, ◌+◌, ◌++◌, ap, ap₂, sym, subst, refl, inl, inr, arith, zero, suc, ℕ, Bool, true, false, not, List, [], ◌∷◌, length, map, codes, drop, drop-cons, fold, take, is_some, get_or, Option, Some, None, Result, Ok, Err, IsOk, find, if◌then◌else◌, option_map, unwrap_or, IsErrAnd, option_map_or, All, after_first, before_first, slice_index_or, list_all, bytes_eq, ParsesBool, ParsesUnsigned, Bor, String, string_bytes, Global, append-nil, drop_all, get_or-map, length-map, map-append, map_push, take-append-drop, take_all, All-nil, All-map, All-push, common_steps, bytes_eq-Decides, Accepts, AddsArg, App, BuildsOrBreaks, BuildsTo, HasKind, HasMatchesOf, IsAmong, IsParsed, IsParsedFrom, IsUnsignedIn, Kinds, ReadsOne, Rule, Text, app_of, args_of, fault_of, first_value, found_of, groups_of, has_subcommand, is_broken, is_simple, is_simple_and_free, kind_of, matched_of, matches_of, new_app, raw_values, rows_of, rule_of, with_rule, Entry, EntryPasses, IsFilledEntry, PassesArg, ValuesPass, least_values, parser_of_value, unwrap_or_range, action_of, is_append, is_simple_arg, row_of, or_else, app_of_fields, built, Set, Arg, Command, Command-F, ValueParser, Unsigned, ArgMatches, Found, MatchedArg, added_plain, entry_by_id, present_has_entry, required_present, first_value-rows, Error, ErrorKind, ArgumentConflict, InvalidValue, HasRule, IsAskedBy, IsCommand, IsFaultBy, IsFirstWithout, IsLineNumber, PairValue, SaysArguments, SaysMatches, SaysPair, command, split_at_equals, faults_in, format_asked, found_in, has_equals, is_format, line_number, values_of, is_clash, is_given, with_version, option_value, rule_of_option, Words, WordsFault, Usage, Env, File, OptionRow}
use Rattle.clap.specs.declared.builder.command.Command.TheViews.{out-Command as fields_of}
use Rattle.gk_cli.specs.declared.arguments.WordsFault.TheVariants.{Memory}

-- ---- the command

-- a new command
pub begins : (name : Text) (c : Command) → app_of c ≡ new_app name → args_of c ≡ [] → groups_of c ≡ []
    → (fields_of c).has_globals ≡ false → (fields_of c).subcommand_negates_reqs ≡ false → IsCommand (new_app name) c
begins name c app args groups local demands = grind (arith, common_steps)

-- an argument is added
pub adds : (a : App) (r : Rule) (old new : Command) (x : Arg) → IsCommand a old → HasRule r x → AddsArg old x new → IsCommand (with_rule a r) new
adds a r old new x is has added = record {
  app = added.shape has.local ∙ ap₂ with_rule is.app has.same;
  plain = added_plain old new x added is.plain has.plain;
  local = added.globals ∙ (ap (λ b. b || x.global) is.local ∙ ap (λ b. false || b) has.local);
  demands = added.negates ∙ is.demands;
}

-- the texts of the help change nothing else
pub texts_apart : (a : App) (old new : Command) (f : Command-F Command) → IsCommand a old → fields_of new ≡ f
    → app_of_fields f ≡ app_of_fields (fields_of old) → f.args ≡ (fields_of old).args → f.groups ≡ (fields_of old).groups
    → f.has_globals ≡ (fields_of old).has_globals → f.subcommand_negates_reqs ≡ (fields_of old).subcommand_negates_reqs → IsCommand a new
texts_apart a old new f is with app args groups globals negates = grind (arith, common_steps)

-- the version changes nothing else
pub versioned : (a : App) (old new : Command) (text : Bor Text) → IsCommand a old → fields_of new ≡ record (fields_of old) { version = Some text } → IsCommand (with_version a) new
versioned a old new text is with = grind (arith, common_steps)

-- the option of one row more is added
pub one_rule_more : (app : App) (rows : List OptionRow) (i : ℕ) (row : OptionRow) → i < length rows
    → fold with_rule (with_rule app (rule_of_option (option_value (get_or rows i row)))) (map rule_of_option (map option_value (drop (i + 1) rows))) ≡ fold with_rule app (map rule_of_option (map option_value (drop i rows)))
one_rule_more app rows i row lt = grind (arith, common_steps)

-- the command as clap returns it: as it was, or built
abbrev MayBeBuilt : Command → Type 0
MayBeBuilt c = (app_of c ≡ command) ⊎ (app_of c ≡ built command)

may_be_built : (old new : Command) → IsCommand command old → BuildsOrBreaks old new → (is_broken new ≡ true → ⊥) → MayBeBuilt new
may_be_built old new is after whole = grind (arith, common_steps)

-- ---- tests on its arguments

both : (a b : Bool) → (a && b) ≡ true → (a ≡ true) × (b ≡ true)
both true b h = (refl, h)
both false b h = absurd cc

unless : (a b : Bool) → (not a || b) ≡ true → a ≡ true → b ≡ true
unless true b h e = h
unless false b h e = absurd cc

-- a test that each argument passes is passed by the one at a place
tested : (test : Rule → Bool) (xs : List Arg) (k : ℕ) (x : Arg) → k < length xs → slice_index_or xs k x ≡ x → list_all test (map rule_of xs) ≡ true → test (rule_of x) ≡ true
tested test [] k x lt at h = absurd (omega arith)
tested test (y ∷ ys) zero x lt at h = subst (λ z. test (rule_of z) ≡ true) at (both (test (rule_of y)) (list_all test (map rule_of ys)) h).0
tested test (y ∷ ys) (suc k) x lt at h = tested test ys k x (omega arith) at (both (test (rule_of y)) (list_all test (map rule_of ys)) h).1

test_passes : (test : Rule → Bool) (c : Command) → MayBeBuilt c → list_all test command.top.rules ≡ true → list_all test (built command).top.rules ≡ true
    → list_all test (map rule_of (args_of c)) ≡ true
test_passes test c (inl h) here later = ap (λ (a : App). list_all test a.top.rules) h ∙ here
test_passes test c (inr h) here later = ap (λ (a : App). list_all test a.top.rules) h ∙ later

-- ---- the files have a value

abbrev files_test : Rule → Bool
files_test r = not (bytes_eq r.id (codes "files")) || (r.is_simple && ((unwrap_or_range r.range).start_inclusive == 1 && is_append (action_of r)))

no_delimiter : (a : Arg) → is_simple_arg a ≡ true → is_some a.val_delim ≡ false
no_delimiter a h = grind (arith, common_steps)

one_least : (a : Arg) → (least_values a == 1) ≡ true → least_values a ≡ 1
one_least a h = grind (arith, common_steps)

-- a use of the files gives at least one value, without a delimiter, and adds it
abbrev IsFilesArg : Arg → Type 0
IsFilesArg a = (least_values a ≡ 1) × (is_some a.val_delim ≡ false) × (is_append (unwrap_or a.action Set) ≡ true)

named_files : (c : Command) → MayBeBuilt c → (k : ℕ) (x : Arg) → k < length (args_of c) → slice_index_or (args_of c) k x ≡ x
    → bytes_eq x.id.now (codes "files") ≡ true → IsFilesArg x
named_files c left k x lt at same =
    let test = unless (bytes_eq x.id.now (codes "files")) _ (tested files_test (args_of c) k x lt at (test_passes files_test c left refl refl)) same in
    let simple = both (is_simple_arg x) _ test in
    let rest = both (least_values x == 1) _ simple.1 in
    (one_least x rest.0, no_delimiter x simple.0, rest.1)

-- an entry of the files has a value
has_values : (c : Command) (e : Entry) → MayBeBuilt c → groups_of c ≡ [] → bytes_eq e.0.now (codes "files") ≡ true
    → IsFilledEntry c e → 0 < length e.1.vals.items
has_values c e left groups same filled = grind (arith, common_steps, bytes_eq-Decides, named_files)

first_rule : (x : Arg) (xs : List Arg) (r : Rule) (rs : List Rule) → map rule_of (x ∷ xs) ≡ r ∷ rs → rule_of x ≡ r
first_rule x xs r rs e = cc

first_arg : (xs : List Arg) (r : Rule) (rs : List Rule) → map rule_of xs ≡ r ∷ rs → (a : Arg) × (rule_of a ≡ r) × (slice_index_or xs 0 a ≡ a) × (0 < length xs)
first_arg [] r rs h = absurd cc
first_arg (x ∷ xs) r rs h = (x, first_rule x xs r rs h, refl, omega arith)

-- the files were given
given_files : (old : Command) (m : ArgMatches) → IsCommand command old → IsParsedFrom old m → is_some (matched_of (found_of m) (codes "files")) ≡ true
given_files old m is p = grind (arith, common_steps, first_arg, required_present, present_has_entry)

-- ---- what the matches hold

-- an entry's values, by its row
all_rows : (xs : List Entry) (id : Text) → option_map (λ r. r.values) (find (λ r. bytes_eq r.id id) (map row_of xs))
    ≡ option_map raw_values (option_map (λ e. e.1) (find (λ e. bytes_eq e.0.now id) xs))
all_rows [] id = refl
all_rows (x ∷ xs) id = grind (arith, common_steps, all_rows xs id)

-- the values of a name, by its entry
pub values_are : (f : Found) (id : Text) → values_of id (rows_of f) ≡ unwrap_or (option_map raw_values (matched_of f id)) []
values_are f id = ap (λ o. unwrap_or o []) (all_rows f.entries.items id)

-- and so the values that the code takes
pub taken : (f : Found) (id : Text) (o : Option (Bor (List (Bor Text)))) (d r : Bor (List (Bor Text))) → r ≡ unwrap_or o d → d.now ≡ []
    → option_map (λ s. map (λ v. v.now) s.now) o ≡ option_map raw_values (matched_of f id) → map (λ v. v.now) r.now ≡ values_of id (rows_of f)
taken f id o d r e none got = grind (arith, common_steps, values_are)

-- ---- the flags and the format

-- a text is `true`, as a test
spelled : (t : Text) → t ≡ codes "true" → true ≡ bytes_eq t (codes "true")
spelled t e = sym ((bytes_eq-Decides t (codes "true")).1 e)

unspelled : (t : Text) → (t ≡ codes "true" → ⊥) → false ≡ bytes_eq t (codes "true")
unspelled t other = grind (arith, common_steps, bytes_eq-Decides)

-- what a flag reads as
pub flag_read : (E : Type 0) (o : Option Text) (r : Option Bool) (b : Bool) → (o ≡ None → r ≡ None)
    → ((t : Text) → o ≡ Some t → ReadsOne {T = Bool} {E = E} ParsesBool t r) → b ≡ unwrap_or r false
    → b ≡ option_map_or (λ v. bytes_eq v (codes "true")) o false
flag_read E None r b none some is = is ∙ ap (λ x. unwrap_or x false) (none refl)
flag_read E (Some t) r b none some is = is ∙ go r (some t refl)
  where
    go : (r : Option Bool) → ReadsOne {T = Bool} {E = E} ParsesBool t r → unwrap_or r false ≡ bytes_eq t (codes "true")
    go (Some true) reads = spelled t reads
    go (Some false) reads = unspelled t (λ e. let bad : codes "true" ≡ codes "false" = sym e ∙ reads in absurd cc)
    go None reads = unspelled t reads.1.0

-- the name of the format
pub format_read : (f : Found) (o : Option (Bor Text)) (d r : Bor Text) → r ≡ unwrap_or o d → d.now ≡ codes "plain"
    → option_map (λ s. s.now) o ≡ first_value f (codes "format") → r.now ≡ format_asked (rows_of f)
format_read f o d r e plain got = grind (arith, common_steps, first_value-rows)

-- a text that is there, and its place in the matches
pub some_read : (f : Found) (name : Text) (o : Option (Bor Text)) (b : Bool) → b ≡ is_some o → option_map (λ s. s.now) o ≡ first_value f name → b ≡ is_given name (rows_of f)
some_read f name o b is got = grind (arith, common_steps, is_some, first_value-rows)

-- ---- the lines

abbrev is_line_parser : ValueParser → Bool
is_line_parser (Unsigned low high) = (low == 1) && (high == 4294967295)
is_line_parser _ = false

abbrev line_test : Rule → Bool
line_test r = not (bytes_eq r.id (codes "line")) || is_line_parser (parser_of_value r.parser)

within : (low high : ℕ) (text : Text) → ((low == 1) && (high == 4294967295)) ≡ true → IsUnsignedIn low high text → IsLineNumber text
within low high text test h = grind (arith, common_steps)

accepts_line : (ignore : Bool) (p : ValueParser) (text : Text) → is_line_parser p ≡ true → Accepts ignore p text → IsLineNumber text
accepts_line ignore (Unsigned low high) text test h = within low high text test h
accepts_line ignore _ text test h = absurd cc

passes_line : (c : Command) → MayBeBuilt c → (text : Text) → PassesArg c (codes "line") text → IsLineNumber text
passes_line c left text h =
    let x = h.1 in
    let test = unless (bytes_eq x.id.now (codes "line")) _ (tested line_test (args_of c) h.0 x h.2 h.3 (test_passes line_test c left refl refl)) h.4.0 in
    accepts_line x.ignore_case (parser_of_value x.value_parser) text test h.4.1

entry_lines : (c : Command) (e : Entry) → MayBeBuilt c → groups_of c ≡ [] → bytes_eq e.0.now (codes "line") ≡ true → EntryPasses c e → All IsLineNumber (raw_values e.1)
entry_lines c e left groups same passes =
    let id : e.0.now ≡ codes "line" = (bytes_eq-Decides _ _).0 same in
    elim passes.0 [
      | inl group ↦ elim (passes.3 group) [
        | inl none ↦ absurd cc
        | inr some ↦
            let bad : 0 < 0 = rw groups at some in
            absurd (omega arith)
      ]
      | inr h ↦ All-map IsLineNumber (λ s. s.now) e.1.vals.items (λ k d lt. passes_line c left (slice_index_or e.1.vals.items k d).now (rw id at (h k d lt)))
    ]

lines_pass : (c : Command) (f : Found) → MayBeBuilt c → groups_of c ≡ [] → ValuesPass c f → All IsLineNumber (values_of (codes "line") (rows_of f))
lines_pass c f left groups passes = rw (values_are f (codes "line")) (go (matched_of f (codes "line")) refl)
  where
    go : (o : Option MatchedArg) → matched_of f (codes "line") ≡ o → All IsLineNumber (unwrap_or (option_map raw_values o) [])
    go None e = All-nil IsLineNumber
    go (Some x) e =
        let got = entry_by_id (EntryPasses c) f.entries.items (codes "line") x passes e in
        subst (λ (a : MatchedArg). All IsLineNumber (raw_values a)) got.1 (entry_lines c got.0 left groups got.2 got.3)

-- each `--line` of a parse that succeeds is a line's number
pub found_lines : (old new : Command) (m : ArgMatches) → IsCommand command old → (is_broken new ≡ true → ⊥) → BuildsOrBreaks old new → BuildsTo old new
    → ((fields_of new).has_globals ≡ false → IsParsed new (found_of m) (has_subcommand m)) → All IsLineNumber (values_of (codes "line") (rows_of (found_of m)))
found_lines old new m is whole after from parsed =
    let all = parsed (from.globals ∙ is.local) in
    let plain = from.plain is.plain in
    lines_pass new (found_of m) (may_be_built old new is after whole) plain.1 all.values

positive : (texts : List Text) → All IsLineNumber texts → All (λ n. 1 ≤ n) (map line_number texts)
positive texts h = All-map (λ n. 1 ≤ n) line_number texts (λ k d lt. (h k d lt).2)

-- the number of a text that was accepted is read
pub is_accepted : (text : Text) {E : Type 0} (r : Result ℕ E) → IsLineNumber text → ParsesUnsigned 32 10 text r → IsOk r
is_accepted text (Ok n) h parsed = refl
is_accepted text (Err e) h parsed = grind (arith, common_steps)

pub number_read : (text : Text) {E : Type 0} (r : Result ℕ E) (n : ℕ) → ParsesUnsigned 32 10 text r → r ≡ Ok n → n ≡ line_number text
number_read text r n parsed same = (subst (ParsesUnsigned 32 10 text) same parsed).1

pub line_at : (texts : List (Bor Text)) (i : ℕ) (d : Bor Text) → All IsLineNumber (map (λ t. t.now) texts) → i < length texts → IsLineNumber (get_or texts i d).now
line_at texts i d h lt =
    let less : i < length (map {A = Bor Text} {B = Text} (λ t. t.now) texts) = rw length-map lt in
    subst IsLineNumber (get_or-map {X = Bor Text} {Y = Text} (λ t. t.now) texts i d [] lt) (h i [] less)

-- ---- the variables

-- what holds of the texts so far, and of one more
pub holds_of_one_more : (P : Text → Type 0) (texts : List (Bor Text)) (i : ℕ) (d : Bor Text) → i < length texts → All P (map (λ t. t.now) (take i texts)) → P (get_or texts i d).now
    → All P (map (λ t. t.now) (take (i + 1) texts))
holds_of_one_more P texts i d lt before here =
    let more : take (i + 1) texts ≡ take i texts ++ get_or texts i d ∷ [] = grind (arith, common_steps) in
    subst (λ xs. All P (map (λ t. t.now) xs)) (sym more) (subst (All P) (sym (map_push (λ t. t.now) (take i texts) (get_or texts i d))) (All-push P (map (λ t. t.now) (take i texts)) (get_or texts i d).now before here))

-- one number more
pub one_number_more : (done more : List ℕ) (n : ℕ) (texts : List (Bor Text)) (i : ℕ) (d : Bor Text) → i < length texts → more ≡ done ++ n ∷ [] → n ≡ line_number (get_or texts i d).now
    → (all : List ℕ) → done ++ map line_number (map (λ t. t.now) (drop i texts)) ≡ all
    → more ++ map line_number (map (λ t. t.now) (drop (i + 1) texts)) ≡ all
one_number_more done more n texts i d lt grown same all before = grind (arith, common_steps)

-- a text that was split at its first `=`
pub split_there : (text name value : Text) (variable : String Global × String Global) → text ≡ name ++ 61 ∷ value → string_bytes variable.0 ≡ before_first (λ b. b == 61) text → string_bytes variable.1 ≡ after_first (λ b. b == 61) text
    → SaysPair text (Some variable)
split_there text name value variable whole before after = grind (arith, common_steps)

pub one_pair_more : {X : Type 0} (f : X → PairValue) (done more : List X) (v : X) (texts : List (Bor Text)) (i : ℕ) (d : Bor Text) → i < length texts → more ≡ done ++ v ∷ [] → f v ≡ split_at_equals (get_or texts i d).now
    → (all : List PairValue) → map f done ++ map split_at_equals (map (λ t. t.now) (drop i texts)) ≡ all
    → map f more ++ map split_at_equals (map (λ t. t.now) (drop (i + 1) texts)) ≡ all
one_pair_more f done more v texts i d lt grown same all before = grind (arith, common_steps)

-- the first text without an `=`
pub first_without : (texts : List (Bor Text)) (i : ℕ) (d : Bor Text) → i < length texts → All (λ text. has_equals text ≡ true) (map (λ t. t.now) (take i texts)) → has_equals (get_or texts i d).now ≡ false
    → IsFirstWithout (map (λ t. t.now) texts) (get_or texts i d).now
first_without texts i d lt before none = record {
  before = map (λ t. t.now) (take i texts);
  after = map (λ t. t.now) (drop (suc i) texts);
  whole = ap (map (λ t. t.now)) (sym (take-append-drop i texts) ∙ ap (λ l. take i texts ++ l) (drop-cons texts i d lt)) ∙ map-append (λ t. t.now) (take i texts) (get_or texts i d ∷ drop (suc i) texts);
  equals = before;
  none = none;
}

pub all_pairs : {X : Type 0} (f : X → PairValue) (done : List X) (texts : List (Bor Text)) (i : ℕ) → length texts ≤ i
    → map f done ++ map split_at_equals (map (λ t. t.now) (drop i texts)) ≡ map split_at_equals (map (λ t. t.now) texts)
    → All (λ text. has_equals text ≡ true) (map (λ t. t.now) (take i texts))
    → All (λ text. has_equals text ≡ true) (map (λ t. t.now) texts) × (map f done ≡ map split_at_equals (map (λ t. t.now) texts))
all_pairs f done texts i le split equals = (
  subst (λ xs. All (λ text. has_equals text ≡ true) (map (λ t. t.now) xs)) (take_all i texts le) equals,
  sym (append-nil (map f done)) ∙ ap (λ xs. map f done ++ map split_at_equals (map (λ (t : Bor Text). t.now) xs)) (sym (drop_all i texts le)) ∙ split,
)

-- ---- the files of a parse that succeeds

some_files : (old new : Command) (m : ArgMatches) → IsCommand command old → MayBeBuilt new → BuildsTo old new
    → ((fields_of new).has_globals ≡ false → IsParsed new (found_of m) (has_subcommand m))
    → values_of (codes "files") (rows_of (found_of m)) ≢ []
some_files old new m is left from parsed =
    let p : IsParsedFrom old m = record { built = new; from = from; parsed = parsed } in
    let all = parsed (from.globals ∙ is.local) in
    let plain = from.plain is.plain in
    rw (values_are (found_of m) (codes "files")) (go (matched_of (found_of m) (codes "files")) refl (given_files old m is p) all plain.1)
  where
    no_text : (vs : List (Bor Text)) → 0 < length vs → map (λ s. s.now) vs ≡ [] → ⊥
    no_text [] lt e = absurd (omega arith)
    no_text (v ∷ vs) lt e = absurd cc

    go : (o : Option MatchedArg) → matched_of (found_of m) (codes "files") ≡ o → is_some (matched_of (found_of m) (codes "files")) ≡ true
        → IsParsed new (found_of m) (has_subcommand m) → groups_of new ≡ []
        → unwrap_or (option_map raw_values o) [] ≢ []
    go None e some all groups =
        let bad : false ≡ true = rw e at some in
        absurd cc
    go (Some x) e some all groups =
        let got = entry_by_id (EntryPasses new) (found_of m).entries.items (codes "files") x all.values e in
        let same : got.0.1 ≡ x = got.1 in
        no_text x.vals.items (subst (λ (a : MatchedArg). 0 < length a.vals.items) same (has_values new got.0 left groups got.2 got.3.1))

simple : is_simple command ≡ true
simple = refl

simple_and_free : is_simple_and_free command ≡ true
simple_and_free = refl

-- what follows where clap finds no fault
after_none : (kinds next : Kinds) → kinds ≡ [] → or_else kinds next ≡ next
after_none kinds next none = ap (λ k. or_else k next) none

stays_among : (k : ErrorKind) (kinds next : Kinds) → IsAmong k kinds → IsAmong k (or_else kinds next)
stays_among k [] next among = absurd among
stays_among k (x ∷ xs) next among = among

-- the faults in what clap found, by two tests
abbrev kinds_by : Bool → Bool → Kinds
kinds_by clashes known = if clashes then (ArgumentConflict ∷ []) else (if known then [] else (InvalidValue ∷ []))

-- clap finds no fault where the parse succeeds, and the matches are the command's
module _ (arguments : List Text) (old : Command) (m : ArgMatches) (is : IsCommand command old)
    (matches : HasMatchesOf (app_of old) arguments m)
    (kinds : is_simple_and_free (app_of old) ≡ true → fault_of (app_of old) arguments ≡ []) where
  passed : fault_of command arguments ≡ []
  passed = ap (λ a. fault_of a arguments) (sym is.app) ∙ kinds (ap is_simple_and_free is.app ∙ simple_and_free)

  rows : rows_of (found_of m) ≡ found_in arguments
  rows = (matches (ap is_simple is.app ∙ simple)).0 ∙ ap (λ a. matches_of a arguments) is.app

  faults : (clashes known : Bool) → is_clash (rows_of (found_of m)) ≡ clashes → is_format (format_asked (rows_of (found_of m))) ≡ known → faults_in arguments ≡ kinds_by clashes known
  faults clashes known c e =
      after_none _ _ passed ∙ ap₂ kinds_by (ap is_clash (sym rows) ∙ c) (ap (λ r. is_format (format_asked r)) (sym rows) ∙ e)

-- what a parse that succeeds says of the answer that was made of it
pub says_found : (arguments : List Text) (old new : Command) (m : ArgMatches) (r : Result Words WordsFault) → IsCommand command old
    → (is_broken new ≡ true → ⊥) → BuildsOrBreaks old new → BuildsTo old new
    → ((fields_of new).has_globals ≡ false → IsParsed new (found_of m) (has_subcommand m))
    → HasMatchesOf (app_of old) arguments m
    → (is_simple_and_free (app_of old) ≡ true → fault_of (app_of old) arguments ≡ [])
    → is_clash (rows_of (found_of m)) ≡ false → is_format (format_asked (rows_of (found_of m))) ≡ true
    → SaysMatches (rows_of (found_of m)) r → SaysArguments arguments r
says_found arguments old new m r is whole after from parsed matches kinds apart known says = go r says
  where
    faultless : faults_in arguments ≡ []
    faultless = faults arguments old m is matches kinds false true apart known

    same : rows_of (found_of m) ≡ found_in arguments
    same = rows arguments old m is matches kinds

    go : (r : Result Words WordsFault) → SaysMatches (rows_of (found_of m)) r → SaysArguments arguments r
    go (Ok w) says =
        let some = some_files old new m is (may_be_built old new is after whole) from parsed in
        let lines = found_lines old new m is whole after from parsed in (
          faultless,
          subst (λ x. IsAskedBy x w) same says,
          λ none. some (sym says.files ∙ ap (map _) none),
          subst (All (λ n. 1 ≤ n)) (sym says.options.lines) (positive _ lines),
        )
    go (Err (Usage e)) says = absurd says
    go (Err (Env mode value)) says = (faultless, subst (λ x. SaysMatches x (Err (Env mode value))) same says)
    go (Err File) says = (faultless, subst (λ x. SaysMatches x (Err File)) same says)
    go (Err Memory) says = tt

-- what a parse that succeeds says of an unknown format
pub says_unknown : (arguments : List Text) (old : Command) (m : ArgMatches) (e : Error) → IsCommand command old
    → HasMatchesOf (app_of old) arguments m
    → (is_simple_and_free (app_of old) ≡ true → fault_of (app_of old) arguments ≡ [])
    → is_clash (rows_of (found_of m)) ≡ false → is_format (format_asked (rows_of (found_of m))) ≡ false → kind_of e ≡ InvalidValue → SaysArguments arguments (Err (Usage e))
says_unknown arguments old m e is matches kinds apart unknown kind =
    subst (IsAmong (kind_of e)) (sym (faults arguments old m is matches kinds false false apart unknown)) (inl kind)

-- what a parse that succeeds says of findings or an explanation beside what there is none of
pub says_clash : (arguments : List Text) (old : Command) (m : ArgMatches) (e : Error) → IsCommand command old
    → HasMatchesOf (app_of old) arguments m
    → (is_simple_and_free (app_of old) ≡ true → fault_of (app_of old) arguments ≡ [])
    → is_clash (rows_of (found_of m)) ≡ true → kind_of e ≡ ArgumentConflict → SaysArguments arguments (Err (Usage e))
says_clash arguments old m e is matches kinds clashes kind =
    subst (IsAmong (kind_of e)) (sym (faults arguments old m is matches kinds true _ clashes refl)) (inl kind)

-- what a parse that fails says of the answer that it leads to
pub says_fault : (arguments : List Text) (old : Command) (e : Error) (r : Result Words WordsFault) → IsCommand command old
    → (is_simple_and_free (app_of old) ≡ true → HasKind (fault_of (app_of old) arguments) e)
    → IsErrAnd r (λ f. IsFaultBy e f) → SaysArguments arguments r
says_fault arguments old e (Ok w) is kinds by = absurd by
says_fault arguments old e (Err (Usage f)) is kinds by =
    let kind : HasKind (fault_of command arguments) e = subst (λ a. HasKind (fault_of a arguments) e) is.app (kinds (ap is_simple_and_free is.app ∙ simple_and_free)) in
    elim kind [
      | inl memory ↦ absurd (by.1 memory)
      | inr among ↦ stays_among _ _ _ (subst (λ (x : Error). IsAmong (kind_of x) (fault_of command arguments)) (sym by.0) among)
    ]
says_fault arguments old e (Err (Env mode value)) is kinds by = absurd by
says_fault arguments old e (Err File) is kinds by = absurd by
says_fault arguments old e (Err Memory) is kinds by = tt
