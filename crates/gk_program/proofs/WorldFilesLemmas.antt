-- Putting variables, and files, one after the other.
use Rattle.gk_program.proofs.Common.{◌≡◌, ◌∙◌, ◌++◌, ap, sym, subst, refl, arith, List, [], ◌∷◌, append_assoc, fold, map, All, append-nil, map-append, map_push, All-nil, All-push, common_steps, None, IsFault, put_refusal, SandboxValue, WorldFault, with_env, with_file, PairValue, AreRead, Reading, ArePut, AreTaken, IsFaultOfVariable, IsNotPut, IsPut, IsText, PutFile, StopsAtVariable, StopsPutting, given_of, read_of, with_files, with_variables, Fault}
use Rattle.gk_program.proofs.FilesLemmas.{reads_both}

-- one step after some others
after_all : {A B : Type 0} (step : B → A → B) (start : B) (xs : List A) (x : A) → fold step start (xs ++ x ∷ []) ≡ step (fold step start xs) x
after_all step start [] x = refl
after_all step start (y ∷ ys) x = after_all step (step start y) ys x

-- some variables were put, and these are left
pub record AreTakenSoFar (given left : List PairValue) (old new : SandboxValue) : Type 0 where
  pub before : List PairValue
  pub all : before ++ left ≡ given
  pub taken : AreTaken before
  pub put : new.now ≡ with_variables old.now before
  pub layers : new.saved ≡ old.saved

pub none_taken : (given : List PairValue) (world : SandboxValue) → AreTakenSoFar given given world world
none_taken given world = record { before = []; all = refl; taken = All-nil (λ v. put_refusal v.name v.text ≡ None); put = refl; layers = refl }

pub one_taken : (given left : List PairValue) (next : PairValue) (old middle new : SandboxValue) → AreTakenSoFar given (next ∷ left) old middle → put_refusal next.name next.text ≡ None
    → new.now ≡ with_env middle.now next.name next.text → new.saved ≡ middle.saved → AreTakenSoFar given left old new
one_taken given left next old middle new so_far good put layers = record {
  before = so_far.before ++ next ∷ [];
  all = append_assoc so_far.before (next ∷ []) left ∙ so_far.all;
  taken = All-push (λ v. put_refusal v.name v.text ≡ None) so_far.before next so_far.taken good;
  put = put ∙ ap (λ c. with_env c next.name next.text) so_far.put ∙ sym (after_all (λ c v. with_env c v.name v.text) old.now so_far.before next);
  layers = layers ∙ so_far.layers;
}

pub all_taken : (given : List PairValue) (old new : SandboxValue) → AreTakenSoFar given [] old new → AreTaken given × (new.now ≡ with_variables old.now given)
all_taken given old new so_far =
    let all = sym (append-nil so_far.before) ∙ so_far.all in
    (subst AreTaken all so_far.taken, so_far.put ∙ ap (with_variables old.now) all)

pub stops_at_variable : (given left : List PairValue) (next : PairValue) (old middle : SandboxValue) (by : WorldFault) (fault : Fault) → AreTakenSoFar given (next ∷ left) old middle → IsFault (put_refusal next.name next.text) by
    → IsFaultOfVariable next.name by fault → (stops : StopsAtVariable given fault) × (middle.now ≡ with_variables old.now stops.before)
stops_at_variable given left next old middle by fault so_far refused stops = (record { before = so_far.before; next = next; left = left; all = so_far.all; taken = so_far.taken; by = by; refused = refused; stops = stops }, so_far.put)

-- some files were put, and these are left
pub record ArePutSoFar {S : Type 0} (reads : Reading S) (given left : List PairValue) (before after : S) (old new : SandboxValue) : Type 0 where
  pub files : List PutFile
  pub all : map given_of files ++ left ≡ given
  pub read : AreRead reads before (map read_of files) after
  pub texts : All IsText files
  pub put : new.now ≡ with_files old.now files
  pub layers : new.saved ≡ old.saved

pub none_put : {S : Type 0} (reads : Reading S) (given : List PairValue) (s : S) (world : SandboxValue) → ArePutSoFar reads given given s s world world
none_put reads given s world = record { files = []; all = refl; read = refl; texts = All-nil IsText; put = refl; layers = refl }

pub one_put : {S : Type 0} (reads : Reading S) (given left : List PairValue) (next : PairValue) (before between after : S) (old middle new : SandboxValue)
    → ArePutSoFar reads given (next ∷ left) before between old middle → IsPut reads next between after middle new → ArePutSoFar reads given left before after old new
one_put reads given left next before between after old middle new so_far one =
    let file : PutFile = record { name = next.name; path = next.text; text = one.text } in
    record {
      files = so_far.files ++ file ∷ [];
      all = ap (λ l. l ++ left) (map_push given_of so_far.files file) ∙ append_assoc (map given_of so_far.files) (next ∷ []) left ∙ so_far.all;
      read = subst (λ l. AreRead reads before l after) (sym (map-append read_of so_far.files (file ∷ []))) (reads_both reads before between after (map read_of so_far.files) (read_of file ∷ []) so_far.read (after, one.read, refl));
      texts = All-push IsText so_far.files file so_far.texts one.is_text;
      put = one.put ∙ ap (λ c. with_file c next.name one.text) so_far.put ∙ sym (after_all (λ c file. with_file c file.name file.text) old.now so_far.files file);
      layers = one.layers ∙ so_far.layers;
    }

pub all_put : {S : Type 0} (reads : Reading S) (given : List PairValue) (before after : S) (old new : SandboxValue) → ArePutSoFar reads given [] before after old new → ArePut reads given before after old.now new.now
all_put reads given before after old new so_far = grind (arith, common_steps)

pub stops_putting : {S : Type 0} (reads : Reading S) (given left : List PairValue) (next : PairValue) (before between after : S) (old middle : SandboxValue) (fault : Fault)
    → ArePutSoFar reads given (next ∷ left) before between old middle → IsNotPut reads between next after fault → StopsPutting reads given before after fault
stops_putting reads given left next before between after old middle fault so_far stops = grind (arith, common_steps)
