-- How a sandbox keeps what is seen of it.
use Rattle.gk_world.proofs.Common.{◌≡◌, ◌⊎◌, inl, inr, ℕ, zero, suc, ◌+◌, ◌-◌, ◌<◌, ◌≤◌, None, Result, Ok, Err, OnOk, OnErr, IfErr, List, [], ◌∷◌, ◌++◌, length, drop, take, set, get_or, get_or-set_other, get_or-set_same, refl, sym, ap, subst, ◌∙◌, arith, common_steps, length-take-le, take-append-drop, AllByRecursion, drop-length, rewound, FitAll, WorldFault, Memory, World, WorldUndo, WorldChange, map_at, layers_of, IsFault, IsAnswer, delete_refusal, state_of, layers, state_at, IsLayer, contents_of, Fits, undone, Steps, Refuses, CanApply, IsHere, changed, refusal, IsClear, SandboxValue, depth, layer_begun, EndsLayer, EndsByUndos, Becomes, Records, NoneTooLong, HasShortTexts, TextsAreShort, seen_undo, seen_undos, open_starts, saved_of, value_of, AreStarts, IsSound}
use Rattle.std.proofs.lemmas.List.{length-append}
use Rattle.gk_world.proofs.UndoLemmas.{length-layers_of}
use Rattle.gk_world.proofs.JournalLemmas.{rewound-since, FitAll-since, rewound-before, FitAll-before, FitAll-drop}
use Rattle.gk_world.specs.World.{NamesDiffer}
use Rattle.gk_world.proofs.WorldLemmas.{contents_changed, contents_allow, contents_refuse, clear_still, here_applies}
use Rattle.gk_world.proofs.TextsLemmas.{short_empty, short_changed, short_begun, short_ended}
use Rattle.gk_world.proofs.ReversibleLemmas.{contents_undone, contents_rewound, seen_undos-append}

-- ---- lengths
pub length-open_starts : (d : ℕ) (starts : List ℕ) → length (open_starts d starts) ≡ d
length-open_starts zero starts = refl
length-open_starts (suc d) starts = ap suc (length-open_starts d starts)

length-saved_of : (ms : List ℕ) (us : List WorldUndo) (w : World) → length (saved_of ms us w) ≡ length ms
length-saved_of [] us w = refl
length-saved_of (m ∷ ms) us w = ap suc (length-saved_of ms us w)

length-seen_undos : (w : World) (us : List WorldUndo) → length (seen_undos w us) ≡ length us
length-seen_undos w [] = refl
length-seen_undos w (u ∷ us) = ap suc (length-seen_undos w us)

-- the depth and the number of entries, from what is seen
marks_are : (w : World) (us : List WorldUndo) (ms : List ℕ) (v : SandboxValue) → value_of w us ms ≡ v → depth v ≡ length ms
marks_are w us ms v is = sym (ap depth is) ∙ length-saved_of ms us w

pub depth_is : (w : World) (us : List WorldUndo) (d : ℕ) (starts : List ℕ) (v : SandboxValue) → value_of w us (open_starts d starts) ≡ v → d ≡ depth v
depth_is w us d starts v is = sym (length-open_starts d starts) ∙ sym (marks_are w us (open_starts d starts) v is)

pub recorded_is : (w : World) (us : List WorldUndo) (ms : List ℕ) (v : SandboxValue) → value_of w us ms ≡ v → length us ≡ length v.entries
recorded_is w us ms v is = sym (length-seen_undos w us) ∙ ap (λ (v : SandboxValue). length v.entries) is

-- ---- what rewinding to each start gives
abbrev pub Same : ℕ → List WorldUndo → List WorldUndo → World → World → Type 0
Same n us vs w t = (m : ℕ) → m ≤ n → rewound undone (drop m vs) t ≡ rewound undone (drop m us) w

saved_of-same : (ms : List ℕ) (n : ℕ) (us vs : List WorldUndo) (w t : World) → AreStarts ms n us w → Same n us vs w t → saved_of ms vs t ≡ saved_of ms us w
saved_of-same [] n us vs w t h same = refl
saved_of-same (m ∷ ms) n us vs w t h same = λ i. contents_of (length ms) (same m h.0 i) ∷ saved_of-same ms m us vs w t h.2 (λ k le. same k (omega (arith, h.0))) i

starts-same : (ms : List ℕ) (n : ℕ) (us vs : List WorldUndo) (w t : World) → AreStarts ms n us w → Same n us vs w t → AreStarts ms n vs t
starts-same [] n us vs w t h same = h
starts-same (m ∷ ms) n us vs w t h same = (h.0, subst (IsClear (length ms)) (sym (same m h.0)) h.1, starts-same ms m us vs w t h.2 (λ k le. same k (omega (arith, h.0))))

starts-more : (ms : List ℕ) (n k : ℕ) (us : List WorldUndo) (w : World) → 0 < length ms → n ≤ k → AreStarts ms n us w → AreStarts ms k us w
starts-more [] n k us w lt le h = absurd (omega arith)
starts-more (m ∷ ms) n k us w lt le h = (omega (arith, h.0), h.1, h.2)

-- ---- a new sandbox
pub new_sound : (w : World) (us : List WorldUndo) → w.files ≡ [] → w.env ≡ [] → w.values ≡ [] → us ≡ [] → IsSound w us []
new_sound w us files env values none = record {
  room = omega arith;
  clear = λ k le. ap (map_at k) values;
  ordered = ap length none;
  fit = subst (λ us. FitAll undone Fits us w) (sym none) tt;
  texts = record {
    now = record { files = subst NoneTooLong (sym (ap (map_at 0) files)) short_empty; env = subst NoneTooLong (sym (ap (map_at 0) env)) short_empty; values = tt };
    saved = tt;
  };
}

-- ---- a layer begins
open_starts-set : (d i : ℕ) (starts : List ℕ) (n : ℕ) → d ≤ i → open_starts d (set starts i n) ≡ open_starts d starts
open_starts-set zero i starts n le = refl
open_starts-set (suc d) i starts n le = grind (arith, common_steps, get_or-set_other, open_starts-set d i starts n (omega arith))

marked : (d : ℕ) (starts : List ℕ) (n : ℕ) → d < length starts → open_starts (d + 1) (set starts d n) ≡ n ∷ open_starts d starts
marked d starts n lt = grind (arith, common_steps, get_or-set_same, open_starts-set)

module _ (w : World) (us : List WorldUndo) (ms : List ℕ) (h : IsSound w us ms) where
  nothing_since : rewound undone (drop (length us) us) w ≡ w
  nothing_since = ap (λ us. rewound undone us w) (drop-length us)

  value_inside : value_of w us (length us ∷ ms) ≡ layer_begun (value_of w us ms)
  value_inside = λ i. record {
    now = record { files = map_at 0 w.files; env = map_at 0 w.env; values = h.clear (length ms) (omega arith) i ∷ layers_of (length ms) w.values };
    saved = contents_of (length ms) (nothing_since i) ∷ saved_of ms us w;
    entries = seen_undos w us;
    starts = sym (length-seen_undos w us) i ∷ ms;
  }

  sound_inside : length ms < layers → IsSound w us (length us ∷ ms)
  sound_inside lt = record {
    room = omega arith;
    clear = λ k le. h.clear k (omega arith);
    ordered = (omega arith, subst (IsClear (length ms)) (sym nothing_since) h.clear, h.ordered);
    fit = h.fit;
    texts = subst TextsAreShort (sym value_inside) (short_begun (value_of w us ms) h.texts);
  }

module _ (w : World) (us : List WorldUndo) (d n : ℕ) (starts : List ℕ) (v : SandboxValue) (is : value_of w us (open_starts d starts) ≡ v) (few : depth v < layers) (room : length starts ≡ layers) (all : n ≡ length us) (h : IsSound w us (open_starts d starts)) where
  begun_starts : open_starts (d + 1) (set starts d n) ≡ length us ∷ open_starts d starts
  begun_starts = marked d starts n (omega (arith, depth_is w us d starts v is)) ∙ ap (λ n. n ∷ open_starts d starts) all

  pub begun_sound : IsSound w us (open_starts (d + 1) (set starts d n))
  begun_sound = subst (IsSound w us) (sym begun_starts) (sound_inside w us (open_starts d starts) h (omega (arith, length-open_starts d starts, depth_is w us d starts v is)))

  pub begun_value : value_of w us (open_starts (d + 1) (set starts d n)) ≡ layer_begun v
  begun_value = ap (value_of w us) begun_starts ∙ value_inside w us (open_starts d starts) h ∙ ap layer_begun is

-- ---- a layer ends
module _ (w : World) (us : List WorldUndo) (m : ℕ) (ms : List ℕ) (h : IsSound w us (m ∷ ms)) (t : World) (vs : List WorldUndo)
    (back : t ≡ rewound undone (drop m us) w) (left : vs ≡ take m us) where
  same_before : Same m us vs w t
  same_before k le = rewound-before undone us vs k m w t le h.ordered.0 left back

  left_are : length vs ≡ m
  left_are = ap length left ∙ length-take-le m us h.ordered.0

  ends_outside : EndsLayer (value_of w us (m ∷ ms)) (value_of t vs ms)
  ends_outside = record {
    given_back = λ i. contents_of (length ms) (sym back i) ∷ sym (saved_of-same ms m us vs w t h.ordered.2 same_before) i;
    forgotten = λ i. (sym left_are ∙ sym (length-seen_undos t vs)) i ∷ ms;
  }

  sound_outside : IsSound t vs ms
  sound_outside = record {
    room = omega (arith, h.room);
    clear = subst (IsClear (length ms)) (sym back) h.ordered.1;
    ordered = subst (λ n. AreStarts ms n vs t) (sym left_are) (starts-same ms m us vs w t h.ordered.2 same_before);
    fit = FitAll-before undone Fits us vs 0 m w t (omega arith) h.ordered.0 left back h.fit;
    texts = short_ended (value_of w us (m ∷ ms)) (value_of t vs ms) ends_outside h.texts;
  }

  -- the undos since the start give back the contents, with an empty map for the layer
  undone_outside : NamesDiffer w → EndsByUndos (value_of w us (m ∷ ms)) (value_of t vs ms)
  undone_outside names =
      let d : ℕ = length (m ∷ ms) in
      record {
        since = seen_undos w (drop m us);
        older =
            ap (seen_undos w) (sym (take-append-drop m us) ∙ ap (λ l. l ++ drop m us) (sym left))
            ∙ seen_undos-append w vs (drop m us)
            ∙ ap (λ r. seen_undos r vs ++ seen_undos w (drop m us)) (sym back);
        given_back =
            sym (contents_rewound d (drop m us) w names (FitAll-drop undone Fits m us w h.fit))
            ∙ ap (contents_of d) (sym back)
            ∙ (λ i. record { files = map_at 0 t.files; env = map_at 0 t.env; values = sound_outside.clear (length ms) (omega arith) i ∷ layers_of (length ms) t.values });
      }

-- what is known of the innermost start
module _ (w : World) (us : List WorldUndo) (d number : ℕ) (starts : List ℕ) (v : SandboxValue) (is : value_of w us (open_starts d starts) ≡ v) (innermost : number ≡ depth v) (above : 0 < number) (h : IsSound w us (open_starts d starts)) where
  outer_is : d ≡ suc (number - 1)
  outer_is = omega (arith, depth_is w us d starts v is)

  sound_here : IsSound w us (get_or starts (number - 1) 0 ∷ open_starts (number - 1) starts)
  sound_here = subst (λ d. IsSound w us (open_starts d starts)) outer_is h

  pub mark_within : get_or starts (number - 1) 0 ≤ length us
  mark_within = sound_here.ordered.0

  pub fit_since : FitAll undone Fits (drop (get_or starts (number - 1) 0) us) w
  fit_since = FitAll-drop undone Fits (get_or starts (number - 1) 0) us w h.fit

  module _ (t : World) (vs : List WorldUndo)
      (back : t ≡ rewound undone (drop (get_or starts (number - 1) 0) us) w) (left : vs ≡ take (get_or starts (number - 1) 0) us) where
    pub ended_sound : IsSound t vs (open_starts (number - 1) starts)
    ended_sound = sound_outside w us _ _ sound_here t vs back left

    pub ended : EndsLayer v (value_of t vs (open_starts (number - 1) starts))
    ended = subst (λ v. EndsLayer v (value_of t vs (open_starts (number - 1) starts))) (ap (λ d. value_of w us (open_starts d starts)) (sym outer_is) ∙ is) (ends_outside w us _ _ sound_here t vs back left)

    pub ended_undone : NamesDiffer w → EndsByUndos v (value_of t vs (open_starts (number - 1) starts))
    ended_undone names = subst (λ v. EndsByUndos v (value_of t vs (open_starts (number - 1) starts))) (ap (λ d. value_of w us (open_starts d starts)) (sym outer_is) ∙ is) (undone_outside w us _ _ sound_here t vs back left names)

-- ---- what is recorded
records : (d : ℕ) (ms : List ℕ) (us vs : List WorldUndo) (w t : World) (u : WorldUndo) → vs ≡ us ++ u ∷ [] → FitAll undone Fits us w → Fits u t → undone u t ≡ w → NamesDiffer t → d ≡ length ms → 0 < length ms → Records (saved_of ms us w) (value_of w us ms) (value_of t vs ms)
records d [] us vs w t u e fit fits back names is lt = absurd (omega arith)
records d (m ∷ ms) us vs w t u e fit fits back names is lt = (
  seen_undo t u,
  ap (seen_undos t) e ∙ seen_undos-append t us (u ∷ []) ∙ ap (λ r. seen_undos r us ++ seen_undo t u ∷ []) back,
  sym (contents_undone (length (m ∷ ms)) u t names fits) ∙ ap (contents_of (length (m ∷ ms))) back,
)

-- ---- changes
module _ (c : WorldChange) (w : World) (us : List WorldUndo) (ms : List ℕ) (v : SandboxValue) (is : value_of w us ms ≡ v) (here : IsHere c (depth v)) (h : IsSound w us ms) where
  here_now : IsHere c (length ms)
  here_now = subst (IsHere c) (marks_are w us ms v is) here

  pub applies : CanApply c
  applies = here_applies c (length ms) here_now h.room

  pub refuses : (e : WorldFault) → Refuses c w e → IsFault (refusal c v.now) e
  refuses e r = subst (λ (v : SandboxValue). IsFault (refusal c v.now) e) is (contents_refuse c (length ms) w e here_now r)

  pub may_be : refusal c v.now ≡ None → (e : WorldFault) → (e ≡ Memory) ⊎ Refuses c w e → IsFault (refusal c v.now) e
  may_be none e (inl m) = subst (IsFault (refusal c v.now)) (sym m) none
  may_be none e (inr r) = refuses e r

  pub allows : (t : World) → Steps c w t → refusal c v.now ≡ None
  allows t s = subst (λ (v : SandboxValue). refusal c v.now ≡ None) is (contents_allow c (length ms) w t here_now s)

  module _ (t : World) (vs : List WorldUndo) (s : Steps c w t) (u : WorldUndo) (e : vs ≡ us ++ u ∷ []) (fits : Fits u t) (back : undone u t ≡ w) (lt : 0 < length ms) where
    same_since : Same (length us) us vs w t
    same_since m le = rewound-since undone us vs u m w t le e back

    short_still : TextsAreShort (value_of t vs ms)
    short_still = record {
      now = subst HasShortTexts (sym (contents_changed c (length ms) w t here_now s)) (short_changed c (contents_of (length ms) w) (contents_allow c (length ms) w t here_now s) h.texts.now);
      saved = subst (AllByRecursion HasShortTexts) (sym (saved_of-same ms (length us) us vs w t h.ordered same_since)) h.texts.saved;
    }

    pub becomes : NamesDiffer t → Becomes (changed c v.now) v (value_of t vs ms)
    becomes names = subst (λ (v : SandboxValue). Becomes (changed c v.now) v (value_of t vs ms)) is (record {
      contents = contents_changed c (length ms) w t here_now s;
      layers = saved_of-same ms (length us) us vs w t h.ordered same_since;
      starts = refl;
      recorded = records (length ms) ms us vs w t u e h.fit fits back names refl lt;
    })

    pub sound_still : IsSound t vs ms
    sound_still = record {
      room = h.room;
      clear = clear_still c (length ms) w t here_now s h.clear;
      ordered = starts-more ms (length us) (length vs) vs t lt (omega (arith, ap length e, length-append us (u ∷ []))) (starts-same ms (length us) us vs w t h.ordered same_since);
      fit = FitAll-since undone Fits us vs u 0 w t (omega arith) e fits back h.fit;
      texts = short_still;
    }

-- a change where no layer is open, whether it is refused or not
outside_sound : (c : WorldChange) (us : List WorldUndo) (w t : World) → IsHere c 0 → IsSound w us [] → Steps c w t → IsSound t us []
outside_sound c [] w t here h s = record {
  room = h.room;
  clear = clear_still c 0 w t here s h.clear;
  ordered = h.ordered;
  fit = tt;
  texts = record {
    now = subst HasShortTexts (sym (contents_changed c 0 w t here s)) (short_changed c (contents_of 0 w) (contents_allow c 0 w t here s) h.texts.now);
    saved = tt;
  };
}
outside_sound c (u ∷ us) w t here h s = absurd (omega (arith, h.ordered))

pub unrecorded_sound : {A : Type 0} (c : WorldChange) (w t : World) (us : List WorldUndo) (d : ℕ) (starts : List ℕ) → d ≡ 0 → (r : Result A WorldFault) → IsHere c d → IsSound w us (open_starts d starts) → OnOk r (Steps c w t) → OnErr r (t ≡ w) → IsSound t us (open_starts d starts)
unrecorded_sound c w t us zero starts e (Ok x) here h s err = outside_sound c us w t here h s
unrecorded_sound c w t us zero starts e (Err f) here h s err = subst (λ t. IsSound t us []) (sym err) h
unrecorded_sound c w t us (suc d) starts e r here h s err = absurd (omega arith)

-- a change of an open layer, whether it is refused or not
module _ {A : Type 0} (c : WorldChange) (w : World) (us : List WorldUndo) (ms : List ℕ) (v : SandboxValue) (is : value_of w us ms ≡ v) (here : IsHere c (depth v)) (h : IsSound w us ms) (lt : 0 < length ms) (t : World) (vs : List WorldUndo) where
  pub recorded_value : (r : Result A WorldFault) → NamesDiffer t → OnOk r (Steps c w t) → OnOk r ((u : WorldUndo) × (vs ≡ us ++ u ∷ []) × Fits u t × (undone u t ≡ w)) → OnOk r (Becomes (changed c v.now) v (value_of t vs ms))
  recorded_value (Ok x) names s more = becomes c w us ms v is here h t vs s more.0 more.1 more.2 more.3 lt names
  recorded_value (Err e) names s more = tt

  pub recorded_sound : (r : Result A WorldFault) → OnOk r (Steps c w t) → OnOk r ((u : WorldUndo) × (vs ≡ us ++ u ∷ []) × Fits u t × (undone u t ≡ w)) → OnErr r ((vs ≡ us) × (t ≡ w)) → IsSound t vs ms
  recorded_sound (Ok x) s more err = sound_still c w us ms v is here h t vs s more.0 more.1 more.2 more.3 lt
  recorded_sound (Err e) s more err = subst (λ t. IsSound t vs ms) (sym err.1) (subst (λ us. IsSound w us ms) (sym err.0) h)

  pub recorded_answer : (r : Result A WorldFault) → refusal c v.now ≡ None → IfErr r (λ e. (e ≡ Memory) ⊎ Refuses c w e) → IsAnswer (refusal c v.now) r
  recorded_answer (Ok x) none refused = none
  recorded_answer (Err e) none refused = may_be c w us ms v is here h none e refused

  pub recorded_same : (r : Result A WorldFault) → OnErr r ((vs ≡ us) × (t ≡ w)) → OnErr r (value_of t vs ms ≡ v)
  recorded_same (Ok x) err = tt
  recorded_same (Err e) err = ap (λ t. value_of t vs ms) err.1 ∙ ap (λ us. value_of w us ms) err.0 ∙ is

-- what is said of values in the innermost layer
pub delete_refusal_is : (w : World) (us : List WorldUndo) (ms : List ℕ) (v : SandboxValue) → value_of w us ms ≡ v → (d : ℕ) → d ≡ depth v → (name : List ℕ) → delete_refusal (state_at d w.values) name ≡ delete_refusal (state_of v.now) name
delete_refusal_is w us ms v is d e name = grind (arith, common_steps, marks_are)

pub layer_is : (w : World) (us : List WorldUndo) (ms : List ℕ) (v : SandboxValue) → value_of w us ms ≡ v → IsSound w us ms → (d : ℕ) → d ≡ depth v → 0 < depth v → IsLayer d
layer_is w us ms v is h d e lt = record { from = omega (arith, e, lt); to = omega (arith, e, marks_are w us ms v is, h.room) }

-- each open layer has a map of values
pub values_are : (w : World) (us : List WorldUndo) (ms : List ℕ) (v : SandboxValue) → value_of w us ms ≡ v → length v.now.values ≡ depth v
values_are w us ms v is = grind (arith, common_steps, length-layers_of, marks_are)
