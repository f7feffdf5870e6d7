-- What happens in a section, one part after another.
use Rattle.gk_run.proofs.Common.{Bool, List, [], ap, append_assoc, cond, false, refl, subst, sym, true, ◌++◌, ◌||◌, ◌∙◌, ◌∷◌, ◌≡◌, true≢false, append-nil, arith, common_steps, Ending, has_passed, is_memory_ending, worse, Event, IsCutOff, SoFar, SectionNow, ended_in, left_by, refused, Goes}
use Rattle.gk_run.specs.declared.ending.Ending.TheVariants as endings
use Rattle.gk_run.proofs.EndingLemmas.{memory_of, worse_assoc, worse_passed}
use Rattle.gk_run.proofs.EventLemmas.{ended_both, heard_both, left_both}

-- where memory was refused before, it is refused now
pub stays_refused : (a b e : Ending) → e ≡ worse a b → is_memory_ending a ≡ true → is_memory_ending e ≡ true
stays_refused a b e is h = ap is_memory_ending is ∙ memory_of a b ∙ ap (λ x. x || is_memory_ending b) h

cut_within : (messages_before part more messages all : List Event) → IsCutOff part messages → all ≡ messages_before ++ (part ++ more) → IsCutOff all (messages_before ++ messages)
cut_within messages_before part more messages all c whole = record {
  front = messages_before ++ c.front;
  event = c.event;
  rest = c.rest ++ more;
  left = c.left;
  whole = whole ∙ ap (λ xs. messages_before ++ (xs ++ more)) c.whole ∙ ap (λ xs. messages_before ++ xs) (append_assoc c.front (c.event ∷ c.rest) more) ∙ sym (append_assoc messages_before c.front (c.event ∷ (c.rest ++ more)));
  cut = ap (λ xs. messages_before ++ xs) c.cut ∙ sym (append_assoc messages_before c.front (refused c.left c.event ∷ []));
}

pub chained : (b0 b1 b2 : Bool) (all rest part more xs ys : List Event) → (b0 ≡ true → b1 ≡ true) → (b1 ≡ true → b2 ≡ true) → SoFar b0 b1 all rest xs → (b1 ≡ false → rest ≡ part ++ more) → SoFar b1 b2 part [] ys → SoFar b0 b2 all more (xs ++ ys)
chained true true b2 all rest part more xs ys k l p r q = ap (λ zs. zs ++ ys) p ∙ q
chained true false b2 all rest part more xs ys k l p r q = absurd (true≢false (sym (k refl)))
chained false true false all rest part more xs ys k l p r q = absurd (true≢false (sym (l refl)))
chained false true true all rest part more xs ys k l p r q = subst (IsCutOff all) (sym (append-nil xs) ∙ ap (λ zs. xs ++ zs) (sym q)) p
chained false false true all rest part more xs ys k l p r q = cut_within xs part more ys all q (p ∙ ap (λ zs. xs ++ zs) (r refl))
chained false false false all rest part more xs ys k l p r q = grind (arith, common_steps)

-- one part after another
abbrev pub chain : {S : Type 0} {hears : S → Event → S → Type 0} {before mid_end end : Ending} {all rest part : List Event} (more : List Event) {start mid now : SectionNow} {first here last : S} →
    Goes hears before all rest start mid mid_end first here → (is_memory_ending mid_end ≡ false → rest ≡ part ++ more) → Goes hears mid_end part [] mid now end here last → Goes hears before all more start now end first last
chain {S} {hears} {before} {mid_end} {end} {all} {rest} {part} more {start} {mid} {now} {first} {here} {last} g r h = record {
  messages = g.messages ++ h.messages;
  heard = heard_both hears first g.messages here h.messages last g.heard h.heard;
  so_far = chained (is_memory_ending before) (is_memory_ending mid_end) (is_memory_ending end) all rest part more g.messages h.messages
      (stays_refused before (ended_in g.messages) mid_end g.ends) (stays_refused mid_end (ended_in h.messages) end h.ends) g.so_far r h.so_far;
  ends = h.ends ∙ ap (λ e. worse e (ended_in h.messages)) g.ends ∙ worse_assoc before (ended_in g.messages) (ended_in h.messages) ∙ ap (worse before) (sym (ended_both g.messages h.messages));
  leaves = h.leaves ∙ ap (λ s. left_by s h.messages) g.leaves ∙ sym (left_both start g.messages h.messages);
}

pub other_rest : (b0 b1 : Bool) (all rest other messages : List Event) → (b1 ≡ false → rest ≡ other) → SoFar b0 b1 all rest messages → SoFar b0 b1 all other messages
other_rest true b1 all rest other messages r h = h
other_rest false true all rest other messages r h = h
other_rest false false all rest other messages r h = h ∙ ap (λ xs. messages ++ xs) (r refl)

-- what is left, in other words
abbrev pub with_rest : {S : Type 0} {hears : S → Event → S → Type 0} {before end : Ending} {all rest : List Event} (other : List Event) {start now : SectionNow} {first last : S} →
    Goes hears before all rest start now end first last → (is_memory_ending end ≡ false → rest ≡ other) → Goes hears before all other start now end first last
with_rest {S} {hears} {before} {end} {all} {rest} other {start} {now} {first} {last} g r = record {
  messages = g.messages;
  heard = g.heard;
  so_far = other_rest (is_memory_ending before) (is_memory_ending end) all rest other g.messages r g.so_far;
  ends = g.ends;
  leaves = g.leaves;
}

pub so_under : (b c e d : Bool) (all rest messages : List Event) → b ≡ c → e ≡ d → SoFar b e all rest messages → SoFar c d all rest messages
so_under b c e d all rest messages p q h = subst (λ x. SoFar c x all rest messages) q (subst (λ x. SoFar x e all rest messages) p h)

pub unrefused : (a b : Ending) → is_memory_ending a ≡ false → is_memory_ending b ≡ is_memory_ending (worse a b)
unrefused a b h = sym (memory_of a b ∙ ap (λ x. x || is_memory_ending b) h)

-- the same after what ended so before it, in which no memory was refused
abbrev pub under : {S : Type 0} {hears : S → Event → S → Type 0} {before end : Ending} {all rest : List Event} (earlier whole : Ending) {start now : SectionNow} {first last : S} → is_memory_ending earlier ≡ false → whole ≡ worse earlier before →
    Goes hears before all rest start now end first last → Goes hears whole all rest start now (worse earlier end) first last
under {S} {hears} {before} {end} {all} {rest} earlier whole {start} {now} {first} {last} h is g = record {
  messages = g.messages;
  heard = g.heard;
  so_far = so_under (is_memory_ending before) (is_memory_ending whole) (is_memory_ending end) (is_memory_ending (worse earlier end)) all rest g.messages (unrefused earlier before h ∙ ap is_memory_ending (sym is)) (unrefused earlier end h) g.so_far;
  ends = ap (worse earlier) g.ends ∙ sym (worse_assoc earlier before (ended_in g.messages)) ∙ ap (λ x. worse x (ended_in g.messages)) (sym is);
  leaves = g.leaves;
}

abbrev pub behind : {S : Type 0} {hears : S → Event → S → Type 0} {end : Ending} {all rest : List Event} (earlier : Ending) {start now : SectionNow} {first last : S} → is_memory_ending earlier ≡ false →
    Goes hears endings.Passed all rest start now end first last → Goes hears earlier all rest start now (worse earlier end) first last
behind earlier h g = under earlier earlier h (sym (worse_passed earlier)) g

pub begun_so : (b : Bool) (all : List Event) → SoFar b b all all []
begun_so true all = refl
begun_so false all = refl

-- before the first event
abbrev pub begin : {S : Type 0} (hears : S → Event → S → Type 0) (before : Ending) (all : List Event) (start : SectionNow) (first : S) → Goes hears before all all start start before first first
begin hears before all start first = record { messages = []; heard = refl; so_far = begun_so (is_memory_ending before) all; ends = sym (worse_passed before); leaves = refl }

pub so_refused : (b : Bool) (all : List Event) → b ≡ true → SoFar b b all [] []
so_refused true all h = refl
so_refused false all h = absurd (true≢false (sym h))

-- after refused memory nothing happens
abbrev pub nothing : {S : Type 0} (hears : S → Event → S → Type 0) (e : Ending) (all : List Event) (start : SectionNow) (first : S) → is_memory_ending e ≡ true → Goes hears e all [] start start e first first
nothing hears e all start first h = record { messages = []; heard = refl; so_far = so_refused (is_memory_ending e) all h; ends = sym (worse_passed e); leaves = refl }

-- all messages, where no memory was refused
pub all_messages : (b : Bool) (all messages : List Event) → b ≡ false → SoFar false b all [] messages → messages ≡ all
all_messages true all messages n h = absurd (true≢false n)
all_messages false all messages n h = sym (h ∙ append-nil messages)

-- how two parts end together
pub worse_messages : {a b : Ending} (xs ys : List Event) → a ≡ ended_in xs → b ≡ ended_in ys → worse a b ≡ ended_in (xs ++ ys)
worse_messages {a} {b} xs ys p q = ap (λ x. worse x b) p ∙ ap (worse (ended_in xs)) q ∙ sym (ended_both xs ys)

-- what passed goes on with the rest
pub passing : {S : Type 0} {hears : S → Event → S → Type 0} {before : Ending} {all : List Event} (rest : List Event) {start now : SectionNow} (end : Ending) {first last : S} → has_passed end ≡ true →
    Goes hears before all (cond (has_passed end) rest []) start now end first last → Goes hears before all rest start now endings.Passed first last
passing rest endings.Passed passes g = g
passing rest endings.Failed passes g = absurd (true≢false (sym passes))
passing rest endings.Skipped passes g = absurd (true≢false (sym passes))
passing rest endings.Memory passes g = absurd (true≢false (sym passes))

-- where the rest goes on only if this passed, nothing is left
pub nothing_after : (b : Bool) (rest : List Event) → rest ≡ [] → cond b rest [] ≡ []
nothing_after true rest none = none
nothing_after false rest none = refl
