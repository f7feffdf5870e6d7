-- Cases by their rules.
use Rattle.gk_run.proofs.Common.{Bool, List, [], ap, append-nil, append_assoc, arith, cond, false, length, length-append, map, refl, subst, sym, true, suc, zero, ℕ, ◌&&◌, ◌++◌, ◌+◌, ◌<◌, ◌≤◌, ◌∙◌, ◌∷◌, ◌≡◌, nat_eq, Option, rules, common_steps, eqb-false, eqb-true, ne_eqb, eq-eqb, length-map, slice_index_or, slice_set, Case, rank, FallFrom, Err, Ok, OnOk, Result, HeadValue, MemberValue, Member, RuleCases, AreDivided, bare_group, group_value, groups_in, head_value, member_of, members_in, members_of, members_of_groups, FormedCasesFallIntoRules, Group, GroupsAreAll, groups_from, members_of_rank}

pub and_left : (a b : Bool) → (a && b) ≡ true → a ≡ true
and_left true b h = refl
and_left false b h = let no : ⊥ = cc in absurd no

above : (a b : ℕ) → a ≤ b → (b ≡ a → ⊥) → suc a ≤ b
above a b le other = omega (arith, le, other)

-- a case of another rank isn't among those of this one
not_of_rank : (r : ℕ) (m : MemberValue) (ms : List MemberValue) → (rank m.scenario.rule ≡ r → ⊥) → members_of_rank r (m ∷ ms) ≡ members_of_rank r ms
not_of_rank r m ms other = ap (λ (b : Bool). cond b (m ∷ members_of_rank r ms) (members_of_rank r ms)) (ne_eqb (rank m.scenario.rule) r other)

first_of_rank : (r : ℕ) (m : MemberValue) (ms : List MemberValue) → nat_eq (rank m.scenario.rule) r ≡ true → members_of_rank r (m ∷ ms) ≡ m ∷ members_of_rank r ms
first_of_rank r m ms is = ap (λ (b : Bool). cond b (m ∷ members_of_rank r ms) (members_of_rank r ms)) is

-- rules have the same cases where there are the same cases of each later rank
groups_same : (r : ℕ) (heads : List HeadValue) (these those : List MemberValue) → ((other : ℕ) → r ≤ other → members_of_rank other these ≡ members_of_rank other those) → groups_from r heads these ≡ groups_from r heads those
groups_same r [] these those same = refl
groups_same r (head ∷ heads) these those same = grind (arith, common_steps, groups_same (suc r) heads these those (λ other le. same other (omega (arith, le))))

-- ---- the groups are all

-- the rules of cases
abbrev pub rules_in : List MemberValue → List (Option ℕ)
rules_in ms = map (λ (m : MemberValue). m.scenario.rule) ms

-- where the cases fall from beyond a rank on, there is none of it
none_beyond : (count least r : ℕ) (ms : List MemberValue) → r < least → FallFrom count least (rules_in ms) → members_of_rank r ms ≡ []
none_beyond count least r [] lt h = refl
none_beyond count least r (m ∷ ms) lt h =
    let first = h.0 in
    not_of_rank r m ms (λ is. omega (arith, lt, first, is)) ∙ none_beyond count (rank m.scenario.rule) r ms (omega (arith, lt, first)) h.2

-- and beyond the last rule there is no case
none_past : (count least : ℕ) (ms : List MemberValue) → count < least → FallFrom count least (rules_in ms) → ms ≡ []
none_past count least [] lt h = refl
none_past count least (m ∷ ms) lt h = let no : ⊥ = (let first = h.0 in let last = h.1 in omega (arith, lt, first, last)) in absurd no

-- cases that fall from a rank on, as those of it and those behind them
record Parted (count r : ℕ) (ms : List MemberValue) : Type 0 where
  behind : List MemberValue
  whole : members_of_rank r ms ++ behind ≡ ms
  falls : FallFrom count (suc r) (rules_in behind)
  others : (other : ℕ) → suc r ≤ other → members_of_rank other ms ≡ members_of_rank other behind

parted_on : (count r : ℕ) (m : MemberValue) (ms : List MemberValue) → FallFrom count r (rules_in (m ∷ ms)) → (FallFrom count r (rules_in ms) → Parted count r ms) → (b : Bool) → nat_eq (rank m.scenario.rule) r ≡ b → Parted count r (m ∷ ms)
parted_on count r m ms h on true is = search (rules, eqb-true, first_of_rank, not_of_rank)
parted_on count r m ms h on false is =
    let first = h.0 in
    let other_rank : rank m.scenario.rule ≡ r → ⊥ = eqb-false (rank m.scenario.rule) r is in
    let next : suc r ≤ rank m.scenario.rule = above r (rank m.scenario.rule) first other_rank in
    record {
      behind = m ∷ ms;
      whole = ap (λ (xs : List MemberValue). xs ++ m ∷ ms) (not_of_rank r m ms other_rank ∙ none_beyond count (rank m.scenario.rule) r ms next h.2);
      falls = (next, h.1, h.2);
      others = λ other le. refl;
    }

parted : (count r : ℕ) (ms : List MemberValue) → FallFrom count r (rules_in ms) → Parted count r ms
parted count r [] h = record { behind = []; whole = refl; falls = tt; others = λ other le. refl }
parted count r (m ∷ ms) h = parted_on count r m ms h (parted count r ms) (nat_eq (rank m.scenario.rule) r) refl

-- the cases of a rank and then those of the next ranks, one after another, are all that fall from it on
all_from : (heads : List HeadValue) (count r : ℕ) (ms : List MemberValue) → count ≤ r + length heads → FallFrom count r (rules_in ms) →
    members_of_rank r ms ++ members_of_groups (groups_from (suc r) heads ms) ≡ ms
all_from [] count r ms le h =
    let p = parted count r ms h in
    ap (λ (xs : List MemberValue). members_of_rank r ms ++ xs) (sym (none_past count (suc r) p.behind (omega (arith, le)) p.falls)) ∙ p.whole
all_from (head ∷ heads) count r ms le h =
    let p = parted count r ms h in
    ap (λ (gs : List Group). members_of_rank r ms ++ members_of_groups gs) (groups_same (suc r) (head ∷ heads) ms p.behind p.others)
    ∙ ap (λ (xs : List MemberValue). members_of_rank r ms ++ xs) (all_from heads count (suc r) p.behind (omega (arith, le)) p.falls)
    ∙ p.whole

pub groups_all : GroupsAreAll
groups_all f h = all_from f.rules (length f.rules) 0 f.members (omega arith) h

-- ---- dividing

pub then_ok : {A E P Q : Type 0} (x : Result A E) → OnOk x P → (P → Q) → OnOk x Q
then_ok (Ok a) h f = f h
then_ok (Err e) h f = tt

-- one more case, if it is of this rank
of_rank_push : (r : ℕ) (ms : List MemberValue) (m : MemberValue) → members_of_rank r (ms ++ m ∷ []) ≡ members_of_rank r ms ++ members_of_rank r (m ∷ [])
of_rank_push r [] m = refl
of_rank_push r (x ∷ ms) m = grind (arith, common_steps, of_rank_push r ms m)

-- one more case of another rank
others_push : (r : ℕ) (ms : List MemberValue) (m : MemberValue) → (rank m.scenario.rule ≡ r → ⊥) → members_of_rank r (ms ++ m ∷ []) ≡ members_of_rank r ms
others_push r ms m other = of_rank_push r ms m ∙ ap (λ (xs : List MemberValue). members_of_rank r ms ++ xs) (not_of_rank r m [] other) ∙ append-nil (members_of_rank r ms)

-- one more case of this rank
this_push : (r : ℕ) (ms : List MemberValue) (m : MemberValue) → rank m.scenario.rule ≡ r → members_of_rank r (ms ++ m ∷ []) ≡ members_of_rank r ms ++ m ∷ []
this_push r ms m is = of_rank_push r ms m ∙ ap (λ (xs : List MemberValue). members_of_rank r ms ++ xs) (first_of_rank r m [] (eq-eqb (rank m.scenario.rule) r is))

-- rules have as many groups as heads
groups_length : (r : ℕ) (heads : List HeadValue) (ms : List MemberValue) → length (groups_from r heads ms) ≡ length heads
groups_length r [] ms = refl
groups_length r (head ∷ heads) ms = ap suc (groups_length (suc r) heads ms)

-- no rule has a case where there is none
pub groups_bare : (r : ℕ) (heads : List HeadValue) → groups_from r heads [] ≡ map bare_group heads
groups_bare r [] = refl
groups_bare r (head ∷ heads) = ap (λ (gs : List Group). bare_group head ∷ gs) (groups_bare (suc r) heads)

-- a case isn't of a later rank
later_push : (r : ℕ) (heads : List HeadValue) (ms : List MemberValue) (m : MemberValue) → rank m.scenario.rule < r → groups_from r heads (ms ++ m ∷ []) ≡ groups_from r heads ms
later_push r heads ms m less = groups_same r heads (ms ++ m ∷ []) ms (λ other le. others_push other ms m (λ is. omega (arith, less, le, is)))

-- one more case for the rule at an index
groups_push : (r i : ℕ) (heads : List HeadValue) (ms : List MemberValue) (m : MemberValue) (rules : List RuleCases) (old new : RuleCases) → rank m.scenario.rule ≡ r + i → i < length rules → old ≡ slice_index_or rules i old →
    head_value new.head ≡ head_value old.head → members_in new.members.items ≡ members_in old.members.items ++ m ∷ [] → groups_in rules ≡ groups_from r heads ms → groups_in (slice_set rules i new) ≡ groups_from r heads (ms ++ m ∷ [])
groups_push r i heads ms m [] old new is less found head members before = absurd (omega (arith, less))
groups_push r i [] ms m (rule ∷ rules) old new is less found head members before = let no : ⊥ = cc before in absurd no
groups_push r zero (h ∷ heads) ms m (rule ∷ rules) old new is less found head members before =
    let first : group_value rule ≡ record { head = h; members = members_of_rank r ms } = cc before in
    let rest : groups_in rules ≡ groups_from (suc r) heads ms = cc before in
    let here : rank m.scenario.rule ≡ r = omega (arith, is) in
    let heads_are : head_value new.head ≡ h = head ∙ ap (λ (x : RuleCases). head_value x.head) found ∙ ap (λ (g : Group). g.head) first in
    let members_are : members_in new.members.items ≡ members_of_rank r (ms ++ m ∷ []) =
    members ∙ ap (λ (x : RuleCases). members_in x.members.items ++ m ∷ []) found ∙ ap (λ (g : Group). g.members ++ m ∷ []) first ∙ sym (this_push r ms m here) in
    ap (λ (x : HeadValue). record { head = x; members = members_in new.members.items } ∷ groups_in rules) heads_are
    ∙ ap (λ (xs : List MemberValue). record { head = h; members = xs } ∷ groups_in rules) members_are
    ∙ ap (λ (gs : List Group). record { head = h; members = members_of_rank r (ms ++ m ∷ []) } ∷ gs) (rest ∙ sym (later_push (suc r) heads ms m (omega (arith, here))))
groups_push r (suc i) (h ∷ heads) ms m (rule ∷ rules) old new is less found head members before =
    let first : group_value rule ≡ record { head = h; members = members_of_rank r ms } = cc before in
    let rest : groups_in rules ≡ groups_from (suc r) heads ms = cc before in
    ap (λ (g : Group). g ∷ groups_in (slice_set rules i new)) first
    ∙ ap (λ (xs : List MemberValue). record { head = h; members = xs } ∷ groups_in (slice_set rules i new)) (sym (others_push r ms m (λ e. omega (arith, is, e))))
    ∙ ap (λ (gs : List Group). record { head = h; members = members_of_rank r (ms ++ m ∷ []) } ∷ gs) (groups_push (suc r) i heads ms m rules old new (omega (arith, is)) (omega (arith, less)) found head members rest)

pub own_pushed : (heads : List HeadValue) (before : List MemberValue) (m : MemberValue) (own new : List Member) (rules : List RuleCases) → rank m.scenario.rule ≡ 0 → members_in new ≡ members_in own ++ m ∷ [] → AreDivided heads before own rules →
    AreDivided heads (before ++ m ∷ []) new rules
own_pushed heads before m own new rules is pushed divided = record {
  unruled = pushed ∙ ap (λ (xs : List MemberValue). xs ++ m ∷ []) divided.unruled ∙ sym (this_push 0 before m is);
  ruled = divided.ruled ∙ sym (later_push 1 heads before m (omega (arith, is)));
}

pub rule_pushed : (heads : List HeadValue) (before : List MemberValue) (m : MemberValue) (own : List Member) (rules : List RuleCases) (i : ℕ) (old new : RuleCases) → rank m.scenario.rule ≡ suc i → i < length rules → old ≡ slice_index_or rules i old →
    head_value new.head ≡ head_value old.head → members_in new.members.items ≡ members_in old.members.items ++ m ∷ [] → AreDivided heads before own rules → AreDivided heads (before ++ m ∷ []) own (slice_set rules i new)
rule_pushed heads before m own rules i old new is less found head members divided = record {
  unruled = divided.unruled ∙ sym (others_push 0 before m (λ e. omega (arith, is, e)));
  ruled = groups_push 1 i heads before m rules old new (omega (arith, is)) less found head members divided.ruled;
}

-- the cases that were divided so far, and those that are left
pub record GoesDividing (heads : List HeadValue) (all : List MemberValue) (own : List Member) (rules : List RuleCases) (cases : List Case) (selected : List Bool) : Type 0 where
  pub before : List MemberValue
  pub whole : before ++ members_of cases selected ≡ all
  pub divided : AreDivided heads before own rules
  pub least : ℕ
  pub falls : FallFrom (length heads) least (map (λ (c : Case). c.rule) cases)

pub dividing_first : (heads : List HeadValue) (rules : List RuleCases) (cases : List Case) (selected : List Bool) → groups_in rules ≡ map bare_group heads → FallFrom (length heads) 0 (map (λ (c : Case). c.rule) cases) →
    GoesDividing heads (members_of cases selected) [] rules cases selected
dividing_first heads rules cases selected bare falls = record { before = []; whole = refl; divided = record { unruled = refl; ruled = bare ∙ sym (groups_bare 1 heads) }; least = 0; falls = falls }

pub dividing_on : (heads : List HeadValue) (all : List MemberValue) (own new_own : List Member) (rules new_rules : List RuleCases) (case : Case) (choice : Bool) (cases : List Case) (selected : List Bool) → GoesDividing heads all own rules (case ∷ cases) (choice ∷ selected) →
    ((hs : List HeadValue) (before : List MemberValue) → AreDivided hs before own rules → AreDivided hs (before ++ member_of case choice ∷ []) new_own new_rules) → GoesDividing heads all new_own new_rules cases selected
dividing_on heads all own new_own rules new_rules case choice cases selected so_far added = record {
  before = so_far.before ++ member_of case choice ∷ [];
  whole = append_assoc so_far.before (member_of case choice ∷ []) (members_of cases selected) ∙ so_far.whole;
  divided = added heads so_far.before so_far.divided;
  least = rank case.rule;
  falls = so_far.falls.2;
}

-- the rule of the next case is among the rules
pub dividing_bound : (heads : List HeadValue) (all : List MemberValue) (own : List Member) (rules : List RuleCases) (case : Case) (choices : List Bool) (cases : List Case) → GoesDividing heads all own rules (case ∷ cases) choices → rank case.rule ≤ length rules
dividing_bound heads all own rules case choices cases so_far =
    omega (arith, so_far.falls.1, length-map rules group_value, ap length so_far.divided.ruled, groups_length 1 heads so_far.before)

pub dividing_last : (heads : List HeadValue) (all : List MemberValue) (own : List Member) (rules : List RuleCases) (cases : List Case) (selected : List Bool) → members_of cases selected ≡ [] → GoesDividing heads all own rules cases selected → AreDivided heads all own rules
dividing_last heads all own rules cases selected none so_far =
    subst (λ (ms : List MemberValue). AreDivided heads ms own rules) (sym (append-nil so_far.before) ∙ ap (λ (ms : List MemberValue). so_far.before ++ ms) (sym none) ∙ so_far.whole) so_far.divided

-- ---- what `run_feature` requires

rules_of_members : (cases : List Case) (selected : List Bool) → length selected ≡ length cases → rules_in (members_of cases selected) ≡ map (λ (c : Case). c.rule) cases
rules_of_members [] [] h = refl
rules_of_members [] (s ∷ ss) h = absurd (omega arith)
rules_of_members (c ∷ cs) [] h = absurd (omega arith)
rules_of_members (c ∷ cs) (s ∷ ss) h = ap (λ (rs : List (Option ℕ)). c.rule ∷ rs) (rules_of_members cs ss (omega arith))

pub formed_falls : FormedCasesFallIntoRules
formed_falls c formed = grind (arith, common_steps, rules_of_members, length-map)

members_length : (cases : List Case) (selected : List Bool) → length selected ≡ length cases → length (members_of cases selected) ≡ length cases
members_length [] [] h = refl
members_length [] (s ∷ ss) h = absurd (omega arith)
members_length (c ∷ cs) [] h = absurd (omega arith)
members_length (c ∷ cs) (s ∷ ss) h = ap suc (members_length cs ss (omega arith))

-- divided cases are as many as the cases were
pub divided_length : (heads : List HeadValue) (cases : List Case) (selected : List Bool) (own : List Member) (rules : List RuleCases) → length selected ≡ length cases → FallFrom (length heads) 0 (map (λ (c : Case). c.rule) cases) → AreDivided heads (members_of cases selected) own rules →
    length own + length (members_of_groups (groups_in rules)) ≡ length cases
divided_length heads cases selected own rules paired falls divided =
    let all = members_of cases selected in
    let whole = all_from heads (length heads) 0 all (omega arith) (subst (FallFrom (length heads) 0) (sym (rules_of_members cases selected paired)) falls) in
    let groups = ap (λ (gs : List Group). length (members_of_groups gs)) divided.ruled in
    omega (arith, length-map own (λ (m : Member). member_of m.case m.selected), ap length divided.unruled, groups, length-append (members_of_rank 0 all) (members_of_groups (groups_from 1 heads all)), ap length whole, members_length cases selected paired)
