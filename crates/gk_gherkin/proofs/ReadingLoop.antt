-- Reading line after line, as the loop does.
use Rattle.gk_gherkin.proofs.Common.{◌≡◌, ℕ, ◌+◌, List, [], ◌∷◌, Result, Ok, sym, subst, ap, ◌∙◌, ReadFault, LineValue, line_at, numbered_from, Fails, ◌>>=◌, run_by, Need, need_here, need_later}
use Rattle.gk_gherkin.specs.declared.read_fault.ReadFault.TheVariants as faults

-- step: what a line makes of a state; n: the number of the next line, whose text is the first of those that are left
module _ {S : Type 0} (step : S → LineValue → Result S ReadFault) (s : S) (n : ℕ) (left after : List (List ℕ)) (text : List ℕ) (is : left ≡ text ∷ after) where
  run_line : run_by step s (numbered_from n left) ≡ (step s (line_at n text) >>= λ t. run_by step t (numbered_from (n + 1) after))
  unfolding run_by
  run_line = ap (λ (texts : List (List ℕ)). run_by step s (numbered_from n texts)) is

  module _ (total : Result S ReadFault) (so_far : run_by step s (numbered_from n left) ≡ total) where
    pub rest_of_run : (t : S) → step s (line_at n text) ≡ Ok t → run_by step t (numbered_from (n + 1) after) ≡ total
    rest_of_run t r = sym (run_line ∙ ap (λ (r : Result S ReadFault). r >>= λ t. run_by step t (numbered_from (n + 1) after)) r) ∙ so_far

    pub ends : (f : ReadFault) → Fails f (step s (line_at n text)) → Fails f total
    ends faults.Memory r = tt
    ends f r = sym so_far ∙ run_line ∙ ap (λ (r : Result S ReadFault). r >>= λ t. run_by step t (numbered_from (n + 1) after)) r

  -- what needs memory, line after line
  module _ (In : S → LineValue → Type 0) where
    back : Need step In s (numbered_from n (text ∷ after)) → Need step In s (numbered_from n left)
    back = subst (λ (texts : List (List ℕ)). Need step In s (numbered_from n texts)) (sym is)

    pub needed_here : In s (line_at n text) → Need step In s (numbered_from n left)
    needed_here h = back (need_here h)

    pub needed_later : (t : S) → step s (line_at n text) ≡ Ok t → Need step In t (numbered_from (n + 1) after) → Need step In s (numbered_from n left)
    needed_later t r h = back (need_later r h)

-- no line is left
pub is_done : {S : Type 0} (step : S → LineValue → Result S ReadFault) (s : S) (n : ℕ) (left : List (List ℕ)) (total : Result S ReadFault) → left ≡ [] → run_by step s (numbered_from n left) ≡ total → total ≡ Ok s
unfolding run_by
is_done step s n left total none so_far = sym so_far ∙ ap (λ (texts : List (List ℕ)). run_by step s (numbered_from n texts)) none
