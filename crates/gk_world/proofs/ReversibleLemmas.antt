-- What the undos of a sandbox are on its contents.
use Rattle.gk_world.proofs.Common.{◌≡◌, ℕ, zero, suc, ◌+◌, List, [], ◌∷◌, ◌++◌, length, drop, refl, sym, ap, subst, ◌∙◌, arith, common_steps, rewound, FitAll, World, WorldUndo, File, Env, Value, with_layer, layers, map_at, layers_of, contents_of, Fits, undone, IsClear, SandboxValue, with_layers, Rewinds, UndosGiveBack, seen_undo, seen_undos, saved_of, value_of, AreStarts, IsSound}
use Rattle.gk_world.proofs.JournalLemmas.{rewound-append, FitAll-drop}
use Rattle.gk_world.specs.Slots as slot
use Rattle.gk_world.specs.World.{NamesDiffer}
use Rattle.gk_world.specs.Reversible as contents
use Rattle.gk_world.proofs.UndoLemmas.{undo_writes, map_undone, layers_put, differ_undone}

-- an undo, on the contents
pub contents_undone : (d : ℕ) (u : WorldUndo) (w : World) → NamesDiffer w → Fits u w → contents_of d (undone u w) ≡ contents.undone (seen_undo w u) (contents_of d w)
contents_undone d (File u) w n h = λ i. record { files = map_undone u w.files n.files h i; env = map_at 0 w.env; values = layers_of d w.values }
contents_undone d (Env u) w n h = λ i. record { files = map_at 0 w.files; env = map_undone u w.env n.env h i; values = layers_of d w.values }
contents_undone d (Value u) w n h = λ i. record { files = map_at 0 w.files; env = map_at 0 w.env; values = layers_put d (slot.cell_of u) (slot.olds_of w.values u) w.values (slot.undone u w.values) (undo_writes layers u w.values n.values h) i }

-- older undos are seen where the newer ones are undone
pub seen_undos-append : (w : World) (us vs : List WorldUndo) → seen_undos w (us ++ vs) ≡ seen_undos (rewound undone vs w) us ++ seen_undos w vs
seen_undos-append w [] vs = refl
seen_undos-append w (u ∷ us) vs = λ i. seen_undo (rewound-append undone us vs w i) u ∷ seen_undos-append w us vs i

-- names still differ after undos
differ_rewound : (us : List WorldUndo) (w : World) → NamesDiffer w → NamesDiffer (rewound undone us w)
differ_rewound [] w n = n
differ_rewound (u ∷ us) w n = grind (arith, common_steps, differ_rewound us w n, differ_undone)

-- many undos, on the contents
pub contents_rewound : (d : ℕ) (us : List WorldUndo) (w : World) → NamesDiffer w → FitAll undone Fits us w → contents_of d (rewound undone us w) ≡ rewound contents.undone (seen_undos w us) (contents_of d w)
contents_rewound d [] w n h = refl
contents_rewound d (u ∷ us) w n h = grind (arith, common_steps, contents_undone, differ_rewound, contents_rewound d us w n h.0)

drop-seen_undos : (k : ℕ) (w : World) (us : List WorldUndo) → seen_undos w (drop k us) ≡ drop k (seen_undos w us)
drop-seen_undos zero w us = refl
drop-seen_undos (suc k) w [] = refl
drop-seen_undos (suc k) w (u ∷ us) = drop-seen_undos k w us

-- layers that weren't open have no values
without_values : (i d : ℕ) (t : World) → IsClear d t → contents_of (i + d) t ≡ with_layers i (contents_of d t)
without_values zero d t clear = grind (arith, common_steps)
without_values (suc i) d t clear =
    let e : suc i + d ≡ suc (i + d) = omega arith in
    ap (λ n. contents_of n t) e
    ∙ (λ k. record { files = map_at 0 t.files; env = map_at 0 t.env; values = clear (i + d) (omega arith) k ∷ layers_of (i + d) t.values })
    ∙ ap with_layer (without_values i d t clear)

saved_rewinds : (inside n : ℕ) (ms : List ℕ) (us : List WorldUndo) (w : World) → NamesDiffer w → FitAll undone Fits us w → AreStarts ms n us w → Rewinds inside (saved_of ms us w) ms (seen_undos w us) (contents_of (inside + length ms) w)
saved_rewinds inside n [] us w names fit h = tt
saved_rewinds inside n (m ∷ ms) us w names fit h =
    let e : inside + length (m ∷ ms) ≡ suc inside + length ms = omega arith in (
      ap (λ us. rewound contents.undone us (contents_of (inside + length (m ∷ ms)) w)) (sym (drop-seen_undos m w us))
          ∙ sym (contents_rewound (inside + length (m ∷ ms)) (drop m us) w names (FitAll-drop undone Fits m us w fit))
          ∙ ap (λ n. contents_of n (rewound undone (drop m us) w)) e
          ∙ without_values (suc inside) (length ms) (rewound undone (drop m us) w) h.1,
      subst (λ n. Rewinds (suc inside) (saved_of ms us w) ms (seen_undos w us) (contents_of n w)) (sym e) (saved_rewinds (suc inside) m ms us w names fit h.2),
    )

-- what is saved for each layer is what rewinding gives
pub undos_give_back : (w : World) (us : List WorldUndo) (ms : List ℕ) (v : SandboxValue) → value_of w us ms ≡ v → NamesDiffer w → IsSound w us ms → UndosGiveBack v
undos_give_back w us ms v is names h =
    let e : 0 + length ms ≡ length ms = omega arith in
    subst UndosGiveBack is (subst (λ n. Rewinds 0 (saved_of ms us w) ms (seen_undos w us) (contents_of n w)) e (saved_rewinds 0 (length us) ms us w names h.fit h.ordered))
