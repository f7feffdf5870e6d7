-- The effect on contents of a list of undos, oldest first.
use Rattle.std.specs.Prelude.{◌≡◌, List, [], ◌∷◌, ◌++◌}

module _ {U S : Type 0} (undone : U → S → S) where
  -- The contents before these changes: the newest, which is the last, is undone first.
  abbrev pub rewound : List U → S → S
  rewound [] s = s
  rewound (u ∷ us) s = undone u (rewound us s)

  -- Each undo fits after all newer ones are undone.
  abbrev pub FitAll : (U → S → Type 0) → List U → S → Type 0
  FitAll fits [] s = Unit {0}
  FitAll fits (u ∷ us) s = FitAll fits us s × fits u (rewound us s)

  -- One more undo is recorded, as the newest: it fits, and restores what was there before.
  abbrev pub Records : (U → S → Type 0) → List U → S → List U → S → Type 0
  Records fits old before new after = (u : U) × (new ≡ old ++ u ∷ []) × fits u after × (undone u after ≡ before)
