use Rattle.gk_world.proofs.Common.{◌≡◌, laid, layers_of}
use Rattle.gk_world.proofs.values.Values.get.Given as goal

-- the layers so far have no value of this name
abbrev pub invariant-loop-layer : goal.invariant-loop-layer
invariant-loop-layer l = laid (layers_of l.layers l.self-inside.slots) l.name ≡ laid (layers_of l.layer l.self-inside.slots) l.name
