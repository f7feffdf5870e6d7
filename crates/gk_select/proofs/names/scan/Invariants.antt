use Rattle.gk_select.proofs.Common.{◌≡◌, ◌+◌, drop, option_map, texts, position_of}
use Rattle.gk_select.proofs.names.scan.Given as goal

abbrev pub invariant-loop-i : goal.invariant-loop-i
invariant-loop-i l = option_map (λ n. l.i + n) (position_of (texts (drop l.i l.list)) l.name) ≡ position_of (texts l.list) l.name
