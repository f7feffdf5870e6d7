use Rattle.gk_select.proofs.Common.{not, nat_lt, ℕ, ap, sym, ◌∙◌, feature_value, feature_steps}
use Rattle.gk_select.proofs.Rooms.{counted, is_some-left}
use Rattle.gk_select.proofs.counting.has_room.Goals as goal

pub returns : goal.returns
returns c = c.is_some.ensures ∙ is_some-left 1000000 (feature_steps (feature_value c.args.feature.now)) c.room_after_feature.result c.room_after_feature.ensures ∙ ap (λ (n : ℕ). not (nat_lt 1000000 n)) (sym (counted (feature_value c.args.feature.now)))
