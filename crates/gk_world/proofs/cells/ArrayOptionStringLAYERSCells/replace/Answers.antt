use Rattle.gk_world.proofs.Common.{◌∙◌, ap, map, option_map, string_bytes, map-set}
use Rattle.gk_world.proofs.cells.ArrayOptionStringLAYERSCells.replace.Goals as goal

pub returns-clause-set : goal.returns-clause-set
returns-clause-set c = ap (map (option_map string_bytes)) c.exchange.ensures.after ∙ map-set (option_map string_bytes) c.args.self.now c.args.cell c.args.text
