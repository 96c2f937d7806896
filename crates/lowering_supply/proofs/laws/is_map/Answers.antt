use Rattle.lowering_supply.proofs.Maps.{is_map}
use Rattle.lowering_supply.proofs.laws.is_map.Goals as goal

pub returns : goal.returns
returns c = is_map
