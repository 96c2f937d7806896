use Rattle.lowering_laws.proofs.OneRow.{row_once}
use Rattle.lowering_laws.proofs.nodes.one_row.Goals as goal

pub returns : goal.returns
returns c = row_once
