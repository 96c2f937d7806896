use Rattle.edge_numbers.proofs.EdgeRows.{none_from}
use Rattle.edge_numbers.proofs.numbered.EdgeNumbers.new.Goals as goal

pub returns : goal.returns
returns c = none_from _ c.new.ensures
