use Rattle.property_file.proofs.Whole.{IsPropertyFile-same}
use Rattle.property_file.proofs.laws.one_automaton.Goals as goal

pub returns : goal.returns
returns c = IsPropertyFile-same
