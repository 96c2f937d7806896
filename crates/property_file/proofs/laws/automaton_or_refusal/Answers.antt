use Rattle.property_file.proofs.Broken.{IsRefusal-not}
use Rattle.property_file.proofs.laws.automaton_or_refusal.Goals as goal

pub returns : goal.returns
returns c = IsRefusal-not
