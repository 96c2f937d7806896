use Rattle.property_file.proofs.Broken.{IsRefusal-same}
use Rattle.property_file.proofs.laws.one_refusal.Goals as goal

pub returns : goal.returns
returns c = IsRefusal-same
