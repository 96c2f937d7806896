use Rattle.property_file.proofs.Whole.{IsPropertyFile-sound}
use Rattle.property_file.proofs.laws.property_is_sound.Goals as goal

pub returns : goal.returns
returns c = IsPropertyFile-sound
