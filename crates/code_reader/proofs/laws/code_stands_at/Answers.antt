use Rattle.code_reader.proofs.MachineBodies.{code_stands_at}
use Rattle.code_reader.proofs.laws.code_stands_at.Goals as goal

pub returns : goal.returns
returns c = code_stands_at
