use Rattle.code_reader.proofs.MachineBodies.{one_body}
use Rattle.code_reader.proofs.laws.one_body.Goals as goal

pub returns : goal.returns
returns c = one_body
