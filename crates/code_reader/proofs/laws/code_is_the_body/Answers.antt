use Rattle.code_reader.proofs.MachineBodies.{code_is_the_body}
use Rattle.code_reader.proofs.laws.code_is_the_body.Goals as goal

pub returns : goal.returns
returns c = code_is_the_body
