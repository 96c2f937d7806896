use Rattle.program_laws.proofs.Links.{one_answer}
use Rattle.program_laws.proofs.linking.one_link.Goals as goal

pub returns : goal.returns
returns c = one_answer
