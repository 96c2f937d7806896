use Rattle.program_laws.proofs.Chains.{one_chain}
use Rattle.program_laws.proofs.subtypes.some_chain_is_one.Goals as goal

pub returns : goal.returns
returns c = one_chain
