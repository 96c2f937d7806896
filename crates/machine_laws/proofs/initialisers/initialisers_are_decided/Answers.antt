use Rattle.machine_laws.proofs.KnownCode.{some_initialiser_or_none}
use Rattle.machine_laws.proofs.initialisers.initialisers_are_decided.Goals as goal

pub returns : goal.returns
returns c = some_initialiser_or_none
