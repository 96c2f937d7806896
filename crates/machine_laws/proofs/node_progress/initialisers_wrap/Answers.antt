use Rattle.machine_laws.proofs.Thrown.{initialisers_wrap}
use Rattle.machine_laws.proofs.node_progress.initialisers_wrap.Goals as goal

pub returns : goal.returns
returns c = initialisers_wrap
