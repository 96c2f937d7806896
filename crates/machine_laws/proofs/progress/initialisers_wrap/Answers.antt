use Rattle.machine_laws.proofs.ProgressThrown.{initialisers_wrap}
use Rattle.machine_laws.proofs.progress.initialisers_wrap.Goals as goal

pub returns : goal.returns
returns c = initialisers_wrap
