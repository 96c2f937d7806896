use Rattle.std.proofs.Common.{[], refl}
use Rattle.machine_bytecode.proofs.laws.first_states_are_executions.Goals as goal

pub returns : goal.returns
returns c x s first = record { first = s; others = []; begins = refl; is_first = first; steps = tt }
