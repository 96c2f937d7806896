use Rattle.machine_laws.proofs.KnownCode.{method_code_or_not}
use Rattle.machine_laws.proofs.initialisers.code_is_decided.Goals as goal

pub returns : goal.returns
returns c = method_code_or_not
