use Rattle.machine_laws.proofs.Calls.{returns_to, resumes_it, ends_it}
use Rattle.machine_laws.proofs.node_progress.returns_go_on.Goals as goal

pub returns : goal.returns
returns c = record { to_calls = returns_to; to_triggers = resumes_it; ends = ends_it }
