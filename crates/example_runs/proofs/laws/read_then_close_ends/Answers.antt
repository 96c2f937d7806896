use Rattle.example_runs.proofs.ExampleRuns.{read_then_close_ends}
use Rattle.example_runs.proofs.laws.read_then_close_ends.Goals as goal

pub returns : goal.returns
returns c = read_then_close_ends
