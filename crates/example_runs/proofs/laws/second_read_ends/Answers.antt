use Rattle.example_runs.proofs.ExampleRuns.{second_read_ends}
use Rattle.example_runs.proofs.laws.second_read_ends.Goals as goal

pub returns : goal.returns
returns c = second_read_ends
