use Rattle.example_runs.proofs.ExampleRuns.{object_in_array_ends}
use Rattle.example_runs.proofs.laws.object_in_array_ends.Goals as goal

pub returns : goal.returns
returns c = object_in_array_ends
