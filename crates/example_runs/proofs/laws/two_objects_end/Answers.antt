use Rattle.example_runs.proofs.ExampleRuns.{two_objects_end}
use Rattle.example_runs.proofs.laws.two_objects_end.Goals as goal

pub returns : goal.returns
returns c = two_objects_end
