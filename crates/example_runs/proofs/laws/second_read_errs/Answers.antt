use Rattle.example_runs.proofs.ExampleRuns.{second_read_errs}
use Rattle.example_runs.proofs.laws.second_read_errs.Goals as goal

pub returns : goal.returns
returns c = second_read_errs
