use Rattle.example_runs.proofs.ExampleRuns.{second_read_errs_by_default}
use Rattle.example_runs.proofs.laws.second_read_errs_by_default.Goals as goal

pub returns : goal.returns
returns c = second_read_errs_by_default
