use Rattle.example_runs.proofs.ExampleRuns.{read_after_close_errs_by_default}
use Rattle.example_runs.proofs.laws.read_after_close_errs_by_default.Goals as goal

pub returns : goal.returns
returns c = read_after_close_errs_by_default
