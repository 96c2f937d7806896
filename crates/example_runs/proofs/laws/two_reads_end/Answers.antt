use Rattle.example_runs.proofs.ExampleRuns.{two_reads_end}
use Rattle.example_runs.proofs.laws.two_reads_end.Goals as goal

pub returns : goal.returns
returns c = two_reads_end
