use Rattle.example_machine.proofs.WithinRuns.{a_switch_goes_to_its_default}
use Rattle.example_machine.proofs.within.a_switch_goes_to_its_default.Goals as goal

pub returns : goal.returns
returns c = a_switch_goes_to_its_default
