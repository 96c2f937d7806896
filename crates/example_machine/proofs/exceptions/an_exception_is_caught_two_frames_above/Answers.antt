use Rattle.example_machine.proofs.ExceptionRuns.{an_exception_is_caught_two_frames_above}
use Rattle.example_machine.proofs.exceptions.an_exception_is_caught_two_frames_above.Goals as goal

pub returns : goal.returns
returns c = an_exception_is_caught_two_frames_above
