use Rattle.example_machine.proofs.ExceptionRuns.{a_frame_is_left}
use Rattle.example_machine.proofs.exceptions.a_frame_is_left.Goals as goal

pub returns : goal.returns
returns c = a_frame_is_left
