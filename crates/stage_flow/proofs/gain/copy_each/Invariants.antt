use Rattle.std.proofs.Common.{take}
use Rattle.stage_flow.specs.Shapes.{moved_paths}
use Rattle.stage_flow.proofs.Gathered.{AreGathered}
use Rattle.stage_flow.proofs.gain.copy_each.Given as goal

abbrev pub invariant-loop-step : goal.invariant-loop-step
invariant-loop-step l = AreGathered (moved_paths l.set) (take l.step-index l.moves) l.initial.all l.all
