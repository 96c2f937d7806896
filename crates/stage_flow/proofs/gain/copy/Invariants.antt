use Rattle.std.proofs.Common.{take}
use Rattle.stage_flow.specs.Shapes.{copied_path}
use Rattle.stage_flow.proofs.Gathered.{AreGathered}
use Rattle.stage_flow.proofs.gain.copy.Given as goal

abbrev pub invariant-loop-path : goal.invariant-loop-path
invariant-loop-path l = AreGathered (copied_path l.from l.to) (take l.path-index l.set) l.initial.all l.all
