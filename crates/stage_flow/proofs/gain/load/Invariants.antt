use Rattle.std.proofs.Common.{take}
use Rattle.stage_flow.specs.Shapes.{loaded_path}
use Rattle.stage_flow.proofs.Gathered.{AreGathered}
use Rattle.stage_flow.proofs.gain.load.Given as goal

abbrev pub invariant-loop-path : goal.invariant-loop-path
invariant-loop-path l = AreGathered (loaded_path l.object l.field l.target) (take l.path-index l.set) l.initial.all l.all
