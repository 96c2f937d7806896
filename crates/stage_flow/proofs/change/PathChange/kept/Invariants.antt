use Rattle.std.proofs.Common.{take}
use Rattle.stage_flow.specs.Shapes.{kept_path}
use Rattle.stage_flow.proofs.Gathered.{AreGathered}
use Rattle.stage_flow.proofs.change.PathChange.kept.Given as goal

abbrev pub invariant-loop-path : goal.invariant-loop-path
invariant-loop-path l = AreGathered (kept_path l.self) (take l.path-index l.set) l.initial.all l.all
