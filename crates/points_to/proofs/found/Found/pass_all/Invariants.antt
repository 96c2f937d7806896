use Rattle.std.proofs.Common.{take}
use Rattle.points_to.proofs.PassedAny.{EachGotObjects}
use Rattle.points_to.proofs.found.Found.pass_all.Given as goal

abbrev pub invariant-loop-constraint : goal.invariant-loop-constraint
invariant-loop-constraint l = EachGotObjects l.program l.sites (take l.constraint-index l.constraints) l.initial.self l.self
