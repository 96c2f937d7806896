use Rattle.std.proofs.Common.{take}
use Rattle.node_ways.specs.Parts.{AreFound, HasDescription, IsDescribedAs}
use Rattle.node_ways.proofs.described.described_of.Given as goal

abbrev pub invariant-loop-target : goal.invariant-loop-target
invariant-loop-target l = record { found : AreFound (IsDescribedAs l.ground.program l.node l.call) (HasDescription l.ground.program) (take l.target-index l.targets) l.found.items }
