use Rattle.std.proofs.Common.{take}
use Rattle.points_to_rules.specs.Calls.{IsOfFile}
use Rattle.node_ways.specs.Parts.{AreFound, IsEnteredAs}
use Rattle.node_ways.proofs.entered.entered_of.Given as goal

abbrev pub invariant-loop-target : goal.invariant-loop-target
invariant-loop-target l = record { found : AreFound (IsEnteredAs l.ground l.node) (IsOfFile l.ground.program) (take l.target-index l.targets) l.entered.items }
