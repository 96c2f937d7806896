use Rattle.std.proofs.Common.{[], take}
use Rattle.ground.specs.Added.{AreAdded, OfOne}
use Rattle.node_ways.specs.Parts.{LandsAt}
use Rattle.node_ways.proofs.landings.class_landings.Given as goal

abbrev pub invariant-loop-class : goal.invariant-loop-class
invariant-loop-class l = record { added : AreAdded (OfOne (LandsAt l.program l.node) (take l.class-index l.classes)) [] l.landings.items }
