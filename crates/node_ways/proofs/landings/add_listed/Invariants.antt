use Rattle.std.proofs.Common.{take}
use Rattle.ground.specs.Added.{AreAdded, OfOne}
use Rattle.node_ways.specs.Parts.{ListedLands}
use Rattle.node_ways.proofs.landings.add_listed.Given as goal

abbrev pub invariant-loop-class : goal.invariant-loop-class
invariant-loop-class l = record { added : AreAdded (OfOne (ListedLands l.program l.node) (take l.class-index l.class-items)) l.initial.landings.items l.landings.items }
