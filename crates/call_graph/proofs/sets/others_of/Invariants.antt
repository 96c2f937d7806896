use Rattle.std.proofs.Common.{take}
use Rattle.call_graph.specs.Sets.{AreSetsOf}
use Rattle.call_graph.proofs.sets.others_of.Given as goal

abbrev pub invariant-loop-item : goal.invariant-loop-item
invariant-loop-item l = record { sets : AreSetsOf l.tables (take l.item-index l.items) l.sets }
