use Rattle.std.proofs.Common.{take}
use Rattle.ground_views.specs.Views.{AreWaysOfMethods}
use Rattle.ground_views.proofs.method_ways.ways_of_methods.Given as goal

abbrev pub invariant-loop-place : goal.invariant-loop-place
invariant-loop-place l = record { rows : AreWaysOfMethods l.ground (take l.place l.ground.methods) l.ways.items }
