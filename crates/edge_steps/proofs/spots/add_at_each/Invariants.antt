use Rattle.std.proofs.Common.{take}
use Rattle.ground.specs.Added.{AreAdded}
use Rattle.stage_views.specs.Views.{facts_of}
use Rattle.edge_steps.specs.Parts.{OneAtEach}
use Rattle.edge_steps.proofs.spots.add_at_each.Given as goal

abbrev pub invariant-loop-offset : goal.invariant-loop-offset
invariant-loop-offset l = record { added : AreAdded (OneAtEach (take l.offset-index l.offsets) (facts_of l.facts)) l.initial.within.items l.within.items }
