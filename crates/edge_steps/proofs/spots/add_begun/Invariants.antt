use Rattle.std.proofs.Common.{take}
use Rattle.ground.specs.Added.{AreAdded, OfOne}
use Rattle.stage_facts.specs.Plain.{fact_of}
use Rattle.edge_steps.specs.Parts.{IsBegun}
use Rattle.edge_steps.proofs.spots.add_begun.Given as goal

abbrev pub invariant-loop-method : goal.invariant-loop-method
invariant-loop-method l = record { added : AreAdded (OfOne (IsBegun (fact_of l.fact)) (take l.method-index l.methods)) l.initial.entered.items l.entered.items }
