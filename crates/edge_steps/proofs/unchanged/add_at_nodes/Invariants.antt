use Rattle.std.proofs.Common.{[], ◌∷◌, take}
use Rattle.ground.specs.Added.{AreAdded}
use Rattle.stage_facts.specs.Plain.{fact_of}
use Rattle.edge_steps.specs.Parts.{OneAtEach}
use Rattle.edge_steps.proofs.unchanged.add_at_nodes.Given as goal

abbrev pub invariant-loop-offset : goal.invariant-loop-offset
invariant-loop-offset l = record { added : AreAdded (OneAtEach (take l.offset-index l.offsets) (fact_of l.fact ∷ [])) l.initial.within.items l.within.items }
