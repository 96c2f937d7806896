use Rattle.std.proofs.Common.{take}
use Rattle.op_model.specs.declared.lowered.LoweredMethod.{LoweredMethod}
use Rattle.ground.specs.Added.{AreAdded, OfOne}
use Rattle.stage_facts.specs.Plain.{fact_of}
use Rattle.stage_transfer.specs.Settings.{Setting}
use Rattle.stage_transfer.specs.Stages.{transfer_of}
use Rattle.edge_steps.specs.Parts.{Raised}
use Rattle.edge_steps.proofs.unchanged.add_landings.Given as goal

abbrev pub invariant-loop-handler : goal.invariant-loop-handler
invariant-loop-handler g k = record {
  added : (w : Setting) (l : LoweredMethod) → AreAdded (OfOne (Raised (transfer_of w) l k.view.node.now (fact_of k.fact)) (take k.handler-index k.landings)) k.initial.within.items k.within.items;
}
