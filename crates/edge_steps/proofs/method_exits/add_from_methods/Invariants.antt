use Rattle.std.proofs.Common.{take}
use Rattle.op_model.specs.declared.lowered.LoweredMethod.{LoweredMethod}
use Rattle.ground.specs.Added.{AreAdded}
use Rattle.stage_facts.specs.Plain.{fact_of}
use Rattle.stage_transfer.specs.Settings.{Setting}
use Rattle.stage_transfer.specs.Stages.{transfer_of}
use Rattle.stage_views.specs.Views.{entering_of, IsSettingBy}
use Rattle.edge_steps.specs.Parts.{LeftOne}
use Rattle.edge_steps.proofs.method_exits.add_from_methods.Given as goal

abbrev pub invariant-loop-method : goal.invariant-loop-method
invariant-loop-method g k = record {
  added : (w : Setting) (l : LoweredMethod) → IsSettingBy k.view.setting.now w → g.V.NodeSlots.knows k.view.slots.now w l k.view.node.now
      → AreAdded (LeftOne (transfer_of w) l k.view.node.now (entering_of k.by) k.exit.method (fact_of k.exit.entry.now) k.exit.spot (fact_of k.exit.fact.now) (take k.method-index k.methods) (fact_of k.sent)) k.initial.within.items k.within.items;
}
