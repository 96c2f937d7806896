-- A view of a node shows what is seen.
use Rattle.std.proofs.Common.{◌≡◌, Option, sym, subst}
use Rattle.jvm_model.specs.declared.number.MethodNo.{MethodNo}
use Rattle.op_model.specs.declared.node.Node.{Node}
use Rattle.op_model.specs.Supplies.{GivenAs}
use Rattle.machine_bytecode.specs.Objects.{Subject}
use Rattle.points_to_rules.specs.Facts.{Fact}
use Rattle.stage_transfer.specs.Settings.{Setting}
use Rattle.stage_views.specs.declared.setting.StageSetting.{StageSetting}
use Rattle.node_ways.specs.declared.ways.NodeWays.{NodeWays}
use Rattle.edge_steps.specs.Steps.{IsLookedAt}
use Rattle.ground_views.specs.declared.node_slots.AnySlots.{AnySlots}
use Rattle.ground_views.specs.declared.viewed_node.ViewedNode.{ViewedNode}
use Rattle.ground_views.specs.Known.{KnownOf}

-- these are the parts of a view
module _ (k : ViewedNode) (s t : StageSetting) (slots : AnySlots) (m : Option MethodNo) (n : Node) (ways : NodeWays) (setting : s ≡ t) (same_slots : slots ≡ k.slots)
    (method : m ≡ k.method) (node : n ≡ k.node.now) (same_ways : ways ≡ k.ways.now) where
  pub looked_by_view : (x : Subject) (gives : GivenAs) (S : Fact → Type 0) (w : Setting) → IsLookedAt x gives S w t (KnownOf k.slots) k.method k.node.now k.ways.now
      → IsLookedAt x gives S w s (KnownOf slots) m n ways
  looked_by_view x gives S w is =
      subst (λ (u : StageSetting). IsLookedAt x gives S w u (KnownOf slots) m n ways) (sym setting)
      (subst (λ (h : AnySlots). IsLookedAt x gives S w t (KnownOf h) m n ways) (sym same_slots)
      (subst (λ (o : Option MethodNo). IsLookedAt x gives S w t (KnownOf k.slots) o n ways) (sym method)
      (subst (λ (o : Node). IsLookedAt x gives S w t (KnownOf k.slots) k.method o ways) (sym node)
      (subst (λ (a : NodeWays). IsLookedAt x gives S w t (KnownOf k.slots) k.method k.node.now a) (sym same_ways) is))))
