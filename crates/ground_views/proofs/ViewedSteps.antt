-- What follows by a view of a node, follows at the node that is seen.
use Rattle.std.proofs.Common.{◌≡◌, List, ◌∷◌, Option, sym, subst}
use Rattle.std.specs.List.{Contains}
use Rattle.jvm_model.specs.declared.number.MethodNo.{MethodNo}
use Rattle.op_model.specs.declared.lowered.LoweredMethod.{LoweredMethod}
use Rattle.op_model.specs.declared.node.Node.{Node}
use Rattle.op_model.specs.declared.node.NodeRef.{NodeRef}
use Rattle.machine_bytecode.specs.Objects.{Subject}
use Rattle.points_to_rules.specs.Facts.{Fact}
use Rattle.ground.specs.Findings.{gives_listed}
use Rattle.stage_facts.specs.Facts.{SiteFact}
use Rattle.stage_transfer.specs.Settings.{Setting}
use Rattle.stage_transfer.specs.Stages.{transfer_of}
use Rattle.stage_views.specs.declared.setting.StageSetting.{StageSetting}
use Rattle.stage_views.specs.Views.{IsSettingBy}
use Rattle.stage_edges.specs.Rules.{Edge, before, edge}
use Rattle.node_ways.specs.declared.ways.NodeWays.{NodeWays}
use Rattle.edge_steps.specs.declared.conclusions.Conclusion.{Conclusion}
use Rattle.edge_steps.specs.declared.conclusions.EnteredWith.{EnteredWith}
use Rattle.edge_steps.specs.Steps.{AreFollowing, IsLookedAt}
use Rattle.ground_views.specs.declared.node_slots.AnySlots.{AnySlots}
use Rattle.ground_views.specs.declared.question.Question.{Question}
use Rattle.ground_views.specs.declared.viewed_node.ViewedNode.{ViewedNode}
use Rattle.ground_views.specs.Known.{KnownOf}
use Rattle.ground_views.specs.Questions.{IsAskedOf}
use Rattle.ground_views.specs.Views.{FollowAt, IsSeen}
use Rattle.ground_views.proofs.Viewed.{looked_by_view}

-- these are the parts of a view
module _ (q : Question) (k : ViewedNode) (node : NodeRef) (seen : IsSeen q node k) (s : StageSetting) (slots : AnySlots) (m : Option MethodNo) (n : Node) (ways : NodeWays)
    (setting : s ≡ q.setting) (same_slots : slots ≡ k.slots) (method : m ≡ k.method) (same_node : n ≡ k.node.now) (same_ways : ways ≡ k.ways.now)
    (f : SiteFact) (rest : List Edge) (conclusions : List Conclusion) (entered : List EnteredWith) where
  abbrev Following : Subject → List LoweredMethod → List Fact → Setting → Option MethodNo → Node → Type 0
  Following x methods facts w o i =
      AreFollowing x (gives_listed methods) (Contains facts) (transfer_of w) o (λ (e : SiteFact). edge o e (before i) f ∷ rest) conclusions entered

  pub follow_by_view : ((x : Subject) (methods : List LoweredMethod) (facts : List Fact) (w : Setting) → IsSettingBy s w
      → IsLookedAt x (gives_listed methods) (Contains facts) w s (KnownOf slots) m n ways → Following x methods facts w m n) → FollowAt q k f rest conclusions entered
  follow_by_view by = record { each = each }
    where
      each : (x : Subject) (w : Setting) → IsAskedOf q x w → Following x q.ground.now.methods q.ground.now.facts w k.method k.node.now
      each x w asked =
          subst (λ (o : Option MethodNo). Following x q.ground.now.methods q.ground.now.facts w o k.node.now) method
          (subst (λ (i : Node). Following x q.ground.now.methods q.ground.now.facts w m i) same_node
          (by x q.ground.now.methods q.ground.now.facts w (subst (λ (u : StageSetting). IsSettingBy u w) (sym setting) asked.like)
          (looked_by_view k s q.setting slots m n ways setting same_slots method same_node same_ways x (gives_listed q.ground.now.methods) (Contains q.ground.now.facts) w
          (seen.looked_at x w asked))))
