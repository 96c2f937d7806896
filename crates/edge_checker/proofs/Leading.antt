-- The nodes to which listed edges lead. From one that leads to none nothing follows.
use Rattle.std.proofs.Common.{◌≡◌, ℕ, List, Option, None, Some, refl, sym, ap, ◌∙◌, subst}
use Rattle.std.proofs.lemmas.Option.{none-some, same_Some}
use Rattle.jvm_model.specs.declared.number.MethodNo.{MethodNo}
use Rattle.op_model.specs.declared.lowered.LoweredMethod.{LoweredMethod}
use Rattle.op_model.specs.declared.node.Node.{Node}
use Rattle.op_model.specs.declared.node.NodeRef.{NodeRef}
use Rattle.op_model.specs.declared.node.Spot.TheVariants as spots
use Rattle.op_model.specs.Supplies.{GivenAs}
use Rattle.machine_bytecode.specs.Objects.{Subject}
use Rattle.ground.specs.Findings.{gives_listed}
use Rattle.stage_transfer.specs.Settings.{Setting}
use Rattle.stage_transfer.specs.Stages.{transfer_of}
use Rattle.stage_edges.specs.Rules.{Edge, IsNode, before}
use Rattle.ground_views.specs.declared.path_edge.PathEdge.{PathEdge}
use Rattle.ground_views.specs.declared.question.Question.{Question}
use Rattle.ground_views.specs.declared.viewed_node.ViewedNode.{ViewedNode}
use Rattle.ground_views.specs.Questions.{IsAskedOf, edge_of}
use Rattle.ground_views.specs.Views.{IsSeen}
use Rattle.ground_views.proofs.Shapes.{LeadsToNode, first_leads}
use Rattle.std.specs.List.{Contains}
use Rattle.edge_checker.specs.declared.numbered_edge.NumberedEdge.{NumberedEdge}
use Rattle.edge_checker.specs.Conditions.{edge_in, edges_of}
use Rattle.edge_checker.specs.Failures.{IsLeastFor}
use Rattle.edge_checker.specs.Parts.{FailsAt, IsNodeOfEdge, IsSeenAt, MeetsAt, to_node, to_return, to_throw}

same_spot : (y z : ℕ) → spots.Node y ≡ spots.Node z → y ≡ z
same_spot y z is = cc

returned_before : (n : Node) → spots.Returned ≡ before n → ⊥
returned_before n is = cc

thrown_before : (n : Node) → spots.Thrown ≡ before n → ⊥
thrown_before n is = cc

-- The edge leads to the node that is meant.
record LeadsTo (p : Edge) (node : NodeRef) : Type 0 where
  method : p.method ≡ node.method
  spot : p.spot ≡ spots.Node node.offset

leads_to : (e : PathEdge) (node : NodeRef) → IsNodeOfEdge e (Some node) → LeadsTo (edge_of e) node
leads_to e node is = by (Some node) is refl
  where
    by : (o : Option NodeRef) → IsNodeOfEdge e o → o ≡ Some node → LeadsTo (edge_of e) node
    by o (to_node offset spot) same =
        let here : record { method = e.method; offset = offset } ≡ node = same_Some (record { method = e.method; offset = offset }) node same in
        record { method = ap (λ (n : NodeRef). n.method) here; spot = spot ∙ ap (λ (n : NodeRef). spots.Node n.offset) here }
    by o (to_return spot) same = absurd (none-some node same)
    by o (to_throw spot) same = absurd (none-some node same)

-- an edge to an exit leads to no node
to_exit : (x : Subject) (gives : GivenAs) (e : PathEdge) → IsNodeOfEdge e None → LeadsToNode x gives (edge_of e) → ⊥
to_exit x gives e is there = by None is refl
  where
    by : (o : Option NodeRef) → IsNodeOfEdge e o → o ≡ None → ⊥
    by o (to_node offset spot) same = none-some (record { method = e.method; offset = offset }) (sym same)
    by o (to_return spot) same = returned_before there.node (sym spot ∙ there.spot)
    by o (to_throw spot) same = thrown_before there.node (sym spot ∙ there.spot)

module _ (q : Question) (listed : List NumberedEdge) (a : NumberedEdge) where
  nothing_for : ((x : Subject) (w : Setting) → IsAskedOf q x w → LeadsToNode x (gives_listed q.ground.now.methods) (edge_in a) → ⊥)
      → IsLeastFor q (MeetsAt q listed a) (FailsAt q listed a) None
  nothing_for never = record {
    each = λ x w asked. record {
      met = record {
        each = λ rest e i hold.
            absurd (never x w asked (first_leads x (gives_listed q.ground.now.methods) (Contains q.ground.now.facts) (transfer_of w) (edge_in a) (edges_of rest) e i));
      };
      none = λ k l f.
          never x w asked (first_leads x (gives_listed q.ground.now.methods) (Contains q.ground.now.facts) (transfer_of w) (edge_in a) (edges_of f.rest) f.e f.follows);
    };
  }

  pub nothing_from_exit : IsNodeOfEdge a.edge None → IsLeastFor q (MeetsAt q listed a) (FailsAt q listed a) None
  nothing_from_exit is = nothing_for (λ x w asked there. to_exit x (gives_listed q.ground.now.methods) a.edge is there)

  pub nothing_from_nowhere : (node : NodeRef) → IsNodeOfEdge a.edge (Some node)
      → ((x : Subject) (w : Setting) → IsAskedOf q x w → (l : LoweredMethod) (n : Node) → IsNode x (gives_listed q.ground.now.methods) node.method l n → n.offset ≡ node.offset → ⊥)
      → IsLeastFor q (MeetsAt q listed a) (FailsAt q listed a) None
  nothing_from_nowhere node is never =
      let to = leads_to a.edge node is in
      nothing_for (λ x w asked there.
      never x w asked there.method there.node (subst (λ (m : Option MethodNo). IsNode x (gives_listed q.ground.now.methods) m there.method there.node) to.method there.stands)
      (same_spot there.node.offset node.offset (sym there.spot ∙ to.spot)))

  pub seen_at : (node : NodeRef) (k : ViewedNode) → IsNodeOfEdge a.edge (Some node) → IsSeen q node k → IsSeenAt q k (edge_in a)
  seen_at node k is seen =
      let to = leads_to a.edge node is in
      record { node = node; seen = seen; method = to.method ∙ sym seen.method; spot = to.spot ∙ ap (λ (z : ℕ). spots.Node z) (sym seen.offset) }
