-- The nodes to which edges lead.
use Rattle.std.proofs.Common.{◌≡◌, ℕ, List, [], ◌∷◌, Option, None, Some, refl, sym, ap, ◌∙◌, subst}
use Rattle.std.specs.List.{slice_get}
use Rattle.std.proofs.lemmas.Option.{none-some, same_Some}
use Rattle.list_laws.proofs.Places.{map_at}
use Rattle.jvm_model.specs.declared.number.MethodNo.{MethodNo}
use Rattle.op_model.specs.declared.lowered.LoweredMethod.{LoweredMethod}
use Rattle.op_model.specs.declared.node.Node.{Node}
use Rattle.op_model.specs.declared.node.NodeRef.{NodeRef}
use Rattle.op_model.specs.declared.node.Spot.TheVariants as spots
use Rattle.op_model.specs.Supplies.{GivenAs}
use Rattle.machine_bytecode.specs.Objects.{Subject}
use Rattle.points_to_rules.specs.Facts.{Fact}
use Rattle.stage_transfer.specs.Stages.{Transfer}
use Rattle.stage_edges.specs.Rules.{Edge, Instance, IsNode, before}
use Rattle.ground_views.specs.declared.path_edge.PathEdge.{PathEdge}
use Rattle.ground_views.specs.declared.question.Question.{Question}
use Rattle.ground_views.specs.declared.viewed_node.ViewedNode.{ViewedNode}
use Rattle.ground_views.specs.Questions.{edge_of, edges_in}
use Rattle.ground_views.specs.Views.{IsSeen}
use Rattle.ground_views.proofs.Shapes.{LeadsToNode, first_leads}
use Rattle.edge_closure.specs.Closings.{IsNodeOfEdge, to_node, to_return, to_throw}
use Rattle.edge_closure.specs.Tried.{IsSeenAt, IsTried}

same_spot : (y z : ℕ) → spots.Node y ≡ spots.Node z → y ≡ z
same_spot y z is = cc

returned_before : (n : Node) → spots.Returned ≡ before n → ⊥
returned_before n is = cc

thrown_before : (n : Node) → spots.Thrown ≡ before n → ⊥
thrown_before n is = cc

-- The edge leads to the node that is meant.
pub record LeadsTo (p : Edge) (node : NodeRef) : Type 0 where
  pub method : p.method ≡ node.method
  pub spot : p.spot ≡ spots.Node node.offset

leads_to : (e : PathEdge) (node : NodeRef) → IsNodeOfEdge e (Some node) → LeadsTo (edge_of e) node
leads_to e node is = by (Some node) is refl
  where
    by : (o : Option NodeRef) → IsNodeOfEdge e o → o ≡ Some node → LeadsTo (edge_of e) node
    by o (to_node offset spot) same =
        let here : record { method = e.method; offset = offset } ≡ node = same_Some (record { method = e.method; offset = offset }) node same in
        record { method = ap (λ (n : NodeRef). n.method) here; spot = spot ∙ ap (λ (n : NodeRef). spots.Node n.offset) here }
    by o (to_return spot) same = absurd (none-some node same)
    by o (to_throw spot) same = absurd (none-some node same)

pub read_edge : (edges : List PathEdge) (place : ℕ) (p : Edge) (node : NodeRef) → ((e : PathEdge) → slice_get edges place ≡ Some e → IsNodeOfEdge e (Some node))
    → slice_get (edges_in edges) place ≡ Some p → LeadsTo p node
read_edge edges place p node is at =
    let found = map_at edge_of edges place p at in
    subst (λ (q : Edge). LeadsTo q node) found.2 (leads_to found.0 node (is found.0 found.1))

-- an edge to an exit leads to no node
pub to_exit : (x : Subject) (gives : GivenAs) (e : PathEdge) → IsNodeOfEdge e None → LeadsToNode x gives (edge_of e) → ⊥
to_exit x gives e is there = by None is refl
  where
    by : (o : Option NodeRef) → IsNodeOfEdge e o → o ≡ None → ⊥
    by o (to_node offset spot) same = none-some (record { method = e.method; offset = offset }) (sym same)
    by o (to_return spot) same = returned_before there.node (sym spot ∙ there.spot)
    by o (to_throw spot) same = thrown_before there.node (sym spot ∙ there.spot)

-- nothing follows from an edge that leads to no node
pub untried : (x : Subject) (gives : GivenAs) (S : Fact → Type 0) (t : Transfer) (p : Edge) (old new : List Edge) → (LeadsToNode x gives p → ⊥) → IsTried (Instance x gives S t) p old new
untried x gives S t p old new never = record {
  alone = λ to i. absurd (never (first_leads x gives S t p [] to i));
  beside = λ q there. record { each = λ to i. absurd (never (first_leads x gives S t p (q ∷ []) to i)) };
}

-- ---- nodes of the ground

-- an edge that leads to what is no node leads to none
pub nowhere : (x : Subject) (gives : GivenAs) (node : NodeRef) → ((l : LoweredMethod) (n : Node) → IsNode x gives node.method l n → n.offset ≡ node.offset → ⊥)
    → (p : Edge) → LeadsTo p node → LeadsToNode x gives p → ⊥
nowhere x gives node never p to there =
    never there.method there.node (subst (λ (m : Option MethodNo). IsNode x gives m there.method there.node) to.method there.stands)
    (same_spot there.node.offset node.offset (sym there.spot ∙ to.spot))

-- the node to which it leads is seen
pub seen_at : (q : Question) (node : NodeRef) (k : ViewedNode) → IsSeen q node k → (edges : List PathEdge) (place : ℕ)
    → ((e : PathEdge) → slice_get edges place ≡ Some e → IsNodeOfEdge e (Some node)) → IsSeenAt q k place (edges_in edges)
seen_at q node k seen edges place is = record {
  node = node;
  seen = seen;
  method = λ p at. (read_edge edges place p node is at).method ∙ sym seen.method;
  spot = λ p at. (read_edge edges place p node is at).spot ∙ ap (λ (z : ℕ). spots.Node z) (sym seen.offset);
}
