-- This crate's own proofs alone rest on this module.
-- What is closed, and the nodes to which edges lead.
use Rattle.std.specs.Prelude.{◌≡◌, ℕ, Option, None, Some, slice_get}
use Rattle.op_model.specs.declared.node.NodeRef.{NodeRef}
use Rattle.op_model.specs.declared.node.Spot.TheVariants as spots
use Rattle.ground_views.specs.declared.path_edge.PathEdge.{PathEdge}
use Rattle.ground_views.specs.Views.{AreViewsOf}
use Rattle.edge_closure.specs.declared.room.Closing.{Closing}

-- The question is about a site, and the views are those of its ground.
pub record IsClosing (c : Closing) : Type 0 where
  pub site : slice_get c.question.now.ground.now.sites c.question.now.site.0 ≡ Some c.question.now.setting.site.now
  pub views : AreViewsOf c.question.now.ground.now c.question.now.entry c.views.now

-- The node to which an edge leads, if it leads to one.
pub data IsNodeOfEdge (e : PathEdge) : Option NodeRef → Type 0 where
  to_node : (offset : ℕ) → e.spot ≡ spots.Node offset → IsNodeOfEdge e (Some (record { method = e.method; offset = offset }))
  to_return : e.spot ≡ spots.Returned → IsNodeOfEdge e None
  to_throw : e.spot ≡ spots.Thrown → IsNodeOfEdge e None
