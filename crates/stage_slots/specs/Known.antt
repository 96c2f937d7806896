-- Public contracts rest on this module.
-- What is known of the slots at a node, and when it is what a setting answers.
use Rattle.std.specs.Prelude.{◌≡◌, ◌<◌, length, Some, slice_get, Contains}
use Rattle.jvm_model.specs.declared.number.SiteNo.{SiteNo}
use Rattle.op_model.specs.declared.lowered.LoweredMethod.{LoweredMethod}
use Rattle.op_model.specs.declared.node.Node.{Node}
use Rattle.slot_names.specs.Variables.{AreReachedNodes}
use Rattle.stage_transfer.specs.Settings.{AreAnswersOf, Setting}
use Rattle.ground.specs.declared.node_place.NodePlace.{NodePlace}
use Rattle.ground.specs.Findings.{Findings}

-- The ground; the place of the node; its method; and the number of the site.
pub record KnownNode : Type 0 where
  pub ground : Findings
  pub at : NodePlace
  pub method : LoweredMethod
  pub site : SiteNo

-- The node stands at the place, in this method, whose nodes are all reached.
pub record HasReachedNode (g : Findings) (at : NodePlace) (l : LoweredMethod) : Type 0 where
  pub stands : slice_get g.methods at.method ≡ Some l
  pub within : at.node < length l.nodes
  pub reached : AreReachedNodes l

-- It is known of this node, of the method at that place, for the site of the number.
pub record IsOf (g : Findings) (at : NodePlace) (site : SiteNo) (k : KnownNode) : Type 0 where
  pub ground : k.ground ≡ g
  pub place : k.at ≡ at
  pub method : slice_get g.methods at.method ≡ Some k.method
  pub number : k.site ≡ site

-- The setting is about the site, its answers are those of the facts of the ground, and this is the node of the method.
pub record IsKnownIn (k : KnownNode) (w : Setting) (l : LoweredMethod) (n : Node) : Type 0 where
  pub method : l ≡ k.method
  pub node : slice_get k.method.nodes k.at.node ≡ Some n
  pub site : slice_get k.ground.sites k.site.0 ≡ Some w.site
  pub answers : AreAnswersOf (Contains k.ground.facts) w.answers
