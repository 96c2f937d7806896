-- Public contracts rest on this module.
-- What follows from path edges, by one instance of a rule: from an edge to a node, and from it with an edge to an exit of a method that the node enters.
use Rattle.std.specs.Prelude.{◌≡◌, ℕ, List, Option, Some, Contains}
use Rattle.jvm_model.specs.declared.number.MethodNo.{MethodNo}
use Rattle.op_model.specs.declared.lowered.LoweredMethod.{LoweredMethod}
use Rattle.op_model.specs.declared.node.Node.{Node}
use Rattle.op_model.specs.declared.node.Spot.TheVariants as spots
use Rattle.op_model.specs.declared.op.Call.{Call as NodeCall}
use Rattle.op_model.specs.declared.op.Op.TheVariants.{Call}
use Rattle.op_model.specs.Supplies.{GivenAs}
use Rattle.machine_bytecode.specs.Objects.{Subject}
use Rattle.points_to_rules.specs.Facts.{Fact}
use Rattle.stage_facts.specs.Facts.{SiteFact}
use Rattle.stage_facts.specs.Plain.{fact_of}
use Rattle.stage_transfer.specs.Calls.{Entering, Result}
use Rattle.stage_transfer.specs.Settings.{Setting}
use Rattle.stage_transfer.specs.Stages.{Transfer, transfer_of}
use Rattle.stage_views.specs.declared.setting.StageSetting.{StageSetting}
use Rattle.stage_views.specs.Views.{IsSettingBy}
use Rattle.stage_edges.specs.Rules.{Edge, Instance, IsNode, edge}
use Rattle.node_ways.specs.declared.ways.NodeWays.{NodeWays}
use Rattle.node_ways.specs.Ways.{AreWaysOf}
use Rattle.edge_steps.specs.declared.conclusions.Conclusion.{Conclusion}
use Rattle.edge_steps.specs.declared.conclusions.EnteredWith.{EnteredWith}

-- ---- what is known of a node

-- At one node a transfer does what another does at another node.
pub record DoTheSame (t : Transfer) (l : LoweredMethod) (n : Node) (u : Transfer) (k : LoweredMethod) (o : Node) : Type 0 where
  pub next : (f : SiteFact) → t.next l n f ≡ u.next k o f
  pub raise : (handler : Option ℕ) (f : SiteFact) → t.raise l n handler f ≡ u.raise k o handler f
  pub event : (c : NodeCall) (f : SiteFact) → n.op ≡ Call c → t.event l n c f ≡ u.event k o c f
  pub answer : (c : NodeCall) (kept : List ℕ) (r : Result) (f : SiteFact) → n.op ≡ Call c → t.answer l n c kept r f ≡ u.answer k o c kept r f
  pub exception : (kept : List ℕ) (handler : Option ℕ) (f : SiteFact) → t.exception l n kept handler f ≡ u.exception k o kept handler f
  pub leave : (by : Entering) (target : MethodNo) (caller exit : SiteFact) → t.leave l n by target caller exit ≡ u.leave k o by target caller exit

-- The node that is looked at stands for this one of a method: it does the same, goes on at the same offsets, and these are the ways out of both. The
-- slots are known by a setting that is like this one, and by which the node that is looked at does what this one does.
pub record StandsFor (x : Subject) (S : Fact → Type 0) (w : Setting) (s : StageSetting) (Knows : Setting → LoweredMethod → Node → Type 0) (m : Option MethodNo)
    (looked_at : Node) (ways : NodeWays) (l : LoweredMethod) (n : Node) : Type 0 where
  pub op : n.op ≡ looked_at.op
  pub successors : n.successors ≡ looked_at.successors
  pub are_ways : AreWaysOf x S m l n ways
  pub lowered : LoweredMethod
  pub setting : Setting
  pub like : IsSettingBy s setting
  pub known : Knows setting lowered looked_at
  pub same : DoTheSame (transfer_of setting) lowered looked_at (transfer_of w) l n

-- It stands for each node of the method at its offset, and there is one.
pub record IsLookedAt (x : Subject) (gives : GivenAs) (S : Fact → Type 0) (w : Setting) (s : StageSetting) (Knows : Setting → LoweredMethod → Node → Type 0)
    (m : Option MethodNo) (looked_at : Node) (ways : NodeWays) : Type 0 where
  pub each : (l : LoweredMethod) (n : Node) → IsNode x gives m l n → n.offset ≡ looked_at.offset → StandsFor x S w s Knows m looked_at ways l n
  pub method : LoweredMethod
  pub node : Node
  pub stands : IsNode x gives m method node
  pub at : node.offset ≡ looked_at.offset

-- ---- what follows

-- Within the method, an edge with the same entry follows.
abbrev pub within : Option MethodNo → SiteFact → Conclusion → Edge
within m e c = edge m e c.spot (fact_of c.fact)

-- A method begins with what it is entered with.
abbrev pub begun : EnteredWith → Edge
begun b = edge (Some b.method) (fact_of b.fact) (spots.Node 0) (fact_of b.fact)

-- The edge is one of these.
pub data IsOneOf (m : Option MethodNo) (e : SiteFact) (conclusions : List Conclusion) (entered : List EnteredWith) : Edge → Type 0 where
  goes : (c : Conclusion) → Contains conclusions c → IsOneOf m e conclusions entered (within m e c)
  begins : (b : EnteredWith) → Contains entered b → IsOneOf m e conclusions entered (begun b)

-- By one instance just these follow from the premises, whatever the method is entered with.
pub record AreFollowing (x : Subject) (gives : GivenAs) (S : Fact → Type 0) (t : Transfer) (m : Option MethodNo) (premises : SiteFact → List Edge)
    (conclusions : List Conclusion) (entered : List EnteredWith) : Type 0 where
  pub within_follow : (c : Conclusion) (e : SiteFact) → Contains conclusions c → Instance x gives S t (premises e) (within m e c)
  pub begun_follow : (b : EnteredWith) (e : SiteFact) → Contains entered b → Instance x gives S t (premises e) (begun b)
  pub all : (e : SiteFact) (to : Edge) → Instance x gives S t (premises e) to → IsOneOf m e conclusions entered to
