-- Public contracts rest on this module.
-- How one looks at the nodes to which edges lead.
use Rattle.std.specs.Prelude.{◌≡◌, ◌≤◌, ◌^◌, ◌+◌, ◌∷◌, ℕ, List, Contains, None, Some, length, slice_get}
use Rattle.std.specs.declared.alloc.Global.{Global}
use Rattle.std.specs.declared.vec.Vec.{Vec}
use Rattle.failure.specs.declared.Failure.{Failure}
use Rattle.failure.specs.declared.Failure.TheVariants.{Cause, OutOfMemory}
use Rattle.jvm_model.specs.declared.number.MethodNo.{MethodNo}
use Rattle.op_model.specs.declared.lowered.LoweredMethod.{LoweredMethod}
use Rattle.op_model.specs.declared.node.Node.{Node}
use Rattle.op_model.specs.declared.node.NodeRef.{NodeRef}
use Rattle.op_model.specs.declared.op.Call.{Call as NodeCall}
use Rattle.op_model.specs.declared.op.Op.TheVariants.{Call}
use Rattle.machine_bytecode.specs.Objects.{Subject}
use Rattle.machine_nodes.specs.Nodes.{AreStartNodes, IsStartCall, IsStartReturn}
use Rattle.ground.specs.Findings.{Findings, gives_listed}
use Rattle.stage_facts.specs.Facts.{SiteFact}
use Rattle.stage_transfer.specs.Settings.{Setting}
use Rattle.stage_transfer.specs.Stages.{transfer_of}
use Rattle.stage_edges.specs.Rules.{Edge, before, edge}
use Rattle.node_ways.specs.declared.ways.NodeWays.{NodeWays}
use Rattle.node_ways.specs.Ways.{AreWaysOf}
use Rattle.edge_steps.specs.declared.conclusions.Conclusion.{Conclusion}
use Rattle.edge_steps.specs.declared.conclusions.EnteredWith.{EnteredWith}
use Rattle.edge_steps.specs.Steps.{AreFollowing, IsLookedAt}
use Rattle.ground_views.specs.declared.fault.EdgesFault.{EdgesFault}
use Rattle.ground_views.specs.declared.fault.EdgesFault.TheVariants.{Limit, TooMany}
use Rattle.ground_views.specs.declared.question.Question.{Question}
use Rattle.ground_views.specs.declared.viewed_node.ViewedNode.{ViewedNode}
use Rattle.ground_views.specs.declared.views.GroundViews.{GroundViews}
use Rattle.ground_views.specs.Known.{KnownOf}
use Rattle.ground_views.specs.Questions.{HasTooMany, IsAskedOf}

-- ---- what is worked out once

-- The method is the start of the program, with this entry.
pub record IsStartOf (g : Findings) (entry : MethodNo) (l : LoweredMethod) : Type 0 where
  pub nodes : (x : Subject) → x.program ≡ g.program → x.entry ≡ entry.0 → AreStartNodes x l.nodes
  pub slots : l.slots ≡ 0
  pub stack : l.stack ≡ 0
  pub params : l.params ≡ 0

-- 32 bits count the slots of a method.
pub record HasFewSlots (l : LoweredMethod) : Type 0 where
  pub few : l.slots + l.stack ≤ 4294967295

-- A call has no more units of arguments than there are slots.
abbrev pub HasFewArguments : Node → Type 0
HasFewArguments n = (c : NodeCall) → n.op ≡ Call c → length c.arguments ≤ 2 ^ 32

-- Two lists are as long, and at each place one has what belongs to what the other has.
pub record AreOneForOne {X Y : Type 0} (Belongs : X → Y → Type 0) (xs : List X) (ys : List Y) : Type 0 where
  pub count : length xs ≡ length ys
  pub each : (k : ℕ) (x : X) (y : Y) → slice_get xs k ≡ Some x → slice_get ys k ≡ Some y → Belongs x y

-- These are the ways out of a node of the start of the program.
pub record AreStartWays (g : Findings) (n : Node) (ways : NodeWays) : Type 0 where
  pub call : (x : Subject) (l : LoweredMethod) (o : Node) → x.program ≡ g.program → IsStartCall x n → IsStartCall x o → AreWaysOf x (Contains g.facts) None l o ways
  pub returning : (x : Subject) (l : LoweredMethod) (o : Node) → x.program ≡ g.program → IsStartReturn n → IsStartReturn o → AreWaysOf x (Contains g.facts) None l o ways

-- These are the ways out of a node of a method, and it is no call with too many arguments.
pub record AreNodeWays (g : Findings) (l : LoweredMethod) (n : Node) (ways : NodeWays) : Type 0 where
  pub few : HasFewArguments n
  pub each : (x : Subject) → x.program ≡ g.program → AreWaysOf x (Contains g.facts) (Some l.method) l n ways

-- These are the ways out of the nodes of a method, and it has not too many slots.
pub record AreMethodWays (g : Findings) (l : LoweredMethod) (ways : List NodeWays) : Type 0 where
  pub few : HasFewSlots l
  pub nodes : AreOneForOne (AreNodeWays g l) l.nodes ways

-- These are the ways out of the nodes of each method.
abbrev pub AreWaysOfMethods : Findings → List LoweredMethod → List (Vec NodeWays Global) → Type 0
AreWaysOfMethods g methods ways = AreOneForOne (λ (l : LoweredMethod) (row : Vec NodeWays Global). AreMethodWays g l row.items) methods ways

-- The views are those of the ground, and of the start with this entry.
pub record AreViewsOf (g : Findings) (entry : MethodNo) (views : GroundViews) : Type 0 where
  pub start : IsStartOf g entry views.start
  pub start_ways : AreOneForOne (AreStartWays g) views.start.nodes views.start_ways.items
  pub methods : AreWaysOfMethods g g.methods views.ways.items

-- 32 bits do not count something; or memory ran out.
abbrev pub IsViewsEnd : Findings → Failure EdgesFault → Type 0
IsViewsEnd g (Cause Limit) = ⊥
IsViewsEnd g (Cause TooMany) = HasTooMany g
IsViewsEnd g OutOfMemory = Unit {0}

-- ---- what is seen

-- This is the node that is meant; and this is how one looks at it, for each subject and setting of which it is asked.
pub record IsSeen (q : Question) (node : NodeRef) (k : ViewedNode) : Type 0 where
  pub method : k.method ≡ node.method
  pub offset : k.node.now.offset ≡ node.offset
  pub few : HasFewArguments k.node.now
  pub looked_at : (x : Subject) (w : Setting) → IsAskedOf q x w
      → IsLookedAt x (gives_listed q.ground.now.methods) (Contains q.ground.now.facts) w q.setting (KnownOf k.slots) k.method k.node.now k.ways.now

-- For each subject and setting of which it is asked, just the conclusions follow by one instance from an edge to the node with this fact, and further premises.
pub record FollowAt (q : Question) (k : ViewedNode) (f : SiteFact) (rest : List Edge) (conclusions : List Conclusion) (entered : List EnteredWith) : Type 0 where
  pub each : (x : Subject) (w : Setting) → IsAskedOf q x w → AreFollowing x (gives_listed q.ground.now.methods) (Contains q.ground.now.facts) (transfer_of w) k.method
      (λ (e : SiteFact). edge k.method e (before k.node.now) f ∷ rest) conclusions entered
