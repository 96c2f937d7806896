-- Public contracts rest on this module.
-- The path edges of a site by a ground: what is asked for, and why there is no answer.
use Rattle.std.specs.Prelude.{◌≡◌, ◌<◌, ◌^◌, ◌+◌, List, map, length, Some, Contains}
use Rattle.failure.specs.declared.Failure.{Failure}
use Rattle.failure.specs.declared.Failure.TheVariants.{Cause, OutOfMemory}
use Rattle.op_model.specs.declared.lowered.LoweredMethod.{LoweredMethod}
use Rattle.op_model.specs.declared.node.Node.{Node}
use Rattle.op_model.specs.declared.op.Call.{Call as NodeCall}
use Rattle.op_model.specs.declared.op.Op.TheVariants.{Call}
use Rattle.machine_bytecode.specs.Objects.{Subject}
use Rattle.least_sets.specs.Parts.{HasAtLeast}
use Rattle.ground.specs.Findings.{Findings, gives_listed}
use Rattle.stage_facts.specs.Plain.{fact_of}
use Rattle.stage_transfer.specs.Settings.{Setting}
use Rattle.stage_views.specs.Views.{IsSettingBy}
use Rattle.stage_edges.specs.Edges.{IsSettingOf, StageInstance}
use Rattle.stage_edges.specs.Rules.{Edge, edge}
use Rattle.ground_views.specs.declared.fault.EdgesFault.{EdgesFault}
use Rattle.ground_views.specs.declared.fault.EdgesFault.TheVariants.{Limit, TooMany}
use Rattle.ground_views.specs.declared.path_edge.PathEdge.{PathEdge}
use Rattle.ground_views.specs.declared.question.Question.{Question}

-- The edge that a value stands for.
abbrev pub edge_of : PathEdge → Edge
edge_of e = edge e.method (fact_of e.entry) e.spot (fact_of e.fact)

abbrev pub edges_in : List PathEdge → List Edge
edges_in edges = map edge_of edges

-- It is asked of this subject and in this setting.
pub record IsAskedOf (q : Question) (x : Subject) (w : Setting) : Type 0 where
  pub program : x.program ≡ q.ground.now.program
  pub entry : x.entry ≡ q.entry.0
  pub like : IsSettingBy q.setting w
  pub setting : IsSettingOf x (Contains q.ground.now.facts) w

-- The rules by the facts and the methods of the ground.
abbrev pub GroundInstance : Question → Subject → Setting → List Edge → Edge → Type 0
GroundInstance q x w = StageInstance x (gives_listed q.ground.now.methods) (Contains q.ground.now.facts) w

-- 32 bits do not count the slots of a method, or the units of the arguments of a call.
pub data HasTooMany (g : Findings) : Type 0 where
  slots : (l : LoweredMethod) → Contains g.methods l → 4294967295 < l.slots + l.stack → HasTooMany g
  arguments : (l : LoweredMethod) (n : Node) (c : NodeCall) → Contains g.methods l → Contains l.nodes n → n.op ≡ Call c → 2 ^ 32 < length c.arguments → HasTooMany g

-- There are at least so many path edges; or 32 bits do not count something; or memory ran out.
abbrev pub IsEdgesEnd : Question → Failure EdgesFault → Type 0
IsEdgesEnd q (Cause Limit) = (x : Subject) (w : Setting) → IsAskedOf q x w → HasAtLeast (GroundInstance q x w) (λ (e : Edge). Some e) q.limit
IsEdgesEnd q (Cause TooMany) = HasTooMany q.ground.now
IsEdgesEnd q OutOfMemory = Unit {0}
