-- This crate's own proofs alone rest on this module.
-- What methods that may run write by themselves, and what they call and start.
use Rattle.std.specs.Prelude.{◌≡◌, ◌↔◌, ◌⊎◌, ℕ, List, Contains, Some}
use Rattle.jvm_model.specs.declared.number.FieldNo.{FieldNo}
use Rattle.jvm_model.specs.declared.number.MethodNo.{MethodNo}
use Rattle.jvm_model.specs.Programs.{Program}
use Rattle.op_model.specs.declared.lowered.LoweredMethod.{LoweredMethod}
use Rattle.op_model.specs.declared.node.Node.{Node}
use Rattle.op_model.specs.declared.op.Op.TheVariants.{Store}
use Rattle.points_to_rules.specs.Rules.{StartsAt}
use Rattle.call_graph.specs.declared.edges.Edge.{Edge}
use Rattle.ground.specs.declared.lists.FieldWrite.{FieldWrite}
use Rattle.call_graph.specs.declared.sets.Sets.{Sets}
use Rattle.ground.specs.Added.{OfOne}
use Rattle.call_graph.specs.Sets.{IsTarget}

-- ---- what a node does

-- The node stores to the field.
abbrev pub StoresTo : Node → FieldNo → Type 0
StoresTo n field = (object value : ℕ) × (n.op ≡ Store object field value)

-- The node of the method goes to the callee.
abbrev pub GoesTo : Sets → MethodNo → Node → MethodNo → Type 0
GoesTo s m n callee = IsTarget s (record { method = Some m; offset = n.offset }) callee

-- It does, or it may start the callee.
abbrev pub LeadsTo : Program → Sets → MethodNo → Node → MethodNo → Type 0
LeadsTo p s m n callee = GoesTo s m n callee ⊎ StartsAt p n callee

-- ---- as what is added for it

abbrev pub IsStoreOf : MethodNo → Node → FieldWrite → Type 0
IsStoreOf m n w = (w.method ≡ m) × StoresTo n w.field

abbrev pub IsEdgeFrom : MethodNo → (MethodNo → Type 0) → Edge → Type 0
IsEdgeFrom m callee e = (e.caller ≡ m) × callee e.callee

abbrev pub IsEdgeOf : Program → Sets → MethodNo → Node → Edge → Type 0
IsEdgeOf p s m n e = IsEdgeFrom m (LeadsTo p s m n) e

-- The method may run, and one of its nodes has the relation to it.
abbrev pub OfRunning : {Y : Type 0} → List MethodNo → (MethodNo → Node → Y → Type 0) → LoweredMethod → Y → Type 0
OfRunning running R l y = Contains running l.method × OfOne (R l.method) l.nodes y

-- ---- what all methods do

-- A node of a listed method that may run.
pub record IsNodeThere (methods : List LoweredMethod) (running : List MethodNo) (m : MethodNo) (n : Node) : Type 0 where
  pub lowered : LoweredMethod
  pub listed : Contains methods lowered
  pub number : lowered.method ≡ m
  pub runs : Contains running m
  pub stands : Contains lowered.nodes n

-- The writes are what the nodes of methods that may run store to.
pub record AreStores (methods : List LoweredMethod) (running : List MethodNo) (writes : List FieldWrite) : Type 0 where
  pub each : (m : MethodNo) (field : FieldNo) → Contains writes (record { method = m; field = field }) ↔ ((n : Node) × IsNodeThere methods running m n × StoresTo n field)

-- The edges are what methods that may run call and start.
pub record AreEdges (p : Program) (methods : List LoweredMethod) (s : Sets) (edges : List Edge) : Type 0 where
  pub each : (callee caller : MethodNo) → Contains edges (record { callee = callee; caller = caller }) ↔ ((n : Node) × IsNodeThere methods s.running.keys caller n × LeadsTo p s caller n callee)
