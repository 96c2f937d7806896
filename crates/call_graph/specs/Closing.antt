-- This crate's own proofs alone rest on this module.
-- What a method may write, by what methods write by themselves and by who calls or starts whom.
use Rattle.std.specs.Prelude.{◌≡◌, ◌↔◌, List, Contains}
use Rattle.std.specs.declared.alloc.Global.{Global}
use Rattle.std.specs.declared.vec.Vec.{Vec}
use Rattle.jvm_model.specs.declared.number.FieldNo.{FieldNo}
use Rattle.jvm_model.specs.declared.number.MethodNo.{MethodNo}
use Rattle.grouped_lists.specs.Groups.{values_at}
use Rattle.call_graph.specs.declared.edges.Edge.{Edge}
use Rattle.ground.specs.declared.lists.FieldWrite.{FieldWrite}

pub data MayWrite (own : List FieldWrite) (edges : List Edge) : MethodNo → FieldNo → Type 0 where
  by_itself : (m : MethodNo) (field : FieldNo) → Contains own (record { method = m; field = field }) → MayWrite own edges m field
  by_callee : (callee caller : MethodNo) (field : FieldNo) → Contains edges (record { callee = callee; caller = caller }) → MayWrite own edges callee field
      → MayWrite own edges caller field

-- The writes are all of these.
pub record AreClosed (own : List FieldWrite) (edges : List Edge) (writes : List FieldWrite) : Type 0 where
  pub each : (m : MethodNo) (field : FieldNo) → Contains writes (record { method = m; field = field }) ↔ MayWrite own edges m field

-- At the number of each method its callers are listed.
pub record AreCallers (edges : List Edge) (callers : List (Vec MethodNo Global)) : Type 0 where
  pub each : (callee caller : MethodNo) → Contains (values_at callers callee.0) caller ↔ Contains edges (record { callee = callee; caller = caller })

-- One of the callers writes the field.
abbrev pub IsWriteOfOne : List MethodNo → FieldNo → FieldWrite → Type 0
IsWriteOfOne callers field w = Contains callers w.method × (w.field ≡ field)
