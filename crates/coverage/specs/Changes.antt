-- Public contracts rest on this module.
-- What a method may have changed while its frame, or one above it, is the newest: only instance fields that the set has among its writes.
use Rattle.std.specs.Prelude.{◌≡◌, ◌⊎◌, ℕ, ◌≤◌, List, ◌∷◌, length, Some, slice_get, Contains}
use Rattle.std.specs.List.{AllByRecursion}
use Rattle.jvm_model.specs.declared.number.FieldNo.{FieldNo}
use Rattle.jvm_model.specs.declared.number.MethodNo.{MethodNo}
use Rattle.op_model.specs.Supplies.{Given}
use Rattle.machine_bytecode.specs.Objects.{Subject}
use Rattle.machine_bytecode.specs.States.{Value, fields, Object, Frame, State}
use Rattle.machine_nodes.specs.NodeExecutions.{AreNodeSteps, IsNodeExecution}
use Rattle.points_to_rules.specs.Facts.{Fact, may_write}

-- The object has fields as before, or others where they may be written.
pub record HasFields (Written : FieldNo → Type 0) (before : ℕ → Value) (o : Object) : Type 0 where
  pub after : ℕ → Value
  pub holds : o.contents ≡ fields after
  pub each : (field : FieldNo) → (after field.0 ≡ before field.0) ⊎ Written field

-- The object is at its place still, and so are its fields, but for those that may be written.
pub record KeepsFields (Written : FieldNo → Type 0) (before : Object) (heap : List Object) (place : ℕ) : Type 0 where
  pub object : Object
  pub held : slice_get heap place ≡ Some object
  pub in_fields : (values : ℕ → Value) → before.contents ≡ fields values → HasFields Written values object

abbrev pub ChangesOnly : (FieldNo → Type 0) → List Object → List Object → Type 0
ChangesOnly Written before after = (place : ℕ) (o : Object) → slice_get before place ≡ Some o → KeepsFields Written o after place

-- No state has fewer frames.
abbrev pub StayAbove : ℕ → List State → Type 0
StayAbove depth states = AllByRecursion (λ (t : State). depth ≤ length t.frames) states

-- From a state of an execution on, as long as its newest frame is there, only what the frame's method may write changes.
abbrev pub ChangesAreWritten : Subject → Given → (Fact → Type 0) → Type 0
ChangesAreWritten x given S =
    (earlier : List State) → IsNodeExecution x given earlier → (s : State) → Contains earlier s → (f : Frame) (below : List Frame) (m : MethodNo) → s.frames ≡ f ∷ below → f.method ≡ Some m.0
    → (states : List State) → AreNodeSteps x given s states → StayAbove (length s.frames) states → (t : State) → Contains (s ∷ states) t
    → ChangesOnly (λ field. S (may_write m field)) s.world.heap t.world.heap
