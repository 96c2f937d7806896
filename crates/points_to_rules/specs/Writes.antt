-- Public contracts rest on this module.
-- The rules of what each method may write: the instance fields that its own nodes store to, and those of its targets and of the initialisers
-- that it may start; and all rules together.
use Rattle.std.specs.Prelude.{◌≡◌, ◌⊎◌, ℕ, List, [], ◌∷◌}
use Rattle.jvm_model.specs.declared.number.FieldNo.{FieldNo}
use Rattle.jvm_model.specs.declared.number.MethodNo.{MethodNo}
use Rattle.jvm_model.specs.Programs.{Program}
use Rattle.op_model.specs.declared.lowered.LoweredMethod.{LoweredMethod}
use Rattle.op_model.specs.declared.node.Node.{Node}
use Rattle.op_model.specs.declared.op.Op.TheVariants.{Store}
use Rattle.op_model.specs.Supplies.{GivenAs}
use Rattle.points_to_rules.specs.Facts.{Fact, may_run, may_call, may_write}
use Rattle.points_to_rules.specs.Rules.{IsNodeOf, node_of, StartsAt, Instance}

pub data WriteInstance (p : Program) (gives : GivenAs) : List Fact → Fact → Type 0 where
  write : (m : MethodNo) (l : LoweredMethod) (n : Node) (object value : ℕ) (field : FieldNo) → IsNodeOf gives m l n
      → n.op ≡ Store object field value → WriteInstance p gives (may_run m ∷ []) (may_write m field)
  target_writes : (m : MethodNo) (l : LoweredMethod) (n : Node) (target : MethodNo) (field : FieldNo) → IsNodeOf gives m l n
      → WriteInstance p gives (may_run m ∷ may_call (node_of m n) target ∷ may_write target field ∷ []) (may_write m field)
  initialiser_writes : (m : MethodNo) (l : LoweredMethod) (n : Node) (i : MethodNo) (field : FieldNo) → IsNodeOf gives m l n
      → StartsAt p n i → WriteInstance p gives (may_run m ∷ may_write i field ∷ []) (may_write m field)

-- An instance of any rule.
abbrev pub AnyInstance : Program → GivenAs → MethodNo → List Fact → Fact → Type 0
AnyInstance p gives entry premises fact = Instance p gives entry premises fact ⊎ WriteInstance p gives premises fact
