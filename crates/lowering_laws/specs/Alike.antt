-- Public contracts rest on this module.
-- Operations, nodes and methods that differ in the order and the repeats in lists alone: of moves, of successors and of thrown classes.
use Rattle.std.specs.Prelude.{◌≡◌, ◌↔◌, List, Contains}
use Rattle.std.specs.List.{AllZip}
use Rattle.op_model.specs.declared.lowered.LoweredMethod.{LoweredMethod}
use Rattle.op_model.specs.declared.node.Node.{Node}
use Rattle.op_model.specs.declared.op.Move.{Move}
use Rattle.op_model.specs.declared.op.Op.{Op}
use Rattle.op_model.specs.declared.op.Op.TheVariants.{Assign}

-- The lists have the same members, in any order and each any number of times.
pub record HaveSame {A : Type 0} (xs ys : List A) : Type 0 where
  pub each : (x : A) → Contains xs x ↔ Contains ys x

-- The operations are equal, or both make the same moves.
pub data AlikeOps (a b : Op) : Type 0 where
  equal : a ≡ b → AlikeOps a b
  by_moves : (xs ys : List Move) → a ≡ Assign xs → b ≡ Assign ys → HaveSame xs ys → AlikeOps a b

-- The nodes are equal but for the order and the repeats of moves, of successors and of thrown classes.
pub record AlikeNodes (a b : Node) : Type 0 where
  pub offset : a.offset ≡ b.offset
  pub op : AlikeOps a.op b.op
  pub successors : HaveSame a.successors b.successors
  pub handlers : a.handlers ≡ b.handlers
  pub trigger : a.trigger ≡ b.trigger
  pub throws : HaveSame a.throws b.throws

-- The methods are equal but for those in their nodes.
pub record AlikeMethods (a b : LoweredMethod) : Type 0 where
  pub method : a.method ≡ b.method
  pub slots : a.slots ≡ b.slots
  pub stack : a.stack ≡ b.stack
  pub params : a.params ≡ b.params
  pub nodes : AllZip AlikeNodes a.nodes b.nodes
