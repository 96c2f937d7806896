-- Public contracts rest on this module.
-- Methods as the analysis takes them: their nodes are all reached and read their own slots, and what nodes name stands for something in the
-- program.
use Rattle.std.specs.Prelude.{◌≡◌, ℕ, ◌+◌, ◌<◌, Some, Ok, All, Contains}
use Rattle.jvm_model.specs.declared.number.ClassNo.{ClassNo}
use Rattle.jvm_model.specs.declared.number.FieldNo.{FieldNo}
use Rattle.jvm_model.specs.declared.number.MethodNo.{MethodNo}
use Rattle.jvm_model.specs.declared.site.Site.{Site}
use Rattle.jvm_model.specs.Programs.{Program}
use Rattle.program_model.specs.Numbers.{IsClassNumber, IsFieldNumber, IsMethodNumber}
use Rattle.op_model.specs.declared.lowered.LoweredMethod.{LoweredMethod}
use Rattle.op_model.specs.declared.node.Node.{Node}
use Rattle.op_model.specs.declared.node.NodeHandler.{NodeHandler}
use Rattle.op_model.specs.declared.op.Call.{Call as NodeCall}
use Rattle.op_model.specs.declared.op.Op.TheVariants.{LoadStatic, Constant, Call}
use Rattle.op_model.specs.Supplies.{Given, GivenAs, IsCodedMethod}
use Rattle.machine_bytecode.specs.Start.{boot_site}
use Rattle.slot_names.specs.Variables.{AreReachedNodes}
use Rattle.points_to_rules.specs.ReadSlots.{read_slots}

-- There is a node at the offset.
pub record HasNodeAt (l : LoweredMethod) (offset : ℕ) : Type 0 where
  pub node : Node
  pub stands : Contains l.nodes node
  pub at : node.offset ≡ offset

-- The numbers that a node names stand for something in the program.
pub record NamesNumbers (p : Program) (n : Node) : Type 0 where
  pub throws : (c : ClassNo) → Contains n.throws c → IsClassNumber p c.0
  pub trigger : (c : ClassNo) → n.trigger ≡ Some c → IsClassNumber p c.0
  pub catches : (h : NodeHandler) (c : ClassNo) → Contains n.handlers h → h.catch ≡ Some c → IsClassNumber p c.0
  pub statics : (field : FieldNo) (target : ℕ) → n.op ≡ LoadStatic field target → IsFieldNumber p field.0
  pub resolved : (c : NodeCall) → n.op ≡ Call c → IsMethodNumber p c.resolved.0
  pub chosen : (c : NodeCall) (target : MethodNo) → n.op ≡ Call c → c.chosen ≡ Some target → IsMethodNumber p target.0

-- A method of a program, as nodes: it has the number that was asked for, and a class file has its code; its nodes are all reached, and nodes
-- stand where a node goes on and where a handler begins; nodes read its own slots and name numbers that stand for something in the program, and
-- the object that stands for a constant is one of those that are there from the start.
pub record IsWholeMethod (p : Program) (number : ℕ) (l : LoweredMethod) : Type 0 where
  pub coded : IsCodedMethod p number
  pub number_is : l.method ≡ record { 0 = number }
  pub reached : AreReachedNodes l
  pub successors : (n : Node) (offset : ℕ) → Contains l.nodes n → Contains n.successors offset → HasNodeAt l offset
  pub handlers : (n : Node) (handler : NodeHandler) → Contains l.nodes n → Contains n.handlers handler → HasNodeAt l handler.target
  pub reads : (n : Node) (z : ℕ) → Contains l.nodes n → Contains (read_slots n.op) z → z < l.slots + l.stack
  pub constants : (n : Node) (s : Site) (target : ℕ) → Contains l.nodes n → n.op ≡ Constant s target → s ≡ boot_site s.class
  pub numbers : All (NamesNumbers p) l.nodes

-- Whatever is given as nodes is such a method.
abbrev pub AreWholeMethods : Program → GivenAs → Type 0
AreWholeMethods p gives = (number : ℕ) (l : LoweredMethod) → gives number (Ok l) → IsWholeMethod p number l

-- What a map has, as what a supplier gives.
abbrev pub as_given : Given → GivenAs
as_given given number answer = given number ≡ Some answer
