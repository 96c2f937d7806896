-- Public contracts rest on this module.
-- Where the objects of an execution are made, by a set of facts: from the start; at the nodes of the methods that may run; and, before the entry
-- is called, by its initialisation.
use Rattle.std.specs.Prelude.{◌≡◌, ℕ, List, None, Contains}
use Rattle.jvm_model.specs.declared.number.ClassNo.{ClassNo}
use Rattle.jvm_model.specs.declared.number.MethodNo.{MethodNo}
use Rattle.jvm_model.specs.declared.site.Site.{Site}
use Rattle.jvm_model.specs.declared.site.SiteKind.TheVariants as kinds
use Rattle.jvm_model.specs.declared.stub.StubMethod.{StubMethod}
use Rattle.jvm_model.specs.declared.stub.StubResult.TheVariants as results
use Rattle.jvm_model.specs.Programs.{Program}
use Rattle.op_model.specs.declared.lowered.LoweredMethod.{LoweredMethod}
use Rattle.op_model.specs.declared.node.Node.{Node}
use Rattle.op_model.specs.declared.op.Call.{Call as NodeCall}
use Rattle.op_model.specs.declared.op.Op.TheVariants.{New, NewArray, Call}
use Rattle.op_model.specs.Supplies.{GivenAs}
use Rattle.machine_bytecode.specs.Start.{boot_classes, boot_site}
use Rattle.machine_nodes.specs.Nodes.{IsClassNumber, IsInitialisationError}
use Rattle.points_to_rules.specs.Calls.{IsDescribedBy}
use Rattle.points_to_rules.specs.Facts.{Fact, may_run, may_call}
use Rattle.points_to_rules.specs.Rules.{IsNodeOf, node_of, site_of, argument_site}

-- A node makes objects of the site: itself, or by a method that a stub describes, as a result or to be thrown; or it throws them.
pub data IsMadeAt (p : Program) (S : Fact → Type 0) (m : MethodNo) (n : Node) (s : Site) : Type 0 where
  of_new : (target : ℕ) → n.op ≡ New s target → IsMadeAt p S m n s
  of_new_array : (sites : List Site) (target : ℕ) → n.op ≡ NewArray sites target → Contains sites s → IsMadeAt p S m n s
  of_result : (c : NodeCall) (target : MethodNo) (stub : StubMethod) (class : List ℕ) → n.op ≡ Call c → S (may_call (node_of m n) target) → IsDescribedBy p target stub
      → Contains stub.returns (results.New class) → s ≡ site_of kinds.Result m n class → IsMadeAt p S m n s
  of_thrown : (c : NodeCall) (target : MethodNo) (stub : StubMethod) (class : List ℕ) → n.op ≡ Call c → S (may_call (node_of m n) target) → IsDescribedBy p target stub
      → Contains stub.throws class → s ≡ site_of kinds.Thrown m n class → IsMadeAt p S m n s
  of_raised : (number : ClassNo) (class : List ℕ) → Contains n.throws number → IsClassNumber p number class → s ≡ site_of kinds.Thrown m n class → IsMadeAt p S m n s

-- The site of an object that is there from the start, or that a node makes of a method that may run; or of an error that is thrown before the
-- entry is called.
pub data IsSite (p : Program) (gives : GivenAs) (S : Fact → Type 0) (s : Site) : Type 0 where
  of_start : (class : List ℕ) → Contains (boot_classes p) class → s ≡ boot_site class → IsSite p gives S s
  of_arguments : s ≡ argument_site → IsSite p gives S s
  of_node : (m : MethodNo) (l : LoweredMethod) (n : Node) → S (may_run m) → IsNodeOf gives m l n → IsMadeAt p S m n s → IsSite p gives S s
  before_entry : (class : List ℕ) → IsInitialisationError class → s ≡ record { kind = kinds.Thrown; method = None; offset = 0; class = class } → IsSite p gives S s
