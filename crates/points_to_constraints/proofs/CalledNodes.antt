-- Where calls come from: each that is derivable is that of the entry, or of a node that calls.
use Rattle.std.proofs.Common.{◌≡◌, List, refl}
use Rattle.jvm_model.specs.declared.number.MethodNo.{MethodNo}
use Rattle.jvm_model.specs.Programs.{Program}
use Rattle.op_model.specs.declared.lowered.LoweredMethod.{LoweredMethod}
use Rattle.op_model.specs.declared.node.Node.{Node}
use Rattle.op_model.specs.declared.node.NodeRef.{NodeRef}
use Rattle.op_model.specs.declared.op.Call.{Call as NodeCall}
use Rattle.op_model.specs.declared.op.Op.TheVariants.{Call}
use Rattle.op_model.specs.Supplies.{GivenAs}
use Rattle.least_sets.specs.Rules.{Hold, IsDerivable}
use Rattle.least_sets.proofs.Derivations.{derivable_in_closed}
use Rattle.points_to_rules.specs.Facts.{Fact, may_hold, may_run, may_call, may_write}
use Rattle.points_to_rules.specs.Rules.{IsNodeOf, node_of, Instance, entry_called, call_chosen, call_selected}

-- a node that calls
pub record IsCallNode (gives : GivenAs) (call : NodeRef) : Type 0 where
  pub m : MethodNo
  pub l : LoweredMethod
  pub n : Node
  pub is_node : IsNodeOf gives m l n
  pub c : NodeCall
  pub is_call : n.op ≡ Call c
  pub at : call ≡ node_of m n

pub data IsCallOf (gives : GivenAs) (entry : MethodNo) (call : NodeRef) (target : MethodNo) : Type 0 where
  from_start : target ≡ entry → IsCallOf gives entry call target
  from_call : IsCallNode gives call → IsCallOf gives entry call target

-- if the fact is a call, it comes from there
abbrev ComesFrom : GivenAs → MethodNo → Fact → Type 0
ComesFrom gives entry (may_hold holder s) = Unit {0}
ComesFrom gives entry (may_run m) = Unit {0}
ComesFrom gives entry (may_call call target) = IsCallOf gives entry call target
ComesFrom gives entry (may_write m field) = Unit {0}

come_from : (p : Program) (gives : GivenAs) (entry : MethodNo) (premises : List Fact) (fact : Fact) → Instance p gives entry premises fact → Hold (ComesFrom gives entry) premises → ComesFrom gives entry fact
come_from p gives entry premises fact entry_called hold = from_start refl
come_from p gives entry premises fact (call_chosen m l n c target is_node is_call e) hold = from_call (record { m = m; l = l; n = n; is_node = is_node; c = c; is_call = is_call; at = refl })
come_from p gives entry premises fact (call_selected m l n c z from s target is_node is_call e slot selects) hold =
    from_call (record { m = m; l = l; n = n; is_node = is_node; c = c; is_call = is_call; at = refl })
come_from p gives entry premises fact instance hold = tt

pub call_comes_from : (p : Program) (gives : GivenAs) (entry : MethodNo) (call : NodeRef) (target : MethodNo) → IsDerivable (Instance p gives entry) (may_call call target) → IsCallOf gives entry call target
call_comes_from p gives entry call target derivable = derivable_in_closed (Instance p gives entry) (ComesFrom gives entry) (may_call call target) derivable (come_from p gives entry)
