-- This crate's own proofs alone rest on this module.
-- What a call leads to as a node, in two parts: its chosen target, and the targets that it selects.
use Rattle.std.specs.Prelude.{◌≡◌, true, Option, Some, slice_get}
use Rattle.jvm_model.specs.declared.number.MethodNo.{MethodNo}
use Rattle.machine_nodes.specs.NodeSteps.{is_selecting_kind}
use Rattle.op_model.specs.declared.node.NodeRef.{NodeRef}
use Rattle.op_model.specs.declared.op.CallKind.{CallKind}
use Rattle.points_to_rules.specs.Facts.{Holder, may_call}
use Rattle.points_to_constraints.specs.Items.{CallSite, Item, known, dispatch, constrained}

-- The call of the node may go to the target that was chosen for it.
abbrev pub ChosenItem : NodeRef → Option MethodNo → Item → Type 0
ChosenItem at chosen x = (target : MethodNo) × (chosen ≡ Some target) × (x ≡ known (may_call at target))

-- A call of a kind that selects does so by the objects of its first argument.
abbrev pub SelectingItem : CallKind → CallSite → Item → Type 0
SelectingItem kind site x = (from : Holder) × (is_selecting_kind kind ≡ true) × (slice_get site.arguments 0 ≡ Some (Some from)) × (x ≡ constrained from (dispatch site))
