-- How far a node's place goes.
use Rattle.std.proofs.Common.{◌≡◌, ℕ, zero, suc, ◌<◌, ◌≤◌, Some, arith}
use Rattle.std.specs.List.{slice_get}
use Rattle.std.proofs.lemmas.Option.{slice_get_within}
use Rattle.list_laws.proofs.Places.{stands_below}
use Rattle.op_model.specs.declared.lowered.LoweredMethod.{LoweredMethod}
use Rattle.op_model.specs.declared.node.Node.{Node}
use Rattle.slot_names.specs.NodePlaces.{AreInOrder}

-- a node's place is at most its offset
pub place_below : (l : LoweredMethod) → AreInOrder l → (k : ℕ) (n : Node) → slice_get l.nodes k ≡ Some n → k ≤ n.offset
place_below l order zero n at = omega arith
place_below l order (suc k) n at =
    let within = slice_get_within l.nodes (suc k) n at in
    let (m, before) = stands_below l.nodes k (omega (arith, within)) in
    let less : k < suc k = omega arith in
    let one = order.ascend k (suc k) m n less before at in
    let rest = place_below l order k m before in
    omega (arith, one, rest)
