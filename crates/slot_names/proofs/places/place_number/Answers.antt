use Rattle.std.proofs.Common.{◌≡◌, List, Some, slice_get, length, sym, ap, ◌∙◌, arith}
use Rattle.std.proofs.lemmas.Option.{slice_get_read}
use Rattle.op_model.specs.declared.node.Node.{Node}
use Rattle.slot_names.proofs.PlaceBounds.{place_below}
use Rattle.slot_names.proofs.places.place_number.Goals as goal

pub overflow_cast-result : goal.overflow_cast-result
overflow_cast-result c =
    let l = c.args.method.now in
    let n = c.index-as_slice-node.result in
    let at = slice_get_read c.as_slice.result.now (length l.nodes) c.args.node n (sym (ap (length {A = Node}) c.as_slice.ensures)) c.requires.there c.index-as_slice-node.is in
    let stands : slice_get l.nodes c.args.node ≡ Some n = ap (λ (ns : List Node). slice_get ns c.args.node) (sym c.as_slice.ensures) ∙ at in
    let below = place_below l c.requires.order c.args.node n stands in
    let same = ap (λ (m : Node). m.offset) c.index-as_slice-node.is in
    omega (arith, below, same, c.index-as_slice-node.element_fits)
