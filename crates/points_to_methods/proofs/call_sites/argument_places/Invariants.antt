use Rattle.std.proofs.Common.{◌≡◌, Some, slice_get, take}
use Rattle.std.specs.List.{AllZip}
use Rattle.op_model.specs.declared.node.Node.{Node}
use Rattle.points_to_methods.specs.CallEntries.{GrowsTo, StandsForUnit}
use Rattle.points_to_methods.proofs.call_sites.argument_places.Given as goal

abbrev pub invariant-loop-argument : goal.invariant-loop-argument
invariant-loop-argument l = (n : Node) → slice_get l.at.method.now.nodes l.node ≡ Some n
    → GrowsTo (λ numbered. AllZip (StandsForUnit l.at.method.now n numbered) (take l.argument-index l.arguments) l.places.items) l.fn.tables l.tables
