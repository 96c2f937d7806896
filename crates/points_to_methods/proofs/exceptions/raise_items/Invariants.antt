use Rattle.std.proofs.Common.{◌≡◌, Some, take}
use Rattle.std.specs.List.{slice_get}
use Rattle.op_model.specs.declared.node.Node.{Node}
use Rattle.points_to_numbers.proofs.Adding.{OfOne}
use Rattle.points_to_numbers.specs.Steps.{Makes}
use Rattle.points_to_methods.specs.Raises.{RaisesOf}
use Rattle.points_to_methods.proofs.exceptions.raise_items.Given as goal

abbrev pub invariant-loop-class : goal.invariant-loop-class
invariant-loop-class l =
    (n : Node) → slice_get l.at.method.now.nodes l.node ≡ Some n
    → Makes l.fn.work.tables l.work.tables (OfOne (RaisesOf l.at.program.now l.at.method.now n) (take l.class-index l.class-items)) l.fn.work.steps.items l.work.steps.items
