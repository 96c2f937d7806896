use Rattle.std.proofs.Common.{take}
use Rattle.std.specs.List.{AllZip}
use Rattle.lowering.specs.Bodies.{IsOrderedAt}
use Rattle.lowering.proofs.lower.nodes.Given as goal

abbrev pub invariant-loop-number : goal.invariant-loop-number
invariant-loop-number l = AllZip (IsOrderedAt l.body) (take l.number l.steps) l.nodes.items
