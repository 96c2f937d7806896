use Rattle.std.proofs.Common.{[], take}
use Rattle.op_model.specs.Supplies.{IsSameSupply}
use Rattle.ground.specs.Added.{AreAdded, OfOne}
use Rattle.certificate_ground.specs.Reached.{AreGivenOf, IsReachedBy}
use Rattle.certificate_ground.proofs.reached.reached_of.Given as goal

abbrev pub invariant-loop-line : goal.invariant-loop-line
invariant-loop-line g l = record {
  running : AreAdded (OfOne IsReachedBy (take l.line-index l.lines)) [] l.reached.running.keys;
  given : AreGivenOf (g.S.Supply.gives l.initial.supply) l.reached.running.keys l.reached.methods.items;
  same : IsSameSupply (g.S.Supply.gives l.initial.supply) (g.S.Supply.gives l.supply);
}
