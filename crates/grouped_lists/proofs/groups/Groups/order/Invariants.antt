use Rattle.std.proofs.Common.{◌≡◌, length}
use Rattle.grouped_lists.proofs.OrderedValues.{AreOrderedBelow}
use Rattle.grouped_lists.proofs.groups.Groups.order.Given as goal

abbrev pub invariant-loop-number : goal.invariant-loop-number
invariant-loop-number g l = record {
  done : AreOrderedBelow g.V.PartialEq.eq g.V.Ord.cmp l.initial.self.groups.items l.self.groups.items l.number;
  long : length l.self.groups.items ≡ length l.initial.self.groups.items;
}
