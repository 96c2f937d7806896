use Rattle.std.proofs.Common.{◌-◌, length}
use Rattle.slot_names.specs.NamedNodes.{HasRoots, IsNaming}
use Rattle.slot_names.proofs.ReachedNodes.{AreFollowed}
use Rattle.slot_names.proofs.naming.enter_all.Given as goal

-- the nodes of the order so far are followed
abbrev pub invariant-loop-done : goal.invariant-loop-done
invariant-loop-done l = record {
  naming : IsNaming l.method l.naming;
  roots : HasRoots l.method l.arrivals (length l.method.nodes) l.naming.entries.items;
  followed : AreFollowed l.method l.arrivals l.naming l.done;
}

abbrev pub decreases-loop-done : goal.decreases-loop-done
decreases-loop-done l = length l.method.nodes - l.done
