use Rattle.std.proofs.Common.{take}
use Rattle.std.specs.List.{All}
use Rattle.slot_names.specs.NamedNodes.{Grows, IsEntered, IsFollowedAt, IsNaming}
use Rattle.slot_names.proofs.naming.follow.Given as goal

-- the successors so far are entered, if this node alone leads there
abbrev pub invariant-loop-offset : goal.invariant-loop-offset
invariant-loop-offset l = record {
  naming : IsNaming l.method l.naming;
  grows : Grows l.initial.naming l.naming;
  entered : IsEntered l.naming.entries.items l.from;
  followed : All (IsFollowedAt l.method l.arrivals l.naming.entries.items l.from) (take l.offset-index l.offset-items);
}
