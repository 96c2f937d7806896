use Rattle.slot_names.specs.NamedNodes.{HasRoots, IsNaming}
use Rattle.slot_names.proofs.naming.begin.Given as goal

-- the roots so far are entered
abbrev pub invariant-loop-place : goal.invariant-loop-place
invariant-loop-place l = record {
  naming : IsNaming l.method l.naming;
  roots : HasRoots l.method l.arrivals l.place l.naming.entries.items;
}
