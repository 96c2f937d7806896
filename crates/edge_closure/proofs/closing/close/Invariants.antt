use Rattle.std.proofs.Common.{◌≤◌, ◌-◌, length}
use Rattle.std.specs.List.{Contains}
use Rattle.ground_views.specs.Questions.{edges_in}
use Rattle.ground_views.proofs.Shapes.{start_edge}
use Rattle.edge_closure.specs.Tried.{Grows, IsClosedFor, IsOpen, StaysSoundBy}
use Rattle.edge_closure.proofs.closing.close.Given as goal

abbrev pub invariant-loop-before : goal.invariant-loop-before
invariant-loop-before l = record {
  grows : Grows (edges_in l.initial.edges.items) (edges_in l.edges.items);
  started : Contains (edges_in l.edges.items) start_edge;
  before : l.before ≤ length l.edges.items;
  roomy : IsOpen l.closing.room.limit (edges_in l.edges.items);
  sound : StaysSoundBy l.closing.question.now (edges_in l.initial.edges.items) (edges_in l.edges.items);
  closed : length l.edges.items ≤ l.before → IsClosedFor l.closing.question.now (edges_in l.edges.items);
}

abbrev pub decreases-loop-before : goal.decreases-loop-before
decreases-loop-before l = l.closing.room.limit - l.before
