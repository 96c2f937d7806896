use Rattle.std.proofs.Common.{◌≡◌, ◌<◌, ◌≤◌, ℕ, length, Some}
use Rattle.std.specs.List.{slice_get}
use Rattle.machine_bytecode.specs.Objects.{Subject}
use Rattle.stage_transfer.specs.Settings.{Setting}
use Rattle.stage_edges.specs.Rules.{Edge}
use Rattle.ground_views.specs.Questions.{GroundInstance, IsAskedOf, edges_in}
use Rattle.edge_closure.specs.Tried.{Grows, IsOpen, IsTriedWith, StaysSoundBy}
use Rattle.edge_closure.proofs.trying.try_exits.Given as goal

abbrev pub invariant-loop-other : goal.invariant-loop-other
invariant-loop-other l = record {
  grows : Grows (edges_in l.initial.edges.items) (edges_in l.edges.items);
  there : l.place < length l.edges.items;
  longer : length l.initial.edges.items ≤ length l.edges.items;
  roomy : IsOpen l.closing.room.limit (edges_in l.edges.items);
  sound : StaysSoundBy l.closing.question.now (edges_in l.initial.edges.items) (edges_in l.edges.items);
  tried : (x : Subject) (w : Setting) (p q : Edge) → IsAskedOf l.closing.question.now x w → slice_get (edges_in l.initial.edges.items) l.place ≡ Some p
      → (k : ℕ) → k < l.other → slice_get (edges_in l.initial.edges.items) k ≡ Some q → IsTriedWith (GroundInstance l.closing.question.now x w) p q (edges_in l.edges.items);
}
