use Rattle.std.proofs.Common.{◌≡◌, ◌<◌, ◌≤◌, ◌-◌, ℕ, length, Some}
use Rattle.std.specs.List.{slice_get}
use Rattle.machine_bytecode.specs.Objects.{Subject}
use Rattle.stage_transfer.specs.Settings.{Setting}
use Rattle.stage_edges.specs.Rules.{Edge}
use Rattle.ground_views.specs.Questions.{GroundInstance, IsAskedOf, edges_in}
use Rattle.edge_closure.specs.Tried.{Grows, IsOpen, IsTried, StaysSoundBy}
use Rattle.edge_closure.proofs.closing.try_all.Given as goal

abbrev pub invariant-loop-place : goal.invariant-loop-place
invariant-loop-place l = record {
  grows : Grows (edges_in l.initial.edges.items) (edges_in l.edges.items);
  within : l.place ≤ length l.edges.items;
  roomy : IsOpen l.closing.room.limit (edges_in l.edges.items);
  sound : StaysSoundBy l.closing.question.now (edges_in l.initial.edges.items) (edges_in l.edges.items);
  tried : (x : Subject) (w : Setting) → IsAskedOf l.closing.question.now x w → (k : ℕ) (p : Edge) → k < l.place → slice_get (edges_in l.edges.items) k ≡ Some p
      → IsTried (GroundInstance l.closing.question.now x w) p (edges_in l.initial.edges.items) (edges_in l.edges.items);
}

abbrev pub decreases-loop-place : goal.decreases-loop-place
decreases-loop-place l = l.closing.room.limit - l.place
