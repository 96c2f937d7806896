use Rattle.std.proofs.Common.{◌≡◌, take}
use Rattle.std.specs.List.{All, Contains}
use Rattle.stage_edges.specs.Rules.{Edge}
use Rattle.edge_steps.specs.declared.conclusions.EnteredWith.{EnteredWith}
use Rattle.edge_steps.specs.Steps.{begun}
use Rattle.ground_views.specs.Questions.{edges_in}
use Rattle.edge_closure.specs.Tried.{Adds, Grows, IsOpen}
use Rattle.edge_closure.proofs.taking.take_begun.Given as goal

abbrev pub invariant-loop-one : goal.invariant-loop-one
invariant-loop-one l = record {
  grows : Grows (edges_in l.initial.edges.items) (edges_in l.edges.items);
  roomy : IsOpen l.limit (edges_in l.edges.items);
  adds : Adds (λ (e : Edge). (b : EnteredWith) × Contains l.entered b × (e ≡ begun b)) (edges_in l.initial.edges.items) (edges_in l.edges.items);
  held : All (λ (b : EnteredWith). Contains (edges_in l.edges.items) (begun b)) (take l.one-index l.entered);
}
