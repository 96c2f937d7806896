use Rattle.std.proofs.Common.{◌≡◌, ◌<◌, length, take, Some}
use Rattle.std.specs.List.{All, Contains, slice_get}
use Rattle.stage_edges.specs.Rules.{Edge}
use Rattle.edge_steps.specs.declared.conclusions.Conclusion.{Conclusion}
use Rattle.edge_steps.specs.Steps.{within}
use Rattle.ground_views.specs.Questions.{edges_in}
use Rattle.edge_closure.specs.Tried.{Adds, Grows, IsOpen}
use Rattle.edge_closure.proofs.taking.take_conclusions.Given as goal

abbrev pub invariant-loop-conclusion : goal.invariant-loop-conclusion
invariant-loop-conclusion l = record {
  there : l.place < length l.edges.items;
  grows : Grows (edges_in l.initial.edges.items) (edges_in l.edges.items);
  roomy : IsOpen l.limit (edges_in l.edges.items);
  adds : (p : Edge) → slice_get (edges_in l.initial.edges.items) l.place ≡ Some p
      → Adds (λ (e : Edge). (c : Conclusion) × Contains l.conclusions c × (e ≡ within p.method p.entry c)) (edges_in l.initial.edges.items) (edges_in l.edges.items);
  held : (p : Edge) → slice_get (edges_in l.initial.edges.items) l.place ≡ Some p
      → All (λ (c : Conclusion). Contains (edges_in l.edges.items) (within p.method p.entry c)) (take l.conclusion-index l.conclusions);
}
