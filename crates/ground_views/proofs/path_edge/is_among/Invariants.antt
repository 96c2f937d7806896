use Rattle.std.proofs.Common.{take}
use Rattle.std.specs.List.{All}
use Rattle.ground_views.specs.declared.path_edge.PathEdge.{PathEdge}
use Rattle.ground_views.specs.Others.{IsOther}
use Rattle.ground_views.proofs.path_edge.is_among.Given as goal

abbrev pub invariant-loop-other : goal.invariant-loop-other
invariant-loop-other l = record { others : All (λ (other : PathEdge). IsOther l.edge other) (take l.other-index l.edges) }
