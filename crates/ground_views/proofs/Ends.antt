-- The first edge is derivable; and as many edges as the limit says are at least so many.
use Rattle.std.proofs.Common.{◌≡◌, ◌∙◌, ℕ, List, [], length, Some, sym, ap, subst}
use Rattle.std.specs.List.{All}
use Rattle.op_model.specs.Supplies.{GivenAs}
use Rattle.machine_bytecode.specs.Objects.{Subject}
use Rattle.least_sets.specs.Rules.{IsDerivable, IsWithoutDoubles}
use Rattle.least_sets.specs.Parts.{HasAtLeast}
use Rattle.least_sets.proofs.Joined.{derivable_is_closed}
use Rattle.least_sets.proofs.Parts.{parts_of_all}
use Rattle.points_to_rules.specs.Facts.{Fact}
use Rattle.stage_transfer.specs.Stages.{Transfer}
use Rattle.stage_edges.specs.Rules.{Edge, Instance, start}
use Rattle.ground_views.proofs.Shapes.{start_edge}

-- the program starts
pub start_derivable : (x : Subject) (gives : GivenAs) (S : Fact → Type 0) (t : Transfer) → IsDerivable (Instance x gives S t) start_edge
start_derivable x gives S t = derivable_is_closed (Instance x gives S t) [] start_edge start tt

-- so many derivable edges, each once
pub at_least : (I : List Edge → Edge → Type 0) (edges : List Edge) (limit : ℕ) → All (IsDerivable I) edges → IsWithoutDoubles edges → length edges ≡ limit
    → HasAtLeast I (λ (e : Edge). Some e) limit
at_least I edges limit derivable apart count = record {
  facts = edges;
  derivable = derivable;
  apart = subst IsWithoutDoubles (sym (parts_of_all edges)) apart;
  count = ap length (parts_of_all edges) ∙ count;
}
