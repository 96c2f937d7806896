-- A list is closed where each of its edges is tried.
use Rattle.std.proofs.Common.{List, [], refl, sym, subst}
use Rattle.std.specs.List.{Contains}
use Rattle.op_model.specs.Supplies.{GivenAs}
use Rattle.machine_bytecode.specs.Objects.{Subject}
use Rattle.least_sets.specs.Rules.{Hold}
use Rattle.points_to_rules.specs.Facts.{Fact}
use Rattle.stage_transfer.specs.Stages.{Transfer}
use Rattle.stage_edges.specs.Rules.{Edge, Instance}
use Rattle.ground_views.proofs.Shapes.{IsShape, from_nothing, nothing, one, shape, start_edge, two}
use Rattle.edge_closure.specs.Tried.{IsClosedBy, IsTried}

module _ (x : Subject) (gives : GivenAs) (S : Fact → Type 0) (t : Transfer) where
  -- a list with the start is closed where each of its edges is tried
  pub closed_when_tried : (edges : List Edge) → Contains edges start_edge → ((p : Edge) → Contains edges p → IsTried (Instance x gives S t) p edges edges)
      → IsClosedBy (Instance x gives S t) edges
  closed_when_tried edges started tried = record { closed = λ premises to i hold. by premises to i (shape x gives S t premises to i) hold }
    where
      by : (premises : List Edge) (to : Edge) → Instance x gives S t premises to → IsShape x gives premises → Hold (Contains edges) premises → Contains edges to
      by premises to i nothing hold = subst (Contains edges) (sym (from_nothing x gives S t [] to i refl)) started
      by premises to i (one p there) hold = (tried p hold.0).alone to i
      by premises to i (two p q there m method) hold = ((tried p hold.0).beside q hold.1.0).each to i
