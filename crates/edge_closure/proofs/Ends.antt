-- How the search ends.
use Rattle.std.proofs.Common.{List}
use Rattle.std.specs.List.{All}
use Rattle.failure.specs.declared.Failure.{Failure}
use Rattle.failure.specs.declared.Failure.TheVariants.{Cause, OutOfMemory}
use Rattle.machine_bytecode.specs.Objects.{Subject}
use Rattle.least_sets.specs.Rules.{IsDerivable, IsWithoutDoubles}
use Rattle.stage_transfer.specs.Settings.{Setting}
use Rattle.stage_edges.specs.Rules.{Edge}
use Rattle.ground_views.specs.declared.fault.EdgesFault.{EdgesFault}
use Rattle.ground_views.specs.declared.fault.EdgesFault.TheVariants.{Limit, TooMany}
use Rattle.ground_views.specs.declared.question.Question.{Question}
use Rattle.ground_views.specs.Questions.{GroundInstance, IsAskedOf, IsEdgesEnd}
use Rattle.ground_views.specs.Views.{IsViewsEnd}
use Rattle.ground_views.proofs.Ends.{at_least}
use Rattle.edge_closure.specs.Tried.{IsFull}

pub full_end : (q : Question) (edges : List Edge) → ((x : Subject) (w : Setting) → IsAskedOf q x w → All (IsDerivable (GroundInstance q x w)) edges) → IsWithoutDoubles edges
    → (f : Failure EdgesFault) → IsFull q.limit edges f → IsEdgesEnd q f
full_end q edges derivable apart (Cause Limit) is = λ x w asked. at_least (GroundInstance q x w) edges q.limit (derivable x w asked) apart is
full_end q edges derivable apart (Cause TooMany) is = absurd is
full_end q edges derivable apart OutOfMemory is = tt

pub views_end : (q : Question) (f : Failure EdgesFault) → IsViewsEnd q.ground.now f → IsEdgesEnd q f
views_end q (Cause Limit) is = absurd is
views_end q (Cause TooMany) is = is
views_end q OutOfMemory is = tt
