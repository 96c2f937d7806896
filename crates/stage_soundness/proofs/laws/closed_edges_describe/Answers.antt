use Rattle.std.proofs.Common.{IsTrue}
use Rattle.coverage.proofs.Executions.{own_map}
use Rattle.points_to_rules.specs.WholeMethods.{as_given}
use Rattle.stage_soundness.proofs.Theorems.{edges_describe}
use Rattle.stage_soundness.proofs.laws.closed_edges_describe.Goals as goal

pub returns : goal.returns
returns c = λ x given S s t E program whole plain closed unrefused trackable laws edges.
    edges_describe c.slots_of_one_variable.ensures c.objects_survive.ensures x given (as_given given) (own_map given) (λ f. IsTrue (S f)) s t (λ e. IsTrue (E e)) program whole plain closed unrefused trackable laws edges
