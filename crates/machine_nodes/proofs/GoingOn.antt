-- Executions with one more step.
use Rattle.std.proofs.Common.{◌≡◌, List, [], ◌∷◌, ◌++◌, ap, subst}
use Rattle.machine_nodes.specs.NodeExecutions.{AreNodeSteps, IsNodeExecution}
use Rattle.machine_nodes.specs.NodeSteps.{NodeStep}
use Rattle.op_model.specs.Supplies.{Given}
use Rattle.machine_bytecode.specs.Objects.{Subject}
use Rattle.machine_bytecode.specs.States.{State}

-- steps from a state that reach another one, and one step more
steps_more : (x : Subject) (given : Given) (first : State) (others : List State) (s t : State) → AreNodeSteps x given first (others ++ s ∷ []) → NodeStep x given s t → AreNodeSteps x given first (others ++ s ∷ t ∷ [])
steps_more x given first [] s t h more = (h.0, (more, tt))
steps_more x given first (o ∷ others) s t h more = (h.0, steps_more x given o others s t h.1 more)

pub goes_on : (x : Subject) (given : Given) (states : List State) (s t : State) → IsNodeExecution x given (states ++ s ∷ []) → NodeStep x given s t → IsNodeExecution x given (states ++ s ∷ t ∷ [])
goes_on x given [] s t run more =
    let same : s ∷ [] ≡ run.first ∷ run.others = run.begins in
    let is : s ≡ run.first = cc in
    record { first = run.first; others = t ∷ []; begins = ap (λ (f : State). f ∷ t ∷ []) is; is_first = run.is_first; steps = (subst (λ (f : State). NodeStep x given f t) is more, tt) }
goes_on x given (first ∷ others) s t run more =
    let same : first ∷ (others ++ s ∷ []) ≡ run.first ∷ run.others = run.begins in
    let is : first ≡ run.first = cc in
    let rest : run.others ≡ others ++ s ∷ [] = cc in
    record {
      first = run.first;
      others = others ++ s ∷ t ∷ [];
      begins = ap (λ (f : State). f ∷ (others ++ s ∷ t ∷ [])) is;
      is_first = run.is_first;
      steps = steps_more x given run.first others s t (subst (λ (ss : List State). AreNodeSteps x given run.first ss) rest run.steps) more;
    }
