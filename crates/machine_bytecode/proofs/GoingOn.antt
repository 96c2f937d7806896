-- Executions with one more step.
use Rattle.std.proofs.Common.{◌≡◌, List, [], ◌∷◌, ◌++◌, ap, subst}
use Rattle.machine_bytecode.specs.Executions.{AreSteps, IsExecution}
use Rattle.machine_bytecode.specs.Machine.{Step}
use Rattle.machine_bytecode.specs.Objects.{Subject}
use Rattle.machine_bytecode.specs.States.{State}

-- steps from a state that reach another one, and one step more
steps_more : (x : Subject) (first : State) (others : List State) (s t : State) → AreSteps x first (others ++ s ∷ []) → Step x s t → AreSteps x first (others ++ s ∷ t ∷ [])
steps_more x first [] s t h more = (h.0, (more, tt))
steps_more x first (o ∷ others) s t h more = (h.0, steps_more x o others s t h.1 more)

pub goes_on : (x : Subject) (states : List State) (s t : State) → IsExecution x (states ++ s ∷ []) → Step x s t → IsExecution x (states ++ s ∷ t ∷ [])
goes_on x [] s t run more =
    let same : s ∷ [] ≡ run.first ∷ run.others = run.begins in
    let is : s ≡ run.first = cc in
    record { first = run.first; others = t ∷ []; begins = ap (λ (f : State). f ∷ t ∷ []) is; is_first = run.is_first; steps = (subst (λ (f : State). Step x f t) is more, tt) }
goes_on x (first ∷ others) s t run more =
    let same : first ∷ (others ++ s ∷ []) ≡ run.first ∷ run.others = run.begins in
    let is : first ≡ run.first = cc in
    let rest : run.others ≡ others ++ s ∷ [] = cc in
    record {
      first = run.first;
      others = others ++ s ∷ t ∷ [];
      begins = ap (λ (f : State). f ∷ (others ++ s ∷ t ∷ [])) is;
      is_first = run.is_first;
      steps = steps_more x run.first others s t (subst (λ (ss : List State). AreSteps x run.first ss) rest run.steps) more;
    }
