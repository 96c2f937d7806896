use Rattle.std.proofs.lemmas.Result.{on_ok_weaker}
use Rattle.edge_steps.proofs.thrown.add_raised.Goals as goal

pub returns-then-is_of_none : goal.returns-then-is_of_none
returns-then-is_of_none g c = on_ok_weaker c.add_landings.result (λ added. λ w l like known. added w l) c.add_landings.ensures
