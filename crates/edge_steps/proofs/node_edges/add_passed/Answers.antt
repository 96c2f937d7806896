use Rattle.std.proofs.lemmas.Result.{on_ok_weaker}
use Rattle.edge_steps.proofs.node_edges.add_passed.Goals as goal

pub returns-then-stays : goal.returns-then-stays
returns-then-stays g c = on_ok_weaker c.add_unchanged.result (λ added. λ w l like known. added w l) c.add_unchanged.ensures
