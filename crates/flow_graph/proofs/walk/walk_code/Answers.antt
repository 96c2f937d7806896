use Rattle.std.proofs.Common.{List, subst}
use Rattle.jvm_model.specs.declared.code.Handler.{Handler}
use Rattle.flow_graph.specs.Uncaught.{Holds}
use Rattle.flow_graph.proofs.Catching.{uncaught_first}
use Rattle.flow_graph.proofs.walk.walk_code.Goals as goal

pub walk-requires-clause-uncaught : goal.walk-requires-clause-uncaught
walk-requires-clause-uncaught c =
    let levels = c.in_ok-uncaught.uncaught.levels.items in
    uncaught_first c.args.code.now levels c.deref_mut-2.result.now (subst (λ (handlers : List Handler). Holds handlers levels) c.as_slice.ensures c.in_ok-uncaught.ensures)
