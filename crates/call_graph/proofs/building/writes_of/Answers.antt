use Rattle.std.proofs.Common.{map}
use Rattle.std.proofs.lemmas.Result.{IfOk-weaker}
use Rattle.call_graph.specs.Closing.{AreClosed}
use Rattle.ground.specs.Lists.{nodes_of}
use Rattle.call_graph.specs.Written.{AreWrites}
use Rattle.call_graph.proofs.building.writes_of.Goals as goal

pub returns : goal.returns
returns c =
    let own = c.in_ok-stores.stores.keys in
    let edges = c.in_ok-edges.edges.keys in
    IfOk-weaker c.close_writes.result (λ writes. AreClosed own edges writes.keys) (λ writes. AreWrites c.args.program.now (map nodes_of c.args.methods.now) c.args.sets.now writes.keys)
    (λ writes closed. record { own = own; edges = edges; stores = c.in_ok-stores.ensures; leads = c.in_ok-edges.ensures; closed = closed })
    c.close_writes.ensures
