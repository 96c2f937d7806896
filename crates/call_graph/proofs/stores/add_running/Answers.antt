use Rattle.std.proofs.Common.{List, subst}
use Rattle.std.proofs.lemmas.Result.{on_ok_weaker}
use Rattle.op_model.specs.declared.node.Node.{Node}
use Rattle.ground.specs.Added.{AreAdded, OfOne}
use Rattle.call_graph.specs.Edges.{IsStoreOf}
use Rattle.ground.proofs.ExactKeys.{same_methods, tells_methods}
use Rattle.ground.proofs.KeySets.{is_there}
use Rattle.call_graph.proofs.NodeEdges.{of_running}
use Rattle.call_graph.proofs.stores.add_running.Goals as goal

pub returns : goal.returns
returns c =
    let l = c.args.method.now in
    let running = c.args.running.now.keys in
    let a = c.args.writes.now.keys in
    let b = c.add_nodes.new.writes.keys in
    let runs = (is_there same_methods tells_methods running l.method c.contains.result c.contains.ensures).0 c.if-not-contains.false in
    on_ok_weaker c.add_nodes.result
    (λ added. of_running running IsStoreOf l runs a b (subst (λ (nodes : List Node). AreAdded (OfOne (IsStoreOf l.method) nodes) a b) c.as_slice.ensures added))
    c.add_nodes.ensures
