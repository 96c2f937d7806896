use Rattle.std.proofs.lemmas.Result.{on_ok_weaker}
use Rattle.call_graph.specs.Edges.{IsEdgeOf}
use Rattle.ground.proofs.ExactKeys.{same_methods, tells_methods}
use Rattle.ground.proofs.KeySets.{is_there}
use Rattle.call_graph.proofs.NodeEdges.{of_running}
use Rattle.call_graph.proofs.edges.add_running.Goals as goal

pub returns : goal.returns
returns c =
    let s = c.args.sets.now in
    let l = c.args.method.now in
    let of_node = IsEdgeOf c.args.program.now s in
    let a = c.args.edges.now.keys in
    let b = c.add_nodes.new.edges.keys in
    let runs = (is_there same_methods tells_methods s.running.keys l.method c.contains.result c.contains.ensures).0 c.if-not-contains.false in
    on_ok_weaker c.add_nodes.result
    (λ added. of_running s.running.keys of_node l runs a b added)
    c.add_nodes.ensures
