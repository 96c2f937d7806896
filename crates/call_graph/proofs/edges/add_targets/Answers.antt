use Rattle.std.proofs.lemmas.Result.{on_ok_weaker}
use Rattle.grouped_lists.specs.Groups.{values_at}
use Rattle.call_graph.specs.Edges.{GoesTo}
use Rattle.call_graph.proofs.NodeEdges.{callees_are, targets_are}
use Rattle.call_graph.proofs.edges.add_targets.Goals as goal

pub returns-in-Some : goal.returns-in-Some
returns-in-Some c =
    let s = c.args.sets.now in
    let m = c.args.method in
    let n = c.args.node.now in
    let targets = values_at s.targets.groups.items c.in-Some.number in
    let are = targets_are s m n c.in-Some.number c.in-Some.ensures.found c.in-Some.ensures.only in
    on_ok_weaker c.add_callees.result (λ added. callees_are m (GoesTo s m n) c.args.edges.now.keys c.add_callees.new.edges.keys added targets c.at.ensures are) c.add_callees.ensures
