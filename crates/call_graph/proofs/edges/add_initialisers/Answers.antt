use Rattle.std.proofs.lemmas.Result.{on_ok_weaker}
use Rattle.points_to_rules.specs.Rules.{StartsAt}
use Rattle.call_graph.proofs.NodeEdges.{callees_are, initialisers_are}
use Rattle.call_graph.proofs.edges.add_initialisers.Goals as goal

pub coded_initialisers-requires : goal.coded_initialisers-requires
coded_initialisers-requires c = c.requires c.in-Some.class c.in-Some.is

pub returns : goal.returns
returns c =
    let p = c.args.program.now in
    let n = c.args.node.now in
    let k = c.in-Some.class in
    let found = c.in_ok-initialisers.initialisers.items in
    let are = initialisers_are p n k (c.requires k c.in-Some.is) c.in-Some.is found c.in_ok-initialisers.ensures in
    on_ok_weaker c.add_callees.result (λ added. callees_are c.args.method (StartsAt p n) c.args.edges.now.keys c.add_callees.new.edges.keys added found (cc) are) c.add_callees.ensures
