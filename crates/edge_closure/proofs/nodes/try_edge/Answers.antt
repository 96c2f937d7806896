use Rattle.std.proofs.Common.{◌≡◌, ◌∙◌, Some, sym, subst}
use Rattle.std.specs.List.{Contains}
use Rattle.std.proofs.lemmas.Option.{same_Some}
use Rattle.ground.specs.Findings.{gives_listed}
use Rattle.stage_transfer.specs.Stages.{transfer_of}
use Rattle.stage_edges.specs.Rules.{Edge}
use Rattle.ground_views.specs.declared.path_edge.PathEdge.{PathEdge}
use Rattle.ground_views.specs.Questions.{edge_of, edges_in}
use Rattle.ground_views.proofs.Shapes.{LeadsToNode}
use Rattle.edge_closure.specs.Closings.{IsNodeOfEdge}
use Rattle.edge_closure.proofs.Leading.{nowhere, read_edge, seen_at, to_exit, untried}
use Rattle.edge_closure.proofs.Lists.{read_at, stands_read}
use Rattle.edge_closure.proofs.nodes.try_edge.Goals as goal

pub returns-in_default-clause-tried : goal.returns-in_default-clause-tried
returns-in_default-clause-tried c = record {
  each = λ x w p asked at.
      let g = c.args.closing.now.question.now.ground.now in
      let edges = edges_in c.args.edges.now.items in
      let e = c.index.result.now in
      let is : edge_of e ≡ p = same_Some (edge_of e) p (sym (read_at c.args.edges.now.items c.args.place e c.requires.there c.index.ensures) ∙ at) in
      untried x (gives_listed g.methods) (Contains g.facts) (transfer_of w) p edges edges
      (subst (λ (r : Edge). LeadsToNode x (gives_listed g.methods) r → ⊥) is (to_exit x (gives_listed g.methods) e c.in_default.ensures));
}

pub returns-in_default-node-clause-tried : goal.returns-in_default-node-clause-tried
returns-in_default-node-clause-tried c = record {
  each = λ x w p asked at.
      let g = c.args.closing.now.question.now.ground.now in
      let edges = c.args.edges.now.items in
      let own = stands_read edges c.args.place c.index.result.now c.requires.there c.index.ensures in
      let to = read_edge edges c.args.place p c.in-Some.node (λ e here. subst (λ (d : PathEdge). IsNodeOfEdge d (Some c.in-Some.node)) (same_Some c.index.result.now e (sym own ∙ here)) c.in-Some.ensures) at in
      untried x (gives_listed g.methods) (Contains g.facts) (transfer_of w) p (edges_in edges) (edges_in edges)
      (nowhere x (gives_listed g.methods) c.in-Some.node (c.in_default-node.ensures.none x w asked) p to);
}

pub try_node-requires-clause-seen : goal.try_node-requires-clause-seen
try_node-requires-clause-seen c =
    let edges = c.args.edges.now.items in
    let own = stands_read edges c.args.place c.index.result.now c.requires.there c.index.ensures in
    seen_at c.args.closing.now.question.now c.in-Some.node c.in-Some-node.seen c.in-Some-node.ensures.found edges c.args.place (λ e here.
    subst (λ (d : PathEdge). IsNodeOfEdge d (Some c.in-Some.node)) (same_Some c.index.result.now e (sym own ∙ here)) c.in-Some.ensures)
