use Rattle.std.proofs.lemmas.Bool.{false≢true}
use Rattle.std.proofs.lemmas.List.Elements.{All-contains}
use Rattle.list_laws.proofs.Members.{all_from_front, contained_in_map}
use Rattle.ground_views.specs.declared.path_edge.PathEdge.{PathEdge}
use Rattle.ground_views.specs.Questions.{edge_of}
use Rattle.ground_views.specs.Others.{IsOther}
use Rattle.ground_views.proofs.path_edge.is_among.Goals as goal

pub returns : goal.returns
returns c =
    let edges = c.args.edges.now in
    let others = all_from_front (λ (other : PathEdge). IsOther c.args.edge.now other) edges c.loop-other.other-index c.loop-other-test.false c.loop-other.invariant.others in (
      λ never. absurd (false≢true never),
      λ there.
          let found = contained_in_map edge_of edges (edge_of c.args.edge.now) there in
          absurd ((All-contains (λ (other : PathEdge). IsOther c.args.edge.now other) edges found.0 others found.1).differs found.2),
    )
