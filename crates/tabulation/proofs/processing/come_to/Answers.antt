use Rattle.std.proofs.lemmas.Option.{slice_get_within}
use Rattle.list_laws.proofs.Places.{contains_at}
use Rattle.tabulation_tables.specs.Lists.{lists_of, numbered}
use Rattle.tabulation.proofs.processing.come_to.Goals as goal

pub spot-requires : goal.spot-requires
spot-requires c =
    let t = lists_of c.args.tables.now in
    let is = c.requires.kept.right.shape.edges c.args.edge.begin c.args.edge.end (contains_at t.edges c.args.number.0 (numbered c.args.edge.begin c.args.edge.end) c.requires.there) in
    slice_get_within c.args.tables.now.ends c.args.edge.end is.end is.end_at
