use Rattle.edge_checker.specs.Spans.{edge_wanted}
use Rattle.edge_checker.proofs.Searches.{searched}
use Rattle.edge_checker.proofs.search.is_listed.Goals as goal

pub returns : goal.returns
returns c =
    searched c.args.listed.now c.requires (edge_wanted c.args.wanted.now) c.search.result c.is_ok.result c.is_ok.ensures.value c.search.ensures.bound
    c.search.ensures.position
