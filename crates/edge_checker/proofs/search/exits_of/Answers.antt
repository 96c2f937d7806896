use Rattle.stage_facts.specs.Plain.{fact_of}
use Rattle.edge_checker.proofs.Searches.{exit_span}
use Rattle.edge_checker.proofs.search.exits_of.Goals as goal

pub returns : goal.returns
returns c =
    exit_span c.args.listed.now c.requires c.args.method (fact_of c.args.entry.now) c.first_from-from.result c.first_after-to.result c.first_from-from.ensures.bound
    c.first_after-to.ensures.bound c.first_from-from.ensures.partitioned c.first_after-to.ensures.partitioned
