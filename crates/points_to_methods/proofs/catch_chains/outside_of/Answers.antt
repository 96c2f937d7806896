use Rattle.points_to_rules.specs.Facts.{thrown_by}
use Rattle.points_to_methods.proofs.catch_chains.outside_of.Goals as goal

pub place-requires : goal.place-requires
place-requires c = (thrown_by c.args.at.now.method.now.method, c.key_of.ensures c.args.tables.now)

pub returns-clause-stands : goal.returns-clause-stands
returns-clause-stands c = c.in_ok-place.ensures.stands (thrown_by c.args.at.now.method.now.method) (c.key_of.ensures c.args.tables.now)
