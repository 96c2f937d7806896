use Rattle.std.proofs.Common.{refl}
use Rattle.points_to_methods.specs.Fixed.{holder_of}
use Rattle.points_to_methods.proofs.LandedNodes.{catch_clause_there}
use Rattle.points_to_methods.proofs.catch_chains.catch_clause_of.Goals as goal

pub place-requires : goal.place-requires
place-requires c = (holder_of c.handler_place.result, c.key_of.ensures c.args.tables.now)

pub returns-clause-stands : goal.returns-clause-stands
returns-clause-stands c =
    let to = holder_of c.handler_place.result in
    catch_clause_there c.args.at.now.method.now c.place.new.self c.args.handler to _ c.handler_place.ensures refl (c.in_ok-to.ensures.stands to (c.key_of.ensures c.args.tables.now))
