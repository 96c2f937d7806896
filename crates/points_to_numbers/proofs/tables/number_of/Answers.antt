use Rattle.points_to_numbers.proofs.AddedKeys.{looked_up}
use Rattle.points_to_numbers.proofs.tables.number_of.Goals as goal

pub returns-in-Some-clause-stored : goal.returns-in-Some-clause-stored
returns-in-Some-clause-stored g c = looked_up g.K.PartialEq.eq c.args.keys.now.keys c.args.key c.in-Some.number c.in-Some.ensures.index
