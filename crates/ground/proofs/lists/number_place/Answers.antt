use Rattle.ground.proofs.ExactKeys.{same_methods, tells_methods}
use Rattle.ground.proofs.KeySets.{found_at, only_at}
use Rattle.ground.proofs.lists.number_place.Goals as goal

pub returns-clause-found : goal.returns-clause-found
returns-clause-found c = found_at same_methods tells_methods c.args.numbers.now.keys c.args.number c.get_index_of.result c.get_index_of.ensures.index

pub returns-clause-only : goal.returns-clause-only
returns-clause-only c =
    only_at same_methods tells_methods c.args.numbers.now.keys c.len.ensures.unique c.args.number c.get_index_of.result c.get_index_of.ensures.index
    c.get_index_of.ensures.found
