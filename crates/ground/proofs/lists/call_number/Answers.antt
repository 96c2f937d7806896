use Rattle.ground.proofs.ExactKeys.{same_calls, tells_calls}
use Rattle.ground.proofs.KeySets.{found_at, only_at}
use Rattle.ground.proofs.lists.call_number.Goals as goal

pub returns-clause-found : goal.returns-clause-found
returns-clause-found c = found_at same_calls tells_calls c.args.calls.now.keys c.args.call c.get_index_of.result c.get_index_of.ensures.index

pub returns-clause-only : goal.returns-clause-only
returns-clause-only c = only_at same_calls tells_calls c.args.calls.now.keys c.len.ensures.unique c.args.call c.get_index_of.result c.get_index_of.ensures.index c.get_index_of.ensures.found
