use Rattle.points_to_calls.proofs.CatchChain.{catch_chain_place}
use Rattle.points_to_calls.proofs.catch_chains.lands.Goals as goal

pub returns : goal.returns
returns c = λ l at. catch_chain_place c.args.program.now c.args.tables.now c.args.class.now c.catch_chain_of.result.now l c.goes_to.result (c.catch_chain_of.ensures l at) c.goes_to.ensures
