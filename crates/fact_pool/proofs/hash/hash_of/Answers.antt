use Rattle.std.proofs.Common.{arith}
use Rattle.std.proofs.lemmas.Grind.{common_steps}
use Rattle.fact_pool.specs.Hashes.{hash_of}
use Rattle.fact_pool.proofs.hash.hash_of.Goals as goal

pub returns : goal.returns
unfolding hash_of
returns c = grind (arith, common_steps)
