use Rattle.std.proofs.Common.{rules}
use Rattle.fact_pool.specs.Hashes.{mixed}
use Rattle.fact_pool.proofs.hash.mixed.Goals as goal

pub returns : goal.returns
unfolding mixed
returns c = search rules
