use Rattle.std.proofs.Common.{rules}
use Rattle.fact_pool.specs.Hashes.{bucket_of}
use Rattle.fact_pool.proofs.hash.bucket_of.Goals as goal

pub returns-clause-bucket : goal.returns-clause-bucket
unfolding bucket_of
returns-clause-bucket c = search rules
