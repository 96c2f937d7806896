use Rattle.std.proofs.Common.{◌≡◌, fold, take}
use Rattle.fact_pool.specs.Hashes.{mixed}
use Rattle.fact_pool.proofs.hash.hash_of.Given as goal

abbrev pub invariant-loop-word : goal.invariant-loop-word
invariant-loop-word l = l.hash ≡ fold mixed 0x9E37_79B9_7F4A_7C15 (take l.word-index l.words)
