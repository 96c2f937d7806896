-- Proofs of this crate alone rest on this module.
-- The hash of words. What it is matters to no proof: equal words have equal hashes, since it is a function of the words.
use Rattle.std.specs.Prelude.{ℕ, ◌*◌, ◌/◌, ◌%◌, ◌^◌, List, fold, bit_xor}
use Rattle.std.specs.Int.{rotate_left, w64}

-- What one more word makes of a hash.
unfoldable pub mixed : ℕ → ℕ → ℕ
mixed hash word = bit_xor (rotate_left w64 hash 32) word * 0x9E37_79B9_7F4A_7C15 % 2 ^ 64

-- The hash of a list of words.
unfoldable pub hash_of : List ℕ → ℕ
hash_of words = fold mixed 0x9E37_79B9_7F4A_7C15 words / 2 ^ 32

-- The bucket of a hash, among so many.
unfoldable pub bucket_of : ℕ → ℕ → ℕ
bucket_of hash count = hash * count / 2 ^ 32
