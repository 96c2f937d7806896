-- Public contracts rest on this module.
-- What a sink tells of the calls of its write.
use Rattle.std.specs.Prelude.{ℕ, List, [], ◌∷◌, ◌++◌}

-- What one call handed to a sink, and how many of its first bytes the sink took: none where the call failed.
pub record Handed : Type 0 where
  pub piece : List ℕ
  pub count : ℕ

-- The calls, and after them one that handed this piece, of which so many bytes were taken.
abbrev pub and_then : List ℕ → ℕ → List Handed → List Handed
and_then piece count calls = calls ++ record { piece = piece; count = count } ∷ []
