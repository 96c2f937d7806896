-- Public contracts rest on this module.
-- What a sink has taken, the lines of a text, and what was handed to a sink.
use Rattle.std.specs.Prelude.{◌≡◌, ◌≢◌, ℕ, ◌<◌, ◌≤◌, nat_eq, nat_le, List, [], ◌∷◌, ◌++◌, length, take, drop, All, Option, Some, option_map, IfSome, if◌then◌else◌}
use Rattle.ts_outside.specs.Handed.{Handed, and_then}

-- The sink took all of the bytes, where it tells what it took.
abbrev pub TakesAll : Option (List ℕ) → Option (List ℕ) → List ℕ → Type 0
TakesAll old new bytes = new ≡ option_map (λ taken. taken ++ bytes) old

-- The sink took some of the first of the bytes, or none, where it tells what it took.
abbrev pub TakesFront : Option (List ℕ) → Option (List ℕ) → List ℕ → Type 0
TakesFront old new bytes = (count : ℕ) × (count ≤ length bytes) × TakesAll old new (take count bytes)

-- ---- lines

-- The lines of a text, by its first byte and the lines of what follows: a newline ends a line at once, and any other byte stands in the next line.
abbrev pub with_first : ℕ → List (List ℕ) → List (List ℕ)
with_first b [] = (b ∷ []) ∷ []
with_first b (line ∷ lines) = if nat_eq b 10 then (b ∷ []) ∷ line ∷ lines else (b ∷ line) ∷ lines

-- The lines of a text, which is cut after each newline. What follows the last newline is one more.
abbrev pub lines_in : List ℕ → List (List ℕ)
lines_in [] = []
lines_in (b ∷ text) = with_first b (lines_in text)

-- A line ends with its only newline.
pub record IsLine (line : List ℕ) : Type 0 where
  pub content : List ℕ
  pub plain : All (λ b. b ≢ 10) content
  pub line_is : line ≡ content ++ 10 ∷ []

-- ---- calls

-- The lines that are left after so many bytes of the first one were taken.
abbrev pub left : List (List ℕ) → ℕ → List (List ℕ)
left [] count = []
left (line ∷ lines) count = if nat_le (length line) count then lines else drop count line ∷ lines

-- The calls hand out the lines, up to a rest: each call hands all that is left of one line, and nothing besides, and something of it is taken.
abbrev pub HandsOut : List (List ℕ) → List Handed → List (List ℕ) → Type 0
HandsOut lines [] rest = rest ≡ lines
HandsOut [] (call ∷ calls) rest = ⊥
HandsOut (line ∷ lines) (call ∷ calls) rest = (call.piece ≡ line) × (0 < call.count) × HandsOut (left (line ∷ lines) call.count) calls rest

-- The calls after the old ones hand out the lines, up to a rest, where the sink tells its calls.
abbrev pub Hands : Option (List Handed) → Option (List Handed) → List (List ℕ) → List (List ℕ) → Type 0
Hands old new lines rest = IfSome old (λ before. (calls : List Handed) × (new ≡ Some (before ++ calls)) × HandsOut lines calls rest)

-- They do so up to one that fails, after which no call comes: it handed all that was left of a line, and nothing was taken.
abbrev pub HandsInVain : Option (List Handed) → Option (List Handed) → List (List ℕ) → Type 0
HandsInVain old new lines =
    IfSome old (λ before. (calls : List Handed) × (piece : List ℕ) × (rest : List (List ℕ)) × (new ≡ Some (and_then piece 0 (before ++ calls)))
    × HandsOut lines calls (piece ∷ rest))
