-- The lengths of words.
use Rattle.std.proofs.Common.{codes, ◌≡◌, ℕ, ◌+◌, ◌<◌, ◌≤◌, ◌/◌, ◌%◌, List, [], ◌∷◌, ◌++◌, length, length-append, decimal, ap, ◌∙◌, arith}
use Rattle.std.proofs.lemmas.Fmt.{decimal_digit, decimal_step, length-decimal-le}

-- ---- digits

-- a number has one digit more than what is left without the last
pub decimal_more : (n : ℕ) → 10 ≤ n → n < 4294967296 → length (decimal n) ≡ length (decimal (n / 10)) + 1
decimal_more n low high =
    ap length (decimal_step n low (omega (arith, high))) ∙ length-append (decimal (n / 10)) ((48 + n % 10) ∷ [])

pub decimal_last : (n : ℕ) → n < 10 → length (decimal n) ≡ 1
decimal_last n low = ap length (decimal_digit n low)

pub decimal_short : (n : ℕ) → n < 4294967296 → length (decimal n) ≤ 10
decimal_short n high = length-decimal-le 10 n (omega arith) (omega (arith, high)) (omega (arith, high))

-- ---- edges

-- the line of an edge, by its words
pub edge_count : (stage site method entry spot fact : List ℕ)
    → length (codes "edge " ++ stage ++ codes " " ++ site ++ codes " " ++ (method ++ codes " " ++ entry ++ codes " " ++ spot ++ codes " " ++ fact) ++ 10 ∷ [])
    ≡ length stage + length site + length method + length entry + length spot + length fact + 11
edge_count stage site method entry spot fact = simp length-append (omega arith)
