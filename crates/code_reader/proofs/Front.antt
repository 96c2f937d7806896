-- What a loop over a list has seen: the front of the list, one item longer each time.
use Rattle.std.proofs.Common.{◌≡◌, ℕ, ◌+◌, ◌<◌, List, [], ◌∷◌, ◌++◌, length, take, get_or, Option, Some, None, refl, sym, ap, ◌∙◌}
use Rattle.std.proofs.lemmas.List.{take_more}
use Rattle.code_reader.specs.CodeReading.{known_targets}

known_parts : (xs ys : List (Option ℕ)) → known_targets (xs ++ ys) ≡ known_targets xs ++ known_targets ys
known_parts [] ys = refl
known_parts (None ∷ xs) ys = known_parts xs ys
known_parts (Some t ∷ xs) ys = ap (λ (ts : List ℕ). t ∷ ts) (known_parts xs ys)

-- the known targets with one more
pub known_more : (xs : List (Option ℕ)) (i : ℕ) (d : Option ℕ) → i < length xs → known_targets (take i xs) ++ known_targets (get_or xs i d ∷ []) ≡ known_targets (take (i + 1) xs)
known_more xs i d lt = sym (ap known_targets (take_more xs i d lt) ∙ known_parts (take i xs) (get_or xs i d ∷ []))
