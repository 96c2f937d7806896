-- The order of the names of files.
use Rattle.std.proofs.Common.{◌+◌, ◌<◌, List, [], ◌∷◌, map, length, Ordering, arith}
use Rattle.std.specs.List.Sorted.{IsSorted}
use Rattle.std.proofs.lemmas.List.{get_or-map, length-map}

-- A list in the order of what a function gives of its elements is mapped to a list in order.
pub IsSorted-map : {X Y : Type 0} (f : X → Y) (cmp : Y → Y → Ordering) (xs : List X) → IsSorted (λ a b. cmp (f a) (f b)) xs → IsSorted cmp (map f xs)
IsSorted-map f cmp [] sorted k d low high = absurd (omega arith)
IsSorted-map f cmp (x ∷ xs) sorted k d low high =
    let within : k + 1 < length (x ∷ xs) = omega (arith, length-map (x ∷ xs) f) in
    rw (get_or-map f (x ∷ xs) (k + 1) x d within, get_or-map f (x ∷ xs) k x d (omega arith)) (sorted k x low within)
