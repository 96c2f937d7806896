-- Lists by the numbers below a number: with one number more, how long they are, and what holds of all.
use Rattle.std.proofs.Common.{◌≡◌, ℕ, zero, suc, ◌+◌, ◌*◌, ◌<◌, ◌≤◌, List, [], ◌∷◌, ◌++◌, map, length, All, refl, ap, sym, ◌∙◌, arith}
use Rattle.std.specs.List.{flat_map, range_with_len}
use Rattle.std.proofs.lemmas.List.{append-nil, append_assoc, length-append}
use Rattle.std.proofs.lemmas.List.Concat.{flat_map-append}
use Rattle.std.proofs.lemmas.List.Elements.{All-nil, All-append}
use Rattle.std.proofs.lemmas.List.FromFn.{map-range_with_len_more}
use Rattle.class_maker.specs.Sample.{below}

range_more : (first n next : ℕ) → first + n ≡ next → range_with_len first (suc n) ≡ range_with_len first n ++ next ∷ []
range_more first zero next e = let same : first ≡ next = omega arith in ap (λ k. k ∷ []) same
range_more first (suc n) next e = ap (λ rest. first ∷ rest) (range_more (first + 1) n next (omega arith))

below_more : (n : ℕ) → below (n + 1) ≡ below n ++ n ∷ []
below_more n = let after : n + 1 ≡ suc n = omega arith in ap below after ∙ range_more 0 n n (omega arith)

pub flat_map_below_more : {X : Type 0} (f : ℕ → List X) (front : List X) (n : ℕ) → (front ++ flat_map f (below n)) ++ f n ≡ front ++ flat_map f (below (n + 1))
flat_map_below_more f front n =
    append_assoc front (flat_map f (below n)) (f n)
    ∙ ap (λ rest. front ++ rest) (sym (ap (flat_map f) (below_more n) ∙ flat_map-append f (below n) (n ∷ []) ∙ ap (λ rest. flat_map f (below n) ++ rest) (append-nil (f n))))

pub map_below_more : {X : Type 0} (f : ℕ → X) (front : List X) (n : ℕ) → (front ++ map f (below n)) ++ f n ∷ [] ≡ front ++ map f (below (n + 1))
map_below_more f front n =
    append_assoc front (map f (below n)) (f n ∷ []) ∙ ap (λ rest. front ++ rest) (sym (map-range_with_len_more f 0 n n (omega arith)))

-- three items for each number
length_of_threes : {X : Type 0} (f : ℕ → List X) → ((k : ℕ) → length (f k) ≡ 3) → (first n : ℕ) → length (flat_map f (range_with_len first n)) ≡ 3 * n
length_of_threes f each first zero = refl
length_of_threes f each first (suc n) =
    let rest = length_of_threes f each (first + 1) n in
    omega (arith, length-append (f first) (flat_map f (range_with_len (first + 1) n)), each first, rest)

pub length_by_threes : {X : Type 0} (f : ℕ → List X) → ((k : ℕ) → length (f k) ≡ 3) → (n : ℕ) → length (flat_map f (below n)) ≡ 3 * n
length_by_threes f each n = length_of_threes f each 0 n

all_from : {X : Type 0} (P : X → Type 0) (f : ℕ → List X) (limit : ℕ) → ((k : ℕ) → k < limit → All P (f k))
    → (first n : ℕ) → first + n ≤ limit → All P (flat_map f (range_with_len first n))
all_from P f limit each first zero h = All-nil P
all_from P f limit each first (suc n) h =
    All-append P (f first) (flat_map f (range_with_len (first + 1) n)) (each first (omega arith)) (all_from P f limit each (first + 1) n (omega arith))

pub all_below : {X : Type 0} (P : X → Type 0) (f : ℕ → List X) (n : ℕ) → ((k : ℕ) → k < n → All P (f k)) → All P (flat_map f (below n))
all_below P f n each = all_from P f n each 0 n (omega arith)
