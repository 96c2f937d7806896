-- The first event of a call, by its number.
use Rattle.std.proofs.Common.{◌≡◌, ℕ, ◌+◌, ◌<◌, Bool, true, false, cond, not, List, [], ◌∷◌, length, position, Some, None, refl, sym, ◌∙◌, ap}
use Rattle.std.specs.List.{slice_get, find, prefix_len}
use Rattle.std.proofs.Math.Numerals.{one-add}
use Rattle.std.proofs.lemmas.Bool.{lt-ltb}
use Rattle.std.proofs.lemmas.List.Quantifiers.{position-Some}
use Rattle.std.proofs.lemmas.Option.{none-some, slice_get_within, get_or_from_slice_get}
use Rattle.hierarchy.proofs.ClassPlaces.{find_first}

-- what stands at the number of the first that passes is found
pub found_at_number : {X : Type 0} (test : X → Bool) (xs : List X) (number : ℕ) (x : X) → position test xs ≡ Some number
    → slice_get xs number ≡ Some x → find test xs ≡ Some x
found_at_number test xs number x is at =
    let (within, passes, before) = position-Some test xs number x is in
    let here = get_or_from_slice_get xs number x x at in
    find_first test xs number x at (ap test (sym here) ∙ passes)
    (λ i y less stands. ap test (sym (get_or_from_slice_get xs i y x stands)) ∙ before i less)

-- how many come before the one that is found
passed_one : {X : Type 0} (test : X → Bool) (y x : X) (ys : List X) (b : Bool) → test y ≡ b → cond b (Some y) (find test ys) ≡ Some x
    → (find test ys ≡ Some x → slice_get ys (prefix_len (λ z. not (test z)) ys) ≡ Some x)
    → slice_get (y ∷ ys) (cond (not b) (1 + prefix_len (λ z. not (test z)) ys) 0) ≡ Some x
passed_one test y x ys true is e rest = e
passed_one {X} test y x ys false is e rest = ap (λ (n : ℕ). slice_get (y ∷ ys) n) (one-add (prefix_len (λ (z : X). not (test z)) ys)) ∙ rest e

passed : {X : Type 0} (test : X → Bool) (xs : List X) (x : X) → find test xs ≡ Some x → slice_get xs (prefix_len (λ y. not (test y)) xs) ≡ Some x
passed test [] x e = absurd (none-some x e)
passed test (y ∷ ys) x e = passed_one test y x ys (test y) refl e (passed test ys x)

-- what is found stands at the number of the first that passes
pub number_of_found : {X : Type 0} (test : X → Bool) (xs : List X) (x : X) → find test xs ≡ Some x
    → (number : ℕ) × (position test xs ≡ Some number) × (slice_get xs number ≡ Some x)
number_of_found {X} test xs x e =
    let number = prefix_len (λ (y : X). not (test y)) xs in
    let at = passed test xs x e in
    let within : number < length xs = slice_get_within xs number x at in
    (number, ap (λ (b : Bool). cond b (Some number) None) (lt-ltb number (length xs) within), at)

-- the number is below the length
pub number_within : {X : Type 0} (test : X → Bool) (xs : List X) (number : ℕ) (d : X) → position test xs ≡ Some number → number < length xs
number_within test xs number d is = (position-Some test xs number d is).0
