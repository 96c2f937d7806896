-- Two lists that go together, place by place: each item of one has its item of the other.
use Rattle.std.proofs.Common.{◌≡◌, ℕ, zero, suc, List, [], ◌∷◌, Some, refl, subst}
use Rattle.std.specs.List.{AllZip, Contains, slice_get}
use Rattle.std.proofs.lemmas.Option.{none-some, same_Some}
use Rattle.least_sets.proofs.Places.{contains_at, place_of}

-- ---- at one place

-- the item of the first list
pub first_at : {A B : Type 0} (R : A → B → Type 0) (xs : List A) (ys : List B) (k : ℕ) (y : B) → AllZip R xs ys → slice_get ys k ≡ Some y
    → (x : A) × (slice_get xs k ≡ Some x) × R x y
first_at R [] [] k y all stands = absurd (none-some y stands)
first_at R [] (b ∷ ys) k y all stands = absurd all
first_at R (a ∷ xs) [] k y all stands = absurd all
first_at {B = B} R (a ∷ xs) (b ∷ ys) zero y all stands = (a, refl, subst (λ (z : B). R a z) (same_Some b y stands) all.0)
first_at R (a ∷ xs) (b ∷ ys) (suc k) y all stands = first_at R xs ys k y all.1 stands

-- the item of the second list
pub second_at : {A B : Type 0} (R : A → B → Type 0) (xs : List A) (ys : List B) (k : ℕ) (x : A) → AllZip R xs ys → slice_get xs k ≡ Some x
    → (y : B) × (slice_get ys k ≡ Some y) × R x y
second_at R [] [] k x all stands = absurd (none-some x stands)
second_at R [] (b ∷ ys) k x all stands = absurd all
second_at R (a ∷ xs) [] k x all stands = absurd all
second_at {A = A} R (a ∷ xs) (b ∷ ys) zero x all stands = (b, refl, subst (λ (z : A). R z b) (same_Some a x stands) all.0)
second_at R (a ∷ xs) (b ∷ ys) (suc k) x all stands = second_at R xs ys k x all.1 stands

-- ---- at some place

pub first_of : {A B : Type 0} (R : A → B → Type 0) (xs : List A) (ys : List B) (y : B) → AllZip R xs ys → Contains ys y → (x : A) × Contains xs x × R x y
first_of R xs ys y all there =
    let (place, at) = place_of ys y there in
    let x = first_at R xs ys place y all at in
    (x.0, contains_at xs place x.0 x.1, x.2)

pub second_of : {A B : Type 0} (R : A → B → Type 0) (xs : List A) (ys : List B) (x : A) → AllZip R xs ys → Contains xs x → (y : B) × Contains ys y × R x y
second_of R xs ys x all there =
    let (place, at) = place_of xs x there in
    let y = second_at R xs ys place x all at in
    (y.0, contains_at ys place y.0 y.1, y.2)
