-- Two lists side by side, each element of the one related to that of the other.
use Rattle.std.proofs.Common.{◌≡◌, ℕ, zero, suc, ◌+◌, ◌<◌, List, [], ◌∷◌, ◌++◌, length, take, get_or, Some, refl, sym, ap, ◌∙◌, subst}
use Rattle.std.specs.List.{slice_get, AllZip}
use Rattle.std.proofs.lemmas.List.{take_more}
use Rattle.std.proofs.lemmas.Option.{none-some, same_Some}
use Rattle.std.proofs.lemmas.Slice.Zip.{all_zipped_more}

-- ---- at one place

-- what stands beside an element of the first list
pub zip_at : {A B : Type 0} (R : A → B → Type 0) (xs : List A) (ys : List B) (k : ℕ) (x : A) → AllZip R xs ys → slice_get xs k ≡ Some x
    → (y : B) × (slice_get ys k ≡ Some y) × R x y
zip_at R [] ys k x all e = absurd (none-some x e)
zip_at R (a ∷ xs) [] k x all e = absurd all
zip_at {A} R (a ∷ xs) (b ∷ ys) zero x all e = (b, refl, subst (λ (z : A). R z b) (same_Some a x e) all.0)
zip_at R (a ∷ xs) (b ∷ ys) (suc k) x all e = zip_at R xs ys k x all.1 e

-- what stands beside an element of the second list
pub zip_back : {A B : Type 0} (R : A → B → Type 0) (xs : List A) (ys : List B) (k : ℕ) (y : B) → AllZip R xs ys → slice_get ys k ≡ Some y
    → (x : A) × (slice_get xs k ≡ Some x) × R x y
zip_back R xs [] k y all e = absurd (none-some y e)
zip_back R [] (b ∷ ys) k y all e = absurd all
zip_back {A} {B} R (a ∷ xs) (b ∷ ys) zero y all e = (a, refl, subst (λ (z : B). R a z) (same_Some b y e) all.0)
zip_back R (a ∷ xs) (b ∷ ys) (suc k) y all e = zip_back R xs ys k y all.1 e

-- ---- the lists as wholes

-- one more of each list
pub zip_more : {A B : Type 0} (R : A → B → Type 0) (xs : List A) (ys : List B) (i : ℕ) (x : A) (y : B) → i < length xs → x ≡ get_or xs i x
    → AllZip R (take i xs) ys → R x y → AllZip R (take (i + 1) xs) (ys ++ y ∷ [])
zip_more R xs ys i x y within e all r =
    let more : take (i + 1) xs ≡ take i xs ++ x ∷ [] = take_more xs i x within ∙ ap (λ w. take i xs ++ w ∷ []) (sym e) in
    rw more (all_zipped_more R (take i xs) ys x y all r)

-- a relation that gives another
pub zip_weaker : {A B : Type 0} (R S : A → B → Type 0) → ((x : A) (y : B) → R x y → S x y) → (xs : List A) (ys : List B) → AllZip R xs ys → AllZip S xs ys
zip_weaker R S give [] [] all = tt
zip_weaker R S give [] (y ∷ ys) all = absurd all
zip_weaker R S give (x ∷ xs) [] all = absurd all
zip_weaker R S give (x ∷ xs) (y ∷ ys) all = (give x y all.0, zip_weaker R S give xs ys all.1)

-- what stands beside a list is one list, if what stands beside an element is one thing
pub zip_unique : {A B : Type 0} (R : A → B → Type 0) → ((x : A) (y z : B) → R x y → R x z → y ≡ z) → (xs : List A) (ys zs : List B) → AllZip R xs ys → AllZip R xs zs → ys ≡ zs
zip_unique R one [] [] [] first second = refl
zip_unique R one [] [] (z ∷ zs) first second = absurd second
zip_unique R one [] (y ∷ ys) zs first second = absurd first
zip_unique R one (x ∷ xs) [] zs first second = absurd first
zip_unique R one (x ∷ xs) (y ∷ ys) [] first second = absurd second
zip_unique R one (x ∷ xs) (y ∷ ys) (z ∷ zs) first second =
    let heads = one x y z first.0 second.0 in
    let tails = zip_unique R one xs ys zs first.1 second.1 in
    (λ i. heads i ∷ tails i)
