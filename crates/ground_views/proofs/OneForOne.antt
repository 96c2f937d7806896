-- Lists of which one has at each place what belongs to what the other has.
use Rattle.std.proofs.Common.{◌≡◌, ◌≤◌, ◌<◌, ◌⊎◌, ℕ, ◌+◌, List, [], ◌∷◌, ◌++◌, length, get_or, take, Some, refl, sym, ap, ◌∙◌, subst, inl, inr, arith}
use Rattle.std.specs.List.{slice_get}
use Rattle.std.proofs.lemmas.List.{length-append, take_all}
use Rattle.std.proofs.lemmas.Option.{none-some, slice_get-get_or, slice_get_within}
use Rattle.list_laws.proofs.Places.{front_more, push_cases, stands_below}
use Rattle.ground_views.specs.Views.{AreOneForOne}

pub one_none : {X Y : Type 0} (R : X → Y → Type 0) (xs : List X) (ys : List Y) → ys ≡ [] → AreOneForOne R (take 0 xs) ys
one_none {X} {Y} R xs ys none = subst (AreOneForOne R []) (sym none) (record { count = refl; each = λ k x y at also. absurd (none-some x at) })

pub one_more : {X Y : Type 0} (R : X → Y → Type 0) (xs : List X) (ys : List Y) (k : ℕ) (x : X) (y : Y) → slice_get xs k ≡ Some x → AreOneForOne R (take k xs) ys → R x y
    → AreOneForOne R (take (k + 1) xs) (ys ++ y ∷ [])
one_more {X} {Y} R xs ys k x y at before belongs = subst (λ (zs : List X). AreOneForOne R zs (ys ++ y ∷ [])) (sym (front_more xs k x at)) (record { count = longer; each = each })
  where
    longer : length (take k xs ++ x ∷ []) ≡ length (ys ++ y ∷ [])
    longer =
        let one = length-append (take k xs) (x ∷ []) in
        let other = length-append ys (y ∷ []) in
        let same = before.count in
        omega (arith, one, other, same)

    by : (j : ℕ) (a : X) (b : Y) → (slice_get (take k xs) j ≡ Some a) ⊎ ((j ≡ length (take k xs)) × (a ≡ x)) → (slice_get ys j ≡ Some b) ⊎ ((j ≡ length ys) × (b ≡ y)) → R a b
    by j a b (inl first) (inl second) = before.each j a b first second
    by j a b (inl first) (inr second) =
        absurd (let within = slice_get_within (take k xs) j a first in let last = second.0 in let same = before.count in omega (arith, within, last, same))
    by j a b (inr first) (inl second) =
        absurd (let within = slice_get_within ys j b second in let last = first.0 in let same = before.count in omega (arith, within, last, same))
    by j a b (inr first) (inr second) = subst (λ (z : X). R z b) (sym first.1) (subst (R x) (sym second.1) belongs)

    each : (j : ℕ) (a : X) (b : Y) → slice_get (take k xs ++ x ∷ []) j ≡ Some a → slice_get (ys ++ y ∷ []) j ≡ Some b → R a b
    each j a b first second = by j a b (push_cases (take k xs) x j a first) (push_cases ys y j b second)

pub one_all : {X Y : Type 0} (R : X → Y → Type 0) (xs : List X) (ys : List Y) (k : ℕ) → length xs ≤ k → AreOneForOne R (take k xs) ys → AreOneForOne R xs ys
one_all {X} {Y} R xs ys k all are = subst (λ (zs : List X). AreOneForOne R zs ys) (take_all k xs all) are

-- what belongs to an element stands where it does
pub there_is : {X Y : Type 0} (R : X → Y → Type 0) (xs : List X) (ys : List Y) (k : ℕ) (x : X) → AreOneForOne R xs ys → slice_get xs k ≡ Some x → k < length ys
there_is {X} {Y} R xs ys k x are at = let within = slice_get_within xs k x at in let same = are.count in omega (arith, within, same)

pub partner : {X Y : Type 0} (R : X → Y → Type 0) (xs : List X) (ys : List Y) (k : ℕ) (x : X) → AreOneForOne R xs ys → slice_get xs k ≡ Some x → (y : Y) × (slice_get ys k ≡ Some y) × R x y
partner {X} {Y} R xs ys k x are at = let found = stands_below ys k (there_is R xs ys k x are at) in (found.0, found.1, are.each k x found.0 at found.1)

-- what is read stands at the place
pub stands_read : {X : Type 0} (xs : List X) (k : ℕ) (x : X) → k < length xs → x ≡ get_or xs k x → slice_get xs k ≡ Some x
stands_read xs k x short is = slice_get-get_or xs k x short ∙ ap Some (sym is)
