-- Lists by their places: `slice_get` against `Contains`, `++`, `take`, `set` and `map`.
use Rattle.std.proofs.Common.{◌≡◌, ℕ, zero, suc, ◌+◌, ◌<◌, List, [], ◌∷◌, ◌++◌, length, map, take, set, Some, refl, sym, ◌∙◌, ap, subst, arith, inl, inr, ◌⊎◌}
use Rattle.std.specs.List.{slice_get, All, Contains}
use Rattle.std.specs.Option.{option_map}
use Rattle.std.proofs.lemmas.List.Elements.{All-contains, Contains-append_left, Contains-push, Contains-push_cases}
use Rattle.std.proofs.lemmas.Option.{slice_get_within, slice_get-get_or, slice_get-map, get_or_from_slice_get, same_Some, none-some}

-- what a list contains stands at a place, and the other way round
pub place_of : {X : Type 0} (xs : List X) (x : X) → Contains xs x → (k : ℕ) × (slice_get xs k ≡ Some x)
place_of xs x (k, l, e) = (k, slice_get-get_or xs k x l ∙ ap Some e)

pub placed : {X : Type 0} (xs : List X) (x : X) (there : Contains xs x) → slice_get xs there.0 ≡ Some x
placed xs x there = slice_get-get_or xs there.0 x there.1 ∙ ap Some there.2

pub contains_at : {X : Type 0} (xs : List X) (k : ℕ) (x : X) → slice_get xs k ≡ Some x → Contains xs x
contains_at xs k x e = (k, slice_get_within xs k x e, get_or_from_slice_get xs k x x e)

-- each place of a list has something
pub stands_below : {X : Type 0} (xs : List X) (k : ℕ) → k < length xs → (x : X) × (slice_get xs k ≡ Some x)
stands_below [] k l = absurd (omega arith)
stands_below (x ∷ xs) zero l = (x, refl)
stands_below (x ∷ xs) (suc k) l = stands_below xs k (omega arith)

-- what all have, what stands at a place has
pub all_at : {X : Type 0} (P : X → Type 0) (xs : List X) (k : ℕ) (x : X) → All P xs → slice_get xs k ≡ Some x → P x
all_at P xs k x all e = All-contains P xs x all (contains_at xs k x e)

-- ---- fronts

-- what stands in a front stands in the whole, at a place before the cut
pub in_front : {X : Type 0} (xs : List X) (n k : ℕ) (x : X) → slice_get (take n xs) k ≡ Some x → (k < n) × (slice_get xs k ≡ Some x)
in_front [] zero k x e = absurd (none-some x e)
in_front [] (suc n) k x e = absurd (none-some x e)
in_front (y ∷ ys) zero k x e = absurd (none-some x e)
in_front (y ∷ ys) (suc n) zero x e = (omega arith, e)
in_front (y ∷ ys) (suc n) (suc k) x e = let h = in_front ys n k x e in (omega (arith, h.0), h.1)

pub to_front : {X : Type 0} (xs : List X) (n k : ℕ) (x : X) → k < n → slice_get xs k ≡ Some x → slice_get (take n xs) k ≡ Some x
to_front [] n k x l e = absurd (none-some x e)
to_front (y ∷ ys) zero k x l e = absurd (omega arith)
to_front (y ∷ ys) (suc n) zero x l e = e
to_front (y ∷ ys) (suc n) (suc k) x l e = to_front ys n k x (omega arith) e

-- the front up to a place, and what stands there
pub front_push : {X : Type 0} (xs : List X) (k : ℕ) (x : X) → slice_get xs k ≡ Some x → take (suc k) xs ≡ take k xs ++ x ∷ []
front_push [] k x e = absurd (none-some x e)
front_push {X} (y ∷ ys) zero x e = ap (λ (z : X). z ∷ []) (same_Some _ _ e)
front_push {X} (y ∷ ys) (suc k) x e = ap (λ (zs : List X). y ∷ zs) (front_push ys k x e)

pub front_more : {X : Type 0} (xs : List X) (k : ℕ) (x : X) → slice_get xs k ≡ Some x → take (k + 1) xs ≡ take k xs ++ x ∷ []
front_more {X} xs k x e = let next : k + 1 ≡ suc k = omega arith in ap (λ (n : ℕ). take n xs) next ∙ front_push xs k x e

-- what the front contains when it has one more
pub last_or_before : {X : Type 0} (xs : List X) (k : ℕ) (last : X) → slice_get xs k ≡ Some last
    → (x : X) → Contains (take (k + 1) xs) x → Contains (take k xs) x ⊎ (last ≡ x)
last_or_before {X} xs k last e x there =
    Contains-push_cases (take k xs) last x (subst (λ (ys : List X). Contains ys x) (front_more xs k last e) there)

pub last_there : {X : Type 0} (xs : List X) (k : ℕ) (last : X) → slice_get xs k ≡ Some last → Contains (take (k + 1) xs) last
last_there {X} xs k last e = subst (λ (ys : List X). Contains ys last) (sym (front_more xs k last e)) (Contains-push (take k xs) last)

pub before_there : {X : Type 0} (xs : List X) (k : ℕ) (last : X) → slice_get xs k ≡ Some last
    → (x : X) → Contains (take k xs) x → Contains (take (k + 1) xs) x
before_there {X} xs k last e x there =
    subst (λ (ys : List X). Contains ys x) (sym (front_more xs k last e)) (Contains-append_left (take k xs) (last ∷ []) x there)

-- ---- longer lists

-- what stands in a list stands there when more is added
pub in_longer : {X : Type 0} (xs ys : List X) (k : ℕ) (x : X) → slice_get xs k ≡ Some x → slice_get (xs ++ ys) k ≡ Some x
in_longer [] ys k x e = absurd (none-some x e)
in_longer (y ∷ xs) ys zero x e = e
in_longer (y ∷ xs) ys (suc k) x e = in_longer xs ys k x e

-- one more at the end
pub pushed_at : {X : Type 0} (xs : List X) (y : X) → slice_get (xs ++ y ∷ []) (length xs) ≡ Some y
pushed_at [] y = refl
pushed_at (x ∷ xs) y = pushed_at xs y

pub push_cases : {X : Type 0} (xs : List X) (y : X) (k : ℕ) (x : X) → slice_get (xs ++ y ∷ []) k ≡ Some x → (slice_get xs k ≡ Some x) ⊎ ((k ≡ length xs) × (x ≡ y))
push_cases [] y zero x e = inr (refl, sym (same_Some _ _ e))
push_cases [] y (suc k) x e = absurd (none-some x e)
push_cases (z ∷ xs) y zero x e = inl e
push_cases (z ∷ xs) y (suc k) x e = elim (push_cases xs y k x e) [ inl h ↦ inl h | inr h ↦ inr (ap suc h.0, h.1) ]

-- ---- an element is written

pub set_at : {X : Type 0} (xs : List X) (i : ℕ) (y : X) → i < length xs → slice_get (set xs i y) i ≡ Some y
set_at [] i y l = absurd (omega arith)
set_at (x ∷ xs) zero y l = refl
set_at (x ∷ xs) (suc i) y l = set_at xs i y (omega arith)

pub set_other : {X : Type 0} (xs : List X) (i j : ℕ) (y : X) → (j ≡ i → ⊥) → slice_get (set xs i y) j ≡ slice_get xs j
set_other [] i j y apart = refl
set_other (x ∷ xs) zero zero y apart = absurd (apart refl)
set_other (x ∷ xs) zero (suc j) y apart = refl
set_other (x ∷ xs) (suc i) zero y apart = refl
set_other (x ∷ xs) (suc i) (suc j) y apart = set_other xs i j y (λ e. apart (ap suc e))

pub set_cases : {X : Type 0} (xs : List X) (i j : ℕ) (y x : X) → slice_get (set xs i y) j ≡ Some x → ((j ≡ i) × (x ≡ y)) ⊎ (slice_get xs j ≡ Some x)
set_cases [] i j y x e = absurd (none-some x e)
set_cases (z ∷ xs) zero zero y x e = inl (refl, sym (same_Some _ _ e))
set_cases (z ∷ xs) zero (suc j) y x e = inr e
set_cases (z ∷ xs) (suc i) zero y x e = inr e
set_cases (z ∷ xs) (suc i) (suc j) y x e = elim (set_cases xs i j y x e) [ inl h ↦ inl (ap suc h.0, h.1) | inr h ↦ inr h ]

-- ---- by a map

-- what stands in the list of the answers is the answer of what stands there
pub map_at : {X Y : Type 0} (f : X → Y) (xs : List X) (k : ℕ) (y : Y) → slice_get (map f xs) k ≡ Some y → (x : X) × (slice_get xs k ≡ Some x) × (f x ≡ y)
map_at f [] k y e = absurd (none-some y e)
map_at f (x ∷ xs) zero y e = (x, refl, same_Some _ _ e)
map_at f (x ∷ xs) (suc k) y e = map_at f xs k y e

pub at_map : {X Y : Type 0} (f : X → Y) (xs : List X) (k : ℕ) (x : X) → slice_get xs k ≡ Some x → slice_get (map f xs) k ≡ Some (f x)
at_map f xs k x e = slice_get-map f xs k ∙ ap (option_map f) e
