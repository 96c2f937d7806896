-- Lists by their places.
use Rattle.std.proofs.Common.{◌≡◌, ◌⊎◌, inl, inr, ℕ, zero, suc, ◌+◌, List, [], ◌∷◌, ◌++◌, length, Option, Some, None, slice_get, Contains, refl, ap, subst, arith}
use Rattle.std.specs.Prelude.{slice_set}
use Rattle.std.proofs.lemmas.Bool.{cases_eq}
use Rattle.std.proofs.lemmas.Option.{none-some, same_Some}
use Rattle.list_laws.proofs.Members.{contains_cases, contains_first, contains_later, contains_none}
pub use Rattle.list_laws.proofs.Places.{placed}

-- ---- by place

pub single : {X : Type 0} (x y : X) (k : ℕ) → slice_get (x ∷ []) k ≡ Some y → x ≡ y
single x y zero e = same_Some x y e
single x y (suc k) e = absurd (none-some y e)

pub some_or_not : (target : Option ℕ) (z : ℕ) → (target ≡ Some z) ⊎ (target ≡ Some z → ⊥)
some_or_not None z = inr (λ e. none-some z e)
some_or_not (Some y) z = elim (cases_eq y z) [ inl e ↦ inl (ap Some e) | inr ne ↦ inr (λ e. ne (same_Some y z e)) ]

-- ---- one list after another

pub behind : {X : Type 0} (xs ys : List X) (k : ℕ) (x : X) → slice_get ys k ≡ Some x → slice_get (xs ++ ys) (length xs + k) ≡ Some x
behind [] ys k x e = let same : k ≡ 0 + k = omega arith in subst (λ (i : ℕ). slice_get ys i ≡ Some x) same e
behind (y ∷ xs) ys k x e =
    let same : suc (length xs + k) ≡ suc (length xs) + k = omega arith in
    subst (λ (i : ℕ). slice_get (y ∷ xs ++ ys) i ≡ Some x) same (behind xs ys k x e)

-- at the end, or before it
pub record IsBehind {X : Type 0} (xs ys : List X) (k : ℕ) (x : X) : Type 0 where
  pub after : ℕ
  pub at : k ≡ length xs + after
  pub held : slice_get ys after ≡ Some x

pub where_joined : {X : Type 0} (xs ys : List X) (k : ℕ) (x : X) → slice_get (xs ++ ys) k ≡ Some x → (slice_get xs k ≡ Some x) ⊎ IsBehind xs ys k x
where_joined [] ys k x e = inr (record { after = k; at = omega arith; held = e })
where_joined (y ∷ xs) ys zero x e = inl e
where_joined (y ∷ xs) ys (suc k) x e = by (where_joined xs ys k x e)
  where
    by : (slice_get xs k ≡ Some x) ⊎ IsBehind xs ys k x → (slice_get xs k ≡ Some x) ⊎ IsBehind (y ∷ xs) ys (suc k) x
    by (inl held) = inl held
    by (inr late) = let at = late.at in inr (record { after = late.after; at = omega (arith, at); held = late.held })

-- ---- another one in its place

pub set_here : {X : Type 0} (xs : List X) (k : ℕ) (x y : X) → slice_get xs k ≡ Some x → slice_get (slice_set xs k y) k ≡ Some y
set_here [] k x y e = absurd (none-some x e)
set_here (z ∷ xs) zero x y e = refl
set_here (z ∷ xs) (suc k) x y e = set_here xs k x y e

pub set_there : {X : Type 0} (xs : List X) (k j : ℕ) (y : X) → (j ≡ k → ⊥) → slice_get (slice_set xs k y) j ≡ slice_get xs j
set_there [] k j y ne = refl
set_there (z ∷ xs) zero zero y ne = absurd (ne refl)
set_there (z ∷ xs) zero (suc j) y ne = refl
set_there (z ∷ xs) (suc k) zero y ne = refl
set_there (z ∷ xs) (suc k) (suc j) y ne = set_there xs k j y (λ e. ne (ap suc e))

pub where_set : {X : Type 0} (xs : List X) (k : ℕ) (y x : X) → Contains (slice_set xs k y) x → (y ≡ x) ⊎ Contains xs x
where_set [] k y x there = absurd (contains_none x there)
where_set (z ∷ xs) zero y x there = elim (contains_cases y x xs there) [ inl e ↦ inl e | inr later ↦ inr (contains_later z x xs later) ]
where_set {X = X} (z ∷ xs) (suc k) y x there = by (where_set xs k y x) (contains_cases z x (slice_set xs k y) there)
  where
    by : (Contains (slice_set xs k y) x → (y ≡ x) ⊎ Contains xs x) → (z ≡ x) ⊎ Contains (slice_set xs k y) x → (y ≡ x) ⊎ Contains (z ∷ xs) x
    by rest (inl e) = inr (subst (λ (w : X). Contains (z ∷ xs) w) e (contains_first z xs))
    by rest (inr later) = elim (rest later) [ inl e ↦ inl e | inr there ↦ inr (contains_later z x xs there) ]
