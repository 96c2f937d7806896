-- What is added to lists: nothing, one thing, one after the other, for each in a list.
use Rattle.std.proofs.Common.{◌≡◌, ◌⊎◌, ◌↔◌, ℕ, ◌+◌, ◌≤◌, List, [], ◌∷◌, ◌++◌, length, take, Some, sym, subst, inl, inr}
use Rattle.std.specs.List.{slice_get, Contains}
use Rattle.std.proofs.lemmas.List.{take_all}
use Rattle.std.proofs.lemmas.List.Elements.{Contains-append_left, Contains-push, Contains-push_cases}
use Rattle.list_laws.proofs.Members.{contains_none}
use Rattle.list_laws.proofs.Places.{before_there, last_or_before, last_there}
use Rattle.ground.specs.Added.{AreAdded, OfOne}

-- one thing at the end
pub pushed_adds : {X : Type 0} (xs : List X) (y : X) → AreAdded (λ x. y ≡ x) xs (xs ++ y ∷ [])
pushed_adds {X} xs y = record {
  each = λ x. (
    λ there. elim (Contains-push_cases xs y x there) [ inl before ↦ inl before | inr last ↦ inr last ],
    λ either. elim either [
      | inl before ↦ Contains-append_left xs (y ∷ []) x before
      | inr is ↦ subst (λ (z : X). Contains (xs ++ y ∷ []) z) is (Contains-push xs y)
    ],
  );
}

module _ {X : Type 0} (P : X → Type 0) where
  -- nothing has the property
  pub added_none : (xs : List X) → ((x : X) → P x → ⊥) → AreAdded P xs xs
  added_none xs none = record { each = λ x. (λ there. inl there, λ either. elim either [ inl there ↦ there | inr p ↦ absurd (none x p) ]) }

  -- the same, said otherwise
  pub added_as : (Q : X → Type 0) (old new : List X) → ((x : X) → P x → Q x) → ((x : X) → Q x → P x) → AreAdded P old new → AreAdded Q old new
  added_as Q old new to from added = record {
    each = λ x. (
      λ there. elim ((added.each x).0 there) [ inl before ↦ inl before | inr p ↦ inr (to x p) ],
      λ either. elim either [ inl before ↦ (added.each x).1 (inl before) | inr q ↦ (added.each x).1 (inr (from x q)) ],
    );
  }

  -- one after the other
  pub added_both : (Q : X → Type 0) (a b c : List X) → AreAdded P a b → AreAdded Q b c → AreAdded (λ x. P x ⊎ Q x) a c
  added_both Q a b c first second = record {
    each = λ x. (
      λ there. elim ((second.each x).0 there) [
        | inl before ↦ elim ((first.each x).0 before) [ inl old ↦ inl old | inr p ↦ inr (inl p) ]
        | inr q ↦ inr (inr q)
      ],
      λ either. elim either [
        | inl old ↦ (second.each x).1 (inl ((first.each x).1 (inl old)))
        | inr some ↦ elim some [
          | inl p ↦ (second.each x).1 (inl ((first.each x).1 (inr p)))
          | inr q ↦ (second.each x).1 (inr q)
        ]
      ],
    );
  }

  -- to nothing
  pub added_alone : (new : List X) → AreAdded P [] new → (x : X) → Contains new x ↔ P x
  added_alone new added x = (
    λ there. elim ((added.each x).0 there) [ inl before ↦ absurd (contains_none x before) | inr p ↦ p ],
    λ p. (added.each x).1 (inr p),
  )

-- for each in a list
module _ {X Y : Type 0} (R : X → Y → Type 0) (xs : List X) where
  -- one more
  pub added_more : (i : ℕ) (x : X) → slice_get xs i ≡ Some x → (a b c : List Y) → AreAdded (OfOne R (take i xs)) a b → AreAdded (R x) b c
      → AreAdded (OfOne R (take (i + 1) xs)) a c
  added_more i x at a b c before one =
      added_as (λ y. OfOne R (take i xs) y ⊎ R x y) (OfOne R (take (i + 1) xs)) a c
      (λ y either. elim either [
        | inl (z, there, r) ↦ (z, before_there xs i x at z there, r)
        | inr r ↦ (x, last_there xs i x at, r)
      ])
      (λ y some. elim (last_or_before xs i x at some.0 some.1) [
        | inl there ↦ inl (some.0, there, some.2)
        | inr same ↦ inr (subst (λ (z : X). R z y) (sym same) some.2)
      ])
      (added_both (OfOne R (take i xs)) (R x) a b c before one)

  -- all of them
  pub added_all : (i : ℕ) → length xs ≤ i → (a b : List Y) → AreAdded (OfOne R (take i xs)) a b → AreAdded (OfOne R xs) a b
  added_all i l a b added = subst (λ (front : List X). AreAdded (OfOne R front) a b) (take_all i xs l) added
