-- The keys of sets, where `==` tells each two of them apart: which are there, and what one more changes.
use Rattle.std.proofs.Common.{◌≡◌, ◌↔◌, ℕ, ◌<◌, Bool, true, false, cond, List, [], ◌∷◌, ◌++◌, Option, Some, None, position, is_some, get_or, refl, sym, ◌∙◌, ap, subst, inl, inr, arith}
use Rattle.std.specs.List.{slice_get, list_any, Contains, IsDistinct}
use Rattle.std.specs.Option.{IfSome}
use Rattle.std.proofs.lemmas.Bool.{cases_lt, false≢true}
use Rattle.std.proofs.lemmas.List.Elements.{Contains-push_cases, Contains-append_left, Contains-push}
use Rattle.std.proofs.lemmas.List.Quantifiers.{position-Some}
use Rattle.std.proofs.lemmas.Map.Keys.{any_passes_from_place, apart_from_distinct}
use Rattle.std.proofs.lemmas.Option.{slice_get_within, slice_get-get_or, get_or_from_slice_get}
use Rattle.list_laws.proofs.Places.{place_of}
use Rattle.indexmap.specs.IndexSet.{insert_key}
use Rattle.indexmap.proofs.CallerLemmas.{Contains-list_any}
use Rattle.least_sets.specs.Rules.{IsWithoutDoubles}
use Rattle.slot_names.specs.Branches.{Extends}
use Rattle.slot_names.proofs.ListPlaces.{Extends-itself, Extends-push}
use Rattle.ground.specs.Added.{AreAdded}

-- `==` holds of each key and itself, and of no others.
pub record Tells {K : Type 0} (eq : K → K → Bool) : Type 0 where
  pub itself : (a : K) → eq a a ≡ true
  pub exact : (a b : K) → eq a b ≡ true → a ≡ b

-- The same with the two the other way round.
pub tells_back : {K : Type 0} (eq : K → K → Bool) → Tells eq → Tells (λ (a b : K). eq b a)
tells_back eq tells = record { itself = tells.itself; exact = λ a b h. sym (tells.exact b a h) }

module _ {K : Type 0} (eq : K → K → Bool) (tells : Tells eq) where
  -- whether a key is there
  pub is_there : (keys : List K) (k : K) (b : Bool) → b ≡ list_any (eq k) keys → (b ≡ true) ↔ Contains keys k
  is_there keys k b is = (
    λ found. Contains-list_any eq tells.exact keys k (sym is ∙ found),
    λ there. let at = place_of keys k there in is ∙ any_passes_from_place (eq k) keys at.0 k at.1 (tells.itself k),
  )

  -- ---- one more

  added_by : (keys : List K) (k : K) (b : Bool) → list_any (eq k) keys ≡ b → AreAdded (λ x. x ≡ k) keys (cond b keys (keys ++ k ∷ []))
  added_by keys k true e = record {
    each = λ x. (
      λ there. inl there,
      λ either. elim either [ inl there ↦ there | inr is ↦ subst (λ (y : K). Contains keys y) (sym is) (Contains-list_any eq tells.exact keys k e) ],
    );
  }
  added_by keys k false e = record {
    each = λ x. (
      λ there. elim (Contains-push_cases keys k x there) [ inl before ↦ inl before | inr last ↦ inr (sym last) ],
      λ either. elim either [
        | inl there ↦ Contains-append_left keys (k ∷ []) x there
        | inr is ↦ subst (λ (y : K). Contains (keys ++ k ∷ []) y) (sym is) (Contains-push keys k)
      ],
    );
  }

  pub inserted_adds : (old new : List K) (k : K) → new ≡ insert_key eq old k → AreAdded (λ x. x ≡ k) old new
  inserted_adds old new k is = subst (λ (keys : List K). AreAdded (λ x. x ≡ k) old keys) (sym is) (added_by old k (list_any (eq k) old) refl)

  longer_by : (keys : List K) (k : K) (b : Bool) → Extends keys (cond b keys (keys ++ k ∷ []))
  longer_by keys k true = Extends-itself keys
  longer_by keys k false = Extends-push keys k

  pub inserted_longer : (old new : List K) (k : K) → new ≡ insert_key eq old k → Extends old new
  inserted_longer old new k is = subst (λ (keys : List K). Extends old keys) (sym is) (longer_by old k (list_any (eq k) old))

  -- ---- none stands twice

  not_before : (keys : List K) → IsDistinct eq keys → (x : K) (i j : ℕ) → slice_get keys i ≡ Some x → slice_get keys j ≡ Some x → i < j → ⊥
  not_before keys distinct x i j p q l =
      let apart = apart_from_distinct eq keys i j x distinct l (slice_get_within keys j x q) in
      let first : get_or keys i x ≡ x = get_or_from_slice_get keys i x x p in
      let second : get_or keys j x ≡ x = get_or_from_slice_get keys j x x q in
      let both : eq x x ≡ false = subst (λ (y : K). eq y x ≡ false) first (subst (λ (y : K). eq (get_or keys i x) y ≡ false) second apart) in
      let wrong : true ≡ false = sym (tells.itself x) ∙ both in cc

  pub apart_from_distinct_keys : (keys : List K) → IsDistinct eq keys → IsWithoutDoubles keys
  apart_from_distinct_keys keys distinct x i j p q = elim (cases_lt i j) [
    | inl less ↦ absurd (not_before keys distinct x i j p q less)
    | inr more ↦ elim (cases_lt j i) [
      | inl less ↦ absurd (not_before keys distinct x j i q p less)
      | inr same ↦ omega arith
    ]
  ]

  -- ---- where a key stands

  pub stands_at : (keys : List K) (k : K) (number : ℕ) → position (eq k) keys ≡ Some number → slice_get keys number ≡ Some k
  stands_at keys k number e =
      let at = position-Some (eq k) keys number k e in
      slice_get-get_or keys number k at.0 ∙ ap Some (sym (tells.exact k (get_or keys number k) at.1))

  pub found_at : (keys : List K) (k : K) (o : Option ℕ) → o ≡ position (eq k) keys → IfSome o (λ number. slice_get keys number ≡ Some k)
  found_at keys k (Some number) is = stands_at keys k number (sym is)
  found_at keys k None is = tt

  pub only_at : (keys : List K) → IsDistinct eq keys → (k : K) (o : Option ℕ) → o ≡ position (eq k) keys → is_some o ≡ list_any (eq k) keys
      → (number : ℕ) → slice_get keys number ≡ Some k → o ≡ Some number
  only_at keys distinct k (Some found) is known number there =
      ap (λ (n : ℕ). Some n) (apart_from_distinct_keys keys distinct k found number (stands_at keys k found (sym is)) there)
  only_at keys distinct k None is known number there = absurd (false≢true (known ∙ any_passes_from_place (eq k) keys number k there (tells.itself k)))
