-- What tests say of lists: a test that all pass, and a search for the first that passes.
use Rattle.std.proofs.Common.{◌≡◌, ◌⊎◌, inl, inr, ℕ, zero, suc, Bool, true, false, cond, ◌||◌, List, [], ◌∷◌, ◌++◌, Some, None, find, filter, refl, sym, ap, ◌∙◌, subst}
use Rattle.std.specs.List.{slice_get, Contains, list_all, list_any}
use Rattle.std.proofs.lemmas.Bool.{cases_Bool, and_parts, or_left, or_right}
use Rattle.std.proofs.lemmas.Option.{none-some, same_Some}
use Rattle.list_laws.proofs.Members.{contains_none, contains_first, contains_later, contains_cases}
use Rattle.list_laws.proofs.Places.{place_of}

-- ---- all pass

-- where all pass, what stands at a place passes
pub passes_at : {X : Type 0} (test : X → Bool) (xs : List X) (k : ℕ) (x : X) → list_all test xs ≡ true → slice_get xs k ≡ Some x → test x ≡ true
passes_at test [] k x all e = absurd (none-some x e)
passes_at {X} test (y ∷ ys) zero x all e = subst (λ (z : X). test z ≡ true) (same_Some y x e) (and_parts (test y) (list_all test ys) all).0
passes_at test (y ∷ ys) (suc k) x all e = passes_at test ys k x (and_parts (test y) (list_all test ys) all).1 e

-- where all pass, what is contained passes
pub each_passes : {X : Type 0} (test : X → Bool) (xs : List X) (x : X) → list_all test xs ≡ true → Contains xs x → test x ≡ true
each_passes test xs x all there = let at = place_of xs x there in passes_at test xs at.0 x all at.1

-- ---- some pass

pub some_passes : {X : Type 0} (test : X → Bool) (before : List X) (x : X) (after : List X) → test x ≡ true → list_any test (before ++ x ∷ after) ≡ true
some_passes test [] x after passes = or_left (test x) (list_any test after) passes
some_passes test (y ∷ before) x after passes = or_right (test y) (list_any test (before ++ x ∷ after)) (some_passes test before x after passes)

-- what a filter lets through passes
pub some_of_filter : {X : Type 0} (f : X → Bool) (xs : List X) (y : X) (ys : List X) → filter f xs ≡ y ∷ ys → list_any f xs ≡ true
some_of_filter f [] y ys e = absurd cc
some_of_filter f (x ∷ xs) y ys e = by (f x) refl (λ other. some_of_filter f xs y ys other)
  where
    by : (b : Bool) → f x ≡ b → (filter f xs ≡ y ∷ ys → list_any f xs ≡ true) → list_any f (x ∷ xs) ≡ true
    by true is later = ap (λ (b : Bool). b || list_any f xs) is
    by false is later = ap (λ (b : Bool). b || list_any f xs) is ∙ later (sym (ap (λ (b : Bool). cond b (x ∷ filter f xs) (filter f xs)) is) ∙ e)

-- ---- the first that passes

-- what a search finds, and what it takes
pub record IsFound {X : Type 0} (test : X → Bool) (xs : List X) (x : X) : Type 0 where
  pub there : Contains xs x
  pub taken : test x ≡ true

pub found : {X : Type 0} (test : X → Bool) (xs : List X) (x : X) → find test xs ≡ Some x → IsFound test xs x
found test [] x e = absurd (none-some x e)
found {X = X} test (y ∷ xs) x e = by (found test xs x) (cases_Bool (test y))
  where
    by : (find test xs ≡ Some x → IsFound test xs x) → (test y ≡ true) ⊎ (test y ≡ false) → IsFound test (y ∷ xs) x
    by later (inl is) =
        let same : y ≡ x = same_Some y x (sym (ap (λ (b : Bool). cond b (Some y) (find test xs)) is) ∙ e) in
        record { there = subst (λ (z : X). Contains (y ∷ xs) z) same (contains_first y xs); taken = sym (ap test same) ∙ is }
    by later (inr is) =
        let rest = later (sym (ap (λ (b : Bool). cond b (Some y) (find test xs)) is) ∙ e) in
        record { there = contains_later y x xs rest.there; taken = rest.taken }

pub not_found : {X : Type 0} (test : X → Bool) (xs : List X) → find test xs ≡ None → (x : X) → Contains xs x → test x ≡ true → ⊥
not_found test [] e x there is = contains_none x there
not_found {X = X} test (y ∷ xs) e x there is = by (not_found test xs) (cases_Bool (test y)) (contains_cases y x xs there)
  where
    by : (find test xs ≡ None → (z : X) → Contains xs z → test z ≡ true → ⊥) → (test y ≡ true) ⊎ (test y ≡ false) → (y ≡ x) ⊎ Contains xs x → ⊥
    by later (inl t) place = none-some y (sym e ∙ ap (λ (b : Bool). cond b (Some y) (find test xs)) t)
    by later (inr t) (inl same) = absurd (cc (same, t, is))
    by later (inr t) (inr rest) = later (sym (ap (λ (b : Bool). cond b (Some y) (find test xs)) t) ∙ e) x rest is
