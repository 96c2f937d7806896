-- Keys that are seen as what they are of, where `==` holds of just those that are of one thing.
use Rattle.std.proofs.Common.{◌≡◌, ◌⊎◌, ℕ, ◌<◌, Bool, true, false, cond, List, ◌∷◌, [], ◌++◌, map, Some, get_or, sym, ◌∙◌, ap, subst, inl, inr, arith}
use Rattle.std.specs.List.{slice_get, list_any, position, Contains, IsDistinct}
use Rattle.std.proofs.lemmas.Bool.{cases_lt, false≢true}
use Rattle.std.proofs.lemmas.List.Quantifiers.{position-Some}
use Rattle.std.proofs.lemmas.Map.Keys.{any_passes_from_place, apart_from_distinct}
use Rattle.std.proofs.lemmas.Option.{slice_get_within, slice_get-get_or, get_or_from_slice_get}
use Rattle.list_laws.proofs.Places.{at_map, in_longer, map_at, place_of, push_cases}
use Rattle.indexmap.specs.IndexSet.{insert_key}
use Rattle.least_sets.specs.Rules.{IsWithoutDoubles}
use Rattle.site_numbers.specs.Added.{IsAdded}

-- `==` holds of just those keys that are of one thing.
pub record Sees {K X : Type 0} (eq : K → K → Bool) (f : K → X) : Type 0 where
  pub same : (a b : K) → eq a b ≡ true → f a ≡ f b
  pub equal : (a b : K) → f a ≡ f b → eq a b ≡ true

module _ {K X : Type 0} (eq : K → K → Bool) (f : K → X) (sees : Sees eq f) where
  -- ---- nothing stands twice

  not_before : (keys : List K) → IsDistinct eq keys → (x : X) (i j : ℕ) → slice_get (map f keys) i ≡ Some x → slice_get (map f keys) j ≡ Some x → i < j → ⊥
  not_before keys distinct x i j p q l =
      let (a, at_a, is_a) = map_at f keys i x p in
      let (b, at_b, is_b) = map_at f keys j x q in
      let apart = apart_from_distinct eq keys i j a distinct l (slice_get_within keys j b at_b) in
      let first : get_or keys i a ≡ a = get_or_from_slice_get keys i a a at_a in
      let second : get_or keys j a ≡ b = get_or_from_slice_get keys j b a at_b in
      let both : eq a b ≡ false = subst (λ (y : K). eq y b ≡ false) first (subst (λ (y : K). eq (get_or keys i a) y ≡ false) second apart) in
      false≢true (sym both ∙ sees.equal a b (is_a ∙ sym is_b))

  pub seen_apart : (keys : List K) → IsDistinct eq keys → IsWithoutDoubles (map f keys)
  seen_apart keys distinct x i j p q = elim (cases_lt i j) [
    | inl less ↦ absurd (not_before keys distinct x i j p q less)
    | inr more ↦ elim (cases_lt j i) [
      | inl less ↦ absurd (not_before keys distinct x j i q p less)
      | inr same ↦ omega arith
    ]
  ]

  -- ---- one more

  module _ (old new : List K) (key : K) (number : ℕ) (is : new ≡ insert_key eq old key) (stored : (k : K) × (slice_get new number ≡ Some k) × (eq key k ≡ true)) (distinct : IsDistinct eq new) where
    longer_by : (b : Bool) → (k : ℕ) (y : X) → slice_get (map f old) k ≡ Some y → slice_get (map f (cond b old (old ++ key ∷ []))) k ≡ Some y
    longer_by true k y at = at
    longer_by false k y at = let (a, at_a, is_a) = map_at f old k y at in at_map f (old ++ key ∷ []) k a (in_longer old (key ∷ []) k a at_a) ∙ ap Some is_a

    others_by : (b : Bool) → (k : ℕ) (y : X) → slice_get (map f (cond b old (old ++ key ∷ []))) k ≡ Some y → (slice_get (map f old) k ≡ Some y) ⊎ (y ≡ f key)
    others_by true k y at = inl at
    others_by false k y at =
        let (a, at_a, is_a) = map_at f (old ++ key ∷ []) k y at in
        elim (push_cases old key k a at_a) [
          | inl before ↦ inl (at_map f old k a before ∙ ap Some is_a)
          | inr last ↦ inr (sym is_a ∙ ap f last.1)
        ]

    pub inserted : (x : X) → f key ≡ x → IsAdded (map f old) (map f new) x number
    inserted x of = record {
      longer = λ k y at. subst (λ (keys : List K). slice_get (map f keys) k ≡ Some y) (sym is) (longer_by (list_any (eq key) old) k y at);
      stands = at_map f new number stored.0 stored.1 ∙ ap Some (sym (sees.same key stored.0 stored.2) ∙ of);
      others = λ k y at. elim (others_by (list_any (eq key) old) k y (subst (λ (keys : List K). slice_get (map f keys) k ≡ Some y) is at)) [
        | inl before ↦ inl before
        | inr last ↦ inr (last ∙ of)
      ];
      apart = seen_apart new distinct;
    }

  -- ---- what is found

  pub found_at : (keys : List K) (key : K) (number : ℕ) → Some number ≡ position (eq key) keys → slice_get (map f keys) number ≡ Some (f key)
  found_at keys key number e =
      let at = position-Some (eq key) keys number key (sym e) in
      at_map f keys number (get_or keys number key) (slice_get-get_or keys number key at.0) ∙ ap Some (sym (sees.same key (get_or keys number key) at.1))

  -- what is there is found
  pub is_found : (keys : List K) (key : K) → Contains (map f keys) (f key) → list_any (eq key) keys ≡ true
  is_found keys key there =
      let (k, stands) = place_of (map f keys) (f key) there in
      let (a, at_a, is_a) = map_at f keys k (f key) stands in
      any_passes_from_place (eq key) keys k a at_a (sees.equal key a (sym is_a))
