-- A key is added to a list of keys: by a push, or where it is not there yet.
use Rattle.std.proofs.Common.{◌≡◌, ℕ, zero, suc, Bool, true, false, cond, ◌||◌, List, [], ◌∷◌, ◌++◌, Some, get_or, refl, sym, ◌∙◌, ap, subst, inl, inr, ◌⊎◌}
use Rattle.std.specs.List.{slice_get, list_any, position}
use Rattle.std.proofs.lemmas.Bool.{false≢true}
use Rattle.std.proofs.lemmas.List.Quantifiers.{position-Some}
use Rattle.std.proofs.lemmas.Option.{same_Some, none-some, slice_get-get_or}
use Rattle.list_laws.proofs.Places.{in_longer, push_cases}
use Rattle.indexmap.specs.IndexSet.{insert_key}
use Rattle.least_sets.specs.Rules.{IsWithoutDoubles}
use Rattle.points_to_numbers.specs.Numbered.{Extends}

-- The key has the number in the new list, in which all else is as it was.
pub record IsAdded {K : Type 0} (old new : List K) (key : K) (number : ℕ) : Type 0 where
  pub longer : Extends old new
  pub stands : slice_get new number ≡ Some key
  pub others : (place : ℕ) (x : K) → slice_get new place ≡ Some x → (slice_get old place ≡ Some x) ⊎ (x ≡ key)
  pub apart : IsWithoutDoubles old → IsWithoutDoubles new

-- what is added holds of the new list too
pub extends_same : {K : Type 0} (keys : List K) → Extends keys keys
extends_same keys place x e = e

-- a push of anything
pub pushed_longer : {K : Type 0} (keys : List K) (key : K) → Extends keys (keys ++ key ∷ [])
pushed_longer keys key place x e = in_longer keys (key ∷ []) place x e

module _ {K : Type 0} (eq : K → K → Bool) (exact : (a b : K) → eq a b ≡ true → a ≡ b) (same : (a : K) → eq a a ≡ true) where
  -- a key that stands somewhere is found
  pub found : (keys : List K) (key : K) (place : ℕ) → slice_get keys place ≡ Some key → list_any (eq key) keys ≡ true
  found [] key place e = absurd (none-some key e)
  found (k ∷ keys) key zero e = ap (λ (x : K). eq key x || list_any (eq key) keys) (same_Some _ _ e) ∙ ap (λ (b : Bool). b || list_any (eq key) keys) (same key)
  found (k ∷ keys) key (suc place) e = or_right (eq key k) _ (found keys key place e)
    where
      or_right : (a b : Bool) → b ≡ true → (a || b) ≡ true
      or_right true b h = refl
      or_right false b h = h

  -- a key that is found stands somewhere
  pub stands_somewhere : (keys : List K) (key : K) → list_any (eq key) keys ≡ true → (place : ℕ) × (slice_get keys place ≡ Some key)
  stands_somewhere [] key there = absurd (false≢true there)
  stands_somewhere (k ∷ keys) key there = by (eq key k) refl (stands_somewhere keys key) there
    where
      by : (b : Bool) → eq key k ≡ b → (list_any (eq key) keys ≡ true → (place : ℕ) × (slice_get keys place ≡ Some key)) → (b || list_any (eq key) keys) ≡ true
          → (place : ℕ) × (slice_get (k ∷ keys) place ≡ Some key)
      by true e rest h = (0, ap Some (sym (exact key k e)))
      by false e rest h = let (place, at) = rest h in (suc place, at)

  -- a new key goes last, and is none of the others
  fresh_apart : (keys : List K) (key : K) → list_any (eq key) keys ≡ false → IsWithoutDoubles keys → IsWithoutDoubles (keys ++ key ∷ [])
  fresh_apart keys key fresh apart x i j at_i at_j = elim (push_cases keys key i x at_i) [
    | inl old_i ↦ elim (push_cases keys key j x at_j) [
      | inl old_j ↦ apart x i j old_i old_j
      | inr last_j ↦ absurd (false≢true (sym fresh ∙ found keys key i (old_i ∙ ap Some last_j.1)))
    ]
    | inr last_i ↦ elim (push_cases keys key j x at_j) [
      | inl old_j ↦ absurd (false≢true (sym fresh ∙ found keys key j (old_j ∙ ap Some last_i.1)))
      | inr last_j ↦ last_i.0 ∙ sym last_j.0
    ]
  ]

  pub inserted : (old new : List K) (key : K) (number : ℕ) → new ≡ insert_key eq old key → (k : K) × (slice_get new number ≡ Some k) × (eq key k ≡ true) → IsAdded old new key number
  inserted old new key number is (k, at, equal) =
      subst (λ (keys : List K). slice_get keys number ≡ Some key → IsAdded old keys key number) (sym is)
      (by (list_any (eq key) old) refl)
      (at ∙ ap Some (sym (exact key k equal)))
    where
      by : (b : Bool) → list_any (eq key) old ≡ b → slice_get (cond b old (old ++ key ∷ [])) number ≡ Some key → IsAdded old (cond b old (old ++ key ∷ [])) key number
      by true there stands = record { longer = extends_same old; stands = stands; others = λ place x e. inl e; apart = λ apart. apart }
      by false fresh stands = record {
        longer = pushed_longer old key;
        stands = stands;
        others = λ place x e. elim (push_cases old key place x e) [ inl before ↦ inl before | inr last ↦ inr last.1 ];
        apart = fresh_apart old key fresh;
      }

-- a key that is looked up stands at its place
pub looked_up : {K : Type 0} (eq : K → K → Bool) (keys : List K) (key : K) (number : ℕ) → Some number ≡ position (eq key) keys
    → (k : K) × (slice_get keys number ≡ Some k) × (eq key k ≡ true)
looked_up eq keys key number found =
    let (within, same, before) = position-Some (eq key) keys number key (sym found) in
    (get_or keys number key, slice_get-get_or keys number key within, same)
