-- The marked places as a list, and the last place behind them.
use Rattle.std.proofs.Common.{◌≡◌, ◌⊎◌, inl, inr, ℕ, ◌+◌, ◌<◌, Bool, true, false, List, [], ◌∷◌, ◌++◌, length, get_or, Some, refl, sym, ap, ◌∙◌, subst, arith}
use Rattle.std.specs.List.{Contains, slice_get}
use Rattle.std.proofs.lemmas.Bool.{cases_eq}
use Rattle.std.proofs.lemmas.List.Elements.{Contains-append_left, Contains-push, Contains-push_cases}
use Rattle.std.proofs.lemmas.Option.{same_Some, slice_get-get_or, slice_get_within}
use Rattle.list_laws.proofs.Places.{contains_at, push_cases}
use Rattle.edge_derivations.specs.Derived.{IsAscending, IsCutFor, IsNeeded}
use Rattle.edge_derivations.specs.Derived.IsNeeded.{at_last}
use Rattle.edge_derivations.specs.Marks.{AreListed, AreNeeded, IsMarked}
use Rattle.edge_derivations.proofs.Cutting.{needed_within}

-- one more goes last that is greater
ascending_more : (places : List ℕ) (last : ℕ) → IsAscending places → ((x : ℕ) → Contains places x → x < last) → IsAscending (places ++ last ∷ [])
ascending_more places last up less = record { below = λ i j x y before at also. by i j x y before (push_cases places last i x at) (push_cases places last j y also) }
  where
    by : (i j x y : ℕ) → i < j → (slice_get places i ≡ Some x) ⊎ ((i ≡ length places) × (x ≡ last)) → (slice_get places j ≡ Some y) ⊎ ((j ≡ length places) × (y ≡ last)) → x < y
    by i j x y before (inl at) (inl also) = up.below i j x y before at also
    by i j x y before (inl at) (inr end) = subst (λ (n : ℕ). x < n) (sym end.1) (less x (contains_at places i x at))
    by i j x y before (inr end) (inl also) = absurd (let is = end.0 in let within = slice_get_within places j y also in omega (arith, before, is, within))
    by i j x y before (inr end) (inr other) = absurd (let is = end.0 in let too = other.0 in omega (arith, before, is, too))

module _ (P : ℕ → Type 0) (k : ℕ) (numbers : List ℕ) (were : AreListed P k numbers) where
  -- the next number has P, and goes last
  pub listed_more : P k → AreListed P (k + 1) (numbers ++ k ∷ [])
  listed_more has = record { ascending = ascending_more numbers k were.ascending (λ x there. ((were.those x).0 there).1); those = λ j. (λ there. to j (Contains-push_cases numbers k j there), λ h. back j h (cases_eq j k)) }
    where
      to : (j : ℕ) → Contains numbers j ⊎ (k ≡ j) → P j × (j < k + 1)
      to j (inl there) = let h = (were.those j).0 there in (h.0, let less = h.1 in omega (arith, less))
      to j (inr same) = subst (λ (n : ℕ). P n × (n < k + 1)) same (has, omega arith)

      back : (j : ℕ) → P j × (j < k + 1) → (j ≡ k) ⊎ (j ≡ k → ⊥) → Contains (numbers ++ k ∷ []) j
      back j h (inl same) = subst (λ (n : ℕ). Contains (numbers ++ k ∷ []) n) (sym same) (Contains-push numbers k)
      back j h (inr other) = Contains-append_left numbers (k ∷ []) j ((were.those j).1 (h.0, let less = h.1 in omega (arith, less, other)))

  -- the next number does not have P
  pub listed_still : (P k → ⊥) → AreListed P (k + 1) numbers
  listed_still none = record { ascending = were.ascending; those = λ j. (λ there. to ((were.those j).0 there), λ h. back j h (cases_eq j k)) }
    where
      to : {j : ℕ} → P j × (j < k) → P j × (j < k + 1)
      to h = (h.0, let less = h.1 in omega (arith, less))

      back : (j : ℕ) → P j × (j < k + 1) → (j ≡ k) ⊎ (j ≡ k → ⊥) → Contains numbers j
      back j h (inl same) = absurd (none (subst P same h.0))
      back j h (inr other) = (were.those j).1 (h.0, let less = h.1 in omega (arith, less, other))

-- ---- marks

pub is_marked : (marks : List Bool) (k : ℕ) → k < length marks → get_or marks k false ≡ true → IsMarked marks k
is_marked marks k within is = slice_get-get_or marks k false within ∙ ap Some is

pub not_marked : (marks : List Bool) (k : ℕ) → k < length marks → get_or marks k false ≡ false → IsMarked marks k → ⊥
not_marked marks k within is marked = let wrong : true ≡ false = same_Some true false (sym marked ∙ slice_get-get_or marks k false within ∙ ap Some is) in cc

-- ---- the cut

-- the marked places, and the last one
pub cut_of : (reasons : List (List ℕ)) (last : ℕ) (marks : List Bool) (places : List ℕ) → AreNeeded reasons last marks → AreListed (IsMarked marks) (length marks) places
    → IsCutFor reasons last (places ++ last ∷ [])
cut_of reasons last marks places needed listed = record {
  ascending = all.ascending;
  those = λ k. (λ there. ((all.those k).0 there).0, λ is. (all.those k).1 (is, let upto = needed_within reasons last k is in omega (arith, upto)));
  ends = (places, refl);
}
  where
    before : AreListed (IsNeeded reasons last) last places
    before = record { ascending = listed.ascending; those = λ k. (λ there. (needed.each k).0 ((listed.those k).0 there).0, λ h. let is = (needed.each k).1 h in (listed.those k).1 (is, slice_get_within marks k true is)) }

    all : AreListed (IsNeeded reasons last) (last + 1) (places ++ last ∷ [])
    all = listed_more (IsNeeded reasons last) last places before at_last
