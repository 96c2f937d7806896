-- Where a class cannot be placed there is a cycle: a walk from it that takes more steps than there are classes comes twice to one.
use Rattle.std.proofs.Common.{◌≡◌, ℕ, zero, suc, ◌<◌, ◌≤◌, true, false, List, [], ◌∷◌, ◌++◌, length, take, refl, arith, inl, inr}
use Rattle.std.specs.Prelude.{nat_eq}
use Rattle.std.specs.List.{All, IsDistinct}
use Rattle.std.proofs.lemmas.Cmp.{nat_eq_equiv}
use Rattle.std.proofs.lemmas.Bool.{cases_Bool, false_from_ne_true}
use Rattle.std.proofs.lemmas.Map.Keys.{IsDistinct-push}
use Rattle.std.proofs.lemmas.List.{length_push}
use Rattle.std.proofs.lemmas.List.Elements.{All-nil, All-push, All-weaker, All-contains}
use Rattle.program_index.specs.declared.parents.Parents.{Parents}
use Rattle.program_index.specs.Supertypes.{AreInRange, IsAbove, one_step}
use Rattle.program_index.specs.UpwardOrder.{IsUpward, HasNoCycle}
use Rattle.program_index.specs.ClassSets.{Classes, has}
use Rattle.program_index.specs.Sorting.{IsFilled}
use Rattle.program_index.proofs.ClassLists.{contains_from_has, distinct_none, at_most_size}
use Rattle.program_index.proofs.UpwardSteps.{above_trans, above_from, direct_below}

-- steps upward through classes that are not placed: where they are now, and where they were
record Climb (g : List Parents) (order : Classes) (steps : ℕ) : Type 0 where
  now : ℕ
  passed : List ℕ
  count : length passed ≡ steps
  below : now < length g
  absent : has order.items now ≡ false
  above : All (λ (y : ℕ). IsAbove g y now) passed
  all_below : All (λ (y : ℕ). y < length g) passed
  distinct : IsDistinct nat_eq passed

climb : (g : List Parents) (order : Classes) → AreInRange g → IsFilled g order → HasNoCycle g → (c : ℕ) → c < length g → has order.items c ≡ false → (steps : ℕ) → Climb g order steps
climb g order range filled acyclic c l absent zero = record {
  now = c;
  passed = [];
  count = refl;
  below = l;
  absent = absent;
  above = All-nil (λ (y : ℕ). IsAbove g y c);
  all_below = All-nil (λ (y : ℕ). y < length g);
  distinct = distinct_none;
}
climb g order range filled acyclic c l absent (suc steps) =
    let old = climb g order range filled acyclic c l absent steps in
    let next = filled.left old.now old.below old.absent in
    let fresh : has old.passed old.now ≡ false =
    false_from_ne_true _ (λ h. acyclic.none old.now (All-contains (λ (y : ℕ). IsAbove g y old.now) old.passed old.now old.above (contains_from_has old.passed old.now h))) in
    record {
      now = next.0;
      passed = old.passed ++ old.now ∷ [];
      count = omega (arith, length_push old.passed old.now, old.count);
      below = direct_below g old.now next.0 range next.1;
      absent = next.2;
      above = All-push (λ (y : ℕ). IsAbove g y next.0) old.passed old.now
          (All-weaker (λ (y : ℕ). IsAbove g y old.now) (λ (y : ℕ). IsAbove g y next.0) (λ y a. above_trans g y old.now next.0 a (one_step old.now next.0 next.1)) old.passed old.above)
          (one_step old.now next.0 next.1);
      all_below = All-push (λ (y : ℕ). y < length g) old.passed old.now old.all_below old.below;
      distinct = IsDistinct-push nat_eq_equiv old.passed old.now old.distinct fresh;
    }

-- so without a cycle each class is placed
pub all_placed : (g : List Parents) (order : Classes) → AreInRange g → IsFilled g order → HasNoCycle g → (c : ℕ) → c < length g → has order.items c ≡ true
all_placed g order range filled acyclic c l =
    elim (cases_Bool (has order.items c)) [
      | inl h ↦ h
      | inr absent ↦ (let long = climb g order range filled acyclic c l absent (suc (length g)) in
          let most = at_most_size long.passed (length g) long.all_below long.distinct in
          absurd (omega (arith, long.count, most)))
    ]

-- and then the classes stand upward
pub upward_from_filled : (g : List Parents) (order : Classes) → AreInRange g → IsFilled g order → HasNoCycle g → All (λ (x : ℕ). x < order.size) order.items
    → IsUpward g order.items
upward_from_filled g order range filled acyclic below = record {
  each = λ c l. contains_from_has order.items c (all_placed g order range filled acyclic c l);
  below = All-weaker (λ (x : ℕ). x < order.size) (λ (x : ℕ). x < length g) (λ x l. omega (arith, filled.size)) order.items below;
  distinct = filled.distinct;
  after = λ k x y e d. contains_from_has (take k order.items) y (filled.front.after k x y e d);
}

-- no class is above itself, where none below the number of classes is
pub none_from_below : (g : List Parents) (n : ℕ) → length g ≤ n → ((d : ℕ) → d < n → IsAbove g d d → ⊥) → HasNoCycle g
none_from_below g n l below = record { none = λ c a. let from = above_from g c c a in below c (omega arith) a }
