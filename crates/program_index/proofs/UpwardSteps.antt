-- What stands above a class: by steps, in a front that stands upward, and in an order.
use Rattle.std.proofs.Common.{◌≡◌, ℕ, ◌<◌, true, List, length, take, get_or, Some, sym, ◌∙◌, subst, arith}
use Rattle.std.specs.Prelude.{nat_eq}
use Rattle.std.specs.List.{slice_get, All, IsDistinct}
use Rattle.std.proofs.lemmas.Bool.{eq-eqb, false≢true}
use Rattle.std.proofs.lemmas.Map.Keys.{apart_from_distinct}
use Rattle.std.proofs.lemmas.Option.{slice_get_within, get_or_from_slice_get}
use Rattle.std.proofs.lemmas.List.Elements.{All-contains}
use Rattle.list_laws.proofs.Places.{all_at, in_front, place_of}
use Rattle.program_index.specs.declared.parents.Parents.{Parents}
use Rattle.program_index.specs.Supertypes.{AreInRange, IsDirect, IsAbove, IsAtOrAbove, one_step, more_steps, at, above, direct_of}
use Rattle.program_index.specs.UpwardOrder.{IsUpward, HasNoCycle}
use Rattle.program_index.specs.ClassSets.{has}
use Rattle.program_index.specs.Sorting.{IsFront}
use Rattle.program_index.proofs.ClassLists.{has_from_contains, contains_from_has}

-- the classes of a step have numbers in range
pub direct_from : (g : List Parents) (x y : ℕ) → IsDirect g x y → x < length g
direct_from g x y d = slice_get_within g x d.parents d.stands

pub direct_below : (g : List Parents) (x y : ℕ) → AreInRange g → IsDirect g x y → y < length g
direct_below g x y range d =
    All-contains (λ (z : ℕ). z < length g) (direct_of d.parents) y
    (all_at (λ (p : Parents). All (λ (z : ℕ). z < length g) (direct_of p)) g x d.parents range.below d.stands) d.among

pub above_from : (g : List Parents) (x y : ℕ) → IsAbove g x y → x < length g
above_from g x y (one_step _ _ d) = direct_from g x y d
above_from g x z (more_steps _ y _ d a) = direct_from g x y d

pub above_below : (g : List Parents) (x y : ℕ) → AreInRange g → IsAbove g x y → y < length g
above_below g x y range (one_step _ _ d) = direct_below g x y range d
above_below g x z range (more_steps _ y _ d a) = above_below g y z range a

-- two walks upward, one after the other
pub above_trans : (g : List Parents) (x y z : ℕ) → IsAbove g x y → IsAbove g y z → IsAbove g x z
above_trans g x y z (one_step _ _ d) b = more_steps x y z d b
above_trans g x y z (more_steps _ w _ d a) b = more_steps x w z d (above_trans g w y z a b)

pub at_or_above_step : (g : List Parents) (x y z : ℕ) → IsDirect g x y → IsAtOrAbove g y z → IsAbove g x z
at_or_above_step g x y z d (at e) = subst (λ (w : ℕ). IsAbove g x w) e (one_step _ _ d)
at_or_above_step g x y z d (above a) = more_steps x y z d a

-- in a front, what is above a class stands before it
pub above_before : (g : List Parents) (order : List ℕ) → IsFront g order → (x y : ℕ) → IsAbove g x y → (k : ℕ) → slice_get order k ≡ Some x
    → (j : ℕ) × (j < k) × (slice_get order j ≡ Some y)
above_before g order front x y (one_step _ _ d) k e =
    let p = place_of (take k order) y (contains_from_has (take k order) y (front.after k x y e d)) in
    let q = in_front order k p.0 y p.1 in (p.0, q.0, q.1)
above_before g order front x z (more_steps _ y _ d a) k e =
    let p = place_of (take k order) y (contains_from_has (take k order) y (front.after k x y e d)) in
    let q = in_front order k p.0 y p.1 in
    let r = above_before g order front y z a p.0 q.1 in (r.0, omega (arith, q.0, r.1), r.2)

-- a class stands at one place only
pub one_place : (order : List ℕ) (j k x : ℕ) → IsDistinct nat_eq order → slice_get order j ≡ Some x → slice_get order k ≡ Some x → j < k → ⊥
one_place order j k x distinct a b l =
    let same : nat_eq (get_or order j 0) (get_or order k 0) ≡ true =
    eq-eqb _ _ (get_or_from_slice_get order j x 0 a ∙ sym (get_or_from_slice_get order k x 0 b)) in
    false≢true (sym (apart_from_distinct nat_eq order j k 0 distinct l (slice_get_within order k x b)) ∙ same)

-- so a class in a front is not above itself
pub none_in_front : (g : List Parents) (order : List ℕ) → IsFront g order → IsDistinct nat_eq order → (c : ℕ) → has order c ≡ true → IsAbove g c c → ⊥
none_in_front g order front distinct c h a =
    let p = place_of order c (contains_from_has order c h) in
    let q = above_before g order front c c a p.0 p.1 in
    one_place order q.0 p.0 c distinct q.2 p.1 q.1

-- an order is a front
pub front_from_upward : (g : List Parents) (order : List ℕ) → IsUpward g order → IsFront g order
front_from_upward g order upward = record { after = λ k x y e d. has_from_contains (take k order) y (upward.after k x y e d) }

-- Where there is an upward order, no class is above itself.
pub none_above_itself : (g : List Parents) (order : List ℕ) → IsUpward g order → HasNoCycle g
none_above_itself g order upward = record {
  none = λ c a. none_in_front g order (front_from_upward g order upward) upward.distinct c (has_from_contains order c (upward.each c (above_from g c c a))) a;
}
