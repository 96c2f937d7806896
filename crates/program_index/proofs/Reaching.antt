-- The search upward from a class: in its ascending list, and then from its superclass on.
use Rattle.std.proofs.Common.{◌≡◌, ℕ, ◌+◌, ◌<◌, List, [], length, take, get_or, Option, Some, None, Vec, refl, sym, ◌∙◌, ap, subst, arith, inl, inr}
use Rattle.std.specs.declared.alloc.Global.{Global}
use Rattle.std.specs.List.{slice_get, Contains, AllZip}
use Rattle.std.specs.Option.{option_to_list}
use Rattle.std.proofs.lemmas.Option.{slice_get_within, slice_get-get_or, get_or_from_slice_get, same_Some}
use Rattle.std.proofs.lemmas.List.Sorted.{Contains-permutation, IsPermutation-sym}
use Rattle.std.proofs.lemmas.List.Elements.{Contains-append_cases, AllZip-get_or, length_all_zip}
use Rattle.list_laws.proofs.Members.{contains_cases, contains_none}
use Rattle.list_laws.proofs.Places.{in_front, place_of}
use Rattle.program_index.specs.declared.parents.Parents.{Parents}
use Rattle.program_index.specs.Supertypes.{AreInRange, IsDirect, IsAbove, one_step, more_steps, IsAtOrAbove, at, above}
use Rattle.program_index.specs.UpwardOrder.{IsUpward, HasOrder}
use Rattle.program_index.specs.AboveLists.{IsSortedCopy, AreAboveLists, AreSortedAbove}
use Rattle.program_index.proofs.ClassLists.{at_most_size}
use Rattle.program_index.proofs.UpwardSteps.{at_or_above_step, direct_below}
use Rattle.program_index.proofs.Searching.{listed_from_interface, interface_is_listed}
use Rattle.program_index.proofs.Gathering.{interface_direct, superclass_direct}

-- the search so far: from the lower class what is looked for is reached exactly if it is from the class that is searched now, which
-- stands in an order so far down that as many superclasses may still come as are left to search
pub record IsReaching (g : List Parents) (lower upper class steps : ℕ) : Type 0 where
  pub below : class < length g
  pub onward : IsAtOrAbove g lower upper → IsAtOrAbove g class upper
  pub back : IsAtOrAbove g class upper → IsAtOrAbove g lower upper
  pub order : List ℕ
  pub upward : IsUpward g order
  pub place : ℕ
  pub stands : slice_get order place ≡ Some class
  pub room : place + steps < length g

pub reaching_start : (g : List Parents) (lower upper : ℕ) → HasOrder g → lower < length g → IsReaching g lower upper lower 0
reaching_start g lower upper ordered l =
    let order = ordered.0 in
    let p = place_of order lower (ordered.1.each lower l) in
    let within = slice_get_within order p.0 lower p.1 in
    let most = at_most_size order (length g) ordered.1.below ordered.1.distinct in
    record { below = l; onward = λ a. a; back = λ a. a; order = order; upward = ordered.1; place = p.0; stands = p.1; room = omega arith }

-- what is above a class is at or above one of its direct supertypes
first_step : (g : List Parents) (x y : ℕ) → IsAbove g x y → (z : ℕ) × IsDirect g x z × IsAtOrAbove g z y
first_step g x y (one_step _ _ d) = (y, d, at refl)
first_step g x y (more_steps _ z _ d a) = (z, d, above a)

-- what is in the ascending list of a class is above it
pub in_sorted : (g : List Parents) (sorted : List (Vec ℕ Global)) (x y : ℕ) (copy : Vec ℕ Global) → AreSortedAbove g sorted → x < length g → slice_get sorted x ≡ Some copy
    → Contains copy.items y → IsAtOrAbove g x y
in_sorted g sorted x y copy lists l stands has =
    let own = lists.each x l in
    let same : own.copy ≡ copy = same_Some own.copy copy (sym own.stands ∙ stands) in
    let here : Contains own.copy.items y = subst (λ (v : Vec ℕ Global). Contains v.items y) (sym same) has in
    let found = listed_from_interface g x own.list own.searched y (Contains-permutation own.copy.items own.list y (IsPermutation-sym own.list own.copy.items own.moved) here) in
    above (at_or_above_step g x found.0 y (interface_direct g x found.0 found.1.parents found.1.stands found.1.among) found.2)

only_one : (o : Option ℕ) (z : ℕ) → Contains (option_to_list o) z → o ≡ Some z
only_one None z c = absurd (contains_none z c)
only_one (Some y) z c = elim (contains_cases y z [] c) [ inl e ↦ ap Some e | inr later ↦ absurd (contains_none z later) ]

-- what is at or above a class, is not the class and not in its ascending list, is at or above its superclass
up_from : (g : List Parents) (sorted : List (Vec ℕ Global)) (x y z : ℕ) (p : Parents) (copy : Vec ℕ Global) → AreSortedAbove g sorted → x < length g → slice_get g x ≡ Some p
    → slice_get sorted x ≡ Some copy → (Contains copy.items y → ⊥) → IsDirect g x z → IsAtOrAbove g z y → (s : ℕ) × (p.super_class ≡ Some s) × IsAtOrAbove g s y
up_from g sorted x y z p copy lists l stands place absent d a =
    let own = lists.each x l in
    let same : own.copy ≡ copy = same_Some own.copy copy (sym own.stands ∙ place) in
    let entry : d.parents ≡ p = same_Some d.parents p (sym d.stands ∙ stands) in
    elim (Contains-append_cases d.parents.interfaces.items (option_to_list d.parents.super_class) z d.among) [
      | inl interface ↦ (let listed = interface_is_listed g x own.list own.searched z y (record { parents = d.parents; stands = d.stands; among = interface }) a in
          absurd (absent (subst (λ (v : Vec ℕ Global). Contains v.items y) same (Contains-permutation own.list own.copy.items y own.moved listed))))
      | inr super ↦ (z, ap (λ (q : Parents). q.super_class) (sym entry) ∙ only_one d.parents.super_class z super, a)
    ]

pub up_or_none : (g : List Parents) (sorted : List (Vec ℕ Global)) (x y : ℕ) (p : Parents) (copy : Vec ℕ Global) → AreSortedAbove g sorted → x < length g → slice_get g x ≡ Some p
    → slice_get sorted x ≡ Some copy → (x ≡ y → ⊥) → (Contains copy.items y → ⊥) → IsAtOrAbove g x y → (s : ℕ) × (p.super_class ≡ Some s) × IsAtOrAbove g s y
up_or_none g sorted x y p copy lists l stands place other absent (at e) = absurd (other e)
up_or_none g sorted x y p copy lists l stands place other absent (above a) =
    let first = first_step g x y a in up_from g sorted x y first.0 p copy lists l stands place absent first.1 first.2

-- one superclass on
pub reaching_more : (g : List Parents) (sorted : List (Vec ℕ Global)) (lower upper class steps s : ℕ) (p : Parents) (copy : Vec ℕ Global) → AreInRange g → AreSortedAbove g sorted
    → IsReaching g lower upper class steps → slice_get g class ≡ Some p → slice_get sorted class ≡ Some copy → (class ≡ upper → ⊥) → (Contains copy.items upper → ⊥)
    → p.super_class ≡ Some s → IsReaching g lower upper s (steps + 1)
reaching_more g sorted lower upper class steps s p copy range lists old stands place other absent is =
    let d = superclass_direct g class s p stands is in
    let before = place_of (take old.place old.order) s (old.upward.after old.place class s old.stands d) in
    let front = in_front old.order old.place before.0 s before.1 in
    record {
      below = direct_below g class s range d;
      onward = λ a.
          let up = up_or_none g sorted class upper p copy lists old.below stands place other absent (old.onward a) in
          subst (λ (n : ℕ). IsAtOrAbove g n upper) (same_Some up.0 s (sym up.1 ∙ is)) up.2;
      back = λ a. old.back (above (at_or_above_step g class s upper d a));
      order = old.order;
      upward = old.upward;
      place = before.0;
      stands = front.1;
      room = omega (arith, front.0, old.room);
    }

-- The ascending copies of the lists are such.
pub sorted_above : (g : List Parents) (lists sorted : List (Vec ℕ Global)) → AreAboveLists g lists → AllZip IsSortedCopy lists sorted → AreSortedAbove g sorted
sorted_above g lists sorted listed copies = record {
  each = λ c l.
      let own = listed.each c l in
      let within = slice_get_within lists c own.list own.stands in
      let both = length_all_zip IsSortedCopy lists sorted copies in
      let copy = AllZip-get_or IsSortedCopy lists sorted c own.list own.list copies within in
      let same : get_or lists c own.list ≡ own.list = get_or_from_slice_get lists c own.list own.list own.stands in
      let copied : IsSortedCopy own.list (get_or sorted c own.list) = subst (λ (v : Vec ℕ Global). IsSortedCopy v (get_or sorted c own.list)) same copy in
      record {
        list = own.list.items;
        searched = own.searched;
        copy = get_or sorted c own.list;
        stands = slice_get-get_or sorted c own.list (omega arith);
        moved = copied.moved;
        ascending = copied.ascending;
      };
}
