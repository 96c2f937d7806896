-- Gathering what is searched from a class on: the class and its superclasses, each with the list of its own.
use Rattle.std.proofs.Common.{◌≡◌, ℕ, ◌+◌, ◌<◌, ◌≤◌, List, [], ◌∷◌, ◌++◌, length, take, get_or, set, Option, Some, None, Vec, refl, sym, ◌∙◌, ap, subst, arith, inl, inr}
use Rattle.std.specs.Prelude.{nat_eq}
use Rattle.std.specs.declared.alloc.Global.{Global}
use Rattle.std.specs.List.{slice_get, Contains, All, position_or_len}
use Rattle.std.specs.Option.{option_to_list}
use Rattle.std.proofs.lemmas.Option.{slice_get_within, slice_get-get_or, get_or_from_slice_get, same_Some}
use Rattle.std.proofs.lemmas.Bool.{cases_eq, cases_lt, eqb-true, eq-eqb, false≢true}
use Rattle.std.proofs.lemmas.List.{append_assoc, append-nil}
use Rattle.std.proofs.lemmas.List.Sums.{fails_before_first, passes_at_first}
use Rattle.std.proofs.lemmas.List.Elements.{Contains-append_left, Contains-append_right, All-contains, All-contains_itself, All-weaker}
use Rattle.list_laws.proofs.Members.{contains_first}
use Rattle.list_laws.proofs.Places.{contains_at, in_front, place_of, set_at, set_other, to_front}
use Rattle.program_index.specs.declared.parents.Parents.{Parents}
use Rattle.program_index.specs.Supertypes.{AreInRange, IsDirect, at, above}
use Rattle.program_index.specs.UpwardOrder.{IsUpward}
use Rattle.program_index.specs.SearchOrder.{ExpandsAll, none_left, first_then, Expands, firsts}
use Rattle.program_index.specs.ClassSets.{Classes, with_class, with_classes}
use Rattle.program_index.specs.AboveLists.{IsSearched, IsListed, AreListedAbove, AreListedFrom, IsGathered, AreAboveLists}
use Rattle.program_index.proofs.ClassLists.{with_classes-append}
use Rattle.program_index.proofs.SearchedPlaces.{with_classes_firsts, with_classes_none}
use Rattle.program_index.proofs.UpwardSteps.{at_or_above_step, direct_from, direct_below, above_below, front_from_upward, above_before}
use Rattle.program_index.proofs.Searching.{expands_append, listed_from_interface}

-- the first place of a class in an order
abbrev pub place_in : List ℕ → ℕ → ℕ
place_in order x = position_or_len (nat_eq x) order

pub first_place : (order : List ℕ) (j x : ℕ) → slice_get order j ≡ Some x → place_in order x ≤ j
first_place order j x e =
    elim (cases_lt j (place_in order x)) [
      | inl l ↦ absurd (false≢true (sym (fails_before_first (nat_eq x) order j 0 l) ∙ eq-eqb x (get_or order j 0) (sym (get_or_from_slice_get order j x 0 e))))
      | inr l ↦ l
    ]

at_first : (order : List ℕ) (j x : ℕ) → slice_get order j ≡ Some x → slice_get order (place_in order x) ≡ Some x
at_first order j x e =
    let before = first_place order j x e in
    let within = slice_get_within order j x e in
    let l : place_in order x < length order = omega arith in
    slice_get-get_or order (place_in order x) 0 l ∙ ap Some (sym (eqb-true x (get_or order (place_in order x) 0) (passes_at_first (nat_eq x) order 0 l)))

-- a direct supertype stands at an earlier one
pub place_falls : (g : List Parents) (order : List ℕ) (x y : ℕ) → IsUpward g order → IsDirect g x y → place_in order y < place_in order x
place_falls g order x y upward d =
    let p = place_of order x (upward.each x (direct_from g x y d)) in
    let here = at_first order p.0 x p.1 in
    let q = place_of (take (place_in order x) order) y (upward.after (place_in order x) x y here d) in
    let before = in_front order (place_in order x) q.0 y q.1 in
    let first = first_place order q.0 y before.1 in
    omega (arith, before.0)

-- how many superclasses may still come
abbrev pub places_left : List ℕ → Option ℕ → ℕ
places_left order None = 0
places_left order (Some x) = place_in order x + 1

-- the superclass and the superinterfaces are direct supertypes
pub superclass_direct : (g : List Parents) (x y : ℕ) (p : Parents) → slice_get g x ≡ Some p → p.super_class ≡ Some y → IsDirect g x y
superclass_direct g x y p stands e = record {
  parents = p;
  stands = stands;
  among = Contains-append_right p.interfaces.items (option_to_list p.super_class) y (rw e (contains_first y []));
}

pub interface_direct : (g : List Parents) (x y : ℕ) (p : Parents) → slice_get g x ≡ Some p → Contains p.interfaces.items y → IsDirect g x y
interface_direct g x y p stands c = record {
  parents = p;
  stands = stands;
  among = Contains-append_left p.interfaces.items (option_to_list p.super_class) y c;
}

pub places_fall : (g : List Parents) (order : List ℕ) (x : ℕ) (p : Parents) (o : Option ℕ) → IsUpward g order → slice_get g x ≡ Some p → p.super_class ≡ o
    → places_left order o < place_in order x + 1
places_fall g order x p None upward stands e = omega arith
places_fall g order x p (Some y) upward stands e = let l = place_falls g order x y upward (superclass_direct g x y p stands e) in omega arith

-- What was gathered, and what is searched where the rest is searched from the next class on.
pub record IsGathering (g : List Parents) (lists : List (Vec ℕ Global)) (first : ℕ) (before now : Classes) (next : Option ℕ) : Type 0 where
  pub done : List ℕ
  pub is : now ≡ record { size = before.size; items = with_classes before.items done }
  pub rest : (others : List ℕ) → ExpandsAll g (option_to_list next) others → Expands g first (done ++ others)
  pub below : (s : ℕ) → next ≡ Some s → s < length g
  pub listed : (s : ℕ) → next ≡ Some s → AreListedFrom g lists s

-- a class and its list more
step_gathered : (before now new : Classes) (done : List ℕ) (x : ℕ) (list all : List ℕ) → now ≡ record { size = before.size; items = with_classes before.items done }
    → list ≡ firsts all → new ≡ record { size = now.size; items = with_classes (with_class now.items x) list }
    → new ≡ record { size = before.size; items = with_classes before.items (done ++ x ∷ all) }
step_gathered before now new done x list all is same added =
    rw (added, is, same)
    (ap (λ (zs : List ℕ). let s : Classes = record { size = before.size; items = zs } in s)
    (with_classes_firsts (with_class (with_classes before.items done) x) all ∙ sym (with_classes-append before.items done (x ∷ all))))

pub gathering_more : (g : List Parents) (lists : List (Vec ℕ Global)) (first x : ℕ) (before now new : Classes) (p : Parents) (list : Vec ℕ Global) → AreInRange g
    → IsGathering g lists first before now (Some x) → slice_get g x ≡ Some p → slice_get lists x ≡ Some list
    → new ≡ record { size = now.size; items = with_classes (with_class now.items x) list.items } → IsGathering g lists first before new p.super_class
gathering_more g lists first x before now new p list range old stands place added =
    let own = (old.listed x refl).listed x (at refl) in
    let same_list : own.list ≡ list = same_Some own.list list (sym own.stands ∙ place) in
    let same_entry : own.searched.parents ≡ p = same_Some own.searched.parents p (sym own.searched.stands ∙ stands) in
    let all = own.searched.all in
    let expands : ExpandsAll g p.interfaces.items all = subst (λ (q : Parents). ExpandsAll g q.interfaces.items all) same_entry own.searched.expands in
    record {
      done = old.done ++ x ∷ all;
      is = step_gathered before now new old.done x list.items all old.is (ap (λ (v : Vec ℕ Global). v.items) (sym same_list) ∙ own.searched.is) added;
      rest = λ others e.
          let inner = expands_append g p.interfaces.items (option_to_list p.super_class) all others expands e in
          let from_x : Expands g x (x ∷ (all ++ others)) =
          first_then x [] (x ∷ (all ++ others)) p (all ++ others) [] stands inner (none_left [] refl) (ap (λ (zs : List ℕ). x ∷ zs) (sym (append-nil (all ++ others)))) in
          subst (λ (zs : List ℕ). Expands g first zs) (sym (append_assoc old.done (x ∷ all) others)) (old.rest (x ∷ (all ++ others)) from_x);
      below = λ s e. direct_below g x s range (superclass_direct g x s p stands e);
      listed = λ s e. record { listed = λ y a. (old.listed x refl).listed y (above (at_or_above_step g x s y (superclass_direct g x s p stands e) a)) };
    }

pub gathering_end : (g : List Parents) (lists : List (Vec ℕ Global)) (first : ℕ) (before now : Classes) → IsGathering g lists first before now None → IsGathered g first before now
gathering_end g lists first before now old = record { all = old.done ++ []; expands = old.rest [] (none_left [] refl); is = rw append-nil old.is }

-- what is searched through some superinterfaces, one after another
pub record IsGatheringAll (g : List Parents) (xs : List ℕ) (size : ℕ) (now : Classes) : Type 0 where
  pub done : List ℕ
  pub expands : ExpandsAll g xs done
  pub is : now ≡ record { size = size; items = with_classes [] done }

pub gathering_none : (g : List Parents) (size : ℕ) (now : Classes) → now ≡ record { size = size; items = [] } → IsGatheringAll g [] size now
gathering_none g size now e = record { done = []; expands = none_left [] refl; is = e }

pub gathering_next : (g : List Parents) (xs : List ℕ) (size : ℕ) (now new : Classes) (x : ℕ) → IsGatheringAll g xs size now → IsGathered g x now new
    → IsGatheringAll g (xs ++ x ∷ []) size new
gathering_next g xs size now new x old one = record {
  done = old.done ++ one.all;
  expands = expands_append g xs (x ∷ []) old.done one.all old.expands one.expands;
  is = rw (one.is, old.is) (ap (λ (zs : List ℕ). let s : Classes = record { size = size; items = zs } in s) (sym (with_classes-append [] old.done one.all)));
}

pub searched_all : (g : List Parents) (c size : ℕ) (p : Parents) (now : Classes) → slice_get g c ≡ Some p → IsGatheringAll g p.interfaces.items size now → IsSearched g c now.items
searched_all g c size p now stands old = record {
  parents = p;
  stands = stands;
  all = old.done;
  expands = old.expands;
  is = ap (λ (s : Classes). s.items) old.is ∙ with_classes_none old.done;
}

-- the classes above a class of the order have their lists, where all before it have
pub listed_above : (g : List Parents) (order : List ℕ) (lists : List (Vec ℕ Global)) (k x : ℕ) → IsUpward g order → slice_get order k ≡ Some x
    → All (IsListed g lists) (take k order) → AreListedAbove g lists x
listed_above g order lists k x upward e all = record {
  listed = λ y a.
      let before = above_before g order (front_from_upward g order upward) x y a k e in
      All-contains (IsListed g lists) (take k order) y all (contains_at (take k order) before.0 y (to_front order k before.0 y before.1 before.2));
}

pub listed_from : (g : List Parents) (lists : List (Vec ℕ Global)) (x y : ℕ) → AreListedAbove g lists x → IsDirect g x y → AreListedFrom g lists y
listed_from g lists x y above_x d = record { listed = λ z a. above_x.listed z (at_or_above_step g x y z d a) }

-- what is in the list of a class is above it, and so in range
pub listed_in_range : (g : List Parents) (c : ℕ) (list : List ℕ) → AreInRange g → IsSearched g c list → All (λ (x : ℕ). x < length g) list
listed_in_range g c list range searched =
    All-weaker (Contains list) (λ (x : ℕ). x < length g) (λ x has.
    let found = listed_from_interface g c list searched x has in
    above_below g c x range (at_or_above_step g c found.0 x (interface_direct g c found.0 found.1.parents found.1.stands found.1.among) found.2))
    list (All-contains_itself list)

-- the list of a class is written
pub listed_still : (g : List Parents) (lists : List (Vec ℕ Global)) (c y : ℕ) (list : Vec ℕ Global) → c < length lists → IsSearched g c list.items → IsListed g lists y
    → IsListed g (set lists c list) y
listed_still g lists c y list l searched old =
    elim (cases_eq y c) [
      | inl same ↦ record {
        list = list;
        stands = ap (slice_get (set lists c list)) same ∙ set_at lists c list l;
        searched = subst (λ (n : ℕ). IsSearched g n list.items) (sym same) searched;
      }
      | inr other ↦ record { list = old.list; stands = set_other lists c y list other ∙ old.stands; searched = old.searched }
    ]

pub listed_here : (g : List Parents) (lists : List (Vec ℕ Global)) (c : ℕ) (list : Vec ℕ Global) → c < length lists → IsSearched g c list.items → IsListed g (set lists c list) c
listed_here g lists c list l searched = record { list = list; stands = set_at lists c list l; searched = searched }

pub all_listed : (g : List Parents) (order : List ℕ) (lists : List (Vec ℕ Global)) → IsUpward g order → length lists ≡ length g → All (IsListed g lists) order → AreAboveLists g lists
all_listed g order lists upward count all = record {
  size = count;
  each = λ c l. All-contains (IsListed g lists) order c all (upward.each c l);
}
