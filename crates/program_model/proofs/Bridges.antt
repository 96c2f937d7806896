-- From numbers to names: what stands above a class by number is what stands above it by name.
use Rattle.std.proofs.Common.{◌≡◌, ◌≢◌, ℕ, zero, suc, ◌<◌, ◌+◌, Bool, cond, true, false, List, [], ◌∷◌, ◌++◌, length, map, take, find, get_or, unwrap_or, Contains, AllPairs, Option, Some, None, option_map, refl, sym, ap, ◌∙◌, subst, inl, inr, ◌⊎◌, arith}
use Rattle.std.specs.List.{slice_get, AllZip}
use Rattle.std.specs.Option.{option_to_list}
use Rattle.std.specs.Str.{bytes_eq}
use Rattle.std.proofs.lemmas.Bool.{cases_order, false≢true}
use Rattle.std.proofs.lemmas.List.{length-map}
use Rattle.std.proofs.lemmas.Slice.Eq.{bytes_eq-Decides}
use Rattle.std.proofs.lemmas.List.Elements.{All-contains, Contains-append_left, Contains-append_right, Contains-append_cases}
use Rattle.std.proofs.lemmas.Option.{same_Some, none-some, slice_get_within, slice_get-map, unwrap_or-slice_get}
use Rattle.jvm_model.specs.declared.program.Origin.{Origin}
use Rattle.jvm_model.specs.Linking.{class_from, names, program_from}
use Rattle.jvm_model.specs.LinkedPrograms.{class_names}
use Rattle.jvm_model.specs.Programs.{Class, Program}
use Rattle.jvm_model.specs.Subtypes.{class_named, IsDirectSuper, IsSubtype, same, below, IsCyclic}
use Rattle.program_index.specs.declared.parents.Parents.{Parents}
use Rattle.program_model.specs.Numbers.{name_at}
use Rattle.program_model.specs.Numbering.{name_in, IsParents, AreParents}
use Rattle.program_index.specs.Supertypes.{direct_of, IsDirect, IsAbove, one_step, more_steps, IsAtOrAbove, at, above}
use Rattle.program_index.proofs.ListPlaces.{map_at, at_map}
use Rattle.program_index.proofs.OrderPlaces.{place_of, contains_at, contains_first, contains_cases, contains_none}
use Rattle.program_index.proofs.UpwardSteps.{at_or_above_step}

-- ---- names and numbers

pub names_are : (order : List Origin) → class_names (program_from order) ≡ names order
names_are [] = refl
names_are (o ∷ order) = ap (λ (rest : List (List ℕ)). (class_from o).name ∷ rest) (names_are order)

pub name_of_class : (p : Program) (k : ℕ) (c : Class) → slice_get p.classes k ≡ Some c → name_at p k ≡ c.name
name_of_class p k c e = ap (λ (o : Option Class). unwrap_or (option_map (λ (d : Class). d.name) o) []) e

pub name_at_in : (order : List Origin) (k : ℕ) → name_at (program_from order) k ≡ name_in (names order) k
name_at_in order k =
    ap (λ (o : Option (List ℕ)). unwrap_or o []) (sym (slice_get-map (λ (d : Class). d.name) (program_from order).classes k) ∙ ap (λ (ns : List (List ℕ)). slice_get ns k) (names_are order))

-- names that differ stand at one place each
pub one_name : (all : List (List ℕ)) → AllPairs (λ x y. x ≢ y) all → (i j : ℕ) → i < length all → j < length all → name_in all i ≡ name_in all j → i ≡ j
one_name all differ i j below_i below_j e = by (cases_order i j)
  where
    read : (k : ℕ) → get_or all k [] ≡ name_in all k
    read k = sym (unwrap_or-slice_get all k [])

    by : (i ≡ j) ⊎ ((i < j) ⊎ (j < i)) → i ≡ j
    by (inl here) = here
    by (inr (inl less)) = absurd (differ i j [] less below_j (read i ∙ e ∙ sym (read j)))
    by (inr (inr more)) = absurd (differ j i [] more below_i (read j ∙ sym e ∙ sym (read i)))

-- ---- lists

pub zip_length : {A B : Type 0} (R : A → B → Type 0) (xs : List A) (ys : List B) → AllZip R xs ys → length xs ≡ length ys
zip_length R [] [] h = refl
zip_length R [] (y ∷ ys) h = absurd h
zip_length R (x ∷ xs) [] h = absurd h
zip_length R (x ∷ xs) (y ∷ ys) h = let rest = zip_length R xs ys h.1 in omega (arith, rest)

pub zip_at : {A B : Type 0} (R : A → B → Type 0) (xs : List A) (ys : List B) (k : ℕ) (x : A) → AllZip R xs ys → slice_get xs k ≡ Some x → (y : B) × (slice_get ys k ≡ Some y) × R x y
zip_at R [] ys k x h e = absurd (none-some x e)
zip_at R (z ∷ xs) [] k x h e = absurd h
zip_at {A} {B} R (z ∷ xs) (y ∷ ys) zero x h e = (y, refl, subst (λ (w : A). R w y) (same_Some z x e) h.0)
zip_at R (z ∷ xs) (y ∷ ys) (suc k) x h e = zip_at R xs ys k x h.1 e

pub zip_from : {A B : Type 0} (R : A → B → Type 0) (xs : List A) (ys : List B) (k : ℕ) (y : B) → AllZip R xs ys → slice_get ys k ≡ Some y → (x : A) × (slice_get xs k ≡ Some x) × R x y
zip_from R xs [] k y h e = absurd (none-some y e)
zip_from R [] (z ∷ ys) k y h e = absurd h
zip_from {A} {B} R (x ∷ xs) (z ∷ ys) zero y h e = (x, refl, subst (λ (w : B). R x w) (same_Some z y e) h.0)
zip_from R (x ∷ xs) (z ∷ ys) (suc k) y h e = zip_from R xs ys k y h.1 e

pub zip_push : {A B : Type 0} (R : A → B → Type 0) (xs : List A) (ys : List B) (i : ℕ) (x : A) (y : B) → i < length xs → x ≡ get_or xs i x → AllZip R (take i xs) ys → R x y → AllZip R (take (suc i) xs) (ys ++ y ∷ [])
zip_push R [] ys i x y lt e h r = absurd (omega arith)
zip_push {A} {B} R (z ∷ xs) [] zero x y lt e h r = (subst (λ (w : A). R w y) e r, tt)
zip_push R (z ∷ xs) (w ∷ ys) zero x y lt e h r = absurd h
zip_push R (z ∷ xs) [] (suc i) x y lt e h r = absurd h
zip_push R (z ∷ xs) (w ∷ ys) (suc i) x y lt e h r = (h.0, zip_push R xs ys i x y (omega arith) e h.1 r)

-- one more item of each list
pub zip_more : {A B : Type 0} (R : A → B → Type 0) (xs : List A) (ys : List B) (i : ℕ) (x : A) (y : B) → i < length xs → x ≡ get_or xs i x → AllZip R (take i xs) ys → R x y → AllZip R (take (i + 1) xs) (ys ++ y ∷ [])
zip_more {A} {B} R xs ys i x y lt e h r =
    let next : suc i ≡ i + 1 = omega arith in
    subst (λ (n : ℕ). AllZip R (take n xs) (ys ++ y ∷ [])) next (zip_push R xs ys i x y lt e h r)

pub map_from : {A B : Type 0} (f : A → B) (xs : List A) (y : B) → Contains (map f xs) y → (x : A) × Contains xs x × (f x ≡ y)
map_from f xs y h =
    let there = place_of (map f xs) y h in
    let here = map_at f xs there.0 y there.1 in
    (here.0, contains_at xs there.0 here.0 here.1, here.2)

pub map_to : {A B : Type 0} (f : A → B) (xs : List A) (x : A) → Contains xs x → Contains (map f xs) (f x)
map_to f xs x h =
    let there = place_of xs x h in
    contains_at (map f xs) there.0 (f x) (at_map f xs there.0 x there.1)

pub found_first : {X : Type 0} (test : X → Bool) (xs : List X) (x : X) → find test xs ≡ Some x → (k : ℕ) × (slice_get xs k ≡ Some x) × (test x ≡ true)
found_first test [] x e = absurd (none-some x e)
found_first {X} test (y ∷ ys) x e = by (found_first test ys x) (test y) refl e
  where
    by : (find test ys ≡ Some x → (k : ℕ) × (slice_get ys k ≡ Some x) × (test x ≡ true)) → (b : Bool) → test y ≡ b → cond b (Some y) (find test ys) ≡ Some x
        → (k : ℕ) × (slice_get (y ∷ ys) k ≡ Some x) × (test x ≡ true)
    by rest true h f = (0, f, subst (λ (w : X). test w ≡ true) (same_Some y x f) h)
    by rest false h f = let r = rest f in (suc r.0, r.1, r.2)

pub find_there : {X : Type 0} (test : X → Bool) (xs : List X) (k : ℕ) (x : X) → slice_get xs k ≡ Some x → test x ≡ true → (y : X) × (find test xs ≡ Some y)
find_there test [] k x e t = absurd (none-some x e)
find_there {X} test (y ∷ ys) k x e t = by (λ j f. find_there test ys j x f t) (test y) refl k e
  where
    by : ((j : ℕ) → slice_get ys j ≡ Some x → (z : X) × (find test ys ≡ Some z)) → (b : Bool) → test y ≡ b → (j : ℕ) → slice_get (y ∷ ys) j ≡ Some x → (z : X) × (cond b (Some y) (find test ys) ≡ Some z)
    by rest true h j f = (y, refl)
    by rest false h zero f = absurd (false≢true (sym h ∙ ap test (same_Some y x f) ∙ t))
    by rest false h (suc j) f = rest j f

-- ---- classes by name and by number

-- the number of a class of the program
pub record IsAt (order : List Origin) (k : ℕ) (c : Class) : Type 0 where
  pub stands : slice_get (program_from order).classes k ≡ Some c
  pub below : k < length (names order)
  pub name : name_in (names order) k ≡ c.name

pub at_number : (order : List Origin) (k : ℕ) (c : Class) → slice_get (program_from order).classes k ≡ Some c → IsAt order k c
at_number order k c e = record {
  stands = e;
  below =
      let same : length (class_names (program_from order)) ≡ length (names order) = ap length (names_are order) in
      let few = length-map (program_from order).classes (λ (d : Class). d.name) in
      let within = slice_get_within (program_from order).classes k c e in
      omega (arith, same, few, within);
  name = sym (name_at_in order k) ∙ name_of_class (program_from order) k c e;
}

pub named_number : (order : List Origin) (name : List ℕ) (c : Class) → class_named (program_from order) name ≡ Some c → (k : ℕ) × IsAt order k c × (c.name ≡ name)
named_number order name c e =
    let found = found_first (λ (d : Class). bytes_eq d.name name) (program_from order).classes c e in
    (found.0, at_number order found.0 c found.1, (bytes_eq-Decides c.name name).0 found.2)

module _ (order : List Origin) (parents : List Parents) (differ : AllPairs (λ x y. x ≢ y) (names order)) (are : AreParents order parents) where
  abbrev p : Program
  p = program_from order

  abbrev all : List (List ℕ)
  all = names order

  pub named_here : (k : ℕ) (c : Class) → IsAt order k c → class_named p c.name ≡ Some c
  named_here k c h =
      let found = find_there (λ (d : Class). bytes_eq d.name c.name) p.classes k c h.stands ((bytes_eq-Decides c.name c.name).1 refl) in
      let other = named_number order c.name found.0 found.1 in
      let same : other.0 ≡ k = one_name all differ other.0 k other.1.below h.below (other.1.name ∙ other.2 ∙ sym h.name) in
      let classes : found.0 ≡ c = same_Some found.0 c (sym other.1.stands ∙ ap (λ (j : ℕ). slice_get p.classes j) same ∙ h.stands) in
      found.1 ∙ ap Some classes

  -- the class of a number, with its supertypes by number
  pub record IsNumbered (k : ℕ) (c : Class) (par : Parents) : Type 0 where
    pub class : IsAt order k c
    pub stands : slice_get parents k ≡ Some par
    pub are_supers : IsParents all c par

  pub numbered : (k : ℕ) (c : Class) → IsAt order k c → (par : Parents) × IsNumbered k c par
  numbered k c h =
      let origin = map_at class_from order k c h.stands in
      let par = zip_at (λ (o : Origin) (q : Parents). IsParents all (class_from o) q) order parents k origin.0 are origin.1 in
      (par.0, record { class = h; stands = par.1; are_supers = subst (λ (d : Class). IsParents all d par.0) origin.2 par.2 })

  pub numbered_from : (k : ℕ) (par : Parents) → slice_get parents k ≡ Some par → (c : Class) × IsNumbered k c par
  numbered_from k par e =
      let origin = zip_from (λ (o : Origin) (q : Parents). IsParents all (class_from o) q) order parents k par are e in
      let class = at_number order k (class_from origin.0) (at_map class_from order k origin.0 origin.1) in
      (class_from origin.0, record { class = class; stands = e; are_supers = origin.2 })

  -- a direct supertype by name is one by number
  pub number_of_super : (k : ℕ) (c : Class) (par : Parents) → IsNumbered k c par → (super : List ℕ) → IsDirectSuper c super → (z : ℕ) × IsDirect parents k z × (z < length all) × (name_in all z ≡ super)
  number_of_super k c par h super (inl e) = by par.super_class refl
    where
      by : (s : Option ℕ) → par.super_class ≡ s → (z : ℕ) × IsDirect parents k z × (z < length all) × (name_in all z ≡ super)
      by None f = absurd (none-some super (ap (option_map (name_in all)) (sym f) ∙ h.are_supers.super_class ∙ e))
      by (Some z) f =
          let among : Contains (direct_of par) z = Contains-append_right par.interfaces.items (option_to_list par.super_class) z (subst (λ (o : Option ℕ). Contains (option_to_list o) z) (sym f) (contains_first z [])) in (
            z,
            record { parents = par; stands = h.stands; among = among },
            All-contains (λ (n : ℕ). n < length all) (direct_of par) z h.are_supers.below among,
            same_Some (name_in all z) super (ap (option_map (name_in all)) (sym f) ∙ h.are_supers.super_class ∙ e),
          )
  number_of_super k c par h super (inr among) =
      let z = map_from (name_in all) par.interfaces.items super (subst (λ (ns : List (List ℕ)). Contains ns super) (sym h.are_supers.interfaces) among) in
      let there : Contains (direct_of par) z.0 = Contains-append_left par.interfaces.items (option_to_list par.super_class) z.0 z.1 in
      (z.0, record { parents = par; stands = h.stands; among = there }, All-contains (λ (n : ℕ). n < length all) (direct_of par) z.0 h.are_supers.below there, z.2)

  -- and the other way round
  super_of_number : (k : ℕ) (c : Class) (par : Parents) → IsNumbered k c par → (z : ℕ) → Contains (direct_of par) z → IsDirectSuper c (name_in all z)
  super_of_number k c par h z among = by (Contains-append_cases par.interfaces.items (option_to_list par.super_class) z among)
    where
      is_super : (s : Option ℕ) → par.super_class ≡ s → Contains (option_to_list s) z → IsDirectSuper c (name_in all z)
      is_super None f there = absurd (contains_none z there)
      is_super (Some y) f there =
          let same : y ≡ z = elim (contains_cases y [] z there) [ inl e ↦ e | inr n ↦ absurd (contains_none z n) ] in
          inl (sym h.are_supers.super_class ∙ ap (option_map (name_in all)) f ∙ ap (λ (w : ℕ). Some (name_in all w)) same)

      by : Contains par.interfaces.items z ⊎ Contains (option_to_list par.super_class) z → IsDirectSuper c (name_in all z)
      by (inl there) = inr (subst (λ (ns : List (List ℕ)). Contains ns (name_in all z)) h.are_supers.interfaces (map_to (name_in all) par.interfaces.items z there))
      by (inr there) = is_super par.super_class refl there

  -- ---- what stands above a class

  pub to_numbers : (y x : ℕ) → y < length all → x < length all → (name : List ℕ) → name ≡ name_in all x → IsSubtype p (name_in all y) name → IsAtOrAbove parents x y
  to_numbers y x below_y below_x name e (same _ f) = at (one_name all differ x y below_x below_y (sym e ∙ f))
  to_numbers y x below_y below_x name e (below _ c super found direct rest) =
      let here = named_number order name c found in
      let place : here.0 ≡ x = one_name all differ here.0 x here.1.below below_x (here.1.name ∙ here.2 ∙ e) in
      let class : IsAt order x c = subst (λ (k : ℕ). IsAt order k c) place here.1 in
      let is = numbered x c class in
      let z = number_of_super x c is.0 is.1 super direct in
      above (at_or_above_step parents x z.0 y z.1 (to_numbers y z.0 below_y z.2 super (sym z.3) rest))

  direct_to_names : (x y : ℕ) → IsDirect parents x y → (c : Class) × (class_named p (name_in all x) ≡ Some c) × IsDirectSuper c (name_in all y)
  direct_to_names x y d =
      let is = numbered_from x d.parents d.stands in
      (is.0, ap (class_named p) is.1.class.name ∙ named_here x is.0 is.1.class, super_of_number x is.0 d.parents is.1 y d.among)

  above_to_names : (x y : ℕ) → IsAbove parents x y → IsSubtype p (name_in all y) (name_in all x)
  above_to_names x y (one_step _ _ d) = let h = direct_to_names x y d in below (name_in all x) h.0 (name_in all y) h.1 h.2 (same (name_in all y) refl)
  above_to_names x z (more_steps _ y _ d a) = let h = direct_to_names x y d in below (name_in all x) h.0 (name_in all y) h.1 h.2 (above_to_names y z a)

  pub to_names : (x y : ℕ) → IsAtOrAbove parents x y → IsSubtype p (name_in all y) (name_in all x)
  to_names x y (at e) = same (name_in all x) (ap (name_in all) e)
  to_names x y (above a) = above_to_names x y a

  -- a class that is above itself, by name and by number
  pub cyclic_to_names : (x : ℕ) → IsAbove parents x x → IsCyclic p (name_in all x)
  cyclic_to_names x (one_step _ _ d) =
      let h = direct_to_names x x d in
      record { class = h.0; named = h.1; super = name_in all x; direct = h.2; back = same (name_in all x) refl }
  cyclic_to_names x (more_steps _ y _ d a) =
      let h = direct_to_names x y d in
      record { class = h.0; named = h.1; super = name_in all y; direct = h.2; back = above_to_names y x a }

  pub cyclic_to_numbers : (x : ℕ) → x < length all → IsCyclic p (name_in all x) → IsAbove parents x x
  cyclic_to_numbers x below_x h =
      let here = named_number order (name_in all x) h.class h.named in
      let place : here.0 ≡ x = one_name all differ here.0 x here.1.below below_x (here.1.name ∙ here.2) in
      let class : IsAt order x h.class = subst (λ (k : ℕ). IsAt order k h.class) place here.1 in
      let is = numbered x h.class class in
      let z = number_of_super x h.class is.0 is.1 h.super h.direct in
      at_or_above_step parents x z.0 x z.1 (to_numbers x z.0 below_x z.2 h.super (sym z.3) h.back)
