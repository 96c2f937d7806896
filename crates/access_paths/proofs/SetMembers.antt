-- What sets of paths contain; two sets in order with the same paths are one, so it does not matter in which order paths are added.
use Rattle.std.proofs.Common.{◌≡◌, ℕ, zero, suc, ◌≤◌, Bool, true, false, cond, ◌⊎◌, List, [], ◌∷◌, ◌++◌, length, take, refl, sym, ◌∙◌, ap, inl, inr, subst, arith}
use Rattle.std.specs.List.{Contains, filter}
use Rattle.list_laws.proofs.Members.{contains_cases, contains_first, contains_later, contains_none, contains_only}
use Rattle.access_paths.specs.Paths.{Path, comes_before, path_key, path_set, same_path, with_path}
use Rattle.access_paths.specs.Sets.{AreInOrder, IsBeforeFirst, IsPathSet}
use Rattle.access_paths.proofs.Order.{before_on, before_or_after, not_before_itself}
use Rattle.access_paths.proofs.KeyOrders.{same_is_one}

-- ---- sets are in order

before_with : (y x : Path) (set : List Path) → comes_before (path_key y) (path_key x) ≡ true → IsBeforeFirst y set → IsBeforeFirst y (with_path x set)
before_with y x [] before first = before
before_with y x (z ∷ rest) before first = by (comes_before (path_key x) (path_key z)) (same_path x z)
  where
    by : (a b : Bool) → IsBeforeFirst y (cond a (x ∷ z ∷ rest) (cond b (z ∷ rest) (z ∷ with_path x rest)))
    by true b = before
    by false true = first
    by false false = first

pub with_ordered : (x : Path) (set : List Path) → AreInOrder set → AreInOrder (with_path x set)
with_ordered x [] ordered = (tt, tt)
with_ordered x (y ∷ ys) (first, rest) = by (comes_before (path_key x) (path_key y)) refl (same_path x y) refl (with_ordered x ys rest)
  where
    by : (a : Bool) → comes_before (path_key x) (path_key y) ≡ a → (b : Bool) → same_path x y ≡ b → AreInOrder (with_path x ys)
        → AreInOrder (cond a (x ∷ y ∷ ys) (cond b (y ∷ ys) (y ∷ with_path x ys)))
    by true before b is more = (before, (first, rest))
    by false after true is more = (first, rest)
    by false after false differ more = (before_with y x ys (before_or_after (path_key x) (path_key y) after differ) first, more)

pub path_set_ordered : (paths : List Path) → AreInOrder (path_set paths)
path_set_ordered [] = tt
path_set_ordered (x ∷ xs) = with_ordered x (path_set xs) (path_set_ordered xs)

before_front : (x : Path) (n : ℕ) (set : List Path) → IsBeforeFirst x set → IsBeforeFirst x (take n set)
before_front x zero set first = tt
before_front x (suc n) [] first = tt
before_front x (suc n) (y ∷ ys) first = first

pub front_ordered : (n : ℕ) (set : List Path) → AreInOrder set → AreInOrder (take n set)
front_ordered zero set ordered = tt
front_ordered (suc n) [] ordered = tt
front_ordered (suc n) (x ∷ xs) (first, rest) = (before_front x n xs first, front_ordered n xs rest)

-- the first path comes before each later one
pub before_each : (x : Path) (set : List Path) → IsBeforeFirst x set → AreInOrder set → (y : Path) → Contains set y → comes_before (path_key x) (path_key y) ≡ true
before_each x [] first ordered y there = absurd (contains_none y there)
before_each x (z ∷ rest) first (next, ordered) y there = elim (contains_cases z y rest there) [
  | inl same ↦ subst (λ (p : Path). comes_before (path_key x) (path_key p) ≡ true) same first
  | inr later ↦ before_on (path_key x) (path_key z) (path_key y) first (before_each z rest next ordered y later)
]

-- a path that comes before the first of a set comes before the first of what a test leaves of it
before_filter : (p : Path → Bool) (x : Path) (set : List Path) → IsBeforeFirst x set → AreInOrder set → IsBeforeFirst x (filter p set)
before_filter p x [] first ordered = tt
before_filter p x (y ∷ ys) first (next, ordered) = by (p y) (before_filter p x ys (before_second ys next) ordered)
  where
    before_second : (zs : List Path) → IsBeforeFirst y zs → IsBeforeFirst x zs
    before_second [] next = tt
    before_second (z ∷ zs) next = before_on (path_key x) (path_key y) (path_key z) first next

    by : (a : Bool) → IsBeforeFirst x (filter p ys) → IsBeforeFirst x (cond a (y ∷ filter p ys) (filter p ys))
    by true later = first
    by false later = later

pub filter_ordered : (p : Path → Bool) (set : List Path) → AreInOrder set → AreInOrder (filter p set)
filter_ordered p [] ordered = tt
filter_ordered p (x ∷ xs) (first, rest) = by (p x) (before_filter p x xs first rest) (filter_ordered p xs rest)
  where
    by : (a : Bool) → IsBeforeFirst x (filter p xs) → AreInOrder (filter p xs) → AreInOrder (cond a (x ∷ filter p xs) (filter p xs))
    by true before ordered = (before, ordered)
    by false before ordered = ordered

pub length-filter-le : {X : Type 0} (p : X → Bool) (xs : List X) → length (filter p xs) ≤ length xs
length-filter-le p [] = omega arith
length-filter-le {X} p (x ∷ xs) = by (p x) (length-filter-le p xs)
  where
    by : (a : Bool) → length (filter p xs) ≤ length xs → length (cond a (x ∷ filter p xs) (filter p xs)) ≤ length (x ∷ xs)
    by true fewer = omega arith
    by false fewer = omega arith

-- ---- what sets contain

contains_with : (x : Path) (set : List Path) (z : Path) → Contains (with_path x set) z → (x ≡ z) ⊎ Contains set z
contains_with x [] z there = inl (contains_only x z there)
contains_with x (y ∷ ys) z there = by (comes_before (path_key x) (path_key y)) (same_path x y) there (contains_with x ys z)
  where
    by : (a b : Bool) → Contains (cond a (x ∷ y ∷ ys) (cond b (y ∷ ys) (y ∷ with_path x ys))) z → (Contains (with_path x ys) z → (x ≡ z) ⊎ Contains ys z)
        → (x ≡ z) ⊎ Contains (y ∷ ys) z
    by true b there rest = contains_cases x z (y ∷ ys) there
    by false true there rest = inr there
    by false false there rest = elim (contains_cases y z (with_path x ys) there) [
      | inl same ↦ inr (subst (λ (p : Path). Contains (y ∷ ys) p) same (contains_first y ys))
      | inr later ↦ elim (rest later) [ inl is ↦ inl is | inr old ↦ inr (contains_later y z ys old) ]
    ]

with_contains_it : (x : Path) (set : List Path) → Contains (with_path x set) x
with_contains_it x [] = contains_first x []
with_contains_it x (y ∷ ys) = by (comes_before (path_key x) (path_key y)) (same_path x y) refl (with_contains_it x ys)
  where
    by : (a b : Bool) → same_path x y ≡ b → Contains (with_path x ys) x → Contains (cond a (x ∷ y ∷ ys) (cond b (y ∷ ys) (y ∷ with_path x ys))) x
    by true b is rest = contains_first x (y ∷ ys)
    by false true is rest = subst (λ (p : Path). Contains (y ∷ ys) p) (sym (same_is_one x y is)) (contains_first y ys)
    by false false is rest = contains_later y x (with_path x ys) rest

with_contains_old : (x : Path) (set : List Path) (z : Path) → Contains set z → Contains (with_path x set) z
with_contains_old x [] z there = absurd (contains_none z there)
with_contains_old x (y ∷ ys) z there = by (comes_before (path_key x) (path_key y)) (same_path x y) (with_contains_old x ys z)
  where
    by : (a b : Bool) → (Contains ys z → Contains (with_path x ys) z) → Contains (cond a (x ∷ y ∷ ys) (cond b (y ∷ ys) (y ∷ with_path x ys))) z
    by true b rest = contains_later x z (y ∷ ys) there
    by false true rest = there
    by false false rest = elim (contains_cases y z ys there) [
      | inl same ↦ subst (λ (p : Path). Contains (y ∷ with_path x ys) p) same (contains_first y (with_path x ys))
      | inr later ↦ contains_later y z (with_path x ys) (rest later)
    ]

-- ---- sets with the same paths

abbrev Within : List Path → List Path → Type 0
Within s t = (z : Path) → Contains s z → Contains t z

-- what follows the first path is among what follows it elsewhere
rest_within : (x : Path) (xs ys : List Path) → IsBeforeFirst x xs → AreInOrder xs → Within (x ∷ xs) (x ∷ ys) → Within xs ys
rest_within x xs ys first ordered within z there = elim (contains_cases x z ys (within z (contains_later x z xs there))) [
  | inl same ↦
      let P : Path → Type 0 = λ p. comes_before (path_key x) (path_key p) ≡ true in
      absurd (not_before_itself (path_key x) (subst P (sym same) (before_each x xs first ordered z there)))
  | inr later ↦ later
]

first_is_one : (x y : Path) (xs ys : List Path) → AreInOrder (x ∷ xs) → AreInOrder (y ∷ ys) → Contains (y ∷ ys) x → Contains (x ∷ xs) y → x ≡ y
first_is_one x y xs ys (first, ordered) (other, others) to back = elim (contains_cases y x ys to) [
  | inl same ↦ sym same
  | inr later ↦ elim (contains_cases x y xs back) [
    | inl same ↦ same
    | inr older ↦ absurd (not_before_itself (path_key x)
        (before_on (path_key x) (path_key y) (path_key x) (before_each x xs first ordered y older) (before_each y ys other others x later)))
  ]
]

-- two sets in order, each within the other, are one
pub one_set : (s t : List Path) → AreInOrder s → AreInOrder t → Within s t → Within t s → s ≡ t
one_set [] [] ordered others to back = refl
one_set [] (y ∷ ys) ordered others to back = absurd (contains_none y (back y (contains_first y ys)))
one_set (x ∷ xs) [] ordered others to back = absurd (contains_none x (to x (contains_first x xs)))
one_set (x ∷ xs) (y ∷ ys) ordered others to back =
    let e : x ≡ y = first_is_one x y xs ys ordered others (to x (contains_first x xs)) (back y (contains_first y ys)) in
    let other : AreInOrder (x ∷ ys) = subst (λ (p : Path). AreInOrder (p ∷ ys)) (sym e) others in
    let forth : Within (x ∷ xs) (x ∷ ys) = subst (λ (p : Path). Within (x ∷ xs) (p ∷ ys)) (sym e) to in
    let again : Within (x ∷ ys) (x ∷ xs) = subst (λ (p : Path). Within (p ∷ ys) (x ∷ xs)) (sym e) back in
    let rest : xs ≡ ys = one_set xs ys ordered.1 others.1 (rest_within x xs ys ordered.0 ordered.1 forth) (rest_within x ys xs other.0 other.1 again) in
    λ i. e i ∷ rest i

-- ---- paths that are added

both_within : (x y : Path) (set : List Path) → Within (with_path x (with_path y set)) (with_path y (with_path x set))
both_within x y set z there = elim (contains_with x (with_path y set) z there) [
  | inl same ↦ with_contains_old y (with_path x set) z (subst (λ (p : Path). Contains (with_path x set) p) same (with_contains_it x set))
  | inr later ↦ elim (contains_with y set z later) [
    | inl same ↦ subst (λ (p : Path). Contains (with_path y (with_path x set)) p) same (with_contains_it y (with_path x set))
    | inr old ↦ with_contains_old y (with_path x set) z (with_contains_old x set z old)
  ]
]

pub with-with : (x y : Path) (set : List Path) → AreInOrder set → with_path x (with_path y set) ≡ with_path y (with_path x set)
with-with x y set ordered =
    one_set (with_path x (with_path y set)) (with_path y (with_path x set))
    (with_ordered x (with_path y set) (with_ordered y set ordered)) (with_ordered y (with_path x set) (with_ordered x set ordered))
    (both_within x y set) (both_within y x set)

-- a path that is added at the end is one more
pub path_set_push : (xs : List Path) (x : Path) → path_set (xs ++ x ∷ []) ≡ with_path x (path_set xs)
path_set_push [] x = refl
path_set_push (y ∷ ys) x = ap (with_path y) (path_set_push ys x) ∙ with-with y x (path_set ys) (path_set_ordered ys)

with_first : (x : Path) (set : List Path) → IsBeforeFirst x set → with_path x set ≡ x ∷ set
with_first x [] first = refl
with_first x (y ∷ ys) first = ap (λ (a : Bool). cond a (x ∷ y ∷ ys) (cond (same_path x y) (y ∷ ys) (y ∷ with_path x ys))) first

-- a set in order is the set of its paths
pub path_set_same : (set : List Path) → AreInOrder set → path_set set ≡ set
path_set_same [] ordered = refl
path_set_same (x ∷ xs) (first, rest) = ap (with_path x) (path_set_same xs rest) ∙ with_first x xs first

-- what a test leaves of a set is a set
pub filter_set : (p : Path → Bool) (set kept : List Path) → kept ≡ filter p set → IsPathSet set → IsPathSet kept
filter_set p set kept e is =
    let fewer = length-filter-le p set in
    let few = is.few in
    subst IsPathSet (sym e) (record { ordered = filter_ordered p set is.ordered; few = omega arith })
