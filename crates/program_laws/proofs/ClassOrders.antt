-- The order of the classes of a program: it exists, and holds what it orders.
use Rattle.std.proofs.Common.{◌≡◌, ℕ, zero, suc, ◌<◌, ◌+◌, Bool, true, false, List, [], ◌∷◌, length, map, get_or, Contains, Ordering, IsPermutation, refl, sym, ◌∙◌, ap, arith}
use Rattle.std.specs.List.Sorted.{IsSortedBy}
use Rattle.std.specs.Cmp.{IsTotalOrder}
use Rattle.std.specs.Cmp.Lexicographic.{slice_cmp}
use Rattle.std.specs.Ordering.{nat_cmp, is_lt}
use Rattle.std.proofs.lemmas.Cmp.{nat_list_cmp_total}
use Rattle.std.proofs.lemmas.List.Sorted.{ranks_by, IsPermutation-refl, IsPermutation-trans, IsPermutation-cons, IsPermutation-middle, Contains-permutation}
use Rattle.jvm_model.specs.declared.program.Origin.{Origin}
use Rattle.jvm_model.specs.Linking.{IsOrder, class_from}

-- ---- lists that ascend by a key

module _ {X K : Type 0} (key : X → K) (R : K → K → Ordering) (total : IsTotalOrder R) where
  abbrev below : K → K → Bool
  below x y = is_lt (R x y)

  -- the first of these, if there is one, is not below k
  abbrev StartsFrom : K → List K → Type 0
  StartsFrom k ks = (d : K) → 0 < length ks → below (get_or ks 0 d) k ≡ false

  sorted-cons : (k : K) (ks : List K) → StartsFrom k ks → IsSortedBy below ks → IsSortedBy below (k ∷ ks)
  sorted-cons k ks first up zero d from within = first d (omega arith)
  sorted-cons k ks first up (suc j) d from within =
      let next : suc j + 1 ≡ suc (j + 1) = omega arith in
      ap (λ (n : ℕ). below (get_or (k ∷ ks) n d) (get_or ks j d)) next ∙ up j d (omega arith) (omega arith)

  sorted-tail : (k : K) (ks : List K) → IsSortedBy below (k ∷ ks) → IsSortedBy below ks
  sorted-tail k ks up = λ j d from within.
      let next : suc j + 1 ≡ suc (j + 1) = omega arith in
      sym (ap (λ (n : ℕ). below (get_or (k ∷ ks) n d) (get_or ks j d)) next) ∙ up (suc j) d (omega arith) (omega arith)

  -- a list with one more in its place
  record Inserted (y : X) (xs : List X) : Type 0 where
    longer : List X
    same : IsPermutation (y ∷ xs) longer
    sorted : IsSortedBy below (map key longer)
    first : (k : K) → StartsFrom k (map key xs) → below (key y) k ≡ false → StartsFrom k (map key longer)

  inserted : (y : X) (xs : List X) → IsSortedBy below (map key xs) → Inserted y xs
  inserted y [] up = record {
    longer = y ∷ [];
    same = IsPermutation-refl (y ∷ []);
    sorted = λ j d from within. absurd (omega arith);
    first = λ k starts above d within. above;
  }
  inserted y (x ∷ xs) up = by (below (key x) (key y)) refl (inserted y xs (sorted-tail (key x) (map key xs) up))
    where
      by : (b : Bool) → below (key x) (key y) ≡ b → Inserted y xs → Inserted y (x ∷ xs)
      by true less rest = record {
        longer = x ∷ rest.longer;
        same = IsPermutation-trans (y ∷ x ∷ xs) (x ∷ y ∷ xs) (x ∷ rest.longer) (IsPermutation-middle (y ∷ []) x xs) (IsPermutation-cons x (y ∷ xs) rest.longer rest.same);
        sorted =
            let above = (ranks_by total (λ (k : K). k)).one_way (key x) (key y) less in
            let starts = rest.first (key x) (λ d within. up 0 d (omega arith) (omega arith)) above in
            sorted-cons (key x) (map key rest.longer) starts rest.sorted;
        first = λ k starts above d within. starts d (omega arith);
      }
      by false not_less rest = record {
        longer = y ∷ x ∷ xs;
        same = IsPermutation-refl (y ∷ x ∷ xs);
        sorted = sorted-cons (key y) (map key (x ∷ xs)) (λ d within. not_less) up;
        first = λ k starts above d within. above;
      }

  record Sorted (xs : List X) : Type 0 where
    ordered : List X
    same : IsPermutation xs ordered
    sorted : IsSortedBy below (map key ordered)

  sort : (xs : List X) → Sorted xs
  sort [] = record { ordered = []; same = IsPermutation-refl []; sorted = λ j d from within. absurd (omega arith) }
  sort (x ∷ xs) =
      let rest = sort xs in
      let more = inserted x rest.ordered rest.sorted in
      record {
        ordered = more.longer;
        same = IsPermutation-trans (x ∷ xs) (x ∷ rest.ordered) more.longer (IsPermutation-cons x xs rest.ordered rest.same) more.same;
        sorted = more.sorted;
      }

-- ---- classes in order

-- All classes can be put in byte order of their names.
pub exists_order : (all : List Origin) → (order : List Origin) × IsOrder all order
exists_order all =
    let s = sort (λ (o : Origin). (class_from o).name) (slice_cmp nat_cmp) nat_list_cmp_total all in
    (s.ordered, record { same = s.same; sorted = s.sorted })

-- Each of these classes stands in the order.
pub in_order : (all order : List Origin) → IsOrder all order → (o : Origin) → Contains all o → Contains order o
in_order all order is o among = Contains-permutation all order o is.same among
