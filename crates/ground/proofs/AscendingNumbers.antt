-- Lists whose numbers ascend: how they are made, and what is found in them by halving.
use Rattle.std.proofs.Common.{◌≡◌, ℕ, ◌+◌, ◌<◌, Bool, cond, eqb, List, [], ◌∷◌, get_or, length, Some, refl, sym, ◌∙◌, ap, subst, inl, inr, arith}
use Rattle.std.specs.declared.cmp.Ordering.{Ordering}
use Rattle.std.specs.declared.cmp.Ordering.TheVariants.{Less, Equal, Greater}
use Rattle.std.specs.List.{Contains, HoldsAt}
use Rattle.std.specs.List.Sorted.{IsNonDecreasingBy, IsPartitionPoint, IsSortedBy, IsStrictlySortedBy}
use Rattle.std.specs.Ordering.{MatchOrdering, is_lt, nat_cmp, ordering_index, ordering_reverse}
use Rattle.std.proofs.lemmas.Bool.{cases_lt, lt-ltb}
use Rattle.std.proofs.lemmas.Cmp.{nat_cmp_total, ranked, tied_itself}
use Rattle.std.proofs.lemmas.List.Sorted.{searchable_from_sorted}
use Rattle.std.proofs.lemmas.Map.Keys.{Less-from_sorted}
use Rattle.std.proofs.lemmas.Option.{none-some, slice_get_within, slice_get-get_or, get_or_from_slice_get}
use Rattle.list_laws.proofs.Members.{contains_first, contains_none}
use Rattle.list_laws.proofs.Places.{contains_at, place_of}
use Rattle.jvm_model.specs.declared.number.MethodNo.{MethodNo}
use Rattle.jvm_model.specs.declared.number.SiteNo.{SiteNo}
use Rattle.jvm_model.specs.contracts.number.MethodNoOrd.TheImpl as method_order
use Rattle.jvm_model.specs.contracts.number.SiteNoOrd.TheImpl as site_order
use Rattle.jvm_model.specs.contracts.number.SiteNoOrd.TheImpl.Laws as site_order_laws
use Rattle.ground.specs.Ordered.{DoAscend, method_number, site_number}

-- ---- numbers

number_below : (x y : ℕ) → nat_cmp x y ≡ Less → x < y
number_below x y e = subst (λ (o : Ordering). MatchOrdering o (x < y) (x ≡ y) (y < x)) e (ranked x y (nat_cmp x y) refl)

number_same : (x y : ℕ) → nat_cmp x y ≡ Equal → x ≡ y
number_same x y e = subst (λ (o : Ordering). MatchOrdering o (x < y) (x ≡ y) (y < x)) e (ranked x y (nat_cmp x y) refl)

-- ---- what is strictly sorted ascends

module _ {X : Type 0} (cmp : X → X → Ordering) (number : X → ℕ) (below : (a b : X) → cmp a b ≡ Less → number a < number b) where
  ascends : (xs : List X) → IsStrictlySortedBy cmp xs → DoAscend number xs
  ascends xs strictly = record {
    each = λ i j x y less at_x at_y.
        let ordered = Less-from_sorted cmp xs i j x strictly less (slice_get_within xs j y at_y) in
        let one = get_or_from_slice_get xs i x x at_x in
        let other = get_or_from_slice_get xs j y x at_y in
        below x y (subst (λ (z : X). cmp x z ≡ Less) other (subst (λ (z : X). cmp z (get_or xs j x) ≡ Less) one ordered));
  }

abbrev pub site_cmp : SiteNo → SiteNo → Ordering
site_cmp = (site_order.ghosts).cmp

abbrev pub method_cmp : MethodNo → MethodNo → Ordering
method_cmp = (method_order.ghosts).cmp

pub sites_ascend : (sites : List SiteNo) → IsStrictlySortedBy site_cmp sites → DoAscend site_number sites
sites_ascend sites strictly = ascends site_cmp site_number (λ a b e. number_below a.0 b.0 e) sites strictly

pub methods_ascend : (methods : List MethodNo) → IsStrictlySortedBy method_cmp methods → DoAscend method_number methods
methods_ascend methods strictly = ascends method_cmp method_number (λ a b e. number_below a.0 b.0 e) methods strictly

module _ {X : Type 0} (number : X → ℕ) where
  -- nothing ascends
  pub nothing_ascends : DoAscend number []
  nothing_ascends = record { each = λ i j x y less at_x at_y. absurd (none-some x at_x) }

  -- where all are one, there is one
  pub one_alone : (xs : List X) (x : X) → DoAscend number xs → Contains xs x → ((y : X) → Contains xs y → y ≡ x) → xs ≡ x ∷ []
  one_alone [] x ascend there all = absurd (contains_none x there)
  one_alone (y ∷ []) x ascend there all = ap (λ (z : X). z ∷ []) (all y (contains_first y []))
  one_alone (y ∷ z ∷ rest) x ascend there all =
      let less = ascend.each 0 1 y z (omega arith) refl refl in
      let same : y ≡ z = all y (contains_first y (z ∷ rest)) ∙ sym (all z (contains_at (y ∷ z ∷ rest) 1 z refl)) in
      absurd (omega (arith, less, ap number same))

-- ---- what is found by halving

module _ (sites : List SiteNo) (ascend : DoAscend site_number sites) where
  ascending : IsSortedBy (λ a b. is_lt (site_cmp a b)) sites
  ascending k d low within =
      let t = get_or sites k d in
      let u = get_or sites (k + 1) d in
      let less = ascend.each k (k + 1) t u (omega arith) (slice_get-get_or sites k d (omega arith)) (slice_get-get_or sites (k + 1) d within) in
      let ordered : nat_cmp t.0 u.0 ≡ Less = ap (λ (b : Bool). cond b Less (cond (eqb t.0 u.0) Equal Greater)) (lt-ltb t.0 u.0 less) in
      ap is_lt ((site_order_laws.total-law).antisymm u t ∙ ap ordering_reverse ordered)

  searchable : (t : SiteNo) → IsNonDecreasingBy (λ y. ordering_index (site_cmp y t)) sites
  searchable t = searchable_from_sorted (site_order_laws.total-law) (λ (y : SiteNo). y) sites t ascending

  pub among : (t : SiteNo) (place : ℕ) → place < length sites → HoldsAt (λ y. site_cmp y t ≡ Equal) sites place → Contains sites t
  among t place within holds =
      let same = number_same (get_or sites place t).0 t.0 (holds t) in
      contains_at sites place t (slice_get-get_or sites place t within ∙ (λ i. Some (record { 0 = same i })))

  pub not_among : (t : SiteNo) (place : ℕ)
      → (IsNonDecreasingBy (λ y. ordering_index (site_cmp y t)) sites → IsPartitionPoint (λ y. site_cmp y t ≡ Less) (λ y. site_cmp y t ≡ Greater) sites place)
      → Contains sites t → ⊥
  not_among t place parted there =
      let (less, greater) = parted (searchable t) in
      let (k, stands) = place_of sites t there in
      let at = get_or_from_slice_get sites k t t stands in
      let equal : site_cmp (get_or sites k t) t ≡ Equal = ap (λ (y : SiteNo). site_cmp y t) at ∙ tied_itself nat_cmp_total t.0 in
      elim (cases_lt k place) [
        | inl before ↦ (let e : Less ≡ Equal = sym (less k t (omega arith) before) ∙ equal in cc)
        | inr after ↦ (let e : Greater ≡ Equal = sym (greater k t after (slice_get_within sites k t stands)) ∙ equal in cc)
      ]
