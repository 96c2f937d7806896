-- Binary search of a site among sites in the order of a report.
use Rattle.std.proofs.Common.{◌≡◌, ◌↔◌, ℕ, ◌+◌, ◌<◌, Bool, true, cond, eqb, ◌&&◌, List, length, get_or, Option, Some, None, refl, sym, ◌∙◌, ap, inl, inr, arith}
use Rattle.std.specs.declared.cmp.Ordering.{Ordering}
use Rattle.std.specs.declared.cmp.Ordering.TheVariants.{Less, Equal, Greater}
use Rattle.std.specs.List.{slice_get, HoldsAt}
use Rattle.std.specs.List.Sorted.{IsNonDecreasingBy, IsPartitionPoint, IsSortedBy}
use Rattle.std.specs.Option.{option_cmp, option_eq}
use Rattle.std.specs.Ordering.{is_eq, is_lt, nat_cmp, ordering_index, ordering_reverse, ordering_then}
use Rattle.std.proofs.lemmas.Bool.{and_parts, cases_lt, lt-ltb}
use Rattle.std.proofs.lemmas.Cmp.{nat_cmp_total, tied_itself}
use Rattle.std.proofs.lemmas.List.Sorted.{searchable_from_sorted}
use Rattle.std.proofs.lemmas.Map.Views.{exact_unsigned_eq}
use Rattle.std.proofs.lemmas.Option.{none-some, same_Some, slice_get_within, slice_get-get_or, get_or_from_slice_get}
use Rattle.jvm_model.specs.declared.number.ClassNo.{ClassNo}
use Rattle.jvm_model.specs.declared.number.MethodNo.{MethodNo}
use Rattle.jvm_model.specs.declared.site.SiteKind.{SiteKind}
use Rattle.jvm_model.specs.declared.site.SiteKind.TheVariants as kinds
use Rattle.jvm_model.specs.contracts.site.SiteKindPartialEq.TheImpl as kind_equality
use Rattle.jvm_model.specs.contracts.site.SiteKindOrd.TheImpl as kind_order
use Rattle.site_report.specs.declared.tracked_site.TrackedSite.{TrackedSite}
use Rattle.site_report.specs.contracts.tracked_site.TrackedSitePartialEq.TheImpl as site_equality
use Rattle.site_report.specs.contracts.tracked_site.TrackedSiteOrd.TheImpl as site_order
use Rattle.site_report.specs.contracts.tracked_site.TrackedSiteOrd.TheImpl.Laws as order_laws
use Rattle.site_report.specs.Sites.{AreInOrder, IsBefore, by_method, by_offset, by_class, by_kind, kind_rank, method_rank}

abbrev pub site_cmp : TrackedSite → TrackedSite → Ordering
site_cmp = (site_order.ghosts).cmp

abbrev same_sites : TrackedSite → TrackedSite → Bool
same_sites = (site_equality.ghosts).eq

-- ---- a site that comes before in a report is less

abbrev method_cmp : Option MethodNo → Option MethodNo → Ordering
method_cmp = option_cmp (λ (a b : MethodNo). nat_cmp a.0 b.0)

abbrev kind_cmp : SiteKind → SiteKind → Ordering
kind_cmp = (kind_order.ghosts).cmp

number_less : (x y : ℕ) → x < y → nat_cmp x y ≡ Less
number_less x y less = ap (λ (b : Bool). cond b Less (cond (eqb x y) Equal Greater)) (lt-ltb x y less)

number_same : (x y : ℕ) → x ≡ y → nat_cmp x y ≡ Equal
number_same x y same = ap (λ (z : ℕ). nat_cmp x z) (sym same) ∙ tied_itself nat_cmp_total x

method_less : (a b : Option MethodNo) → method_rank a < method_rank b → method_cmp a b ≡ Less
method_less None None less = absurd (omega (arith, less))
method_less None (Some b) less = refl
method_less (Some a) None less = absurd (omega (arith, less))
method_less (Some a) (Some b) less = number_less a.0 b.0 (omega (arith, less))

method_itself : (a : Option MethodNo) → method_cmp a a ≡ Equal
method_itself None = refl
method_itself (Some a) = number_same a.0 a.0 refl

kind_less : (a b : SiteKind) → kind_rank a < kind_rank b → kind_cmp a b ≡ Less
kind_less kinds.Boot kinds.New less = refl
kind_less kinds.Boot kinds.Result less = refl
kind_less kinds.Boot kinds.Thrown less = refl
kind_less kinds.New kinds.Result less = refl
kind_less kinds.New kinds.Thrown less = refl
kind_less kinds.Result kinds.Thrown less = refl
kind_less kinds.Thrown kinds.Thrown less = absurd (omega (arith, less))
kind_less _ _ less = absurd (omega (arith, less))

-- the first part that differs tells
first_less : (o p : Ordering) → o ≡ Less → ordering_then o p ≡ Less
first_less o p e = ap (λ (x : Ordering). ordering_then x p) e

later_less : (o p : Ordering) → o ≡ Equal → p ≡ Less → ordering_then o p ≡ Less
later_less o p e less = ap (λ (x : Ordering). ordering_then x p) e ∙ less

less_before : (t u : TrackedSite) → IsBefore t u → site_cmp t u ≡ Less
less_before t u (by_method less) =
    first_less (method_cmp t.method u.method)
    (ordering_then (nat_cmp t.offset u.offset) (ordering_then (nat_cmp t.class.0 u.class.0) (kind_cmp t.kind u.kind))) (method_less t.method u.method less)
less_before t u (by_offset methods less) =
    later_less (method_cmp t.method u.method) (ordering_then (nat_cmp t.offset u.offset) (ordering_then (nat_cmp t.class.0 u.class.0) (kind_cmp t.kind u.kind)))
    (ap (λ (m : Option MethodNo). method_cmp t.method m) (sym methods) ∙ method_itself t.method)
    (first_less (nat_cmp t.offset u.offset) (ordering_then (nat_cmp t.class.0 u.class.0) (kind_cmp t.kind u.kind)) (number_less t.offset u.offset less))
less_before t u (by_class methods offsets less) =
    later_less (method_cmp t.method u.method) (ordering_then (nat_cmp t.offset u.offset) (ordering_then (nat_cmp t.class.0 u.class.0) (kind_cmp t.kind u.kind)))
    (ap (λ (m : Option MethodNo). method_cmp t.method m) (sym methods) ∙ method_itself t.method)
    (later_less (nat_cmp t.offset u.offset) (ordering_then (nat_cmp t.class.0 u.class.0) (kind_cmp t.kind u.kind)) (number_same t.offset u.offset offsets)
    (first_less (nat_cmp t.class.0 u.class.0) (kind_cmp t.kind u.kind) (number_less t.class.0 u.class.0 less)))
less_before t u (by_kind methods offsets classes less) =
    later_less (method_cmp t.method u.method) (ordering_then (nat_cmp t.offset u.offset) (ordering_then (nat_cmp t.class.0 u.class.0) (kind_cmp t.kind u.kind)))
    (ap (λ (m : Option MethodNo). method_cmp t.method m) (sym methods) ∙ method_itself t.method)
    (later_less (nat_cmp t.offset u.offset) (ordering_then (nat_cmp t.class.0 u.class.0) (kind_cmp t.kind u.kind)) (number_same t.offset u.offset offsets)
    (later_less (nat_cmp t.class.0 u.class.0) (kind_cmp t.kind u.kind) (number_same t.class.0 u.class.0 (ap (λ (c : ClassNo). c.0) classes))
    (kind_less t.kind u.kind less)))

-- ---- sites that are alike are one

exact_kinds : (a b : SiteKind) → (kind_equality.ghosts).eq a b ≡ true → a ≡ b
exact_kinds kinds.Boot kinds.Boot e = refl
exact_kinds kinds.New kinds.New e = refl
exact_kinds kinds.Result kinds.Result e = refl
exact_kinds kinds.Thrown kinds.Thrown e = refl
exact_kinds _ _ e = cc

abbrev same_maybe : Option MethodNo → Option MethodNo → Bool
same_maybe = option_eq (λ (a b : MethodNo). eqb a.0 b.0)

exact_maybe : (a b : Option MethodNo) → same_maybe a b ≡ true → a ≡ b
exact_maybe None None e = refl
exact_maybe (Some a) (Some b) e = let methods = exact_unsigned_eq a.0 b.0 e in (λ i. Some (record { 0 = methods i }))
exact_maybe _ _ e = cc

exact_sites : (a b : TrackedSite) → same_sites a b ≡ true → a ≡ b
exact_sites a b e =
    let of_kinds = (kind_equality.ghosts).eq a.kind b.kind in
    let first = and_parts (same_maybe a.method b.method) (eqb a.offset b.offset && (eqb a.class.0 b.class.0 && of_kinds)) e in
    let second = and_parts (eqb a.offset b.offset) (eqb a.class.0 b.class.0 && of_kinds) first.1 in
    let third = and_parts (eqb a.class.0 b.class.0) of_kinds second.1 in
    let method = exact_maybe a.method b.method first.0 in
    let offset = exact_unsigned_eq a.offset b.offset second.0 in
    let class = exact_unsigned_eq a.class.0 b.class.0 third.0 in
    let kind = exact_kinds a.kind b.kind third.1 in
    (λ i. record { method = method i; offset = offset i; class = record { 0 = class i }; kind = kind i })

alike : (a b : TrackedSite) → site_cmp a b ≡ Equal → a ≡ b
alike a b e = exact_sites a b ((order_laws.matches_eq-law) a b ∙ ap is_eq e)

itself : (a : TrackedSite) → site_cmp a a ≡ Equal
itself a = tied_itself (order_laws.total-law) a

-- ---- sites in order

module _ (sites : List TrackedSite) (order : AreInOrder sites) where
  not_two : (t : TrackedSite) (i j : ℕ) → i < j → slice_get sites i ≡ Some t → slice_get sites j ≡ Some t → ⊥
  not_two t i j less at_i at_j =
      let e : Less ≡ Equal = sym (less_before t t (order.ascend i j t t less at_i at_j)) ∙ itself t in
      cc

  -- a site stands at one place
  pub one_place : (t : TrackedSite) (i j : ℕ) → slice_get sites i ≡ Some t → slice_get sites j ≡ Some t → i ≡ j
  one_place t i j at_i at_j = elim (cases_lt i j) [
    | inl less ↦ absurd (not_two t i j less at_i at_j)
    | inr not_less ↦ elim (cases_lt j i) [ inl more ↦ absurd (not_two t j i more at_j at_i) | inr not_more ↦ omega (arith, not_less, not_more) ]
  ]

  ascending : IsSortedBy (λ a b. is_lt (site_cmp a b)) sites
  ascending k d low within =
      let t = get_or sites k d in
      let u = get_or sites (k + 1) d in
      let less = less_before t u (order.ascend k (k + 1) t u (omega arith) (slice_get-get_or sites k d (omega arith))
      (slice_get-get_or sites (k + 1) d within)) in
      ap is_lt ((order_laws.total-law).antisymm u t ∙ ap ordering_reverse less)

  searchable : (t : TrackedSite) → IsNonDecreasingBy (λ y. ordering_index (site_cmp y t)) sites
  searchable t = searchable_from_sorted (order_laws.total-law) (λ (y : TrackedSite). y) sites t ascending

  -- where the search found it
  pub found_place : (t : TrackedSite) (place : ℕ) → place < length sites → HoldsAt (λ y. site_cmp y t ≡ Equal) sites place → (k : ℕ)
      → (◌≡◌ {A = Option ℕ} (Some place) (Some k)) ↔ (slice_get sites k ≡ Some t)
  found_place t place within holds k =
      let here : slice_get sites place ≡ Some t = slice_get-get_or sites place t within ∙ ap Some (alike (get_or sites place t) t (holds t)) in (
        λ e. ap (λ (i : ℕ). slice_get sites i) (sym (same_Some place k e)) ∙ here,
        λ there. ap Some (one_place t place k here there),
      )

  -- it is nowhere where the search did not find it
  pub nowhere : (t : TrackedSite) (place : ℕ)
      → (IsNonDecreasingBy (λ y. ordering_index (site_cmp y t)) sites → IsPartitionPoint (λ y. site_cmp y t ≡ Less) (λ y. site_cmp y t ≡ Greater) sites place)
      → (k : ℕ) → (◌≡◌ {A = Option ℕ} None (Some k)) ↔ (slice_get sites k ≡ Some t)
  nowhere t place parted k =
      let (less, greater) = parted (searchable t) in
      let apart : slice_get sites k ≡ Some t → ⊥ =
      (λ there.
      let at = get_or_from_slice_get sites k t t there in
      let equal : site_cmp (get_or sites k t) t ≡ Equal = ap (λ (y : TrackedSite). site_cmp y t) at ∙ itself t in
      elim (cases_lt k place) [
        | inl before ↦ (let e : Less ≡ Equal = sym (less k t (omega arith) before) ∙ equal in cc)
        | inr after ↦ (let e : Greater ≡ Equal = sym (greater k t after (slice_get_within sites k t there)) ∙ equal in cc)
      ]) in (
        λ e. absurd (none-some k e),
        λ there. absurd (apart there),
      )
