-- The order of sites that is derived is that of a report.
use Rattle.std.proofs.Common.{◌≡◌, ◌⊎◌, ℕ, ◌<◌, Bool, true, eqb, ◌&&◌, List, get_or, Option, Some, None, refl, sym, ◌∙◌, ap, subst, inl, inr, arith}
use Rattle.std.specs.declared.cmp.Ordering.{Ordering}
use Rattle.std.specs.declared.cmp.Ordering.TheVariants.{Less, Equal, Greater}
use Rattle.std.specs.List.{slice_get, Contains, dedup}
use Rattle.std.specs.List.Sorted.{IsPermutation, IsSorted, IsStrictlySortedBy}
use Rattle.std.specs.Option.{option_cmp}
use Rattle.std.specs.Ordering.{MatchOrdering, nat_cmp, ordering_then}
use Rattle.std.proofs.lemmas.Bool.{and_parts}
use Rattle.std.proofs.lemmas.Cmp.{ranked}
use Rattle.std.proofs.lemmas.List.Kept.{Contains-dedup, Contains-from_dedup, IsStrictlySortedBy-dedup}
use Rattle.std.proofs.lemmas.List.Sorted.{Contains-permutation, IsPermutation-sym}
use Rattle.std.proofs.lemmas.Map.Keys.{Less-from_sorted}
use Rattle.std.proofs.lemmas.Map.Views.{exact_unsigned_eq}
use Rattle.std.proofs.lemmas.Option.{slice_get_within, get_or_from_slice_get}
use Rattle.jvm_model.specs.declared.number.MethodNo.{MethodNo}
use Rattle.jvm_model.specs.declared.site.SiteKind.{SiteKind}
use Rattle.jvm_model.specs.declared.site.SiteKind.TheVariants as kinds
use Rattle.jvm_model.specs.contracts.site.SiteKindPartialEq.TheImpl as kind_equality
use Rattle.jvm_model.specs.contracts.site.SiteKindOrd.TheImpl as kind_order
use Rattle.site_report.specs.declared.tracked_site.TrackedSite.{TrackedSite}
use Rattle.site_report.specs.contracts.tracked_site.TrackedSitePartialEq.TheImpl as site_equality
use Rattle.site_report.specs.contracts.tracked_site.TrackedSiteEq.TheImpl.Laws as equality_laws
use Rattle.site_report.specs.contracts.tracked_site.TrackedSiteOrd.TheImpl as site_order
use Rattle.site_report.specs.contracts.tracked_site.TrackedSiteOrd.TheImpl.Laws as order_laws
use Rattle.site_report.specs.Sites.{AreInOrder, IsBefore, by_method, by_offset, by_class, by_kind, kind_rank, method_rank}
use Rattle.report_sites.specs.Found.{HaveSame}
use Rattle.points_to_rules.proofs.ExactParts.{exact_kinds, same_maybe, exact_maybe}

abbrev pub site_cmp : TrackedSite → TrackedSite → Ordering
site_cmp = (site_order.ghosts).cmp

abbrev pub same_sites : TrackedSite → TrackedSite → Bool
same_sites = (site_equality.ghosts).eq

-- ---- the order, by its parts

abbrev method_cmp : Option MethodNo → Option MethodNo → Ordering
method_cmp = option_cmp (λ (a b : MethodNo). nat_cmp a.0 b.0)

abbrev kind_cmp : SiteKind → SiteKind → Ordering
kind_cmp = (kind_order.ghosts).cmp

then_less : (o p : Ordering) → ordering_then o p ≡ Less → (o ≡ Less) ⊎ ((o ≡ Equal) × (p ≡ Less))
then_less Less p e = inl refl
then_less Equal p e = inr (refl, e)
then_less Greater p e = inl e

below : (x y : ℕ) → nat_cmp x y ≡ Less → x < y
below x y e = subst (λ (o : Ordering). MatchOrdering o (x < y) (x ≡ y) (y < x)) e (ranked x y (nat_cmp x y) refl)

same : (x y : ℕ) → nat_cmp x y ≡ Equal → x ≡ y
same x y e = subst (λ (o : Ordering). MatchOrdering o (x < y) (x ≡ y) (y < x)) e (ranked x y (nat_cmp x y) refl)

method_below : (a b : Option MethodNo) → method_cmp a b ≡ Less → method_rank a < method_rank b
method_below None None e = absurd (cc e)
method_below None (Some b) e = omega arith
method_below (Some a) None e = absurd (cc e)
method_below (Some a) (Some b) e = let less = below a.0 b.0 e in omega (arith, less)

method_same : (a b : Option MethodNo) → method_cmp a b ≡ Equal → a ≡ b
method_same None None e = refl
method_same None (Some b) e = absurd (cc e)
method_same (Some a) None e = absurd (cc e)
method_same (Some a) (Some b) e = let numbers = same a.0 b.0 e in (λ i. Some (record { 0 = numbers i }))

kind_below : (a b : SiteKind) → kind_cmp a b ≡ Less → kind_rank a < kind_rank b
kind_below kinds.Boot kinds.New e = omega arith
kind_below kinds.Boot kinds.Result e = omega arith
kind_below kinds.Boot kinds.Thrown e = omega arith
kind_below kinds.New kinds.Result e = omega arith
kind_below kinds.New kinds.Thrown e = omega arith
kind_below kinds.Result kinds.Thrown e = omega arith
kind_below kinds.Thrown kinds.Thrown e = absurd (cc e)
kind_below _ _ e = absurd (cc e)

-- a site that is less comes before in a report
before : (t u : TrackedSite) → site_cmp t u ≡ Less → IsBefore t u
before t u e =
    let offsets = nat_cmp t.offset u.offset in
    let classes = nat_cmp t.class.0 u.class.0 in
    let of_kinds = kind_cmp t.kind u.kind in
    elim (then_less (method_cmp t.method u.method) (ordering_then offsets (ordering_then classes of_kinds)) e) [
      | inl less ↦ by_method (method_below t.method u.method less)
      | inr (method, rest) ↦ (
          let methods = method_same t.method u.method method in
          elim (then_less offsets (ordering_then classes of_kinds) rest) [
            | inl less ↦ by_offset methods (below t.offset u.offset less)
            | inr (offset, more) ↦ (
                let equal = same t.offset u.offset offset in
                elim (then_less classes of_kinds more) [
                  | inl less ↦ by_class methods equal (below t.class.0 u.class.0 less)
                  | inr (class, last) ↦ (
                      let numbers = same t.class.0 u.class.0 class in
                      by_kind methods equal (λ i. record { 0 = numbers i }) (kind_below t.kind u.kind last))
                ])
          ])
    ]

-- ---- `==` tells sites apart

pub exact_sites : (a b : TrackedSite) → same_sites a b ≡ true → a ≡ b
exact_sites a b e =
    let of_kinds = (kind_equality.ghosts).eq a.kind b.kind in
    let first = and_parts (same_maybe a.method b.method) (eqb a.offset b.offset && (eqb a.class.0 b.class.0 && of_kinds)) e in
    let second = and_parts (eqb a.offset b.offset) (eqb a.class.0 b.class.0 && of_kinds) first.1 in
    let third = and_parts (eqb a.class.0 b.class.0) of_kinds second.1 in
    let method = exact_maybe a.method b.method first.0 in
    let offset = exact_unsigned_eq a.offset b.offset second.0 in
    let class = exact_unsigned_eq a.class.0 b.class.0 third.0 in
    let kind = exact_kinds a.kind b.kind third.1 in
    (λ i. record { method = method i; offset = offset i; class = record { 0 = class i }; kind = kind i })

-- ---- sorted, without doubles

module _ (xs sorted ys : List TrackedSite) (moved : IsPermutation xs sorted) (ascend : IsSorted site_cmp sorted) (is : ys ≡ dedup same_sites sorted) where
  strictly : IsStrictlySortedBy site_cmp (dedup same_sites sorted)
  strictly = IsStrictlySortedBy-dedup (order_laws.total-law) (order_laws.matches_eq-law) sorted ascend

  pub have_same : HaveSame xs ys
  have_same = record {
    each = λ t. (
      λ there. Contains-permutation sorted xs t (IsPermutation-sym xs sorted moved)
          (Contains-from_dedup same_sites sorted t (subst (λ (list : List TrackedSite). Contains list t) is there)),
      λ there. subst (λ (list : List TrackedSite). Contains list t) (sym is)
          (Contains-dedup (equality_laws.laws-law) exact_sites sorted t (Contains-permutation xs sorted t moved there)),
    );
  }

  pub in_order : AreInOrder ys
  in_order = record {
    ascend = λ i j t u lt at_i at_j.
        let list = dedup same_sites sorted in
        let there_i : slice_get list i ≡ Some t = ap (λ (l : List TrackedSite). slice_get l i) (sym is) ∙ at_i in
        let there_j : slice_get list j ≡ Some u = ap (λ (l : List TrackedSite). slice_get l j) (sym is) ∙ at_j in
        let less = Less-from_sorted site_cmp list i j t strictly lt (slice_get_within list j u there_j) in
        let first = get_or_from_slice_get list i t t there_i in
        let second = get_or_from_slice_get list j u t there_j in
        before t u
        (subst (λ (x : TrackedSite). site_cmp t x ≡ Less) second
        (subst (λ (x : TrackedSite). site_cmp x (get_or list j t) ≡ Less) first less));
  }
