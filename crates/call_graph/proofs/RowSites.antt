-- The sites of rows, as they are added to lists by place; and the sets of a work list.
use Rattle.std.proofs.Common.{◌≡◌, ◌↔◌, ◌⊎◌, ℕ, ◌+◌, ◌<◌, ◌≤◌, inl, inr, List, ◌++◌, Some, length, refl, sym, ◌∙◌, ap, subst, arith}
use Rattle.std.specs.List.{slice_get, Contains}
use Rattle.std.proofs.lemmas.Bool.{cases_eq, cases_lt}
use Rattle.std.proofs.lemmas.Option.{slice_get_past}
use Rattle.std.proofs.lemmas.List.Elements.{Contains-append_cases, Contains-append_left, Contains-append_right}
use Rattle.jvm_model.specs.declared.number.MethodNo.{MethodNo}
use Rattle.jvm_model.specs.declared.number.SiteNo.{SiteNo}
use Rattle.bit_rows.specs.declared.set.NumberSet.{NumberSet}
use Rattle.bit_rows.specs.Sets.{IsIn}
use Rattle.bit_rows.specs.Words.{IsNextOf}
use Rattle.bit_rows.proofs.Numbers.{none_in_empty}
use Rattle.grouped_lists.specs.Groups.{values_at, IsPut}
use Rattle.grouped_lists.proofs.PutValues.{put_there, put_keeps, put_cases}
use Rattle.site_rows.specs.declared.row.SiteRow.{SiteRow}
use Rattle.site_rows.specs.Rows.{held_at, held_in}
use Rattle.call_graph.specs.Rows.{AddsRows, AddsRowsBelow, AddsSites, AddsSitesBelow, SiteGroups}

-- ---- the sites of a set

module _ (set : NumberSet) (place : ℕ) where
  pub no_sites : (old : SiteGroups) → AddsSitesBelow set place 0 old old
  no_sites old = record { each = λ q site. ((λ there. inl there), (λ e. elim e [ inl there ↦ there | inr (here, is, below) ↦ absurd (omega (arith, below)) ])) }

  module _ (low number : ℕ) (old mid new : SiteGroups) (next : IsNextOf (IsIn set) low number) (before : AddsSitesBelow set place low old mid) (put : IsPut mid new place (record { 0 = number })) where
    to_sites : (q : ℕ) (site : SiteNo) → Contains (values_at new q) site → Contains (values_at old q) site ⊎ ((q ≡ place) × IsIn set site.0 × (site.0 < number + 1))
    to_sites q site there = elim (put_cases mid new place (record { 0 = number }) put q site there) [
      | inl was ↦ elim ((before.each q site).0 was) [
        | inl first ↦ inl first
        | inr (here, is, below) ↦ (let from = next.from in inr (here, is, omega (arith, below)))
      ]
      | inr (here, last) ↦
          (let same : number ≡ site.0 = (λ i. (last i).0) in
          inr (sym here, subst (IsIn set) same next.there, omega (arith, same)))
    ]

    from_sites : (q : ℕ) (site : SiteNo) → Contains (values_at old q) site ⊎ ((q ≡ place) × IsIn set site.0 × (site.0 < number + 1)) → Contains (values_at new q) site
    from_sites q site (inl there) = put_keeps mid new place (record { 0 = number }) put q site ((before.each q site).1 (inl there))
    from_sites q site (inr (here, is, below)) = elim (cases_lt site.0 number) [
      | inl less ↦ elim (cases_lt site.0 low) [
        | inl first ↦ put_keeps mid new place (record { 0 = number }) put q site ((before.each q site).1 (inr (here, is, first)))
        | inr past ↦ absurd (next.before site.0 past less is)
      ]
      | inr more ↦
          (let same : number ≡ site.0 = omega (arith, below) in
          let sites : ◌≡◌ {A = SiteNo} (record { 0 = number }) site = (λ i. record { 0 = same i }) in
          subst (λ (k : ℕ). Contains (values_at new k) site) (sym here)
          (subst (λ (s : SiteNo). Contains (values_at new place) s) sites (put_there mid new place (record { 0 = number }) put)))
    ]

    pub site_added : AddsSitesBelow set place (number + 1) old new
    site_added = record { each = λ q site. (to_sites q site, from_sites q site) }

  pub sites_added : (low : ℕ) (old new : SiteGroups) → ((n : ℕ) → low ≤ n → IsIn set n → ⊥) → AddsSitesBelow set place low old new → AddsSites set place old new
  sites_added low old new none h = record {
    each = λ q site. (
      (λ there. elim ((h.each q site).0 there) [ inl was ↦ inl was | inr (here, is, below) ↦ inr (here, is) ]),
      (λ e. (h.each q site).1 (elim e [
        | inl was ↦ inl was
        | inr (here, is) ↦ elim (cases_lt site.0 low) [ inl below ↦ inr (here, is, below) | inr past ↦ absurd (none site.0 past is) ]
      ])),
    );
  }

-- ---- the rows

module _ (rows : List SiteRow) where
  pub no_rows : (old : SiteGroups) → AddsRowsBelow rows 0 old old
  no_rows old = record { each = λ q site. ((λ there. inl there), (λ e. elim e [ inl there ↦ there | inr (below, is) ↦ absurd (omega (arith, below)) ])) }

  pub row_added : (k : ℕ) (row : SiteRow) (old mid new : SiteGroups) → slice_get rows k ≡ Some row → AddsRowsBelow rows k old mid → AddsSites row.held k mid new → AddsRowsBelow rows (k + 1) old new
  row_added k row old mid new stands before adds = record {
    each = λ q site. (
      (λ there. elim ((adds.each q site).0 there) [
        | inl was ↦ elim ((before.each q site).0 was) [ inl first ↦ inl first | inr (below, is) ↦ inr (omega (arith, below), is) ]
        | inr (here, is) ↦ inr (omega (arith, here), subst (λ (j : ℕ). IsIn (held_at rows j) site.0) (sym here) (subst (λ (s : NumberSet). IsIn s site.0) (sym (ap held_in stands)) is))
      ]),
      (λ e. (adds.each q site).1 (elim e [
        | inl first ↦ inl ((before.each q site).1 (inl first))
        | inr (below, is) ↦ elim (cases_eq q k) [
          | inl here ↦ inr (here, subst (λ (s : NumberSet). IsIn s site.0) (ap held_in stands) (subst (λ (j : ℕ). IsIn (held_at rows j) site.0) here is))
          | inr other ↦ inl ((before.each q site).1 (inr (omega (arith, below, other), is)))
        ]
      ])),
    );
  }

  pub rows_added : (k : ℕ) (old new : SiteGroups) → length rows ≤ k → AddsRowsBelow rows k old new → AddsRows rows old new
  rows_added k old new past h = record {
    each = λ q site. (
      (λ there. elim ((h.each q site).0 there) [ inl was ↦ inl was | inr (below, is) ↦ inr is ]),
      (λ e. (h.each q site).1 (elim e [
        | inl was ↦ inl was
        | inr is ↦ elim (cases_lt q k) [
          | inl below ↦ inr (below, is)
          | inr beyond ↦ absurd (none_in_empty site.0 (subst (λ (s : NumberSet). IsIn s site.0) (ap held_in (slice_get_past rows q (omega (arith, past, beyond)))) is))
        ]
      ])),
    );
  }
