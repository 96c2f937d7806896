-- How the list of the sites of a set grows, from the lowest one on.
use Rattle.std.proofs.Common.{◌≡◌, ℕ, ◌+◌, ◌<◌, ◌≤◌, ◌⊎◌, inl, inr, List, [], ◌∷◌, ◌++◌, Option, Some, None, Result, sym, subst, arith}
use Rattle.std.specs.List.{slice_get, Contains}
use Rattle.std.specs.Result.{IfOk}
use Rattle.std.specs.declared.alloc.Global.{Global}
use Rattle.std.specs.declared.vec.Vec.{Vec}
use Rattle.std.proofs.lemmas.Bool.{cases_lt}
use Rattle.std.proofs.lemmas.List.Elements.{Contains-append_left, Contains-push, Contains-push_cases}
use Rattle.jvm_model.specs.declared.number.SiteNo.{SiteNo}
use Rattle.bit_rows.specs.declared.set.NumberSet.{NumberSet}
use Rattle.bit_rows.specs.Sets.{IsIn}
use Rattle.bit_rows.specs.Words.{IsNextOf}
use Rattle.bit_rows.proofs.Numbers.{none_in_empty}
use Rattle.bit_rows.proofs.Sets.{in_or_not}
use Rattle.site_rows.specs.declared.row.SiteRow.{SiteRow}
use Rattle.site_rows.specs.Rows.{fresh_at, fresh_in, held_at, held_in}
use Rattle.least_sets.proofs.Places.{nothing_in}
use Rattle.points_to.specs.Sites.{AreListed, AreListedBelow, IsListed, IsPushed}

module _ (set except : NumberSet) where
  pub none_below : AreListedBelow set except 0 []
  none_below = record { each = λ site. ((λ there. absurd (nothing_in site there)), (λ (is, below). absurd (omega (arith, below)))) }

  same_site : (a b : SiteNo) → a.0 ≡ b.0 → a ≡ b
  same_site a b e = (λ i. record { 0 = e i })

  module _ (low number : ℕ) (old new : List SiteNo) (next : IsNextOf (IsIn set) low number) (before : AreListedBelow set except low old) (pushed : IsPushed old except number new) where
    -- a site that is listed by then
    to_listed : (site : SiteNo) → Contains new site → IsIn except number ⊎ (IsIn except number → ⊥) → IsListed set except site.0 × (site.0 < number + 1)
    to_listed site there (inl held) =
        let was = (before.each site).0 (subst (λ (xs : List SiteNo). Contains xs site) (pushed.is_old held) there) in
        let from = next.from in
        let below = was.1 in
        (was.0, omega arith)
    to_listed site there (inr absent) = elim (Contains-push_cases old (record { 0 = number }) site (subst (λ (xs : List SiteNo). Contains xs site) (pushed.is_new absent) there)) [
      | inl old_one ↦
          (let was = (before.each site).0 old_one in
          let from = next.from in
          let below = was.1 in
          (was.0, omega arith))
      | inr last ↦
          (let same : number ≡ site.0 = (λ i. (last i).0) in
          (subst (λ (k : ℕ). IsListed set except k) same (record { held = next.there; passed = absent }), omega arith))
    ]

    -- a site that was listed is
    kept : (site : SiteNo) → Contains old site → IsIn except number ⊎ (IsIn except number → ⊥) → Contains new site
    kept site there (inl held) = subst (λ (xs : List SiteNo). Contains xs site) (sym (pushed.is_old held)) there
    kept site there (inr absent) = subst (λ (xs : List SiteNo). Contains xs site) (sym (pushed.is_new absent)) (Contains-append_left old (record { 0 = number } ∷ []) site there)

    from_listed : (site : SiteNo) → IsListed set except site.0 → site.0 < number + 1 → Contains new site
    from_listed site is below = elim (cases_lt site.0 number) [
      | inl less ↦ elim (cases_lt site.0 low) [
        | inl first ↦ kept site ((before.each site).1 (is, first)) (in_or_not except number)
        | inr past ↦ absurd (next.before site.0 past less is.held)
      ]
      | inr more ↦
          let same : number ≡ site.0 = omega arith in
          let absent = λ (held : IsIn except number). is.passed (subst (λ (k : ℕ). IsIn except k) same held) in
          subst (λ (xs : List SiteNo). Contains xs site) (sym (pushed.is_new absent))
          (subst (λ (s : SiteNo). Contains (old ++ record { 0 = number } ∷ []) s) (same_site (record { 0 = number }) site same) (Contains-push old (record { 0 = number })))
    ]

    pub one_listed : AreListedBelow set except (number + 1) new
    one_listed = record { each = λ site. ((λ there. to_listed site there (in_or_not except number)), (λ (is, below). from_listed site is below)) }

  -- there are no more
  pub all_listed : (low : ℕ) (sites : List SiteNo) → ((n : ℕ) → low ≤ n → IsIn set n → ⊥) → AreListedBelow set except low sites → AreListed set except sites
  all_listed low sites none listed = record {
    each = λ site. (
      (λ there. ((listed.each site).0 there).0),
      (λ is. elim (cases_lt site.0 low) [
        | inl below ↦ (listed.each site).1 (is, below)
        | inr past ↦ absurd (none site.0 past is.held)
      ]),
    );
  }

-- where no row is, no site is
pub nowhere_listed : (rows : List SiteRow) (place : ℕ) → slice_get rows place ≡ None → (sites : List SiteNo) → sites ≡ [] → AreListed (held_at rows place) (fresh_at rows place) sites
nowhere_listed rows place none sites empty = record {
  each = λ site. (
    (λ there. absurd (nothing_in site (subst (λ (xs : List SiteNo). Contains xs site) empty there))),
    (λ is. absurd (none_in_empty site.0 (subst (λ (o : Option SiteRow). IsIn (held_in o) site.0) none is.held))),
  );
}

-- the sites of a row are those of its place
pub somewhere_listed : {E : Type 0} (rows : List SiteRow) (place : ℕ) (row : SiteRow) → slice_get rows place ≡ Some row → (r : Result (Vec SiteNo Global) E) → IfOk r (λ sites. AreListed row.held row.fresh sites.items)
    → IfOk r (λ sites. AreListed (held_at rows place) (fresh_at rows place) sites.items)
somewhere_listed rows place row stands r h = subst (λ (o : Option SiteRow). IfOk r (λ sites. AreListed (held_in o) (fresh_in o) sites.items)) (sym stands) h
