-- From the place of each number to the number at each place.
use Rattle.std.proofs.Common.{◌≡◌, ◌<◌, ◌≤◌, ◌+◌, ◌⊎◌, ◌++◌, ℕ, List, Option, Some, None, length, get_or, replicate, take, drop, zero, suc, inl, inr, refl, sym, ap, ◌∙◌, subst, arith}
use Rattle.std.specs.List.{slice_get}
use Rattle.std.specs.Option.{IfSome}
use Rattle.std.specs.Prelude.{slice_set}
use Rattle.std.proofs.lemmas.Bool.{cases_eq, cases_lt}
use Rattle.std.proofs.lemmas.List.{length-set, take-append-le, take_all}
use Rattle.std.proofs.lemmas.Option.{none-some, same_Some, slice_get-get_or, slice_get_within}
use Rattle.list_laws.proofs.Places.{set_at, set_cases, set_other, stands_below}
use Rattle.jvm_model.specs.declared.number.SiteNo.{SiteNo}
use Rattle.jvm_model.specs.declared.site.Site.{Site}
use Rattle.ground.specs.Findings.{Findings}
use Rattle.prune_stage.specs.Places.{ArePlaces, AreBelow, StandsInTable}
use Rattle.site_report.specs.declared.tracked_site.TrackedSite.{TrackedSite}
use Rattle.site_report.specs.Sites.{site_in}
use Rattle.report_analysis.specs.Numbers.{AreNumbers, AreTurnedRound, IsNumberOf, numbers_with}

-- ---- no number yet

pub length_none : (n : ℕ) → length (replicate {A = Option SiteNo} n None) ≡ n
length_none zero = refl
length_none (suc n) = ap suc (length_none n)

pub none_put : (n place : ℕ) (site : SiteNo) → slice_get (replicate n None) place ≡ Some (Some site) → ⊥
none_put zero place site e = none-some (Some site) e
none_put (suc n) zero site e = none-some site (same_Some _ _ e)
none_put (suc n) (suc place) site e = none_put n place site e

module _ (places : List (Option ℕ)) (count : ℕ) where
  pub turned_start : (numbers : List (Option SiteNo)) → length numbers ≡ count → ((place : ℕ) (n : SiteNo) → slice_get numbers place ≡ Some (Some n) → ⊥)
      → AreTurnedRound places count 0 numbers
  turned_start numbers long none = record {
    long = long;
    from = λ place n at. absurd (none place n at);
    each = λ place number less at. absurd (omega (arith, less));
  }

  -- ---- one more number

  module _ (numbers : List (Option SiteNo)) (i : ℕ) (before : AreTurnedRound places count i numbers) where
    none_more : slice_get places i ≡ Some None → AreTurnedRound places count (i + 1) numbers
    none_more stands = record {
      long = before.long;
      from = before.from;
      each = λ place number less at.
          elim (cases_eq number i) [
            | inl last ↦ absurd (none-some place (same_Some None (Some place) (sym stands ∙ subst (λ (k : ℕ). slice_get places k ≡ Some (Some place)) last at)))
            | inr other ↦ before.each place number (earlier number less other) at
          ];
    }
      where
        earlier : (number : ℕ) → number < i + 1 → (number ≡ i → ⊥) → number < i
        earlier number less other = elim (cases_lt number i) [ inl lt ↦ lt | inr le ↦ absurd (other (omega (arith, less, le))) ]

    one_more : (p : ℕ) → p < length numbers → slice_get places i ≡ Some (Some p) → AreTurnedRound places count (i + 1) (slice_set numbers p (Some (record { 0 = i })))
    one_more p within stands = record {
      long = length-set numbers p (Some here) ∙ before.long;
      from = λ place n at. from_cases place n (set_cases numbers p place (Some here) (Some n) at);
      each = λ place number less at. each_cases place number less at (cases_eq place p) (cases_eq number i);
    }
      where
        here : SiteNo
        here = record { 0 = i }

        from_cases : (place : ℕ) (n : SiteNo) → ((place ≡ p) × (Some n ≡ Some here)) ⊎ (slice_get numbers place ≡ Some (Some n)) → slice_get places n.0 ≡ Some (Some place)
        from_cases place n (inl both) =
            let own : n ≡ here = same_Some n here both.1 in
            ap (λ (m : SiteNo). slice_get places m.0) own ∙ (stands ∙ ap (λ (k : ℕ). Some (Some k)) (sym both.0))
        from_cases place n (inr old) = before.from place n old

        at_p : (place : ℕ) → place ≡ p → (n : SiteNo) × (slice_get (slice_set numbers p (Some here)) place ≡ Some (Some n))
        at_p place same = (here, ap (λ (k : ℕ). slice_get (slice_set numbers p (Some here)) k) same ∙ set_at numbers p (Some here) within)

        each_cases : (place number : ℕ) → number < i + 1 → slice_get places number ≡ Some (Some place) → (place ≡ p) ⊎ (place ≡ p → ⊥) → (number ≡ i) ⊎ (number ≡ i → ⊥)
            → (n : SiteNo) × (slice_get (slice_set numbers p (Some here)) place ≡ Some (Some n))
        each_cases place number less at (inl same) last = at_p place same
        each_cases place number less at (inr apart) (inl last) =
            let both : Some p ≡ Some place = same_Some (Some p) (Some place) (sym stands ∙ subst (λ (k : ℕ). slice_get places k ≡ Some (Some place)) last at) in
            absurd (apart (sym (same_Some p place both)))
        each_cases place number less at (inr apart) (inr other) =
            let earlier : number < i = (elim (cases_lt number i) [ inl lt ↦ lt | inr le ↦ absurd (other (omega (arith, less, le))) ]) in
            let (n, old) = before.each place number earlier at in
            (n, set_other numbers p place (Some here) apart ∙ old)

    pub turned_more : (place : Option ℕ) → AreBelow count (StandsInTable places) → slice_get places i ≡ Some place
        → AreTurnedRound places count (i + 1) (numbers_with numbers place (record { 0 = i }))
    turned_more None below stands = none_more stands
    turned_more (Some p) below stands = one_more p (let within = below.each i p stands in let long = before.long in omega (arith, within, long)) stands

-- ---- all numbers

-- a site stands below the count of sites
pub places_below : (g : Findings) (sites : List TrackedSite) (places : List (Option ℕ)) (count : ℕ) → count ≡ length sites
    → ArePlaces g.program g.sites sites places → AreBelow count (StandsInTable places)
places_below g sites places count is are = record {
  each = λ number place at.
      let (s, stands, (t, there, same)) = are.found number place at in
      let within = slice_get_within sites place t there in
      omega (arith, within, is);
}

-- what is written back through a vector that is as long
pub written_back : (new items all : List (Option SiteNo)) (count : ℕ) → all ≡ take count (new ++ drop (length new) items) → length new ≡ length items
    → length items ≡ count → all ≡ new
written_back new items all count is long whole =
    let within : count ≤ length new = omega (arith, long, whole) in
    is ∙ take-append-le count new (drop (length new) items) within ∙ take_all count new (omega (arith, long, whole))

module _ (g : Findings) (sites : List TrackedSite) (places : List (Option ℕ)) (numbers : List (Option SiteNo)) (are : ArePlaces g.program g.sites sites places)
    (turned : AreTurnedRound places (length sites) (length places) numbers) where
  number_is : (k : ℕ) (t : TrackedSite) (answer : Option SiteNo) → slice_get sites k ≡ Some t → slice_get numbers k ≡ Some answer → IsNumberOf g (site_in g.program t) answer
  number_is k t (Some n) at also =
      let (s, stands, (u, there, is)) = are.found n.0 k (turned.from k n also) in
      let same : u ≡ t = same_Some u t (sym there ∙ at) in
      stands ∙ ap (λ (r : Site). Some r) (sym is ∙ ap (λ (v : TrackedSite). site_in g.program v) same)
  number_is k t None at also = λ number stands.
      let placed = are.all number k (site_in g.program t) stands (t, at, refl) in
      let (n, there) = turned.each k number (slice_get_within places number (Some k) placed) placed in
      none-some n (same_Some None (Some n) (sym also ∙ there))

  pub numbers_are : AreNumbers g sites numbers
  numbers_are = record { count = sym turned.long; each = number_is }

-- a number is below the count of the ground's sites
module _ (g : Findings) (sites : List TrackedSite) (numbers : List (Option SiteNo)) (are : AreNumbers g sites numbers) where
  stands_there : (s : Site) (answer : Option SiteNo) → IsNumberOf g s answer → IfSome answer (λ (n : SiteNo). n.0 < length g.sites)
  stands_there s None is = tt
  stands_there s (Some n) is = slice_get_within g.sites n.0 s is

  pub number_at : (k : ℕ) (t : TrackedSite) → slice_get sites k ≡ Some t → IsNumberOf g (site_in g.program t) (get_or numbers k None)
  number_at k t at =
      let within = slice_get_within sites k t at in
      let long = are.count in
      are.each k t (get_or numbers k None) at (slice_get-get_or numbers k None (omega (arith, within, long)))

  pub number_below : (k : ℕ) → k < length sites → IfSome (get_or numbers k None) (λ (n : SiteNo). n.0 < length g.sites)
  number_below k within = let (t, at) = stands_below sites k within in stands_there (site_in g.program t) (get_or numbers k None) (number_at k t at)
