-- The places of numbered sites among those that are tracked.
use Rattle.std.proofs.Common.{◌≡◌, ◌↔◌, ℕ, ◌+◌, ◌<◌, List, [], ◌∷◌, ◌++◌, length, Option, Some, None, refl, sym, ◌∙◌, ap, subst, inl, inr, arith}
use Rattle.std.specs.List.{slice_get, Contains}
use Rattle.std.proofs.lemmas.Bool.{cases_lt}
use Rattle.std.proofs.lemmas.List.{length_push}
use Rattle.std.proofs.lemmas.Option.{none-some, same_Some, slice_get_within}
use Rattle.hierarchy.proofs.ClassPlaces.{class_there, name_at-at, same_place}
use Rattle.jvm_model.specs.declared.number.ClassNo.{ClassNo}
use Rattle.jvm_model.specs.declared.number.MethodNo.{MethodNo}
use Rattle.jvm_model.specs.declared.site.Site.{Site}
use Rattle.jvm_model.specs.declared.site.SiteKind.{SiteKind}
use Rattle.jvm_model.specs.LinkedPrograms.{IsProgram}
use Rattle.jvm_model.specs.Programs.{Program}
use Rattle.program_model.specs.Numbers.{name_at, IsClassNumber}
use Rattle.least_sets.proofs.Places.{contains_at, in_longer, pushed_at}
use Rattle.slot_names.proofs.ListPlaces.{stands_below}
use Rattle.site_report.specs.declared.tracked_site.TrackedSite.{TrackedSite}
use Rattle.site_report.specs.Sites.{site_in}
use Rattle.prune_stage.specs.Places.{ArePlaces, AreBelow, IsPlaceIn, IsTracking, StandsInTable}

-- ---- one site

-- classes of one name have one number
one_number : (p : Program) → IsProgram p → (i j : ℕ) → IsClassNumber p i → IsClassNumber p j → name_at p i ≡ name_at p j → i ≡ j
one_number p program i j within_i within_j same =
    let (c, at_c) = class_there p i within_i in
    let (d, at_d) = class_there p j within_j in
    same_place p program i j c d at_c at_d (sym (name_at-at p i c at_c) ∙ same ∙ name_at-at p j d at_d)

module _ (p : Program) (s : Site) where
  pub tracking_class : IsProgram p → (kind : SiteKind) (method : Option MethodNo) (offset : ℕ) (class : ClassNo) → s.kind ≡ kind → s.method ≡ method
      → s.offset ≡ offset → IsClassNumber p class.0
      → name_at p class.0 ≡ s.class → IsTracking p s (Some (record { method = method; offset = offset; class = class; kind = kind }))
  tracking_class program kind method offset class kinds methods offsets within named =
      let here : TrackedSite = record { method = method; offset = offset; class = class; kind = kind } in
      let back_kinds = sym kinds in
      let back_methods = sym methods in
      let back_offsets = sym offsets in
      let is : site_in p here ≡ s = (λ i. record { kind = back_kinds i; method = back_methods i; offset = back_offsets i; class = named i }) in
      record {
        known = λ t e. subst (λ (u : TrackedSite). IsClassNumber p u.class.0 × (site_in p u ≡ s)) (same_Some here t e) (within, is);
        only = λ t known same.
            let all : s ≡ site_in p t = sym same in
            let t_kinds : kind ≡ t.kind = back_kinds ∙ ap (λ (x : Site). x.kind) all in
            let t_methods : method ≡ t.method = back_methods ∙ ap (λ (x : Site). x.method) all in
            let t_offsets : offset ≡ t.offset = back_offsets ∙ ap (λ (x : Site). x.offset) all in
            let names : name_at p class.0 ≡ name_at p t.class.0 = named ∙ ap (λ (x : Site). x.class) all in
            let numbers = one_number p program class.0 t.class.0 within known names in
            (λ i. Some (record { method = t_methods i; offset = t_offsets i; class = record { 0 = numbers i }; kind = t_kinds i }));
      }

  pub tracking_none : ((n : ℕ) → IsClassNumber p n → name_at p n ≡ s.class → ⊥) → IsTracking p s None
  tracking_none none = record {
    known = λ t e. absurd (none-some t e);
    only = λ t known same. absurd (none t.class.0 known (ap (λ (x : Site). x.class) same));
  }

  -- ---- its place

  module _ (sites : List TrackedSite) (known : (t : TrackedSite) → Contains sites t → IsClassNumber p t.class.0) where
    pub placed : (t : TrackedSite) → IsTracking p s (Some t) → (answer : Option ℕ)
        → ((place : ℕ) → (answer ≡ Some place) ↔ (slice_get sites place ≡ Some t)) → IsPlaceIn p sites s answer
    placed t tracking answer is = record {
      each = λ place. (
        λ e. (t, (is place).0 e, (tracking.known t refl).1),
        λ (u, at, same).
            let both = tracking.only u (known u (contains_at sites place u at)) same in
            (is place).1 (at ∙ sym both),
      );
    }

    pub placed_nowhere : IsTracking p s None → IsPlaceIn p sites s None
    placed_nowhere tracking = record {
      each = λ place. (
        λ e. absurd (none-some place e),
        λ (u, at, same). absurd (none-some u (tracking.only u (known u (contains_at sites place u at)) same)),
      );
    }

-- ---- the places of all sites

-- At each number below the limit is the place of the site of that number.
pub record ArePlacesUpTo (p : Program) (numbered : List Site) (sites : List TrackedSite) (places : List (Option ℕ)) (limit : ℕ) : Type 0 where
  pub count : length places ≡ limit
  pub each : (number : ℕ) (s : Site) (answer : Option ℕ) → slice_get numbered number ≡ Some s → slice_get places number ≡ Some answer
      → IsPlaceIn p sites s answer

module _ (p : Program) (numbered : List Site) (sites : List TrackedSite) where
  pub places_start : ArePlacesUpTo p numbered sites [] 0
  places_start = record { count = refl; each = λ number s answer stands at. absurd (none-some answer at) }

  pub places_more : (places : List (Option ℕ)) (limit : ℕ) (answer : Option ℕ) → ArePlacesUpTo p numbered sites places limit
      → ((s : Site) → slice_get numbered limit ≡ Some s → IsPlaceIn p sites s answer) → ArePlacesUpTo p numbered sites (places ++ answer ∷ []) (limit + 1)
  places_more places limit answer before here =
      let long : length (places ++ answer ∷ []) ≡ length places + 1 = length_push places answer in
      record {
        count = long ∙ ap (λ (n : ℕ). n + 1) before.count;
        each = λ number s other stands at.
            let within = slice_get_within (places ++ answer ∷ []) number other at in
            elim (cases_lt number (length places)) [
              | inl less ↦ (
                  let (o, there) = stands_below places number less in
                  let same : o ≡ other = same_Some o other (sym (in_longer places (answer ∷ []) number o there) ∙ at) in
                  before.each number s other stands (there ∙ ap Some same))
              | inr not_less ↦ (
                  let last : number ≡ length places = omega (arith, within, long, not_less) in
                  let same : answer ≡ other = same_Some answer other
                  (sym (pushed_at places answer) ∙ ap (λ (k : ℕ). slice_get (places ++ answer ∷ []) k) (sym last) ∙ at) in
                  subst (λ (x : Option ℕ). IsPlaceIn p sites s x) same (here s (ap (λ (k : ℕ). slice_get numbered k) (sym (last ∙ before.count)) ∙ stands)))
            ];
      }

  pub places_all : (places : List (Option ℕ)) → ArePlacesUpTo p numbered sites places (length numbered) → ArePlaces p numbered sites places
  places_all places are = record {
    found = λ number place at.
        let within = slice_get_within places number (Some place) at in
        let below : number < length numbered = omega (arith, within, are.count) in
        let (s, stands) = stands_below numbered number below in
        (s, stands, ((are.each number s (Some place) stands at).each place).0 refl);
    all = λ number place s stands there.
        let within = slice_get_within numbered number s stands in
        let below : number < length places = omega (arith, within, are.count) in
        let (answer, at) = stands_below places number below in
        at ∙ ap (λ (o : Option ℕ). Some o) (((are.each number s answer stands at).each place).1 there);
  }

-- places of sites are below the count of sites
pub are_below : (p : Program) (numbered : List Site) (sites : List TrackedSite) (places : List (Option ℕ)) (count : ℕ) → length sites ≡ count
    → ArePlaces p numbered sites places → AreBelow count (StandsInTable places)
are_below p numbered sites places count long are = record {
  each = λ number place at.
      let (s, stands, (t, there, is)) = are.found number place at in
      let within = slice_get_within sites place t there in
      omega (arith, within, long);
}
