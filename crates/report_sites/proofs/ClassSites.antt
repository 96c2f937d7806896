-- The tracked site of a class: classes of one name have one number, so there is one at most.
use Rattle.std.proofs.Common.{◌≡◌, ℕ, List, Option, Some, None, sym, ◌∙◌, ap, subst}
use Rattle.std.proofs.lemmas.Option.{none-some, same_Some}
use Rattle.hierarchy.proofs.ClassPlaces.{class_there, name_at-at, same_place}
use Rattle.jvm_model.specs.declared.number.ClassNo.{ClassNo}
use Rattle.jvm_model.specs.declared.site.Site.{Site}
use Rattle.jvm_model.specs.LinkedPrograms.{IsProgram}
use Rattle.jvm_model.specs.Programs.{Program}
use Rattle.jvm_model.specs.Subtypes.{IsSubtype}
use Rattle.program_model.specs.Numbers.{name_at, IsClassNumber}
use Rattle.site_report.specs.declared.tracked_site.TrackedSite.{TrackedSite}
use Rattle.ground.specs.Added.{AreAdded}
use Rattle.report_sites.specs.Found.{IsOnlySite, IsTrackedAs}
use Rattle.ground.proofs.Adding.{added_as}

-- classes of one name have one number
one_number : (p : Program) → IsProgram p → (i j : ℕ) → IsClassNumber p i → IsClassNumber p j → name_at p i ≡ name_at p j → i ≡ j
one_number p program i j within_i within_j same =
    let (c, at_c) = class_there p i within_i in
    let (d, at_d) = class_there p j within_j in
    same_place p program i j c d at_c at_d (sym (name_at-at p i c at_c) ∙ same ∙ name_at-at p j d at_d)

module _ (p : Program) (program : IsProgram p) (upper : ClassNo) (s : Site) where
  -- The site, with a number for its class.
  abbrev with_class : ClassNo → TrackedSite
  with_class number = record { method = s.method; offset = s.offset; class = number; kind = s.kind }

  -- it is the one with the number of its class
  is_with : (number : ClassNo) → IsClassNumber p number.0 → name_at p number.0 ≡ s.class → (t : TrackedSite) → IsTrackedAs p upper s t → with_class number ≡ t
  is_with number within named t is =
      let kinds : t.kind ≡ s.kind = ap (λ (x : Site). x.kind) is.is in
      let methods : t.method ≡ s.method = ap (λ (x : Site). x.method) is.is in
      let offsets : t.offset ≡ s.offset = ap (λ (x : Site). x.offset) is.is in
      let names : name_at p t.class.0 ≡ s.class = ap (λ (x : Site). x.class) is.is in
      let numbers : number.0 ≡ t.class.0 = one_number p program number.0 t.class.0 within is.known (named ∙ sym names) in
      let back_kinds = sym kinds in
      let back_methods = sym methods in
      let back_offsets = sym offsets in
      (λ i. record { method = back_methods i; offset = back_offsets i; class = record { 0 = numbers i }; kind = back_kinds i })

  pub found_class : (number : ClassNo) → IsClassNumber p number.0 → name_at p number.0 ≡ s.class → IsSubtype p (name_at p upper.0) (name_at p number.0)
      → IsOnlySite p upper s (Some (record { method = s.method; offset = s.offset; class = number; kind = s.kind }))
  found_class number within named under =
      let here : IsTrackedAs p upper s (with_class number) = record {
        known = within;
        is = (λ i. record { kind = s.kind; method = s.method; offset = s.offset; class = named i });
        below = under;
      } in
      record {
        each = λ t. (
          λ e. subst (IsTrackedAs p upper s) (same_Some (with_class number) t e) here,
          λ is. ap Some (is_with number within named t is),
        );
      }

  pub class_apart : (number : ClassNo) → IsClassNumber p number.0 → name_at p number.0 ≡ s.class
      → (IsSubtype p (name_at p upper.0) (name_at p number.0) → ⊥) → IsOnlySite p upper s None
  class_apart number within named apart = record {
    each = λ t. (
      λ e. absurd (none-some t e),
      λ is. absurd (apart (subst (λ (x : TrackedSite). IsSubtype p (name_at p upper.0) (name_at p x.class.0))
          (sym (is_with number within named t is)) is.below)),
    );
  }

  pub no_class : ((n : ℕ) → IsClassNumber p n → name_at p n ≡ s.class → ⊥) → IsOnlySite p upper s None
  no_class none = record {
    each = λ t. (
      λ e. absurd (none-some t e),
      λ is. absurd (none t.class.0 is.known (ap (λ (x : Site). x.class) is.is)),
    );
  }

-- what is added for the only site
pub only_added : (p : Program) (upper : ClassNo) (s : Site) (answer : Option TrackedSite) (a b : List TrackedSite) → IsOnlySite p upper s answer
    → AreAdded (λ t. answer ≡ Some t) a b
    → AreAdded (IsTrackedAs p upper s) a b
only_added p upper s answer a b is added =
    added_as (λ t. answer ≡ Some t) (IsTrackedAs p upper s) a b (λ t e. (is.each t).0 e) (λ t tracked. (is.each t).1 tracked) added
