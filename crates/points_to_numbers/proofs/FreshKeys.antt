-- A key that is not kept yet: where what it stands for stands nowhere, and where there is no room for one more.
use Rattle.std.proofs.Common.{◌≡◌, ◌↔◌, ℕ, Bool, true, false, List, map, length, Some, Result, Ok, Err, refl, sym, ap, ◌∙◌, subst, arith}
use Rattle.std.specs.List.{list_any}
use Rattle.std.proofs.lemmas.Bool.{false≢true}
use Rattle.std.proofs.lemmas.List.{length-map}
use Rattle.failure.specs.declared.Failure.{Failure}
use Rattle.failure.specs.declared.Failure.TheVariants.{Cause, OutOfMemory}
use Rattle.program_index.specs.declared.index_failure.TooMany.{TooMany}
use Rattle.program_index.specs.FirstPlaces.{StandsNowhere}
use Rattle.program_index.specs.Limits.{AreTooMany, too_many}
use Rattle.jvm_model.specs.declared.site.Site.{Site}
use Rattle.points_to_rules.specs.Facts.{Holder}
use Rattle.points_to_constraints.specs.Items.{Constraint as ItemConstraint}
use Rattle.points_to_numbers.specs.declared.keys.SiteKey.{SiteKey}
use Rattle.points_to_rules.specs.declared.place.Place.{Place}
use Rattle.points_to_numbers.specs.declared.keys.Constraint.{Constraint}
use Rattle.points_to_numbers.specs.Numbered.{Numbered, IsSiteAt, IsHolderAt, IsConstraintAt, AreApart, AreSingle}
use Rattle.points_to_numbers.specs.Kept.{Kept, StandForEach, IsSound, numbered, site_from, catch_chain_from, constraint_from, sites_of, holders_of, catch_chains_of, calls_of}
use Rattle.points_to_rules.specs.Places.{holder_from}
use Rattle.points_to_numbers.proofs.AddedKeys.{found, stands_somewhere}
use Rattle.points_to_numbers.proofs.Apart.{one_key, one_place}
use Rattle.points_to_numbers.proofs.ExactKeys.{same_sites, same_constraints, site_itself, constraint_itself, exact_sites, exact_constraints}
use Rattle.points_to_rules.proofs.ExactPlaces.{same_places, place_itself, exact_places}
use Rattle.points_to_numbers.proofs.KeptKeys.{at_number, key_at}
use Rattle.points_to_numbers.proofs.KnownPlaces.{sites_are, holders_are}
use Rattle.points_to_numbers.proofs.OneConstraint.{one_constraint_key}
use Rattle.points_to_numbers.proofs.Standing.{site_stands, holder_stands, constraint_stands}

-- ---- keys and what they stand for

module _ {K X : Type 0} (eq : K → K → Bool) (exact : (a b : K) → eq a b ≡ true → a ≡ b) (same : (a : K) → eq a a ≡ true)
    (IsAt : K → X → Type 0) (from : K → X) (stands : (key : K) (x : X) → IsAt key x → from key ≡ x) where
  -- what a new key stands for stands nowhere, if it has one key
  new_nowhere : ((a b : K) (x : X) → IsAt a x → IsAt b x → a ≡ b) → (keys : List K) → StandForEach IsAt keys → (key : K) (x : X) → IsAt key x
      → list_any (eq key) keys ≡ false → StandsNowhere (map from keys) x
  new_nowhere one keys each key x is new = record {
    nowhere = λ place at.
        let (other, kept, other_is) = key_at IsAt from stands keys each place x at in
        false≢true (sym new ∙ found eq exact same keys key place (kept ∙ ap Some (one other key x other_is is)));
  }

  -- a key is new, if what it stands for stands nowhere
  nowhere_new : (keys : List K) (key : K) (x : X) → IsAt key x → StandsNowhere (map from keys) x → list_any (eq key) keys ≡ false
  nowhere_new keys key x is none = by (list_any (eq key) keys) refl
    where
      by : (b : Bool) → list_any (eq key) keys ≡ b → list_any (eq key) keys ≡ false
      by true there =
          let (place, at) = stands_somewhere eq exact same keys key there in
          absurd (none.nowhere place (at_number IsAt from stands keys place key x at is))
      by false new = new

-- so many keys and so many things
full_both : {K X : Type 0} {A B : Type 0} (keys : List K) (xs : List X) → length keys ≡ length xs → (A ↔ B) → (A × AreTooMany keys) ↔ (B × AreTooMany xs)
full_both keys xs long same = (
  (λ (a, many). (same.0 a, omega (arith, long, many))),
  (λ (b, many). (same.1 b, omega (arith, long, many))),
)

-- ---- the tables

module _ (k : Kept) (n : Numbered) (is : numbered k ≡ n) (sound : IsSound k) where
  -- how many there are
  pub catch_chains_are : length k.catch_chains ≡ length n.catch_chains
  unfolding numbered
  catch_chains_are = sym (length-map k.catch_chains (catch_chain_from (holders_of k))) ∙ ap (λ (o : Numbered). length o.catch_chains) is

  pub constraints_are : length k.constraints ≡ length n.constraints
  unfolding numbered
  constraints_are = sym (length-map k.constraints (constraint_from k.classes (holders_of k) (catch_chains_of k) (calls_of k))) ∙ ap (λ (o : Numbered). length o.constraints) is

  -- a name
  pub name_full : (name : List ℕ) → (StandsNowhere k.classes name × AreTooMany k.classes) ↔ (StandsNowhere n.classes name × AreTooMany n.classes)
  unfolding numbered
  name_full name =
      subst (λ (o : Numbered). (StandsNowhere k.classes name × AreTooMany k.classes) ↔ (StandsNowhere o.classes name × AreTooMany o.classes)) is
      (λ q. q, λ q. q)

  -- a site
  site_new : AreApart (numbered k) → (key : SiteKey) (s : Site) → IsSiteAt (numbered k) key s
      → (list_any (same_sites key) k.sites ≡ false) ↔ StandsNowhere (numbered k).sites s
  unfolding numbered
  site_new apart key s at = (
    new_nowhere same_sites exact_sites site_itself (IsSiteAt (numbered k)) (site_from k.classes) (site_stands (numbered k))
        (one_key (numbered k) apart.classes) k.sites sound.sites key s at,
    nowhere_new same_sites exact_sites site_itself (IsSiteAt (numbered k)) (site_from k.classes) (site_stands (numbered k)) k.sites key s at,
  )

  pub site_full : AreApart n → (key : SiteKey) (s : Site) → IsSiteAt n key s
      → ((list_any (same_sites key) k.sites ≡ false) × AreTooMany k.sites) ↔ (StandsNowhere n.sites s × AreTooMany n.sites)
  site_full apart key s at =
      full_both k.sites n.sites (sites_are k n is sound)
      (subst (λ (o : Numbered). AreApart o → IsSiteAt o key s → (list_any (same_sites key) k.sites ≡ false) ↔ StandsNowhere o.sites s) is
      (λ a there. site_new a key s there) apart at)

  -- a place
  place_new : AreApart (numbered k) → (place : Place) (h : Holder) → IsHolderAt (numbered k) place h
      → (list_any (same_places place) k.places ≡ false) ↔ StandsNowhere (numbered k).holders h
  unfolding numbered
  place_new apart place h at = (
    new_nowhere same_places exact_places place_itself (IsHolderAt (numbered k)) (holder_from (sites_of k)) (holder_stands (numbered k))
        (one_place (numbered k) apart.sites) k.places sound.places place h at,
    nowhere_new same_places exact_places place_itself (IsHolderAt (numbered k)) (holder_from (sites_of k)) (holder_stands (numbered k)) k.places place h at,
  )

  pub place_full : AreApart n → (place : Place) (h : Holder) → IsHolderAt n place h
      → ((list_any (same_places place) k.places ≡ false) × AreTooMany k.places) ↔ (StandsNowhere n.holders h × AreTooMany n.holders)
  place_full apart place h at =
      full_both k.places n.holders (holders_are k n is sound)
      (subst (λ (o : Numbered). AreApart o → IsHolderAt o place h → (list_any (same_places place) k.places ≡ false) ↔ StandsNowhere o.holders h) is
      (λ a there. place_new a place h there) apart at)

  -- a constraint
  constraint_new : (constraint : Constraint) (u : ItemConstraint) → IsConstraintAt (numbered k) constraint u → StandsNowhere (numbered k).constraints u → list_any (same_constraints constraint) k.constraints ≡ false
  unfolding numbered
  constraint_new constraint u at =
      nowhere_new same_constraints exact_constraints constraint_itself (IsConstraintAt (numbered k)) (constraint_from k.classes (holders_of k) (catch_chains_of k) (calls_of k))
      (constraint_stands (numbered k)) k.constraints constraint u at

  pub constraint_full : (constraint : Constraint) (u : ItemConstraint) → IsConstraintAt n constraint u → StandsNowhere n.constraints u × AreTooMany n.constraints
      → (list_any (same_constraints constraint) k.constraints ≡ false) × AreTooMany k.constraints
  constraint_full constraint u at (none, many) =
      let long = constraints_are in (
        subst (λ (o : Numbered). IsConstraintAt o constraint u → StandsNowhere o.constraints u → list_any (same_constraints constraint) k.constraints ≡ false) is (constraint_new constraint u) at none,
        omega (arith, long, many),
      )

  constraint_nowhere : AreApart (numbered k) → AreSingle (numbered k) → (constraint : Constraint) (u : ItemConstraint) → IsConstraintAt (numbered k) constraint u
      → list_any (same_constraints constraint) k.constraints ≡ false → StandsNowhere (numbered k).constraints u
  unfolding numbered
  constraint_nowhere apart single constraint u at =
      new_nowhere same_constraints exact_constraints constraint_itself (IsConstraintAt (numbered k)) (constraint_from k.classes (holders_of k) (catch_chains_of k) (calls_of k))
      (constraint_stands (numbered k))
      (one_constraint_key (numbered k) apart single) k.constraints sound.constraints constraint u at

  pub constraint_only_new : AreApart n → AreSingle n → (constraint : Constraint) (u : ItemConstraint) → IsConstraintAt n constraint u
      → list_any (same_constraints constraint) k.constraints ≡ false → StandsNowhere n.constraints u
  constraint_only_new apart single constraint u at new =
      subst (λ (o : Numbered). AreApart o → AreSingle o → IsConstraintAt o constraint u → StandsNowhere o.constraints u) is
      (λ a b there. constraint_nowhere a b constraint u there new) apart single at

-- ---- the failures of the calls of the tables

-- the failure of one call is that of the call above it
pub failed_as : {A B P Q : Type 0} (failure : Failure TooMany) → (◌≡◌ {A = Result A (Failure TooMany)} (Err failure) (Err (Cause too_many)) ↔ P) → (P ↔ Q)
    → ◌≡◌ {A = Result B (Failure TooMany)} (Err failure) (Err (Cause too_many)) ↔ Q
failed_as failure told same = (
  (λ e. let f : failure ≡ Cause too_many = cc e in same.0 (told.0 (ap (λ (g : Failure TooMany). Err g) f))),
  (λ q. let t = told.1 (same.1 q) in let f : failure ≡ Cause too_many = cc t in ap (λ (g : Failure TooMany). Err g) f),
)

-- an answer is no failure
pub answered_as : {A B P Q : Type 0} (a : A) (b : B) → (◌≡◌ {A = Result A (Failure TooMany)} (Ok a) (Err (Cause too_many)) ↔ P) → (P ↔ Q)
    → ◌≡◌ {A = Result B (Failure TooMany)} (Ok b) (Err (Cause too_many)) ↔ Q
answered_as a b told same = ((λ e. absurd (cc e)), (λ q. let t = told.1 (same.1 q) in absurd (cc t)))

-- the failure to number one more
pub no_number : {B Q : Type 0} (failure : Failure TooMany) → failure ≡ Cause too_many → Q
    → ◌≡◌ {A = Result B (Failure TooMany)} (Err failure) (Err (Cause too_many)) ↔ Q
no_number failure is q = ((λ e. q), (λ p. ap (λ (g : Failure TooMany). Err g) is))

-- out of memory, where one more has a number
pub no_memory : {B Q : Type 0} (failure : Failure TooMany) → failure ≡ OutOfMemory → (Q → ⊥)
    → ◌≡◌ {A = Result B (Failure TooMany)} (Err failure) (Err (Cause too_many)) ↔ Q
no_memory failure is room = ((λ e. let f : failure ≡ Cause too_many = cc e in absurd (cc (is, f))), (λ q. absurd (room q)))

-- an answer, where one more has a number
pub numbered_as : {B Q : Type 0} (b : B) → (Q → ⊥) → ◌≡◌ {A = Result B (Failure TooMany)} (Ok b) (Err (Cause too_many)) ↔ Q
numbered_as b room = ((λ e. absurd (cc e)), (λ q. absurd (room q)))

-- the same in one direction
pub failed_gives : {A B P Q : Type 0} (failure : Failure TooMany) → (◌≡◌ {A = Result A (Failure TooMany)} (Err failure) (Err (Cause too_many)) ↔ P) → (P → Q)
    → ◌≡◌ {A = Result B (Failure TooMany)} (Err failure) (Err (Cause too_many)) → Q
failed_gives failure told give e = (let f : failure ≡ Cause too_many = cc e in give (told.0 (ap (λ (g : Failure TooMany). Err g) f)))

pub failed_by : {A B P Q : Type 0} (failure : Failure TooMany) → (◌≡◌ {A = Result A (Failure TooMany)} (Err failure) (Err (Cause too_many)) ↔ P) → (Q → P)
    → Q → ◌≡◌ {A = Result B (Failure TooMany)} (Err failure) (Err (Cause too_many))
failed_by failure told give q = (let t = told.1 (give q) in let f : failure ≡ Cause too_many = cc t in ap (λ (g : Failure TooMany). Err g) f)

pub answered_by : {A B P Q : Type 0} (a : A) (b : B) → (◌≡◌ {A = Result A (Failure TooMany)} (Ok a) (Err (Cause too_many)) ↔ P) → (Q → P)
    → Q → ◌≡◌ {A = Result B (Failure TooMany)} (Ok b) (Err (Cause too_many))
answered_by a b told give q = (let t = told.1 (give q) in absurd (cc t))
