-- What is taken into the tables: a name, a key or an entry more.
use Rattle.std.proofs.Common.{◌≡◌, ◌<◌, ◌^◌, ℕ, List, [], ◌∷◌, ◌++◌, Some, length, refl, subst}
use Rattle.std.specs.List.{slice_get}
use Rattle.list_laws.proofs.Places.{pushed_at}
use Rattle.jvm_model.specs.declared.site.Site.{Site}
use Rattle.points_to_rules.specs.Facts.{Holder}
use Rattle.points_to_constraints.specs.Items.{CatchChain as ItemCatchChain, CallSite as ItemCallSite, Constraint as ItemConstraint}
use Rattle.points_to_numbers.specs.declared.entries.CatchChain.{CatchChain}
use Rattle.points_to_numbers.specs.declared.entries.CallSite.{CallSite}
use Rattle.points_to_numbers.specs.declared.keys.SiteKey.{SiteKey}
use Rattle.points_to_rules.specs.declared.place.Place.{Place}
use Rattle.points_to_numbers.specs.declared.keys.Constraint.{Constraint}
use Rattle.points_to_numbers.specs.Numbered.{Numbered, Extends, Grows, IsNumbered, IsSiteAt, IsHolderAt, IsCatchChainAt, IsCallAt, IsConstraintAt}
use Rattle.points_to_numbers.specs.Kept.{Kept, AreFew, IsSound, numbered, site_from, catch_chain_from, call_from, constraint_from, sites_of, holders_of, catch_chains_of, calls_of}
use Rattle.points_to_rules.specs.Places.{holder_from}
use Rattle.points_to_numbers.proofs.Standing.{site_stands, holder_stands, catch_chain_stands, call_stands, constraint_stands}
use Rattle.points_to_numbers.proofs.Growing.{grown_site, grown_holder, grown_catch_chain, grown_call, grown_constraint}
use Rattle.points_to_numbers.proofs.AddedKeys.{IsAdded, extends_same}
use Rattle.points_to_numbers.proofs.KeptKeys.{IsMore, no_more, one_more, one_pushed, at_number, more_grows, more_sound}

-- The tables are sound and have grown, and what stood for the key stands at its number.
pub record IsTaken {K X : Type 0} (IsAt : Numbered → K → X → Type 0) (list : Numbered → List X) (n : Numbered) (m : Kept) (key : K) (number : ℕ) : Type 0 where
  pub sound : IsSound m
  pub grows : Grows n (numbered m)
  pub stands : (x : X) → IsAt n key x → slice_get (list (numbered m)) number ≡ Some x

-- the same from lists that are those of the tables
pub taken_at : {K X : Type 0} (IsAt : Numbered → K → X → Type 0) (list : Numbered → List X) (k m : Kept) (n : Numbered) (key : K) (number : ℕ) → numbered k ≡ n
    → ((x : X) × IsAt (numbered k) key x → IsTaken IsAt list (numbered k) m key number) → (x : X) × IsAt n key x → IsTaken IsAt list n m key number
taken_at {X} IsAt list k m n key number is take = subst (λ (o : Numbered). (x : X) × IsAt o key x → IsTaken IsAt list o m key number) is take

-- a site stands for a key whose class is numbered
pub has_site : (n : Numbered) (key : SiteKey) → IsNumbered n.classes key.class.0 → (s : Site) × IsSiteAt n key s
has_site n key (name, at) = (
  record { kind = key.kind; method = key.method; offset = key.offset; class = name },
  record { class = at; kind = refl; method = refl; offset = refl },
)

few_too : (m : Kept) → length m.sites < 2 ^ 32 → length m.places < 2 ^ 32 → length m.constraints < 2 ^ 32 → AreFew m
few_too m sites places constraints = record { sites = sites; places = places; constraints = constraints }

module _ (k : Kept) (sound : IsSound k) where
  -- nothing more is kept
  abbrev same : IsMore k k
  same = record {
    classes = extends_same k.classes;
    sites = no_more (IsSiteAt (numbered k)) k.sites sound.sites;
    places = no_more (IsHolderAt (numbered k)) k.places sound.places;
    catch_chains = no_more (IsCatchChainAt (numbered k)) k.catch_chains sound.catch_chains;
    calls = no_more (IsCallAt (numbered k)) k.calls sound.calls;
    constraints = no_more (IsConstraintAt (numbered k)) k.constraints sound.constraints;
  }

  -- names more
  pub classes_more : (classes : List (List ℕ)) → Extends k.classes classes → IsMore k (record k { classes = classes })
  classes_more classes longer = record {
    classes = longer;
    sites = same.sites;
    places = same.places;
    catch_chains = same.catch_chains;
    calls = same.calls;
    constraints = same.constraints;
  }

  pub classes_sound : (classes : List (List ℕ)) → Extends k.classes classes → IsSound (record k { classes = classes })
  classes_sound classes longer =
      more_sound k (record k { classes = classes }) (classes_more classes longer) sound.sites_apart sound.places_apart
      (few_too (record k { classes = classes }) sound.few.sites sound.few.places sound.few.constraints)

  -- a site more
  site_more : (sites : List SiteKey) (key : SiteKey) (number : ℕ) → IsAdded k.sites sites key number → (s : Site) × IsSiteAt (numbered k) key s → IsMore k (record k { sites = sites })
  site_more sites key number added stands = record {
    classes = same.classes;
    sites = one_more (IsSiteAt (numbered k)) k.sites sites key number added sound.sites stands;
    places = same.places;
    catch_chains = same.catch_chains;
    calls = same.calls;
    constraints = same.constraints;
  }

  pub site_taken : (sites : List SiteKey) (key : SiteKey) (number : ℕ) → length sites < 2 ^ 32 → IsAdded k.sites sites key number → (s : Site) × IsSiteAt (numbered k) key s
      → IsTaken IsSiteAt (λ n. n.sites) (numbered k) (record k { sites = sites }) key number
  unfolding numbered
  site_taken sites key number room added stands =
      let m = record k { sites = sites } in
      let more = site_more sites key number added stands in
      let grows = more_grows k m more in
      record {
        sound = more_sound k m more (added.apart sound.sites_apart) sound.places_apart (few_too m room sound.few.places sound.few.constraints);
        grows = grows;
        stands = λ s is. at_number (IsSiteAt (numbered m)) (site_from m.classes) (site_stands (numbered m)) m.sites number key s added.stands
            (grown_site (numbered k) (numbered m) grows key s is);
      }

  -- a place more
  holder_more : (places : List Place) (place : Place) (number : ℕ) → IsAdded k.places places place number → (h : Holder) × IsHolderAt (numbered k) place h → IsMore k (record k { places = places })
  holder_more places place number added stands = record {
    classes = same.classes;
    sites = same.sites;
    places = one_more (IsHolderAt (numbered k)) k.places places place number added sound.places stands;
    catch_chains = same.catch_chains;
    calls = same.calls;
    constraints = same.constraints;
  }

  pub holder_taken : (places : List Place) (place : Place) (number : ℕ) → length places < 2 ^ 32 → IsAdded k.places places place number → (h : Holder) × IsHolderAt (numbered k) place h
      → IsTaken IsHolderAt (λ n. n.holders) (numbered k) (record k { places = places }) place number
  unfolding numbered
  holder_taken places place number room added stands =
      let m = record k { places = places } in
      let more = holder_more places place number added stands in
      let grows = more_grows k m more in
      record {
        sound = more_sound k m more sound.sites_apart (added.apart sound.places_apart) (few_too m sound.few.sites room sound.few.constraints);
        grows = grows;
        stands = λ h is. at_number (IsHolderAt (numbered m)) (holder_from (sites_of m)) (holder_stands (numbered m)) m.places number place h added.stands
            (grown_holder (numbered k) (numbered m) grows place h is);
      }

  -- a catch chain more
  catch_chain_more : (entry : CatchChain) → (l : ItemCatchChain) × IsCatchChainAt (numbered k) entry l → IsMore k (record k { catch_chains = k.catch_chains ++ entry ∷ [] })
  catch_chain_more entry stands = record {
    classes = same.classes;
    sites = same.sites;
    places = same.places;
    catch_chains = one_pushed (IsCatchChainAt (numbered k)) k.catch_chains entry sound.catch_chains stands;
    calls = same.calls;
    constraints = same.constraints;
  }

  pub catch_chain_taken : (entry : CatchChain) → (l : ItemCatchChain) × IsCatchChainAt (numbered k) entry l
      → IsTaken IsCatchChainAt (λ n. n.catch_chains) (numbered k) (record k { catch_chains = k.catch_chains ++ entry ∷ [] }) entry (length k.catch_chains)
  unfolding numbered
  catch_chain_taken entry stands =
      let m = record k { catch_chains = k.catch_chains ++ entry ∷ [] } in
      let more = catch_chain_more entry stands in
      let grows = more_grows k m more in
      record {
        sound = more_sound k m more sound.sites_apart sound.places_apart (few_too m sound.few.sites sound.few.places sound.few.constraints);
        grows = grows;
        stands = λ l is. at_number (IsCatchChainAt (numbered m)) (catch_chain_from (holders_of m)) (catch_chain_stands (numbered m)) m.catch_chains (length k.catch_chains) entry l (pushed_at k.catch_chains entry)
            (grown_catch_chain (numbered k) (numbered m) grows entry l is);
      }

  -- a call more
  call_more : (entry : CallSite) → (c : ItemCallSite) × IsCallAt (numbered k) entry c → IsMore k (record k { calls = k.calls ++ entry ∷ [] })
  call_more entry stands = record {
    classes = same.classes;
    sites = same.sites;
    places = same.places;
    catch_chains = same.catch_chains;
    calls = one_pushed (IsCallAt (numbered k)) k.calls entry sound.calls stands;
    constraints = same.constraints;
  }

  pub call_taken : (entry : CallSite) → (c : ItemCallSite) × IsCallAt (numbered k) entry c
      → IsTaken IsCallAt (λ n. n.calls) (numbered k) (record k { calls = k.calls ++ entry ∷ [] }) entry (length k.calls)
  unfolding numbered
  call_taken entry stands =
      let m = record k { calls = k.calls ++ entry ∷ [] } in
      let more = call_more entry stands in
      let grows = more_grows k m more in
      record {
        sound = more_sound k m more sound.sites_apart sound.places_apart (few_too m sound.few.sites sound.few.places sound.few.constraints);
        grows = grows;
        stands = λ c is. at_number (IsCallAt (numbered m)) (call_from (holders_of m) (catch_chains_of m)) (call_stands (numbered m)) m.calls (length k.calls) entry c (pushed_at k.calls entry)
            (grown_call (numbered k) (numbered m) grows entry c is);
      }

  -- a constraint more
  constraint_more : (constraints : List Constraint) (constraint : Constraint) (number : ℕ) → IsAdded k.constraints constraints constraint number → (u : ItemConstraint) × IsConstraintAt (numbered k) constraint u → IsMore k (record k { constraints = constraints })
  constraint_more constraints constraint number added stands = record {
    classes = same.classes;
    sites = same.sites;
    places = same.places;
    catch_chains = same.catch_chains;
    calls = same.calls;
    constraints = one_more (IsConstraintAt (numbered k)) k.constraints constraints constraint number added sound.constraints stands;
  }

  pub constraint_taken : (constraints : List Constraint) (constraint : Constraint) (number : ℕ) → length constraints < 2 ^ 32 → IsAdded k.constraints constraints constraint number → (u : ItemConstraint) × IsConstraintAt (numbered k) constraint u
      → IsTaken IsConstraintAt (λ n. n.constraints) (numbered k) (record k { constraints = constraints }) constraint number
  unfolding numbered
  constraint_taken constraints constraint number room added stands =
      let m = record k { constraints = constraints } in
      let more = constraint_more constraints constraint number added stands in
      let grows = more_grows k m more in
      record {
        sound = more_sound k m more sound.sites_apart sound.places_apart (few_too m sound.few.sites sound.few.places room);
        grows = grows;
        stands = λ u is. at_number (IsConstraintAt (numbered m)) (constraint_from m.classes (holders_of m) (catch_chains_of m) (calls_of m)) (constraint_stands (numbered m)) m.constraints number constraint u added.stands
            (grown_constraint (numbered k) (numbered m) grows constraint u is);
      }
