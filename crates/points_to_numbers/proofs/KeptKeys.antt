-- Between keys and what stands for them, in each of the tables.
use Rattle.std.proofs.Common.{◌≡◌, ℕ, ◌<◌, length, List, [], ◌∷◌, ◌++◌, map, Some, sym, ◌∙◌, ap, subst, inl, inr}
use Rattle.std.specs.List.{slice_get}
use Rattle.std.proofs.lemmas.Option.{same_Some, slice_get_within}
use Rattle.list_laws.proofs.Places.{at_map, map_at, push_cases}
use Rattle.least_sets.specs.Rules.{IsWithoutDoubles}
use Rattle.points_to_numbers.specs.Numbered.{Extends, Grows, IsNumbered, IsSiteAt, IsHolderAt, IsCatchChainAt, IsCallAt, IsConstraintAt}
use Rattle.points_to_numbers.specs.Kept.{Kept, StandForEach, AreFew, IsSound, numbered, site_from, catch_chain_from, call_from, constraint_from, sites_of, holders_of, catch_chains_of, calls_of}
use Rattle.points_to_rules.specs.Places.{holder_from}
use Rattle.points_to_numbers.proofs.Standing.{site_stands, holder_stands, catch_chain_stands, call_stands, constraint_stands}
use Rattle.points_to_numbers.proofs.Growing.{longer_site, longer_holder, longer_catch_chain, longer_call, longer_constraint, grown_site, grown_holder, grown_catch_chain, grown_call, grown_constraint}
use Rattle.points_to_numbers.proofs.AddedKeys.{IsAdded, extends_same, pushed_longer}

-- There are the old keys and more, and something stands for each.
pub record AreMore {K X : Type 0} (IsAt : K → X → Type 0) (old new : List K) : Type 0 where
  pub longer : Extends old new
  pub stand : StandForEach IsAt new

module _ {K X : Type 0} (IsAt : K → X → Type 0) where
  -- no key more
  pub no_more : (keys : List K) → StandForEach IsAt keys → AreMore IsAt keys keys
  no_more keys stand = record { longer = extends_same keys; stand = stand }

  -- a key more
  pub one_more : (old new : List K) (key : K) (number : ℕ) → IsAdded old new key number → StandForEach IsAt old → (x : X) × IsAt key x → AreMore IsAt old new
  one_more old new key number added stand (x, is) = record {
    longer = added.longer;
    stand = λ place k e. elim (added.others place k e) [
      | inl before ↦ stand place k before
      | inr last ↦ subst (λ (l : K). (y : X) × IsAt l y) (sym last) (x, is)
    ];
  }

  -- an entry more
  pub one_pushed : (keys : List K) (key : K) → StandForEach IsAt keys → (x : X) × IsAt key x → AreMore IsAt keys (keys ++ key ∷ [])
  one_pushed keys key stand (x, is) = record {
    longer = pushed_longer keys key;
    stand = λ place k e. elim (push_cases keys key place k e) [
      | inl before ↦ stand place k before
      | inr last ↦ subst (λ (l : K). (y : X) × IsAt l y) (sym last.1) (x, is)
    ];
  }

  -- something stands for each by another relation too
  stand_too : (Other : K → X → Type 0) → ((key : K) (x : X) → IsAt key x → Other key x) → (keys : List K) → StandForEach IsAt keys → StandForEach Other keys
  stand_too Other give keys stand number key e = let (x, is) = stand number key e in (x, give key x is)

module _ {K X : Type 0} (IsAt : K → X → Type 0) (from : K → X) (stands : (key : K) (x : X) → IsAt key x → from key ≡ x) where
  -- what stands for the key of a number stands at the number
  pub at_number : (keys : List K) (number : ℕ) (key : K) (x : X) → slice_get keys number ≡ Some key → IsAt key x → slice_get (map from keys) number ≡ Some x
  at_number keys number key x e is = at_map from keys number key e ∙ ap Some (stands key x is)

  -- what stands at a number stands for its key
  pub key_at : (keys : List K) → StandForEach IsAt keys → (number : ℕ) (x : X) → slice_get (map from keys) number ≡ Some x → (key : K) × (slice_get keys number ≡ Some key) × IsAt key x
  key_at keys stand number x e =
      let (key, there, is) = map_at from keys number x e in
      let (y, at) = stand number key there in
      (key, there, subst (IsAt key) (sym (stands key y at) ∙ is) at)

  -- the key of a number is one for which what stands at the number stands
  pub read_at : (keys : List K) → StandForEach IsAt keys → (number : ℕ) (key : K) → slice_get keys number ≡ Some key → (x : X) → slice_get (map from keys) number ≡ Some x → IsAt key x
  read_at keys stand number key at x e =
      let (k, there, is) = key_at keys stand number x e in
      subst (λ (l : K). IsAt l x) (same_Some k key (sym there ∙ at)) is

  -- something stands at the numbers of keys alone
  pub within_at : (keys : List K) (number : ℕ) → IsNumbered (map from keys) number → number < length keys
  within_at keys number (x, e) = let (key, there, is) = map_at from keys number x e in slice_get_within keys number key there

  -- where no key stands twice, and what stands for two keys differs, it does not stand twice
  pub apart_at : ((k l : K) (x : X) → IsAt k x → IsAt l x → k ≡ l) → (keys : List K) → StandForEach IsAt keys → IsWithoutDoubles keys → IsWithoutDoubles (map from keys)
  apart_at one keys stand apart x i j at_i at_j =
      let (k, k_at, k_is) = key_at keys stand i x at_i in
      let (l, l_at, l_is) = key_at keys stand j x at_j in
      apart k i j k_at (l_at ∙ ap Some (one l k x l_is k_is))

-- what stood for the old keys stands for them, by numbers that are looked up elsewhere
grown : {K X : Type 0} (IsAt : K → X → Type 0) (old new : K → X) → ((key : K) (x : X) → IsAt key x → old key ≡ x) → ((key : K) (x : X) → IsAt key x → new key ≡ x)
    → (keys more : List K) → AreMore IsAt keys more → Extends (map old keys) (map new more)
grown IsAt old new stood stands keys more are number x e =
    let (key, there, is) = map_at old keys number x e in
    let here = are.longer number key there in
    let (y, at) = are.stand number key here in
    at_map new more number key here ∙ ap Some (stands key y at ∙ sym (stood key y at) ∙ is)

-- ---- all tables

-- What is kept is more than before, and something stood before for each of it.
pub record IsMore (k m : Kept) : Type 0 where
  pub classes : Extends k.classes m.classes
  pub sites : AreMore (IsSiteAt (numbered k)) k.sites m.sites
  pub places : AreMore (IsHolderAt (numbered k)) k.places m.places
  pub catch_chains : AreMore (IsCatchChainAt (numbered k)) k.catch_chains m.catch_chains
  pub calls : AreMore (IsCallAt (numbered k)) k.calls m.calls
  pub constraints : AreMore (IsConstraintAt (numbered k)) k.constraints m.constraints

pub more_grows : (k m : Kept) → IsMore k m → Grows (numbered k) (numbered m)
unfolding numbered
more_grows k m more =
    let n = numbered k in let o = numbered m in
    let sites = grown (IsSiteAt n) (site_from k.classes) (site_from m.classes) (site_stands n)
    (λ key s is. site_stands o key s (longer_site n o more.classes key s is)) k.sites m.sites more.sites in
    let holders = grown (IsHolderAt n) (holder_from (sites_of k)) (holder_from (sites_of m)) (holder_stands n)
    (λ place h is. holder_stands o place h (longer_holder n o sites place h is)) k.places m.places more.places in
    let catch_chains = grown (IsCatchChainAt n) (catch_chain_from (holders_of k)) (catch_chain_from (holders_of m)) (catch_chain_stands n)
    (λ entry l is. catch_chain_stands o entry l (longer_catch_chain n o holders entry l is)) k.catch_chains m.catch_chains more.catch_chains in
    let calls = grown (IsCallAt n) (call_from (holders_of k) (catch_chains_of k)) (call_from (holders_of m) (catch_chains_of m)) (call_stands n)
    (λ entry c is. call_stands o entry c (longer_call n o holders catch_chains entry c is)) k.calls m.calls more.calls in
    let constraints = grown (IsConstraintAt n) (constraint_from k.classes (holders_of k) (catch_chains_of k) (calls_of k)) (constraint_from m.classes (holders_of m) (catch_chains_of m) (calls_of m)) (constraint_stands n)
    (λ constraint u is. constraint_stands o constraint u (longer_constraint n o more.classes holders catch_chains calls constraint u is)) k.constraints m.constraints more.constraints in
    record { classes = more.classes; sites = sites; holders = holders; catch_chains = catch_chains; calls = calls; constraints = constraints }

pub more_sound : (k m : Kept) → IsMore k m → IsWithoutDoubles m.sites → IsWithoutDoubles m.places → AreFew m → IsSound m
more_sound k m more sites places few =
    let n = numbered k in let o = numbered m in let grows = more_grows k m more in
    record {
      sites = stand_too (IsSiteAt n) (IsSiteAt o) (grown_site n o grows) m.sites more.sites.stand;
      places = stand_too (IsHolderAt n) (IsHolderAt o) (grown_holder n o grows) m.places more.places.stand;
      catch_chains = stand_too (IsCatchChainAt n) (IsCatchChainAt o) (grown_catch_chain n o grows) m.catch_chains more.catch_chains.stand;
      calls = stand_too (IsCallAt n) (IsCallAt o) (grown_call n o grows) m.calls more.calls.stand;
      constraints = stand_too (IsConstraintAt n) (IsConstraintAt o) (grown_constraint n o grows) m.constraints more.constraints.stand;
      sites_apart = sites;
      places_apart = places;
      few = few;
    }
