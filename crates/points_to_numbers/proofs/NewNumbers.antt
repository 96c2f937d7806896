-- What is taken into the tables of a value, by the clauses of the calls that keep it.
use Rattle.std.proofs.Common.{◌≡◌, ◌<◌, ◌^◌, ℕ, ◌+◌, true, List, [], ◌∷◌, ◌++◌, Some, length, sym, ap, ◌∙◌, subst}
use Rattle.std.specs.List.{slice_get}
use Rattle.std.proofs.lemmas.List.{length-map, length_push}
use Rattle.program_index.specs.TextNumbers.{Extends as TextsExtend}
use Rattle.program_index.proofs.TextPlaces.{stands_longer}
use Rattle.indexmap.specs.IndexSet.{insert_key}
use Rattle.points_to_rules.specs.Facts.{Holder}
use Rattle.points_to_constraints.specs.Items.{CatchChain as ItemCatchChain, CallSite as ItemCallSite, Constraint as ItemConstraint}
use Rattle.points_to_numbers.specs.declared.entries.CatchChain.{CatchChain}
use Rattle.points_to_numbers.specs.declared.entries.CallSite.{CallSite}
use Rattle.points_to_numbers.specs.declared.keys.SiteKey.{SiteKey}
use Rattle.points_to_rules.specs.declared.place.Place.{Place}
use Rattle.points_to_numbers.specs.declared.keys.Constraint.{Constraint}
use Rattle.points_to_numbers.specs.Numbered.{Numbered, Extends, Grows, IsNumbered, IsSiteAt, IsHolderAt, IsCatchChainAt, IsCallAt, IsConstraintAt}
use Rattle.points_to_numbers.specs.Kept.{Kept, IsSound, numbered, call_from, holders_of, catch_chains_of}
use Rattle.points_to_numbers.proofs.AddedKeys.{inserted}
use Rattle.points_to_numbers.proofs.ExactKeys.{same_sites, same_constraints, site_itself, constraint_itself, exact_sites, exact_constraints}
use Rattle.points_to_rules.proofs.ExactPlaces.{same_places, place_itself, exact_places}
use Rattle.points_to_numbers.proofs.KeptKeys.{more_grows}
use Rattle.points_to_numbers.proofs.Taking.{IsTaken, taken_at, has_site, classes_more, site_taken, holder_taken, catch_chain_taken, call_taken, constraint_taken}

-- names more: what stood there stands there
pub longer_texts : (old new : List (List ℕ)) → TextsExtend old new → Extends old new
longer_texts old new longer place text e = stands_longer old new longer place text e

module _ (k : Kept) (n : Numbered) (is : numbered k ≡ n) (sound : IsSound k) where
  pub names_grow : (classes : List (List ℕ)) → Extends k.classes classes → Grows n (numbered (record k { classes = classes }))
  names_grow classes longer = subst (λ (o : Numbered). Grows o (numbered (record k { classes = classes }))) is (more_grows k (record k { classes = classes }) (classes_more k sound classes longer))

  pub site_numbered : (sites : List SiteKey) (key : SiteKey) (number : ℕ) → sites ≡ insert_key same_sites k.sites key → length sites < 2 ^ 32
      → (x : SiteKey) × (slice_get sites number ≡ Some x) × (same_sites key x ≡ true) → IsNumbered n.classes key.class.0
      → IsTaken IsSiteAt (λ o. o.sites) n (record k { sites = sites }) key number
  site_numbered sites key number new room stored named =
      let added = inserted same_sites exact_sites site_itself k.sites sites key number new stored in
      taken_at IsSiteAt (λ o. o.sites) k (record k { sites = sites }) n key number is (site_taken k sound sites key number room added) (has_site n key named)

  pub place_numbered : (places : List Place) (place : Place) (number : ℕ) → places ≡ insert_key same_places k.places place → length places < 2 ^ 32
      → (x : Place) × (slice_get places number ≡ Some x) × (same_places place x ≡ true) → (h : Holder) × IsHolderAt n place h
      → IsTaken IsHolderAt (λ o. o.holders) n (record k { places = places }) place number
  place_numbered places place number new room stored stands =
      let added = inserted same_places exact_places place_itself k.places places place number new stored in
      taken_at IsHolderAt (λ o. o.holders) k (record k { places = places }) n place number is (holder_taken k sound places place number room added) stands

  pub constraint_numbered : (constraints : List Constraint) (constraint : Constraint) (number : ℕ) → constraints ≡ insert_key same_constraints k.constraints constraint → length constraints < 2 ^ 32
      → (x : Constraint) × (slice_get constraints number ≡ Some x) × (same_constraints constraint x ≡ true) → (u : ItemConstraint) × IsConstraintAt n constraint u
      → IsTaken IsConstraintAt (λ o. o.constraints) n (record k { constraints = constraints }) constraint number
  constraint_numbered constraints constraint number new room stored stands =
      let added = inserted same_constraints exact_constraints constraint_itself k.constraints constraints constraint number new stored in
      taken_at IsConstraintAt (λ o. o.constraints) k (record k { constraints = constraints }) n constraint number is (constraint_taken k sound constraints constraint number room added) stands

  pub catch_chain_numbered : (catch_chains : List CatchChain) (entry : CatchChain) (number : ℕ) → catch_chains ≡ k.catch_chains ++ entry ∷ [] → number ≡ length k.catch_chains → (l : ItemCatchChain) × IsCatchChainAt n entry l
      → IsTaken IsCatchChainAt (λ o. o.catch_chains) n (record k { catch_chains = catch_chains }) entry number
  catch_chain_numbered catch_chains entry number new last stands =
      let taken = taken_at IsCatchChainAt (λ o. o.catch_chains) k (record k { catch_chains = k.catch_chains ++ entry ∷ [] }) n entry (length k.catch_chains) is (catch_chain_taken k sound entry) stands in
      subst (λ (all : List CatchChain). IsTaken IsCatchChainAt (λ o. o.catch_chains) n (record k { catch_chains = all }) entry number) (sym new)
      (subst (λ (place : ℕ). IsTaken IsCatchChainAt (λ o. o.catch_chains) n (record k { catch_chains = k.catch_chains ++ entry ∷ [] }) entry place) (sym last) taken)

  pub call_numbered : (calls : List CallSite) (entry : CallSite) (number : ℕ) → calls ≡ k.calls ++ entry ∷ [] → number ≡ length k.calls → (c : ItemCallSite) × IsCallAt n entry c
      → IsTaken IsCallAt (λ o. o.calls) n (record k { calls = calls }) entry number
  call_numbered calls entry number new last stands =
      let taken = taken_at IsCallAt (λ o. o.calls) k (record k { calls = k.calls ++ entry ∷ [] }) n entry (length k.calls) is (call_taken k sound entry) stands in
      subst (λ (all : List CallSite). IsTaken IsCallAt (λ o. o.calls) n (record k { calls = all }) entry number) (sym new)
      (subst (λ (place : ℕ). IsTaken IsCallAt (λ o. o.calls) n (record k { calls = k.calls ++ entry ∷ [] }) entry place) (sym last) taken)

  -- ---- how many calls there are

  -- none more where the same calls are kept
  pub calls_stay : (m : Kept) → m.calls ≡ k.calls → length (numbered m).calls ≡ length n.calls
  unfolding numbered
  calls_stay m same =
      length-map m.calls (call_from (holders_of m) (catch_chains_of m)) ∙ ap length same ∙ sym (length-map k.calls (call_from (holders_of k) (catch_chains_of k)))
      ∙ ap (λ (o : Numbered). length o.calls) is

  -- as many as are kept
  pub calls_are : length k.calls ≡ length n.calls
  unfolding numbered
  calls_are = sym (length-map k.calls (call_from (holders_of k) (catch_chains_of k))) ∙ ap (λ (o : Numbered). length o.calls) is

  -- one more where one is pushed
  pub calls_pushed : (calls : List CallSite) (entry : CallSite) → calls ≡ k.calls ++ entry ∷ [] → length (numbered (record k { calls = calls })).calls ≡ length n.calls + 1
  unfolding numbered
  calls_pushed calls entry new =
      let m = record k { calls = calls } in
      length-map calls (call_from (holders_of m) (catch_chains_of m)) ∙ ap length new ∙ length_push k.calls entry ∙ ap (λ (count : ℕ). count + 1) calls_are
