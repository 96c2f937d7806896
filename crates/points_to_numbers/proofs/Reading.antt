-- What a number is read as: the key or the entry that stands there.
use Rattle.std.proofs.Common.{◌≡◌, ℕ, ◌<◌, Option, Some, None, length, refl, ap, subst, Bor}
use Rattle.std.specs.List.{slice_get}
use Rattle.std.specs.Option.{option_copied, IsSome}
use Rattle.std.proofs.lemmas.Option.{none-some}
use Rattle.jvm_model.specs.declared.site.Site.{Site}
use Rattle.points_to_rules.specs.Facts.{Holder}
use Rattle.points_to_constraints.specs.Items.{CatchChain as ItemCatchChain, CallSite as ItemCallSite, Constraint as ItemConstraint}
use Rattle.points_to_numbers.specs.declared.entries.CatchChain.{CatchChain}
use Rattle.points_to_numbers.specs.declared.entries.CallSite.{CallSite}
use Rattle.points_to_numbers.specs.declared.keys.SiteKey.{SiteKey}
use Rattle.points_to_rules.specs.declared.place.Place.{Place}
use Rattle.points_to_numbers.specs.declared.keys.Constraint.{Constraint}
use Rattle.points_to_numbers.specs.Numbered.{Numbered, IsNumbered, IsSiteAt, IsHolderAt, IsCatchChainAt, IsCallAt, IsConstraintAt}
use Rattle.points_to_numbers.specs.Kept.{Kept, IsSound, numbered, site_from, catch_chain_from, call_from, constraint_from, sites_of, holders_of, catch_chains_of, calls_of}
use Rattle.points_to_rules.specs.Places.{holder_from}
use Rattle.points_to_numbers.proofs.Standing.{site_stands, holder_stands, catch_chain_stands, call_stands, constraint_stands}
use Rattle.points_to_numbers.proofs.KeptKeys.{read_at, within_at}

module _ (k : Kept) (sound : IsSound k) where
  site_read : (number : ℕ) (key : SiteKey) → slice_get k.sites number ≡ Some key → (s : Site) → slice_get (numbered k).sites number ≡ Some s → IsSiteAt (numbered k) key s
  unfolding numbered
  site_read = read_at (IsSiteAt (numbered k)) (site_from k.classes) (site_stands (numbered k)) k.sites sound.sites

  site_within : (number : ℕ) → IsNumbered (numbered k).sites number → number < length k.sites
  unfolding numbered
  site_within = within_at (IsSiteAt (numbered k)) (site_from k.classes) (site_stands (numbered k)) k.sites

  holder_read : (number : ℕ) (place : Place) → slice_get k.places number ≡ Some place → (h : Holder) → slice_get (numbered k).holders number ≡ Some h → IsHolderAt (numbered k) place h
  unfolding numbered
  holder_read = read_at (IsHolderAt (numbered k)) (holder_from (sites_of k)) (holder_stands (numbered k)) k.places sound.places

  holder_within : (number : ℕ) → IsNumbered (numbered k).holders number → number < length k.places
  unfolding numbered
  holder_within = within_at (IsHolderAt (numbered k)) (holder_from (sites_of k)) (holder_stands (numbered k)) k.places

  catch_chain_read : (number : ℕ) (entry : CatchChain) → slice_get k.catch_chains number ≡ Some entry → (l : ItemCatchChain) → slice_get (numbered k).catch_chains number ≡ Some l → IsCatchChainAt (numbered k) entry l
  unfolding numbered
  catch_chain_read = read_at (IsCatchChainAt (numbered k)) (catch_chain_from (holders_of k)) (catch_chain_stands (numbered k)) k.catch_chains sound.catch_chains

  catch_chain_within : (number : ℕ) → IsNumbered (numbered k).catch_chains number → number < length k.catch_chains
  unfolding numbered
  catch_chain_within = within_at (IsCatchChainAt (numbered k)) (catch_chain_from (holders_of k)) (catch_chain_stands (numbered k)) k.catch_chains

  call_read : (number : ℕ) (entry : CallSite) → slice_get k.calls number ≡ Some entry → (c : ItemCallSite) → slice_get (numbered k).calls number ≡ Some c → IsCallAt (numbered k) entry c
  unfolding numbered
  call_read = read_at (IsCallAt (numbered k)) (call_from (holders_of k) (catch_chains_of k)) (call_stands (numbered k)) k.calls sound.calls

  call_within : (number : ℕ) → IsNumbered (numbered k).calls number → number < length k.calls
  unfolding numbered
  call_within = within_at (IsCallAt (numbered k)) (call_from (holders_of k) (catch_chains_of k)) (call_stands (numbered k)) k.calls

  constraint_read : (number : ℕ) (constraint : Constraint) → slice_get k.constraints number ≡ Some constraint → (u : ItemConstraint) → slice_get (numbered k).constraints number ≡ Some u → IsConstraintAt (numbered k) constraint u
  unfolding numbered
  constraint_read = read_at (IsConstraintAt (numbered k)) (constraint_from k.classes (holders_of k) (catch_chains_of k) (calls_of k)) (constraint_stands (numbered k)) k.constraints sound.constraints

  constraint_within : (number : ℕ) → IsNumbered (numbered k).constraints number → number < length k.constraints
  unfolding numbered
  constraint_within = within_at (IsConstraintAt (numbered k)) (constraint_from k.classes (holders_of k) (catch_chains_of k) (calls_of k)) (constraint_stands (numbered k)) k.constraints

-- ---- by lists that are those of the tables

module _ (k : Kept) (n : Numbered) (is : numbered k ≡ n) (sound : IsSound k) where
  pub site_at : (number : ℕ) (key : SiteKey) → slice_get k.sites number ≡ Some key → (s : Site) → slice_get n.sites number ≡ Some s → IsSiteAt n key s
  site_at number key at = subst (λ (o : Numbered). (s : Site) → slice_get o.sites number ≡ Some s → IsSiteAt o key s) is (site_read k sound number key at)

  pub has_site : (number : ℕ) → IsNumbered n.sites number → number < length k.sites
  has_site = subst (λ (o : Numbered). (number : ℕ) → IsNumbered o.sites number → number < length k.sites) is (site_within k sound)

  pub holder_at : (number : ℕ) (place : Place) → slice_get k.places number ≡ Some place → (h : Holder) → slice_get n.holders number ≡ Some h → IsHolderAt n place h
  holder_at number place at = subst (λ (o : Numbered). (h : Holder) → slice_get o.holders number ≡ Some h → IsHolderAt o place h) is (holder_read k sound number place at)

  pub has_holder : (number : ℕ) → IsNumbered n.holders number → number < length k.places
  has_holder = subst (λ (o : Numbered). (number : ℕ) → IsNumbered o.holders number → number < length k.places) is (holder_within k sound)

  pub catch_chain_at : (number : ℕ) (entry : CatchChain) → slice_get k.catch_chains number ≡ Some entry → (l : ItemCatchChain) → slice_get n.catch_chains number ≡ Some l → IsCatchChainAt n entry l
  catch_chain_at number entry at = subst (λ (o : Numbered). (l : ItemCatchChain) → slice_get o.catch_chains number ≡ Some l → IsCatchChainAt o entry l) is (catch_chain_read k sound number entry at)

  pub has_catch_chain : (number : ℕ) → IsNumbered n.catch_chains number → number < length k.catch_chains
  has_catch_chain = subst (λ (o : Numbered). (number : ℕ) → IsNumbered o.catch_chains number → number < length k.catch_chains) is (catch_chain_within k sound)

  pub call_at : (number : ℕ) (entry : CallSite) → slice_get k.calls number ≡ Some entry → (c : ItemCallSite) → slice_get n.calls number ≡ Some c → IsCallAt n entry c
  call_at number entry at = subst (λ (o : Numbered). (c : ItemCallSite) → slice_get o.calls number ≡ Some c → IsCallAt o entry c) is (call_read k sound number entry at)

  pub has_call : (number : ℕ) → IsNumbered n.calls number → number < length k.calls
  has_call = subst (λ (o : Numbered). (number : ℕ) → IsNumbered o.calls number → number < length k.calls) is (call_within k sound)

  pub constraint_at : (number : ℕ) (constraint : Constraint) → slice_get k.constraints number ≡ Some constraint → (u : ItemConstraint) → slice_get n.constraints number ≡ Some u → IsConstraintAt n constraint u
  constraint_at number constraint at = subst (λ (o : Numbered). (u : ItemConstraint) → slice_get o.constraints number ≡ Some u → IsConstraintAt o constraint u) is (constraint_read k sound number constraint at)

  pub has_constraint : (number : ℕ) → IsNumbered n.constraints number → number < length k.constraints
  has_constraint = subst (λ (o : Numbered). (number : ℕ) → IsNumbered o.constraints number → number < length k.constraints) is (constraint_within k sound)

-- ---- names

pub names_are : (k : Kept) (n : Numbered) → numbered k ≡ n → (number : ℕ) → slice_get k.classes number ≡ slice_get n.classes number
unfolding numbered
names_are k n is number = ap (λ (o : Numbered). slice_get o.classes number) is

pub copied_some : {X : Type 0} (r : Option (Bor X)) (x : X) → option_copied r ≡ Some x → IsSome r
copied_some None x e = absurd (none-some x e)
copied_some (Some b) x e = refl
