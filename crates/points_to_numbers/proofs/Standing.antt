-- What stands for a key or an entry is found by looking its numbers up, so there is one such thing.
use Rattle.std.proofs.Common.{◌≡◌, ℕ, List, [], ◌∷◌, map, Option, Some, None, refl, sym, ◌∙◌, ap}
use Rattle.std.specs.List.{slice_get, slice_index_or, AllZip}
use Rattle.std.proofs.lemmas.Option.{get_or_from_slice_get}
use Rattle.jvm_model.specs.declared.site.Site.{Site}
use Rattle.points_to_rules.specs.Facts.{Holder, kept_objects}
use Rattle.points_to_rules.specs.Places.{holder_from}
use Rattle.points_to_rules.proofs.PlaceHolders.{place_stands}
use Rattle.points_to_constraints.specs.Items.{CatchClause as ItemCatchClause, CatchChain as ItemCatchChain, CallSite as ItemCallSite, Constraint as ItemConstraint, copy_to, filter_to, load_field, store_field, load_elements, store_elements, throw_to, rethrow_to, dispatch}
use Rattle.points_to_numbers.specs.declared.entries.CatchClause.{CatchClause}
use Rattle.points_to_numbers.specs.declared.entries.CatchChain.{CatchChain}
use Rattle.points_to_numbers.specs.declared.entries.CallSite.{CallSite}
use Rattle.points_to_rules.specs.declared.place.PlaceNo.{PlaceNo}
use Rattle.points_to_numbers.specs.declared.keys.SiteKey.{SiteKey}
use Rattle.points_to_rules.specs.declared.place.Place.{Place}
use Rattle.points_to_numbers.specs.declared.keys.Constraint.{Constraint}
use Rattle.points_to_numbers.specs.declared.keys.Constraint.TheVariants as constraints
use Rattle.points_to_numbers.specs.Numbered.{Numbered, IsSiteAt, IsHolderAt, IsCatchClauseAt, IsCatchChainAt, IsUnitAt, IsCallAt, IsConstraintAt}
use Rattle.points_to_numbers.specs.Kept.{any_catch_chain, any_call, holder_at, site_from, catch_clause_from, catch_chain_from, unit_from, call_from, constraint_from}

-- things that stand for keys, one by one, are the things that each is turned into
zip_map : {K X : Type 0} (R : K → X → Type 0) (f : K → X) → ((key : K) (x : X) → R key x → f key ≡ x) → (keys : List K) (xs : List X) → AllZip R keys xs → map f keys ≡ xs
zip_map R f is [] [] h = refl
zip_map R f is [] (x ∷ xs) h = absurd h
zip_map R f is (key ∷ keys) [] h = absurd h
zip_map R f is (key ∷ keys) (x ∷ xs) h = (λ i. is key x h.0 i ∷ zip_map R f is keys xs h.1 i)

-- ---- what a key or an entry is turned into

module _ (n : Numbered) where
  pub site_stands : (key : SiteKey) (s : Site) → IsSiteAt n key s → site_from n.classes key ≡ s
  site_stands key s is =
      let class = get_or_from_slice_get n.classes key.class.0 s.class [] is.class in
      (λ i. record { kind = sym is.kind i; method = sym is.method i; offset = sym is.offset i; class = class i })

  holder_stands_at : (place : PlaceNo) (h : Holder) → slice_get n.holders place.0 ≡ Some h → holder_at n.holders place ≡ h
  holder_stands_at place h e = get_or_from_slice_get n.holders place.0 h kept_objects e

  catch_chain_at : (number : ℕ) (l : ItemCatchChain) → slice_get n.catch_chains number ≡ Some l → slice_index_or n.catch_chains number any_catch_chain ≡ l
  catch_chain_at number l e = get_or_from_slice_get n.catch_chains number l any_catch_chain e

  pub holder_stands : (place : Place) (h : Holder) → IsHolderAt n place h → holder_from n.sites place ≡ h
  holder_stands place h is = place_stands n.sites place h is

  catch_clause_stands : (entry : CatchClause) (a : ItemCatchClause) → IsCatchClauseAt n entry a → catch_clause_from n.holders entry ≡ a
  catch_clause_stands entry a is = let to = holder_stands_at entry.to a.to is.to in (λ i. record { handler = sym is.handler i; to = to i })

  pub catch_chain_stands : (entry : CatchChain) (l : ItemCatchChain) → IsCatchChainAt n entry l → catch_chain_from n.holders entry ≡ l
  catch_chain_stands entry l is =
      let catch_clauses = zip_map (IsCatchClauseAt n) (catch_clause_from n.holders) catch_clause_stands entry.catch_clauses l.catch_clauses is.catch_clauses in
      let outside = holder_stands_at entry.outside l.outside is.outside in
      (λ i. record { catch_clauses = catch_clauses i; outside = outside i })

  unit_stands : (entry : Option PlaceNo) (u : Option Holder) → IsUnitAt n entry u → unit_from n.holders entry ≡ u
  unit_stands None None is = refl
  unit_stands None (Some h) is = absurd is
  unit_stands (Some place) None is = absurd is
  unit_stands (Some place) (Some h) is = ap (λ (x : Holder). Some x) (holder_stands_at place h is)

  pub call_stands : (entry : CallSite) (c : ItemCallSite) → IsCallAt n entry c → call_from n.holders n.catch_chains entry ≡ c
  call_stands entry c is =
      let arguments = zip_map (IsUnitAt n) (unit_from n.holders) unit_stands entry.arguments c.arguments is.arguments in
      let results = zip_map (λ (place : PlaceNo) (h : Holder). slice_get n.holders place.0 ≡ Some h) (holder_at n.holders) holder_stands_at entry.results c.results is.results in
      let catch_chain = catch_chain_at entry.catch_chain.0 c.catch_chain is.catch_chain in
      (λ i. record { at = sym is.at i; kind = sym is.kind i; resolved = sym is.resolved i; arguments = arguments i; results = results i; catch_chain = catch_chain i })

  pub constraint_stands : (constraint : Constraint) (u : ItemConstraint) → IsConstraintAt n constraint u → constraint_from n.classes n.holders n.catch_chains n.calls constraint ≡ u
  constraint_stands (constraints.CopyTo to) u (h, at, is) = ap copy_to (holder_stands_at to h at) ∙ sym is
  constraint_stands (constraints.FilterTo class to) u (name, h, named, at, is) =
      let names = get_or_from_slice_get n.classes class.0 name [] named in
      let holders = holder_stands_at to h at in
      (λ i. filter_to (names i) (holders i)) ∙ sym is
  constraint_stands (constraints.LoadField field to) u (h, at, is) = ap (load_field field) (holder_stands_at to h at) ∙ sym is
  constraint_stands (constraints.StoreField field from) u (h, at, is) = ap (store_field field) (holder_stands_at from h at) ∙ sym is
  constraint_stands (constraints.LoadElements to) u (h, at, is) = ap load_elements (holder_stands_at to h at) ∙ sym is
  constraint_stands (constraints.StoreElements from) u (h, at, is) = ap store_elements (holder_stands_at from h at) ∙ sym is
  constraint_stands (constraints.ThrowTo catch_chain) u (l, at, is) = ap throw_to (catch_chain_at catch_chain.0 l at) ∙ sym is
  constraint_stands (constraints.RethrowTo catch_chain) u (l, at, is) = ap rethrow_to (catch_chain_at catch_chain.0 l at) ∙ sym is
  constraint_stands (constraints.Dispatch call) u (c, at, is) = ap dispatch (get_or_from_slice_get n.calls call.0 c any_call at) ∙ sym is

-- ---- one thing stands for each

module _ (n : Numbered) where
  pub one_site : (key : SiteKey) (s t : Site) → IsSiteAt n key s → IsSiteAt n key t → s ≡ t
  one_site key s t first second = sym (site_stands n key s first) ∙ site_stands n key t second

  pub one_holder : (place : Place) (h i : Holder) → IsHolderAt n place h → IsHolderAt n place i → h ≡ i
  one_holder place h i first second = sym (holder_stands n place h first) ∙ holder_stands n place i second

  pub one_catch_chain : (entry : CatchChain) (l k : ItemCatchChain) → IsCatchChainAt n entry l → IsCatchChainAt n entry k → l ≡ k
  one_catch_chain entry l k first second = sym (catch_chain_stands n entry l first) ∙ catch_chain_stands n entry k second

  pub one_call : (entry : CallSite) (c d : ItemCallSite) → IsCallAt n entry c → IsCallAt n entry d → c ≡ d
  one_call entry c d first second = sym (call_stands n entry c first) ∙ call_stands n entry d second

  pub one_constraint : (constraint : Constraint) (u v : ItemConstraint) → IsConstraintAt n constraint u → IsConstraintAt n constraint v → u ≡ v
  one_constraint constraint u v first second = sym (constraint_stands n constraint u first) ∙ constraint_stands n constraint v second
