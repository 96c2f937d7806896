-- Public contracts rest on this module.
-- What the numbers of the solver stand for: its keys name things by their numbers, and stand for what the rules speak of.
use Rattle.std.specs.Prelude.{◌≡◌, ℕ, List, [], Option, Some, None, slice_get}
use Rattle.std.specs.List.{AllZip}
use Rattle.jvm_model.specs.declared.site.Site.{Site}
use Rattle.least_sets.specs.Rules.{IsWithoutDoubles}
use Rattle.points_to_rules.specs.Facts.{Holder}
use Rattle.points_to_rules.specs.Places.{IsHolderIn}
use Rattle.points_to_constraints.specs.Items.{CatchClause as ItemCatchClause, CatchChain as ItemCatchChain, CallSite as ItemCallSite, Constraint as ItemConstraint, copy_to, filter_to, load_field, store_field, load_elements, store_elements, throw_to, rethrow_to, dispatch}
use Rattle.points_to_numbers.specs.declared.entries.CatchClause.{CatchClause}
use Rattle.points_to_numbers.specs.declared.entries.CatchChain.{CatchChain}
use Rattle.points_to_numbers.specs.declared.entries.CallSite.{CallSite}
use Rattle.points_to_rules.specs.declared.place.PlaceNo.{PlaceNo}
use Rattle.points_to_numbers.specs.declared.keys.SiteKey.{SiteKey}
use Rattle.points_to_rules.specs.declared.place.Place.{Place}
use Rattle.points_to_numbers.specs.declared.keys.Constraint.{Constraint}
use Rattle.points_to_numbers.specs.declared.keys.Constraint.TheVariants as constraints

-- The lists by whose places things are numbered.
pub record Numbered : Type 0 where
  pub classes : List (List ℕ)
  pub sites : List Site
  pub holders : List Holder
  pub catch_chains : List ItemCatchChain
  pub calls : List ItemCallSite
  pub constraints : List ItemConstraint

-- What stands there stays there.
abbrev pub Extends : {X : Type 0} → List X → List X → Type 0
Extends {X} old new = (place : ℕ) (x : X) → slice_get old place ≡ Some x → slice_get new place ≡ Some x

pub record Grows (old new : Numbered) : Type 0 where
  pub classes : Extends old.classes new.classes
  pub sites : Extends old.sites new.sites
  pub holders : Extends old.holders new.holders
  pub catch_chains : Extends old.catch_chains new.catch_chains
  pub calls : Extends old.calls new.calls
  pub constraints : Extends old.constraints new.constraints

-- ---- what keys stand for

pub record IsSiteAt (n : Numbered) (key : SiteKey) (s : Site) : Type 0 where
  pub class : slice_get n.classes key.class.0 ≡ Some s.class
  pub kind : s.kind ≡ key.kind
  pub method : s.method ≡ key.method
  pub offset : s.offset ≡ key.offset

abbrev pub IsHolderAt : Numbered → Place → Holder → Type 0
IsHolderAt n place h = IsHolderIn n.sites place h

-- The thing is numbered: something stands for it.
abbrev pub IsNumbered : {X : Type 0} → List X → ℕ → Type 0
IsNumbered {X} list number = (x : X) × (slice_get list number ≡ Some x)

abbrev pub IsConstraintAt : Numbered → Constraint → ItemConstraint → Type 0
IsConstraintAt n (constraints.CopyTo to) u = (h : Holder) × (slice_get n.holders to.0 ≡ Some h) × (u ≡ copy_to h)
IsConstraintAt n (constraints.FilterTo class to) u = (name : List ℕ) × (h : Holder) × (slice_get n.classes class.0 ≡ Some name) × (slice_get n.holders to.0 ≡ Some h) × (u ≡ filter_to name h)
IsConstraintAt n (constraints.LoadField field to) u = (h : Holder) × (slice_get n.holders to.0 ≡ Some h) × (u ≡ load_field field h)
IsConstraintAt n (constraints.StoreField field from) u = (h : Holder) × (slice_get n.holders from.0 ≡ Some h) × (u ≡ store_field field h)
IsConstraintAt n (constraints.LoadElements to) u = (h : Holder) × (slice_get n.holders to.0 ≡ Some h) × (u ≡ load_elements h)
IsConstraintAt n (constraints.StoreElements from) u = (h : Holder) × (slice_get n.holders from.0 ≡ Some h) × (u ≡ store_elements h)
IsConstraintAt n (constraints.ThrowTo catch_chain) u = (l : ItemCatchChain) × (slice_get n.catch_chains catch_chain.0 ≡ Some l) × (u ≡ throw_to l)
IsConstraintAt n (constraints.RethrowTo catch_chain) u = (l : ItemCatchChain) × (slice_get n.catch_chains catch_chain.0 ≡ Some l) × (u ≡ rethrow_to l)
IsConstraintAt n (constraints.Dispatch call) u = (c : ItemCallSite) × (slice_get n.calls call.0 ≡ Some c) × (u ≡ dispatch c)

-- ---- what entries stand for

pub record IsCatchClauseAt (n : Numbered) (entry : CatchClause) (a : ItemCatchClause) : Type 0 where
  pub handler : a.handler ≡ entry.handler
  pub to : slice_get n.holders entry.to.0 ≡ Some a.to

pub record IsCatchChainAt (n : Numbered) (entry : CatchChain) (l : ItemCatchChain) : Type 0 where
  pub catch_clauses : AllZip (IsCatchClauseAt n) entry.catch_clauses l.catch_clauses
  pub outside : slice_get n.holders entry.outside.0 ≡ Some l.outside

abbrev pub IsUnitAt : Numbered → Option PlaceNo → Option Holder → Type 0
IsUnitAt n None None = Unit {0}
IsUnitAt n None (Some h) = ⊥
IsUnitAt n (Some place) None = ⊥
IsUnitAt n (Some place) (Some h) = slice_get n.holders place.0 ≡ Some h

pub record IsCallAt (n : Numbered) (entry : CallSite) (c : ItemCallSite) : Type 0 where
  pub at : c.at ≡ entry.at
  pub kind : c.kind ≡ entry.kind
  pub resolved : c.resolved ≡ entry.resolved
  pub arguments : AllZip (IsUnitAt n) entry.arguments c.arguments
  pub results : AllZip (λ (place : PlaceNo) (h : Holder). slice_get n.holders place.0 ≡ Some h) entry.results c.results
  pub catch_chain : slice_get n.catch_chains entry.catch_chain.0 ≡ Some c.catch_chain

-- ---- things that have one number each

pub record AreApart (n : Numbered) : Type 0 where
  pub classes : IsWithoutDoubles n.classes
  pub sites : IsWithoutDoubles n.sites
  pub holders : IsWithoutDoubles n.holders

-- No catch chain and no call has two numbers.
pub record AreSingle (n : Numbered) : Type 0 where
  pub catch_chains : IsWithoutDoubles n.catch_chains
  pub calls : IsWithoutDoubles n.calls

-- Nothing is numbered.
abbrev pub none_numbered : Numbered
none_numbered = record { classes = []; sites = []; holders = []; catch_chains = []; calls = []; constraints = [] }
