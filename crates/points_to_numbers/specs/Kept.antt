-- Public contracts rest on this module.
-- What the tables keep, and what it stands for: each number in a key or an entry is looked up.
use Rattle.std.specs.Prelude.{◌≡◌, ◌<◌, ◌^◌, ℕ, List, [], length, map, Option, Some, None, slice_get, slice_index_or}
use Rattle.jvm_model.specs.declared.site.Site.{Site}
use Rattle.op_model.specs.declared.op.CallKind.TheVariants.{Static}
use Rattle.least_sets.specs.Rules.{IsWithoutDoubles}
use Rattle.points_to_rules.specs.Facts.{Holder, kept_objects}
use Rattle.points_to_rules.specs.Places.{holder_from}
use Rattle.points_to_constraints.specs.Items.{CatchClause as ItemCatchClause, CatchChain as ItemCatchChain, CallSite as ItemCallSite, Constraint as ItemConstraint, copy_to, filter_to, load_field, store_field, load_elements, store_elements, throw_to, rethrow_to, dispatch}
use Rattle.points_to_numbers.specs.declared.entries.CatchClause.{CatchClause}
use Rattle.points_to_numbers.specs.declared.entries.CatchChain.{CatchChain}
use Rattle.points_to_numbers.specs.declared.entries.CallSite.{CallSite}
use Rattle.points_to_rules.specs.declared.place.PlaceNo.{PlaceNo}
use Rattle.points_to_numbers.specs.declared.keys.SiteKey.{SiteKey}
use Rattle.points_to_rules.specs.declared.place.Place.{Place}
use Rattle.points_to_numbers.specs.declared.keys.Constraint.{Constraint}
use Rattle.points_to_numbers.specs.declared.keys.Constraint.TheVariants as constraints
use Rattle.points_to_numbers.specs.declared.tables.Tables.TheInside.{Inside}
use Rattle.points_to_numbers.specs.Numbered.{Numbered, IsSiteAt, IsHolderAt, IsConstraintAt, IsCatchChainAt, IsCallAt}

-- The names, keys and entries that the tables keep, in the order of their numbers.
pub record Kept : Type 0 where
  pub classes : List (List ℕ)
  pub sites : List SiteKey
  pub places : List Place
  pub catch_chains : List CatchChain
  pub calls : List CallSite
  pub constraints : List Constraint

abbrev pub kept : Inside → Kept
kept t = record { classes = t.classes; sites = t.sites.keys; places = t.places.keys; catch_chains = t.catch_chains.items; calls = t.calls.items; constraints = t.constraints.keys }

-- ---- what stands for a number, or any one thing where nothing does

abbrev pub any_catch_chain : ItemCatchChain
any_catch_chain = record { catch_clauses = []; outside = kept_objects }

abbrev pub any_call : ItemCallSite
any_call = record { at = record { method = None; offset = 0 }; kind = Static; resolved = record { 0 = 0 }; arguments = []; results = []; catch_chain = any_catch_chain }

abbrev pub holder_at : List Holder → PlaceNo → Holder
holder_at holders place = slice_index_or holders place.0 kept_objects

-- ---- what stands for a key or an entry

abbrev pub site_from : List (List ℕ) → SiteKey → Site
site_from classes key = record { kind = key.kind; method = key.method; offset = key.offset; class = slice_index_or classes key.class.0 [] }

abbrev pub catch_clause_from : List Holder → CatchClause → ItemCatchClause
catch_clause_from holders catch_clause = record { handler = catch_clause.handler; to = holder_at holders catch_clause.to }

abbrev pub catch_chain_from : List Holder → CatchChain → ItemCatchChain
catch_chain_from holders catch_chain = record { catch_clauses = map (catch_clause_from holders) catch_chain.catch_clauses; outside = holder_at holders catch_chain.outside }

abbrev pub unit_from : List Holder → Option PlaceNo → Option Holder
unit_from holders None = None
unit_from holders (Some place) = Some (holder_at holders place)

abbrev pub call_from : List Holder → List ItemCatchChain → CallSite → ItemCallSite
call_from holders catch_chains call = record {
  at = call.at;
  kind = call.kind;
  resolved = call.resolved;
  arguments = map (unit_from holders) call.arguments;
  results = map (holder_at holders) call.results;
  catch_chain = slice_index_or catch_chains call.catch_chain.0 any_catch_chain;
}

abbrev pub constraint_from : List (List ℕ) → List Holder → List ItemCatchChain → List ItemCallSite → Constraint → ItemConstraint
constraint_from classes holders catch_chains calls (constraints.CopyTo to) = copy_to (holder_at holders to)
constraint_from classes holders catch_chains calls (constraints.FilterTo class to) = filter_to (slice_index_or classes class.0 []) (holder_at holders to)
constraint_from classes holders catch_chains calls (constraints.LoadField field to) = load_field field (holder_at holders to)
constraint_from classes holders catch_chains calls (constraints.StoreField field from) = store_field field (holder_at holders from)
constraint_from classes holders catch_chains calls (constraints.LoadElements to) = load_elements (holder_at holders to)
constraint_from classes holders catch_chains calls (constraints.StoreElements from) = store_elements (holder_at holders from)
constraint_from classes holders catch_chains calls (constraints.ThrowTo catch_chain) = throw_to (slice_index_or catch_chains catch_chain.0 any_catch_chain)
constraint_from classes holders catch_chains calls (constraints.RethrowTo catch_chain) = rethrow_to (slice_index_or catch_chains catch_chain.0 any_catch_chain)
constraint_from classes holders catch_chains calls (constraints.Dispatch call) = dispatch (slice_index_or calls call.0 any_call)

-- ---- what stands for all of them

abbrev pub sites_of : Kept → List Site
sites_of k = map (site_from k.classes) k.sites

abbrev pub holders_of : Kept → List Holder
holders_of k = map (holder_from (sites_of k)) k.places

abbrev pub catch_chains_of : Kept → List ItemCatchChain
catch_chains_of k = map (catch_chain_from (holders_of k)) k.catch_chains

abbrev pub calls_of : Kept → List ItemCallSite
calls_of k = map (call_from (holders_of k) (catch_chains_of k)) k.calls

abbrev pub constraints_of : Kept → List ItemConstraint
constraints_of k = map (constraint_from k.classes (holders_of k) (catch_chains_of k) (calls_of k)) k.constraints

-- The lists of what is kept.
unfoldable pub numbered : Kept → Numbered
numbered k = record { classes = k.classes; sites = sites_of k; holders = holders_of k; catch_chains = catch_chains_of k; calls = calls_of k; constraints = constraints_of k }

-- ---- what is true of what is kept

-- Something stands for each of the keys.
abbrev pub StandForEach : {K X : Type 0} → (K → X → Type 0) → List K → Type 0
StandForEach {K} {X} IsAt keys = (number : ℕ) (key : K) → slice_get keys number ≡ Some key → (x : X) × IsAt key x

-- 32 bits number the sites, the places and the constraints.
pub record AreFew (k : Kept) : Type 0 where
  pub sites : length k.sites < 2 ^ 32
  pub places : length k.places < 2 ^ 32
  pub constraints : length k.constraints < 2 ^ 32

-- Something stands for each key and each entry, no site and no place is kept twice, and 32 bits number them.
pub record IsSound (k : Kept) : Type 0 where
  pub sites : StandForEach (IsSiteAt (numbered k)) k.sites
  pub places : StandForEach (IsHolderAt (numbered k)) k.places
  pub catch_chains : StandForEach (IsCatchChainAt (numbered k)) k.catch_chains
  pub calls : StandForEach (IsCallAt (numbered k)) k.calls
  pub constraints : StandForEach (IsConstraintAt (numbered k)) k.constraints
  pub sites_apart : IsWithoutDoubles k.sites
  pub places_apart : IsWithoutDoubles k.places
  pub few : AreFew k
