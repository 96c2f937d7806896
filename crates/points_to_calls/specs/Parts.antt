-- This crate's own proofs alone rest on this module.
-- The parts of what a call leads to, and what one step adds to the tables and to the items.
use Rattle.std.specs.Prelude.{◌≡◌, ℕ, zero, suc, List, [], ◌∷◌, ◌⊎◌, Option, Some, None, slice_get, Contains, IsTrue}
use Rattle.jvm_model.specs.declared.number.MethodNo.{MethodNo}
use Rattle.jvm_model.specs.declared.site.Site.{Site}
use Rattle.jvm_model.specs.declared.site.SiteKind.TheVariants as kinds
use Rattle.jvm_model.specs.declared.stub.StubArgument.{StubArgument}
use Rattle.jvm_model.specs.declared.stub.StubMethod.{StubMethod}
use Rattle.jvm_model.specs.declared.stub.StubResult.{StubResult}
use Rattle.jvm_model.specs.declared.stub.StubResult.TheVariants.{Primitive, Void, Null, Given, New, Kept}
use Rattle.jvm_model.specs.Programs.{Program}
use Rattle.jvm_model.specs.Stubs.{result_class}
use Rattle.machine_nodes.specs.NodeSteps.{Takes}
use Rattle.slot_names.specs.declared.variable.Variable.TheVariants.{Parameter}
use Rattle.points_to_rules.specs.Calls.{IsUnitOf}
use Rattle.points_to_rules.specs.Facts.{Holder, variable, kept_objects, returned_by, thrown_by, may_hold}
use Rattle.points_to_constraints.specs.CallItems.{LandsIn, call_allocates, is_passed, GivesUnit}
use Rattle.points_to_constraints.specs.Items.{CatchChain, CallSite, Constraint, copy_to, filter_to, rethrow_to, Item as RuleItem, known, constrained}
use Rattle.points_to_numbers.specs.declared.entries.CatchClause.{CatchClause}
use Rattle.points_to_rules.specs.declared.place.PlaceNo.{PlaceNo}
use Rattle.points_to_numbers.specs.Numbered.{Numbered}
use Rattle.points_to_calls.specs.declared.origin.Origin.{Origin}
use Rattle.points_to_calls.specs.declared.origin.Origin.TheVariants as origins

-- ---- catch chains

-- Where an exception of a class goes, by the entry of a catch chain: to the place of the first catch clause that takes it, or else outside.
abbrev pub GoesTo : Program → List ℕ → List CatchClause → (outside to : PlaceNo) → Type 0
GoesTo p class [] outside to = to ≡ outside
GoesTo p class (a ∷ catch_clauses) outside to = (Takes p a.handler class × (to ≡ a.to)) ⊎ ((Takes p a.handler class → ⊥) × GoesTo p class catch_clauses outside to)

-- What the place stands for is where an exception of a class goes.
pub record IsCatchChainPlace (p : Program) (n : Numbered) (class : List ℕ) (catch_chain : CatchChain) (place : PlaceNo) : Type 0 where
  pub to : Holder
  pub held : slice_get n.holders place.0 ≡ Some to
  pub lands : LandsIn p class catch_chain.catch_clauses catch_chain.outside to

-- ---- units and results

-- What stands for a unit of the arguments, if it is a reference.
abbrev pub unit_in : {X : Type 0} → List (Option X) → ℕ → Option X
unit_in [] unit = None
unit_in (u ∷ units) zero = u
unit_in (u ∷ units) (suc unit) = unit_in units unit

-- The parameter of the target holds what the unit of the arguments holds.
pub record PassesUnit (site : CallSite) (target : MethodNo) (unit : ℕ) (x : RuleItem) : Type 0 where
  pub from : Holder
  pub stands : slice_get site.arguments unit ≡ Some (Some from)
  pub passed : IsTrue (is_passed site.kind unit)
  pub is : x ≡ constrained from (copy_to (variable (Parameter target unit)))

-- ---- origins

-- What a holder gets by a call: the objects of a unit of the arguments; those of a site; those that the library keeps and that fit a class; or
-- those that a method returns.
pub data RuleOrigin : Type 0 where
  unit : ℕ → RuleOrigin
  made : Site → RuleOrigin
  fitting : (class : List ℕ) → RuleOrigin
  returned : MethodNo → RuleOrigin

-- What an origin stands for.
abbrev pub IsOriginAt : Numbered → Origin → RuleOrigin → Type 0
IsOriginAt n (origins.Unit u) g = g ≡ unit u
IsOriginAt n (origins.Made site) g = (s : Site) × (slice_get n.sites site.0 ≡ Some s) × (g ≡ made s)
IsOriginAt n (origins.Fitting class) g = (name : List ℕ) × (slice_get n.classes class.0 ≡ Some name) × (g ≡ fitting name)
IsOriginAt n (origins.Returned method) g = g ≡ returned method

-- The constraint of a unit of the arguments that goes to a holder.
pub record GetsUnit (p : Program) (site : CallSite) (u : ℕ) (to : Holder) (x : RuleItem) : Type 0 where
  pub from : Holder
  pub constraint : Constraint
  pub stands : slice_get site.arguments u ≡ Some (Some from)
  pub gives : GivesUnit site.kind p site.resolved u to constraint
  pub is : x ≡ constrained from constraint

-- The holder gets the origin.
abbrev pub Gets : Program → CallSite → RuleOrigin → (to : Holder) → RuleItem → Type 0
Gets p site (unit u) to x = GetsUnit p site u to x
Gets p site (made s) to x = x ≡ known (may_hold to s)
Gets p site (fitting class) to x = x ≡ constrained kept_objects (filter_to class to)
Gets p site (returned method) to x = x ≡ constrained (returned_by method) (copy_to to)

-- The result of the call at a place gets the origin.
pub record GetsAt (p : Program) (site : CallSite) (g : RuleOrigin) (place : ℕ) (x : RuleItem) : Type 0 where
  pub to : Holder
  pub stands : slice_get site.results place ≡ Some to
  pub gets : Gets p site g to x

-- Each holder of the result gets it.
abbrev pub ResultsGet : Program → CallSite → RuleOrigin → RuleItem → Type 0
ResultsGet p site g x = (to : Holder) × Contains site.results to × Gets p site g to x

-- ---- described methods

-- What an argument that a stub names gives: its unit of the arguments; or, of an object that selects the target, the object, where the argument
-- is the first unit.
abbrev pub ArgumentGives : StubMethod → Option Site → StubArgument → RuleOrigin → Type 0
ArgumentGives stub None argument g = (u : ℕ) × IsUnitOf stub argument u × (g ≡ unit u)
ArgumentGives stub (Some s) argument g = IsUnitOf stub argument 0 × (g ≡ made s)

-- What the library keeps of an argument.
abbrev pub ArgumentKept : Program → CallSite → StubMethod → Option Site → StubArgument → RuleItem → Type 0
ArgumentKept p site stub receiver argument x = (g : RuleOrigin) × ArgumentGives stub receiver argument g × Gets p site g kept_objects x

-- What a listed result gives. A new object, and one that was kept, are given by the call, whatever object selects its target.
abbrev pub ResultGives : StubResult → StubMethod → CallSite → Option Site → RuleOrigin → Type 0
ResultGives Primitive stub site receiver g = ⊥
ResultGives Void stub site receiver g = ⊥
ResultGives Null stub site receiver g = ⊥
ResultGives (Given argument) stub site receiver g = ArgumentGives stub receiver argument g
ResultGives (New class) stub site receiver g = (receiver ≡ None) × (g ≡ made (call_allocates kinds.Result site class))
ResultGives Kept stub site receiver g = (class : List ℕ) × (receiver ≡ None) × (result_class stub.descriptor ≡ Some class) × (g ≡ fitting class)

-- What the holders of the result get by a listed result.
abbrev pub ResultGot : Program → CallSite → StubMethod → Option Site → StubResult → RuleItem → Type 0
ResultGot p site stub receiver result x = (g : RuleOrigin) × ResultGives result stub site receiver g × ResultsGet p site g x

-- An exception of a listed class is thrown.
pub record ClassThrown (p : Program) (site : CallSite) (class : List ℕ) (x : RuleItem) : Type 0 where
  pub to : Holder
  pub lands : LandsIn p class site.catch_chain.catch_clauses site.catch_chain.outside to
  pub is : x ≡ known (may_hold to (call_allocates kinds.Thrown site class))

-- What a method of a class file gives and throws.
abbrev pub FileItem : CallSite → MethodNo → RuleItem → Type 0
FileItem site target x =
    ((to : Holder) × Contains site.results to × (x ≡ constrained (returned_by target) (copy_to to))) ⊎ (x ≡ constrained (thrown_by target) (rethrow_to site.catch_chain))

-- What a described method keeps and gives, and what it throws.
abbrev pub KeptItem : Program → CallSite → StubMethod → Option Site → RuleItem → Type 0
KeptItem p site stub receiver x = (argument : StubArgument) × Contains stub.keeps argument × ArgumentKept p site stub receiver argument x

abbrev pub GotItem : Program → CallSite → StubMethod → Option Site → RuleItem → Type 0
GotItem p site stub receiver x = (result : StubResult) × Contains stub.returns result × ResultGot p site stub receiver result x

abbrev pub ThrownItem : Program → CallSite → StubMethod → RuleItem → Type 0
ThrownItem p site stub x = (class : List ℕ) × Contains stub.throws class × ClassThrown p site class x

-- The parameters of the target hold what the units of the arguments hold.
abbrev pub UnitPassed : CallSite → MethodNo → RuleItem → Type 0
UnitPassed site target x = (u : ℕ) × PassesUnit site target u x
