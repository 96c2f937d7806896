-- Public contracts rest on this module.
-- What a call leads to that goes to a target: its parameters, its results, what it throws, and what a described method keeps.
use Rattle.std.specs.Prelude.{◌≡◌, ℕ, zero, suc, Bool, true, not, List, [], ◌∷◌, ◌⊎◌, Some, Ok, slice_get, Contains, IsTrue}
use Rattle.jvm_model.specs.declared.number.MethodNo.{MethodNo}
use Rattle.jvm_model.specs.declared.site.Site.{Site}
use Rattle.jvm_model.specs.declared.site.SiteKind.{SiteKind}
use Rattle.jvm_model.specs.declared.site.SiteKind.TheVariants as kinds
use Rattle.jvm_model.specs.declared.stub.StubArgument.{StubArgument}
use Rattle.jvm_model.specs.declared.stub.StubMethod.{StubMethod}
use Rattle.jvm_model.specs.declared.stub.StubResult.TheVariants as stub_results
use Rattle.jvm_model.specs.Programs.{Program, Method}
use Rattle.jvm_model.specs.Stubs.{result_class}
use Rattle.op_model.specs.declared.op.CallKind.{CallKind}
use Rattle.op_model.specs.declared.op.CallKind.TheVariants.{Virtual, Special, Static, Interface}
use Rattle.machine_nodes.specs.NodeSteps.{is_selecting_kind, Takes}
use Rattle.slot_names.specs.declared.variable.Variable.TheVariants.{Parameter}
use Rattle.points_to_rules.specs.Calls.{SelectsFor, IsOfFile, IsDescribedBy, IsUnitOf}
use Rattle.points_to_rules.specs.Facts.{Holder, variable, kept_objects, returned_by, thrown_by, may_hold, may_run, may_call}
use Rattle.points_to_constraints.specs.Items.{CatchClause, CallSite, Constraint, copy_to, filter_to, rethrow_to, Item, known, constrained}

-- Where an exception of a class goes: to the first catch clause that takes it, or else outside.
abbrev pub LandsIn : Program → List ℕ → List CatchClause → (outside to : Holder) → Type 0
LandsIn p class [] outside to = to ≡ outside
LandsIn p class (a ∷ catch_clauses) outside to = (Takes p a.handler class × (to ≡ a.to)) ⊎ ((Takes p a.handler class → ⊥) × LandsIn p class catch_clauses outside to)

-- What a call allocates of a class.
abbrev pub call_allocates : SiteKind → CallSite → List ℕ → Site
call_allocates kind site class = record { kind = kind; method = site.at.method; offset = site.at.offset; class = class }

-- A unit of the arguments that is passed as it is: each but the object by which a call selects.
abbrev pub is_passed : CallKind → ℕ → Bool
is_passed kind (suc unit) = true
is_passed kind zero = not (is_selecting_kind kind)

-- What is done with the objects of a unit that goes to a holder by the description of a stub: at a special call the first unit has to fit the
-- class of the resolved method.
abbrev pub GivesUnit : CallKind → Program → MethodNo → (unit : ℕ) → Holder → Constraint → Type 0
GivesUnit kind p resolved (suc unit) to constraint = constraint ≡ copy_to to
GivesUnit Virtual p resolved zero to constraint = ⊥
GivesUnit Special p resolved zero to constraint = (m : Method) × (slice_get p.methods resolved.0 ≡ Some m) × (constraint ≡ filter_to m.class to)
GivesUnit Static p resolved zero to constraint = constraint ≡ copy_to to
GivesUnit Interface p resolved zero to constraint = ⊥

-- The holder of what a stub names as an argument.
pub record IsStubUnit (site : CallSite) (stub : StubMethod) (argument : StubArgument) (unit : ℕ) (from : Holder) : Type 0 where
  pub is_unit : IsUnitOf stub argument unit
  pub passed : slice_get site.arguments unit ≡ Some (Some from)

-- What a call of a target leads to, whichever object it is made on.
pub data CallItem (p : Program) (site : CallSite) (target : MethodNo) (x : Item) : Type 0 where
  runs : x ≡ known (may_run target) → CallItem p site target x
  pass : (unit : ℕ) (from : Holder) → slice_get site.arguments unit ≡ Some (Some from) → IsTrue (is_passed site.kind unit)
      → x ≡ constrained from (copy_to (variable (Parameter target unit))) → CallItem p site target x
  receive : (to : Holder) → IsOfFile p target → Contains site.results to → x ≡ constrained (returned_by target) (copy_to to) → CallItem p site target x
  target_throws : IsOfFile p target → x ≡ constrained (thrown_by target) (rethrow_to site.catch_chain) → CallItem p site target x
  keep_argument : (stub : StubMethod) (argument : StubArgument) (unit : ℕ) (from : Holder) (constraint : Constraint) → IsDescribedBy p target stub → Contains stub.keeps argument
      → IsStubUnit site stub argument unit from → GivesUnit site.kind p site.resolved unit kept_objects constraint → x ≡ constrained from constraint → CallItem p site target x
  give_argument : (stub : StubMethod) (argument : StubArgument) (unit : ℕ) (from to : Holder) (constraint : Constraint) → IsDescribedBy p target stub
      → Contains stub.returns (stub_results.Given argument) → IsStubUnit site stub argument unit from → Contains site.results to
      → GivesUnit site.kind p site.resolved unit to constraint → x ≡ constrained from constraint → CallItem p site target x
  give_new : (stub : StubMethod) (class : List ℕ) (to : Holder) → IsDescribedBy p target stub → Contains stub.returns (stub_results.New class)
      → Contains site.results to → x ≡ known (may_hold to (call_allocates kinds.Result site class)) → CallItem p site target x
  give_kept : (stub : StubMethod) (class : List ℕ) (to : Holder) → IsDescribedBy p target stub → Contains stub.returns stub_results.Kept
      → result_class stub.descriptor ≡ Some class → Contains site.results to → x ≡ constrained kept_objects (filter_to class to) → CallItem p site target x
  described_throws : (stub : StubMethod) (class : List ℕ) (to : Holder) → IsDescribedBy p target stub → Contains stub.throws class
      → LandsIn p class site.catch_chain.catch_clauses site.catch_chain.outside to → x ≡ known (may_hold to (call_allocates kinds.Thrown site class)) → CallItem p site target x

-- What an object leads to that selects the target of a call.
pub data SelectItem (p : Program) (site : CallSite) (s : Site) (x : Item) : Type 0 where
  called : (target : MethodNo) → SelectsFor site.kind p site.resolved s (Ok target.0) → x ≡ known (may_call site.at target) → SelectItem p site s x
  received : (target : MethodNo) → SelectsFor site.kind p site.resolved s (Ok target.0) → x ≡ known (may_hold (variable (Parameter target 0)) s) → SelectItem p site s x
  kept : (target : MethodNo) (stub : StubMethod) (argument : StubArgument) → SelectsFor site.kind p site.resolved s (Ok target.0) → IsDescribedBy p target stub
      → Contains stub.keeps argument → IsUnitOf stub argument 0 → x ≡ known (may_hold kept_objects s) → SelectItem p site s x
  given : (target : MethodNo) (stub : StubMethod) (argument : StubArgument) (to : Holder) → SelectsFor site.kind p site.resolved s (Ok target.0) → IsDescribedBy p target stub
      → Contains stub.returns (stub_results.Given argument) → IsUnitOf stub argument 0 → Contains site.results to → x ≡ known (may_hold to s) → SelectItem p site s x
