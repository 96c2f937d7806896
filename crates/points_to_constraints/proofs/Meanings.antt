-- What an item means in a set of facts: a fact, that the set has it; a constraint, that the set has what is made of each object of its holder.
use Rattle.std.proofs.Common.{codes, ◌≡◌, Some, Ok, Contains, sym, subst}
use Rattle.jvm_model.specs.declared.number.MethodNo.{MethodNo}
use Rattle.jvm_model.specs.declared.site.Site.{Site}
use Rattle.jvm_model.specs.declared.stub.StubArgument.{StubArgument}
use Rattle.jvm_model.specs.declared.stub.StubMethod.{StubMethod}
use Rattle.jvm_model.specs.declared.stub.StubResult.TheVariants as stub_results
use Rattle.jvm_model.specs.Programs.{Program}
use Rattle.jvm_model.specs.Subtypes.{Fits}
use Rattle.slot_names.specs.declared.variable.Variable.TheVariants.{Parameter}
use Rattle.points_to_rules.specs.Calls.{SelectsFor, IsDescribedBy, IsUnitOf}
use Rattle.points_to_rules.specs.Facts.{Holder, variable, field_of, elements_of, kept_objects, Fact, may_hold, may_run, may_call, may_write}
use Rattle.points_to_constraints.specs.CallItems.{LandsIn}
use Rattle.points_to_constraints.specs.Items.{CatchChain, CallSite, Constraint, copy_to, filter_to, load_field, store_field, load_elements, store_elements, throw_to, rethrow_to, dispatch, Item, known, constrained}

-- ---- facts

-- The set has the fact; and where a node of a method may call, the method may run.
abbrev pub IsFact : (Fact → Type 0) → Fact → Type 0
IsFact D (may_hold holder site) = D (may_hold holder site)
IsFact D (may_run method) = D (may_run method)
IsFact D (may_call call target) = D (may_call call target) × ((m : MethodNo) → call.method ≡ Some m → D (may_run m))
IsFact D (may_write method field) = D (may_write method field)

-- what is a fact in this sense, the set has
pub has_fact : (D : Fact → Type 0) (fact : Fact) → IsFact D fact → D fact
has_fact D (may_hold holder site) h = h
has_fact D (may_run method) h = h
has_fact D (may_call call target) h = h.0
has_fact D (may_write method field) h = h

-- ---- constraints

-- Each object of the one holder is one of the other.
abbrev pub Passes : (Fact → Type 0) → (from to : Holder) → Type 0
Passes D from to = (s : Site) → D (may_hold from s) → D (may_hold to s)

-- The object is held where it lands.
abbrev pub HoldsLanded : Program → (Fact → Type 0) → CatchChain → Site → Type 0
HoldsLanded p D catch_chain s = (to : Holder) → LandsIn p s.class catch_chain.catch_clauses catch_chain.outside to → D (may_hold to s)

-- The call goes to the target, which gets the object, and keeps and gives it as its stub says.
pub record IsSelected (p : Program) (D : Fact → Type 0) (site : CallSite) (s : Site) (target : MethodNo) : Type 0 where
  pub called : IsFact D (may_call site.at target)
  pub received : D (may_hold (variable (Parameter target 0)) s)
  pub kept : (stub : StubMethod) (argument : StubArgument) → IsDescribedBy p target stub → Contains stub.keeps argument → IsUnitOf stub argument 0
      → D (may_hold kept_objects s)
  pub given : (stub : StubMethod) (argument : StubArgument) (to : Holder) → IsDescribedBy p target stub → Contains stub.returns (stub_results.Given argument)
      → IsUnitOf stub argument 0 → Contains site.results to → D (may_hold to s)

-- What the constraint makes of an object is so in the set.
abbrev pub IsConstrained : Program → (Fact → Type 0) → Constraint → Site → Type 0
IsConstrained p D (copy_to to) s = D (may_hold to s)
IsConstrained p D (filter_to class to) s = Fits p class s.class → D (may_hold to s)
IsConstrained p D (load_field field to) s = Passes D (field_of s field) to
IsConstrained p D (store_field field from) s = Passes D from (field_of s field)
IsConstrained p D (load_elements to) s = Passes D (elements_of s) to
IsConstrained p D (store_elements from) s = Passes D from (elements_of s)
IsConstrained p D (throw_to catch_chain) s = Fits p (codes "java/lang/Throwable") s.class → HoldsLanded p D catch_chain s
IsConstrained p D (rethrow_to catch_chain) s = HoldsLanded p D catch_chain s
IsConstrained p D (dispatch site) s = (target : MethodNo) → SelectsFor site.kind p site.resolved s (Ok target.0) → IsSelected p D site s target

-- ---- items

-- The fact is in the set; or what the constraint makes of each object of its holder is.
abbrev pub IsMeant : Program → (Fact → Type 0) → Item → Type 0
IsMeant p D (known fact) = IsFact D fact
IsMeant p D (constrained from constraint) = (s : Site) → D (may_hold from s) → IsConstrained p D constraint s

-- an item that is another one means the same
pub meant_as : (p : Program) (D : Fact → Type 0) (x y : Item) → x ≡ y → IsMeant p D y → IsMeant p D x
meant_as p D x y same h = subst (λ (z : Item). IsMeant p D z) (sym same) h
