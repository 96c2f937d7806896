-- Public contracts rest on this module.
-- What a node of a method that may run leads to: the facts, and the constraints of the holders that it reads.
use Rattle.std.specs.Prelude.{◌≡◌, ℕ, ◌+◌, ◌<◌, true, List, [], Option, Some, None, slice_get, Contains}
use Rattle.std.specs.List.{AllZip}
use Rattle.jvm_model.specs.declared.number.ClassNo.{ClassNo}
use Rattle.jvm_model.specs.declared.number.FieldNo.{FieldNo}
use Rattle.jvm_model.specs.declared.number.MethodNo.{MethodNo}
use Rattle.jvm_model.specs.declared.site.Site.{Site}
use Rattle.jvm_model.specs.declared.site.SiteKind.TheVariants as kinds
use Rattle.jvm_model.specs.Programs.{Program}
use Rattle.op_model.specs.declared.lowered.LoweredMethod.{LoweredMethod}
use Rattle.op_model.specs.declared.node.Node.{Node}
use Rattle.op_model.specs.declared.node.NodeHandler.{NodeHandler}
use Rattle.op_model.specs.declared.op.Call.{Call as NodeCall}
use Rattle.op_model.specs.declared.op.Op.{Op}
use Rattle.op_model.specs.declared.op.Op.TheVariants.{Assign, Load, Store, LoadElement, StoreElement, LoadStatic, StoreStatic, New, NewArray, Constant, Call, Return, Throw, Cast, Probe}
use Rattle.machine_bytecode.specs.Start.{boot_site}
use Rattle.machine_nodes.specs.Nodes.{IsClassNumber}
use Rattle.machine_nodes.specs.NodeSteps.{is_selecting_kind}
use Rattle.slot_names.specs.declared.variable.Variable.TheVariants.{Parameter}
use Rattle.slot_names.specs.Variables.{keeps, moves, effect_on, IsFirstNode, IsMerge, IsPredecessor}
use Rattle.points_to_rules.specs.Facts.{Holder, variable, elements_of, static_field, kept_objects, returned_by, thrown_by, may_hold, may_run, may_call}
use Rattle.points_to_rules.specs.Rules.{node_of, site_of, IsSlot, IsSlotAfter, IsSlotAt, Lands, StartsAt, BeginsWith}
use Rattle.points_to_constraints.specs.Items.{CatchClause, CatchChain, CallSite, Constraint, copy_to, filter_to, load_field, store_field, load_elements, store_elements, throw_to, rethrow_to, dispatch, Item, known, constrained}

-- The holder of a slot at a merge point to which the node leads.
pub record IsSlotMerged (l : LoweredMethod) (n : Node) (z : ℕ) (h : Holder) : Type 0 where
  pub next : Node
  pub stands : Contains l.nodes next
  pub leads : IsPredecessor l n next
  pub merge : IsMerge l next
  pub slot : IsSlot l next z h

-- The catch clause of a handler: what it takes goes to the first unit of the stack where it begins.
pub record IsCatchClause (l : LoweredMethod) (handler : NodeHandler) (a : CatchClause) : Type 0 where
  pub handler_is : a.handler ≡ handler
  pub slot : IsSlotAt l handler.target l.slots a.to

pub record IsCatchChain (m : MethodNo) (l : LoweredMethod) (n : Node) (catch_chain : CatchChain) : Type 0 where
  pub catch_clauses : AllZip (IsCatchClause l) n.handlers catch_chain.catch_clauses
  pub outside : catch_chain.outside ≡ thrown_by m

-- The holder of a unit of the arguments of a call.
abbrev pub IsUnitHolder : LoweredMethod → Node → Option ℕ → Option Holder → Type 0
IsUnitHolder l n None None = Unit {0}
IsUnitHolder l n None (Some h) = ⊥
IsUnitHolder l n (Some z) None = ⊥
IsUnitHolder l n (Some z) (Some h) = IsSlot l n z h

-- The holders of the result of a call, one for each successor in their order.
abbrev pub AreResults : LoweredMethod → Node → Option ℕ → List Holder → Type 0
AreResults l n None results = results ≡ []
AreResults l n (Some z) results = AllZip (λ (offset : ℕ) (h : Holder). IsSlotAt l offset z h) n.successors results

pub record IsCallSite (m : MethodNo) (l : LoweredMethod) (n : Node) (c : NodeCall) (site : CallSite) : Type 0 where
  pub at : site.at ≡ node_of m n
  pub kind : site.kind ≡ c.kind
  pub resolved : site.resolved ≡ c.resolved
  pub arguments : AllZip (IsUnitHolder l n) c.arguments site.arguments
  pub results : AreResults l n c.result site.results
  pub catch_chain : IsCatchChain m l n site.catch_chain

-- It is the call site of a node of the method.
pub record IsCallOf (l : LoweredMethod) (site : CallSite) : Type 0 where
  pub node : Node
  pub stands : Contains l.nodes node
  pub call : NodeCall
  pub is_call : node.op ≡ Call call
  pub is_site : IsCallSite l.method l node call site

-- ---- slots from node to node

-- What a slot holds that the node leaves or moves, it holds at each merge point to which the node leads.
pub data FlowItem (l : LoweredMethod) (n : Node) (x : Item) : Type 0 where
  keep : (z : ℕ) (from to : Holder) → z < l.slots + l.stack → effect_on z n.op ≡ keeps → IsSlot l n z from → IsSlotMerged l n z to
      → x ≡ constrained from (copy_to to) → FlowItem l n x
  move : (y z : ℕ) (from to : Holder) → z < l.slots + l.stack → effect_on z n.op ≡ moves y → IsSlot l n y from → IsSlotMerged l n z to
      → x ≡ constrained from (copy_to to) → FlowItem l n x

-- What a parameter holds, its slot holds at the first node.
pub record EnterItem (m : MethodNo) (l : LoweredMethod) (n : Node) (x : Item) : Type 0 where
  pub z : ℕ
  pub inside : z < l.slots + l.stack
  pub first : IsFirstNode l n
  pub merge : IsMerge l n
  pub to : Holder
  pub slot : IsSlot l n z to
  pub is : x ≡ constrained (variable (Parameter m z)) (copy_to to)

-- What a local variable holds at the node, it holds at each handler that covers the node.
pub record HandleItem (l : LoweredMethod) (n : Node) (x : Item) : Type 0 where
  pub handler : NodeHandler
  pub covers : Contains n.handlers handler
  pub z : ℕ
  pub is_local : z < l.slots
  pub from : Holder
  pub slot : IsSlot l n z from
  pub to : Holder
  pub slot_there : IsSlotAt l handler.target z to
  pub is : x ≡ constrained from (copy_to to)

-- ---- operations

-- The target holds these objects at the node's successors.
abbrev pub MakesItem : LoweredMethod → Node → (target : ℕ) → Site → Item → Type 0
MakesItem l n target s x = (to : Holder) × IsSlotAfter l n target to × (x ≡ known (may_hold to s))

-- A constraint of what one slot holds, for the target at each of the node's successors.
abbrev pub ReadsItem : LoweredMethod → Node → (slot target : ℕ) → (Holder → Constraint) → Item → Type 0
ReadsItem l n slot target constraint x = (from to : Holder) × IsSlot l n slot from × IsSlotAfter l n target to × (x ≡ constrained from (constraint to))

-- A constraint of what one slot holds, for what another one holds.
abbrev pub WritesItem : LoweredMethod → Node → (slot value : ℕ) → (Holder → Constraint) → Item → Type 0
WritesItem l n slot value constraint x = (into from : Holder) × IsSlot l n slot into × IsSlot l n value from × (x ≡ constrained into (constraint from))

-- A static field that is loaded: what it holds, and what it begins with.
pub data LoadStaticItem (p : Program) (l : LoweredMethod) (n : Node) (field : FieldNo) (target : ℕ) (x : Item) : Type 0 where
  read : (to : Holder) → IsSlotAfter l n target to → x ≡ constrained (static_field field) (copy_to to) → LoadStaticItem p l n field target x
  begin : (class : List ℕ) → BeginsWith p field class → x ≡ known (may_hold (static_field field) (boot_site class)) → LoadStaticItem p l n field target x

-- New arrays: the target holds the first one, and each holds the next.
pub data NewArrayItem (l : LoweredMethod) (n : Node) (sites : List Site) (target : ℕ) (x : Item) : Type 0 where
  first : (s : Site) → slice_get sites 0 ≡ Some s → MakesItem l n target s x → NewArrayItem l n sites target x
  nest : (i : ℕ) (outer inner : Site) → slice_get sites i ≡ Some outer → slice_get sites (i + 1) ≡ Some inner
      → x ≡ known (may_hold (elements_of outer) inner) → NewArrayItem l n sites target x

-- A call: its chosen target; or that it selects its targets by the objects of its first argument.
pub data CallNodeItem (m : MethodNo) (l : LoweredMethod) (n : Node) (c : NodeCall) (x : Item) : Type 0 where
  chosen : (target : MethodNo) → c.chosen ≡ Some target → x ≡ known (may_call (node_of m n) target) → CallNodeItem m l n c x
  selecting : (site : CallSite) (from : Holder) → is_selecting_kind c.kind ≡ true → IsCallSite m l n c site
      → slice_get site.arguments 0 ≡ Some (Some from) → x ≡ constrained from (dispatch site) → CallNodeItem m l n c x

-- What the operation leads to.
abbrev pub OpItem : Op → Program → MethodNo → LoweredMethod → Node → Item → Type 0
OpItem (Assign changes) p m l n x = ⊥
OpItem (Load object field target) p m l n x = ReadsItem l n object target (load_field field) x
OpItem (Store object field value) p m l n x = WritesItem l n object value (store_field field) x
OpItem (LoadElement array target) p m l n x = ReadsItem l n array target load_elements x
OpItem (StoreElement array value) p m l n x = WritesItem l n array value store_elements x
OpItem (LoadStatic field target) p m l n x = LoadStaticItem p l n field target x
OpItem (StoreStatic field value) p m l n x = (from : Holder) × IsSlot l n value from × (x ≡ constrained from (copy_to (static_field field)))
OpItem (New s target) p m l n x = MakesItem l n target s x
OpItem (NewArray sites target) p m l n x = NewArrayItem l n sites target x
OpItem (Constant s target) p m l n x = MakesItem l n target s x
OpItem (Call c) p m l n x = CallNodeItem m l n c x
OpItem (Return None) p m l n x = ⊥
OpItem (Return (Some value)) p m l n x = (from : Holder) × IsSlot l n value from × (x ≡ constrained from (copy_to (returned_by m)))
OpItem (Throw value) p m l n x = (catch_chain : CatchChain) × (from : Holder) × IsCatchChain m l n catch_chain × IsSlot l n value from × (x ≡ constrained from (throw_to catch_chain))
OpItem (Cast class slot) p m l n x = ReadsItem l n slot slot (filter_to class) x
OpItem (Probe slot) p m l n x = ⊥

-- ---- exceptions and initialisers

-- The node may throw a new object of its own.
pub record RaiseItem (p : Program) (m : MethodNo) (l : LoweredMethod) (n : Node) (x : Item) : Type 0 where
  pub number : ClassNo
  pub listed : Contains n.throws number
  pub class : List ℕ
  pub is_class : IsClassNumber p number class
  pub to : Holder
  pub lands : Lands p m l n class to
  pub is : x ≡ known (may_hold to (site_of kinds.Thrown m n class))

-- It may start an initialiser, which runs; and what that throws is kept, and is thrown on.
pub data TriggerItem (p : Program) (m : MethodNo) (l : LoweredMethod) (n : Node) (x : Item) : Type 0 where
  runs : (i : MethodNo) → StartsAt p n i → x ≡ known (may_run i) → TriggerItem p m l n x
  keeps_thrown : (i : MethodNo) → StartsAt p n i → x ≡ constrained (thrown_by i) (copy_to kept_objects) → TriggerItem p m l n x
  throws : (i : MethodNo) (catch_chain : CatchChain) → StartsAt p n i → IsCatchChain m l n catch_chain → x ≡ constrained (thrown_by i) (rethrow_to catch_chain) → TriggerItem p m l n x

-- ---- the whole

pub data NodeItem (p : Program) (m : MethodNo) (l : LoweredMethod) (n : Node) (x : Item) : Type 0 where
  flows : FlowItem l n x → NodeItem p m l n x
  enters : EnterItem m l n x → NodeItem p m l n x
  handles : HandleItem l n x → NodeItem p m l n x
  operates : OpItem n.op p m l n x → NodeItem p m l n x
  raises : RaiseItem p m l n x → NodeItem p m l n x
  triggers : TriggerItem p m l n x → NodeItem p m l n x
