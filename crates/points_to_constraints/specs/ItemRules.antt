-- Public contracts rest on this module.
-- The rules by items: no instance has more than two premises, and the only ones of two have a constraint and an object of one holder.
use Rattle.std.specs.Prelude.{codes, ◌≡◌, List, [], ◌∷◌, Some, slice_get, Contains}
use Rattle.jvm_model.specs.declared.number.MethodNo.{MethodNo}
use Rattle.jvm_model.specs.declared.site.Site.{Site}
use Rattle.jvm_model.specs.Programs.{Program, Method}
use Rattle.jvm_model.specs.Subtypes.{Fits}
use Rattle.op_model.specs.declared.lowered.LoweredMethod.{LoweredMethod}
use Rattle.op_model.specs.declared.node.Node.{Node}
use Rattle.op_model.specs.declared.op.Call.{Call as NodeCall}
use Rattle.op_model.specs.declared.op.Op.TheVariants.{Call}
use Rattle.op_model.specs.Supplies.{GivenAs}
use Rattle.machine_bytecode.specs.Objects.{string_name}
use Rattle.machine_bytecode.specs.Start.{boot_site}
use Rattle.machine_nodes.specs.Nodes.{IsCodedInitialiser}
use Rattle.slot_names.specs.declared.variable.Variable.TheVariants.{Parameter}
use Rattle.points_to_rules.specs.Facts.{Holder, variable, field_of, elements_of, kept_objects, thrown_by, may_hold, may_run, may_call}
use Rattle.points_to_rules.specs.Rules.{IsNodeOf, HasArguments, argument_site, start_call}
use Rattle.points_to_constraints.specs.CallItems.{LandsIn, CallItem, SelectItem}
use Rattle.points_to_constraints.specs.Items.{CatchChain, CallSite, Constraint, copy_to, filter_to, load_field, store_field, load_elements, store_elements, throw_to, rethrow_to, dispatch, Item, known, constrained}
use Rattle.points_to_constraints.specs.NodeItems.{NodeItem, IsCallSite}

-- What the start leads to.
pub data StartItem (p : Program) (entry : MethodNo) (x : Item) : Type 0 where
  entry_runs : x ≡ known (may_run entry) → StartItem p entry x
  entry_called : x ≡ known (may_call start_call entry) → StartItem p entry x
  entry_argument : HasArguments p entry → x ≡ known (may_hold (variable (Parameter entry 0)) argument_site) → StartItem p entry x
  entry_strings : HasArguments p entry → x ≡ known (may_hold (elements_of argument_site) (boot_site string_name)) → StartItem p entry x
  initialiser_runs : (m : Method) (i : MethodNo) → slice_get p.methods entry.0 ≡ Some m → IsCodedInitialiser p m.class i.0 → x ≡ known (may_run i) → StartItem p entry x
  keep_thrown : (m : Method) (i : MethodNo) → slice_get p.methods entry.0 ≡ Some m → IsCodedInitialiser p m.class i.0
      → x ≡ constrained (thrown_by i) (copy_to kept_objects) → StartItem p entry x

-- What a catch chain does with an object.
abbrev pub LandsAs : Program → CatchChain → Site → Item → Type 0
LandsAs p catch_chain s x = (to : Holder) × LandsIn p s.class catch_chain.catch_clauses catch_chain.outside to × (x ≡ known (may_hold to s))

-- What a constraint makes of an object of its holder.
abbrev pub Passed : Program → Constraint → Site → Item → Type 0
Passed p (copy_to to) s x = x ≡ known (may_hold to s)
Passed p (filter_to class to) s x = Fits p class s.class × (x ≡ known (may_hold to s))
Passed p (load_field field to) s x = x ≡ constrained (field_of s field) (copy_to to)
Passed p (store_field field from) s x = x ≡ constrained from (copy_to (field_of s field))
Passed p (load_elements to) s x = x ≡ constrained (elements_of s) (copy_to to)
Passed p (store_elements from) s x = x ≡ constrained from (copy_to (elements_of s))
Passed p (throw_to catch_chain) s x = Fits p (codes "java/lang/Throwable") s.class × LandsAs p catch_chain s x
Passed p (rethrow_to catch_chain) s x = LandsAs p catch_chain s x
Passed p (dispatch site) s x = SelectItem p site s x

pub data ItemInstance (p : Program) (gives : GivenAs) (entry : MethodNo) (premises : List Item) (x : Item) : Type 0 where
  of_start : premises ≡ [] → StartItem p entry x → ItemInstance p gives entry premises x
  of_node : (m : MethodNo) (l : LoweredMethod) (n : Node) → premises ≡ known (may_run m) ∷ [] → IsNodeOf gives m l n → NodeItem p m l n x
      → ItemInstance p gives entry premises x
  of_call : (m : MethodNo) (l : LoweredMethod) (n : Node) (c : NodeCall) (site : CallSite) (target : MethodNo) → premises ≡ known (may_call site.at target) ∷ []
      → IsNodeOf gives m l n → n.op ≡ Call c → IsCallSite m l n c site → CallItem p site target x → ItemInstance p gives entry premises x
  of_constraint : (from : Holder) (constraint : Constraint) (s : Site) → premises ≡ constrained from constraint ∷ known (may_hold from s) ∷ [] → Passed p constraint s x
      → ItemInstance p gives entry premises x

-- What the nodes of a method lead to.
abbrev pub MethodItem : Program → LoweredMethod → Item → Type 0
MethodItem p l x = (n : Node) × Contains l.nodes n × NodeItem p l.method l n x
