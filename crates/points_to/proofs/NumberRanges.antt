-- The methods that may run and that may be called, and those to which calls are resolved that select their targets, have numbers in the program:
-- this is so of each item that follows from items of which it is so.
use Rattle.std.proofs.Common.{◌≡◌, ℕ, zero, suc, List, Some, None, Result, Ok, refl, sym, ◌∙◌, subst}
use Rattle.std.proofs.lemmas.Option.{slice_get_within}
use Rattle.std.proofs.lemmas.List.Elements.{All-contains}
use Rattle.jvm_model.specs.declared.number.MethodNo.{MethodNo}
use Rattle.jvm_model.specs.declared.reason.Reason.{Reason}
use Rattle.jvm_model.specs.declared.site.Site.{Site}
use Rattle.jvm_model.specs.Programs.{Program}
use Rattle.jvm_model.specs.Selection.{Selection, selected, no_code, nothing, several, hidden}
use Rattle.program_model.specs.Numbers.{IsMethodNumber}
use Rattle.machine_nodes.specs.Nodes.{IsCodedInitialiser}
use Rattle.op_model.specs.declared.lowered.LoweredMethod.{LoweredMethod}
use Rattle.op_model.specs.declared.node.Node.{Node}
use Rattle.op_model.specs.declared.op.CallKind.{CallKind}
use Rattle.op_model.specs.declared.op.CallKind.TheVariants.{Virtual, Special, Static, Interface}
use Rattle.op_model.specs.declared.op.Op.{Op}
use Rattle.op_model.specs.declared.op.Op.TheVariants as ops
use Rattle.op_model.specs.Supplies.{GivenAs}
use Rattle.machine_bytecode.specs.Machine.{selecting_class}
use Rattle.least_sets.specs.Rules.{Hold, IsClosedSet}
use Rattle.points_to_rules.specs.Calls.{SelectsFor}
use Rattle.points_to_rules.specs.Facts.{Holder, may_hold, may_run, may_call, may_write}
use Rattle.points_to_constraints.specs.CallItems.{CallItem, GivesUnit, SelectItem}
use Rattle.points_to_constraints.specs.CallItems as call_items
use Rattle.points_to_constraints.specs.Items.{CallSite, Constraint, copy_to, filter_to, load_field, store_field, load_elements, store_elements, throw_to, rethrow_to, dispatch, Item as RuleItem, known, constrained}
use Rattle.points_to_constraints.specs.ItemRules.{StartItem, Passed, ItemInstance, of_start, of_node, of_call, of_constraint}
use Rattle.points_to_constraints.specs.ItemRules as item_rules
use Rattle.points_to_rules.specs.WholeMethods.{NamesNumbers}
use Rattle.points_to_constraints.specs.NodeItems.{NodeItem, FlowItem, OpItem, LoadStaticItem, NewArrayItem, CallNodeItem, TriggerItem}
use Rattle.points_to_constraints.specs.NodeItems as node_items
use Rattle.points_to_rules.specs.Solutions.{IsSupplyOf}

-- The call whose target the constraint selects, if it selects one, is resolved to a method of the program.
abbrev pub IsConstraintInRange : Program → Constraint → Type 0
IsConstraintInRange p (copy_to to) = Unit {0}
IsConstraintInRange p (filter_to class to) = Unit {0}
IsConstraintInRange p (load_field field to) = Unit {0}
IsConstraintInRange p (store_field field from) = Unit {0}
IsConstraintInRange p (load_elements to) = Unit {0}
IsConstraintInRange p (store_elements from) = Unit {0}
IsConstraintInRange p (throw_to catch_chain) = Unit {0}
IsConstraintInRange p (rethrow_to catch_chain) = Unit {0}
IsConstraintInRange p (dispatch site) = IsMethodNumber p site.resolved.0

-- The method of the item, if it has one, is one of the program.
abbrev pub IsInRange : Program → RuleItem → Type 0
IsInRange p (known (may_hold h s)) = Unit {0}
IsInRange p (known (may_run m)) = IsMethodNumber p m.0
IsInRange p (known (may_call at target)) = IsMethodNumber p target.0
IsInRange p (known (may_write m field)) = Unit {0}
IsInRange p (constrained h u) = IsConstraintInRange p u

module _ (p : Program) where
  in_range_as : (x y : RuleItem) → x ≡ y → IsInRange p y → IsInRange p x
  in_range_as x y e r = subst (IsInRange p) (sym e) r

  constraint_as : (u v : Constraint) → u ≡ v → IsConstraintInRange p v → IsConstraintInRange p u
  constraint_as u v e r = subst (IsConstraintInRange p) (sym e) r

  initialiser_in : (class : List ℕ) (i : ℕ) → IsCodedInitialiser p class i → IsMethodNumber p i
  initialiser_in class i is = slice_get_within p.methods i is.method is.stands

  selected_in : (by_interface : _) (class : List ℕ) (resolved : ℕ) (outcome : Result ℕ Reason) (target : ℕ) → outcome ≡ Ok target → Selection p by_interface class resolved outcome → IsMethodNumber p target
  selected_in by_interface class resolved outcome target e (selected t m selects stands plain shown is) =
      let same : t ≡ target = (let both = sym is ∙ e in cc) in
      subst (λ (k : ℕ). IsMethodNumber p k) same (slice_get_within p.methods t m stands)
  selected_in by_interface class resolved outcome target e (no_code t m selects stands abstract is) = absurd (let both = sym is ∙ e in cc)
  selected_in by_interface class resolved outcome target e (nothing none clash is) = absurd (let both = sym is ∙ e in cc)
  selected_in by_interface class resolved outcome target e (several clash is) = absurd (let both = sym is ∙ e in cc)
  selected_in by_interface class resolved outcome target e (hidden t m selects stands plain over is) = absurd (let both = sym is ∙ e in cc)

  target_in : (kind : CallKind) (resolved : MethodNo) (s : Site) (target : ℕ) → SelectsFor kind p resolved s (Ok target) → IsMethodNumber p target
  target_in Virtual resolved s target (receiver, selects) = selected_in _ (selecting_class s.class) resolved.0 (Ok target) target refl selects
  target_in Special resolved s target none = absurd none
  target_in Static resolved s target none = absurd none
  target_in Interface resolved s target (receiver, selects) = selected_in _ (selecting_class s.class) resolved.0 (Ok target) target refl selects

  -- ---- by each rule

  start_in : (entry : MethodNo) → IsMethodNumber p entry.0 → (x : RuleItem) → StartItem p entry x → IsInRange p x
  start_in entry within x (item_rules.entry_runs e) = in_range_as x _ e within
  start_in entry within x (item_rules.entry_called e) = in_range_as x _ e within
  start_in entry within x (item_rules.entry_argument has e) = in_range_as x _ e tt
  start_in entry within x (item_rules.entry_strings has e) = in_range_as x _ e tt
  start_in entry within x (item_rules.initialiser_runs m i stands is e) = in_range_as x _ e (initialiser_in m.class i.0 is)
  start_in entry within x (item_rules.keep_thrown m i stands is e) = in_range_as x _ e tt

  load_static_in : (l : LoweredMethod) (n : Node) (field : _) (target : ℕ) (x : RuleItem) → LoadStaticItem p l n field target x → IsInRange p x
  load_static_in l n field target x (node_items.read to after e) = in_range_as x _ e tt
  load_static_in l n field target x (node_items.begin class begins e) = in_range_as x _ e tt

  new_array_in : (l : LoweredMethod) (n : Node) (sites : List Site) (target : ℕ) (x : RuleItem) → NewArrayItem l n sites target x → IsInRange p x
  new_array_in l n sites target x (node_items.first s at made) = in_range_as x _ made.2 tt
  new_array_in l n sites target x (node_items.nest i outer inner at next e) = in_range_as x _ e tt

  call_node_in : (m : MethodNo) (l : LoweredMethod) (n : Node) (c : _) (x : RuleItem) → n.op ≡ ops.Call c → NamesNumbers p n → CallNodeItem m l n c x → IsInRange p x
  call_node_in m l n c x op names (node_items.chosen target is e) = in_range_as x _ e (names.chosen c target op is)
  call_node_in m l n c x op names (node_items.selecting site from kind is_site at e) =
      in_range_as x _ e (subst (λ (k : MethodNo). IsMethodNumber p k.0) (sym is_site.resolved) (names.resolved c op))

  op_in : (m : MethodNo) (l : LoweredMethod) (n : Node) (op : Op) (x : RuleItem) → n.op ≡ op → NamesNumbers p n → OpItem op p m l n x → IsInRange p x
  op_in m l n (ops.Assign changes) x is names made = absurd made
  op_in m l n (ops.Load object field target) x is names made = in_range_as x _ made.4 tt
  op_in m l n (ops.Store object field value) x is names made = in_range_as x _ made.4 tt
  op_in m l n (ops.LoadElement array target) x is names made = in_range_as x _ made.4 tt
  op_in m l n (ops.StoreElement array value) x is names made = in_range_as x _ made.4 tt
  op_in m l n (ops.LoadStatic field target) x is names made = load_static_in l n field target x made
  op_in m l n (ops.StoreStatic field value) x is names made = in_range_as x _ made.2 tt
  op_in m l n (ops.New s target) x is names made = in_range_as x _ made.2 tt
  op_in m l n (ops.NewArray sites target) x is names made = new_array_in l n sites target x made
  op_in m l n (ops.Constant s target) x is names made = in_range_as x _ made.2 tt
  op_in m l n (ops.Call c) x is names made = call_node_in m l n c x is names made
  op_in m l n (ops.Return None) x is names made = absurd made
  op_in m l n (ops.Return (Some value)) x is names made = in_range_as x _ made.2 tt
  op_in m l n (ops.Throw value) x is names made = in_range_as x _ made.4 tt
  op_in m l n (ops.Cast class slot) x is names made = in_range_as x _ made.4 tt
  op_in m l n (ops.Probe slot) x is names made = absurd made

  flow_in : (l : LoweredMethod) (n : Node) (x : RuleItem) → FlowItem l n x → IsInRange p x
  flow_in l n x (node_items.keep z from to inside effect slot merged e) = in_range_as x _ e tt
  flow_in l n x (node_items.move y z from to inside effect slot merged e) = in_range_as x _ e tt

  trigger_in : (m : MethodNo) (l : LoweredMethod) (n : Node) (x : RuleItem) → TriggerItem p m l n x → IsInRange p x
  trigger_in m l n x (node_items.runs i starts e) = in_range_as x _ e (initialiser_in starts.class i.0 starts.initialiser)
  trigger_in m l n x (node_items.keeps_thrown i starts e) = in_range_as x _ e tt
  trigger_in m l n x (node_items.throws i catch_chain starts is e) = in_range_as x _ e tt

  node_in : (m : MethodNo) (l : LoweredMethod) (n : Node) (x : RuleItem) → NamesNumbers p n → NodeItem p m l n x → IsInRange p x
  node_in m l n x names (node_items.flows made) = flow_in l n x made
  node_in m l n x names (node_items.enters made) = in_range_as x _ made.is tt
  node_in m l n x names (node_items.handles made) = in_range_as x _ made.is tt
  node_in m l n x names (node_items.operates made) = op_in m l n n.op x refl names made
  node_in m l n x names (node_items.raises made) = in_range_as x _ made.is tt
  node_in m l n x names (node_items.triggers made) = trigger_in m l n x made

  unit_in : (kind : CallKind) (resolved : MethodNo) (unit : ℕ) (to : Holder) (u : Constraint) → GivesUnit kind p resolved unit to u → IsConstraintInRange p u
  unit_in kind resolved (suc unit) to u e = constraint_as u _ e tt
  unit_in Virtual resolved zero to u none = absurd none
  unit_in Special resolved zero to u (m, stands, e) = constraint_as u _ e tt
  unit_in Static resolved zero to u e = constraint_as u _ e tt
  unit_in Interface resolved zero to u none = absurd none

  call_in : (site : CallSite) (target : MethodNo) (x : RuleItem) → IsMethodNumber p target.0 → CallItem p site target x → IsInRange p x
  call_in site target x within (call_items.runs e) = in_range_as x _ e within
  call_in site target x within (call_items.pass unit from at passed e) = in_range_as x _ e tt
  call_in site target x within (call_items.receive to of_file there e) = in_range_as x _ e tt
  call_in site target x within (call_items.target_throws of_file e) = in_range_as x _ e tt
  call_in site target x within (call_items.keep_argument stub argument unit from constraint described there is gives_unit e) =
      in_range_as x _ e (unit_in site.kind site.resolved unit _ constraint gives_unit)
  call_in site target x within (call_items.give_argument stub argument unit from to constraint described there is result gives_unit e) =
      in_range_as x _ e (unit_in site.kind site.resolved unit to constraint gives_unit)
  call_in site target x within (call_items.give_new stub class to described there result e) = in_range_as x _ e tt
  call_in site target x within (call_items.give_kept stub class to described there is_class result e) = in_range_as x _ e tt
  call_in site target x within (call_items.described_throws stub class to described there lands e) = in_range_as x _ e tt

  select_in : (site : CallSite) (s : Site) (x : RuleItem) → SelectItem p site s x → IsInRange p x
  select_in site s x (call_items.called target selects e) = in_range_as x _ e (target_in site.kind site.resolved s target.0 selects)
  select_in site s x (call_items.received target selects e) = in_range_as x _ e tt
  select_in site s x (call_items.kept target stub argument selects described there is e) = in_range_as x _ e tt
  select_in site s x (call_items.given target stub argument to selects described there is result e) = in_range_as x _ e tt

  passed_in : (constraint : Constraint) (s : Site) (x : RuleItem) → Passed p constraint s x → IsInRange p x
  passed_in (copy_to to) s x e = in_range_as x _ e tt
  passed_in (filter_to class to) s x made = in_range_as x _ made.1 tt
  passed_in (load_field field to) s x e = in_range_as x _ e tt
  passed_in (store_field field from) s x e = in_range_as x _ e tt
  passed_in (load_elements to) s x e = in_range_as x _ e tt
  passed_in (store_elements from) s x e = in_range_as x _ e tt
  passed_in (throw_to catch_chain) s x made = in_range_as x _ made.1.2 tt
  passed_in (rethrow_to catch_chain) s x made = in_range_as x _ made.2 tt
  passed_in (dispatch site) s x made = select_in site s x made

-- ---- the whole

pub in_range_is_closed : (p : Program) (gives : GivenAs) (entry : MethodNo) → IsSupplyOf p gives → IsMethodNumber p entry.0 → IsClosedSet (ItemInstance p gives entry) (IsInRange p)
in_range_is_closed p gives entry supply within premises x (of_start none i) hold = start_in p entry within x i
in_range_is_closed p gives entry supply within premises x (of_node m l n are stands i) hold =
    node_in p m l n x (All-contains (NamesNumbers p) l.nodes n (supply.methods m.0 l stands.given).numbers stands.stands) i
in_range_is_closed p gives entry supply within premises x (of_call m l n c site target are stands op is_site i) hold =
    call_in p site target x (subst (λ (items : List RuleItem). Hold (IsInRange p) items) are hold).0 i
in_range_is_closed p gives entry supply within premises x (of_constraint from constraint s are i) hold = passed_in p constraint s x i
