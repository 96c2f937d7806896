-- A call that lacks a target among the items is a refused call among the facts, and the other way round.
use Rattle.std.proofs.Common.{◌≡◌, ℕ, zero, suc, true, List, [], ◌∷◌, Option, Some, None, Ok, Err, refl, sym, ◌∙◌, ap, subst}
use Rattle.std.specs.List.{slice_get, AllZip, Contains}
use Rattle.std.proofs.lemmas.Option.{same_Some}
use Rattle.std.proofs.lemmas.List.Elements.{All-contains}
use Rattle.jvm_model.specs.declared.number.MethodNo.{MethodNo}
use Rattle.jvm_model.specs.declared.reason.Reason.{Reason}
use Rattle.jvm_model.specs.declared.site.Site.{Site}
use Rattle.jvm_model.specs.Programs.{Program}
use Rattle.machine_nodes.specs.NodeSteps.{is_selecting_kind}
use Rattle.op_model.specs.declared.lowered.LoweredMethod.{LoweredMethod}
use Rattle.op_model.specs.declared.node.Node.{Node}
use Rattle.op_model.specs.declared.node.NodeRef.{NodeRef}
use Rattle.op_model.specs.declared.op.Call.{Call as NodeCall}
use Rattle.op_model.specs.declared.op.CallKind.{CallKind}
use Rattle.op_model.specs.declared.op.CallKind.TheVariants.{Virtual, Special, Static, Interface}
use Rattle.op_model.specs.declared.op.Op.{Op}
use Rattle.op_model.specs.declared.op.Op.TheVariants as ops
use Rattle.op_model.specs.Supplies.{GivenAs}
use Rattle.least_sets.specs.Rules.{Hold, IsClosedSet, IsDerivable, IsLeast}
use Rattle.least_sets.proofs.Derivations.{Hold-larger, derivable_in_closed}
use Rattle.points_to_rules.specs.Calls.{SelectsFor}
use Rattle.points_to_rules.specs.Facts.{Holder, Fact, may_hold, may_run}
use Rattle.points_to_rules.specs.Refusals.{LacksTarget, not_selected, not_described, IsRefusedCall}
use Rattle.points_to_rules.specs.Rules.{IsNodeOf, IsSlot, node_of}
use Rattle.points_to_constraints.specs.CallItems.{CallItem, SelectItem, GivesUnit}
use Rattle.points_to_constraints.specs.CallItems as call_items
use Rattle.points_to_constraints.specs.Items.{CallSite, Constraint, copy_to, filter_to, load_field, store_field, load_elements, store_elements, throw_to, rethrow_to, dispatch, Item as RuleItem, known, constrained, facts_of}
use Rattle.points_to_constraints.specs.ItemRules.{StartItem, Passed, ItemInstance, of_start, of_node, of_call, of_constraint}
use Rattle.points_to_rules.specs.WholeMethods.{AreWholeMethods}
use Rattle.points_to_constraints.specs.ItemRules as item_rules
use Rattle.points_to_constraints.specs.NodeItems.{NodeItem, FlowItem, OpItem, LoadStaticItem, NewArrayItem, CallNodeItem, TriggerItem, IsUnitHolder, IsCallSite}
use Rattle.points_to_constraints.specs.NodeItems as node_items
use Rattle.points_to_constraints.proofs.CallSites.{site_at, is_site_at, site_of_call, argument_there}
use Rattle.points_to.specs.declared.refusals.RefusedCall.{RefusedCall}
use Rattle.points_to.specs.Closing.{IsLackIn}
use Rattle.points_to.proofs.ItemPlaces.{zip_back}
use Rattle.points_to.proofs.PairedFacts.{known_there, fact_there}

-- ---- where constraints that select come from

-- The call is that of a node of a method that may run, and the holder is that of its first argument.
pub record IsSelectingNode (gives : GivenAs) (T : RuleItem → Type 0) (from : Holder) (site : CallSite) : Type 0 where
  pub m : MethodNo
  pub l : LoweredMethod
  pub n : Node
  pub stands : IsNodeOf gives m l n
  pub runs : T (known (may_run m))
  pub call : NodeCall
  pub is_call : n.op ≡ ops.Call call
  pub is_site : IsCallSite m l n call site
  pub receiver : slice_get site.arguments 0 ≡ Some (Some from)

-- A constraint that selects is that of such a node.
abbrev ComesFromNode : GivenAs → (RuleItem → Type 0) → RuleItem → Type 0
ComesFromNode gives T x = (from : Holder) (site : CallSite) → x ≡ constrained from (dispatch site) → IsSelectingNode gives T from site

module _ (p : Program) (gives : GivenAs) (T : RuleItem → Type 0) where
  -- items of other kinds
  no_constraint : (x : RuleItem) (f : Fact) → x ≡ known f → ComesFromNode gives T x
  no_constraint x f e from site is = absurd cc

  other_constraint : (x : RuleItem) (h : Holder) (u : Constraint) → x ≡ constrained h u → ((site : CallSite) → u ≡ dispatch site → ⊥) → ComesFromNode gives T x
  other_constraint x h u e apart from site is = absurd (apart site cc)

  from_start : (entry : MethodNo) (x : RuleItem) → StartItem p entry x → ComesFromNode gives T x
  from_start entry x (item_rules.entry_runs e) = no_constraint x _ e
  from_start entry x (item_rules.entry_called e) = no_constraint x _ e
  from_start entry x (item_rules.entry_argument has e) = no_constraint x _ e
  from_start entry x (item_rules.entry_strings has e) = no_constraint x _ e
  from_start entry x (item_rules.initialiser_runs m i stands is e) = no_constraint x _ e
  from_start entry x (item_rules.keep_thrown m i stands is e) = other_constraint x _ _ e (λ site is. cc)

  unit_constraint : (kind : CallKind) (resolved : MethodNo) (unit : ℕ) (to : Holder) (u : Constraint) → GivesUnit kind p resolved unit to u → (site : CallSite) → u ≡ dispatch site → ⊥
  unit_constraint kind resolved (suc unit) to u e site is = cc
  unit_constraint Virtual resolved zero to u none site is = none
  unit_constraint Special resolved zero to u (m, stands, e) site is = cc
  unit_constraint Static resolved zero to u e site is = cc
  unit_constraint Interface resolved zero to u none site is = none

  from_called : (site : CallSite) (target : MethodNo) (x : RuleItem) → CallItem p site target x → ComesFromNode gives T x
  from_called site target x (call_items.runs e) = no_constraint x _ e
  from_called site target x (call_items.pass unit from at passed e) = other_constraint x _ _ e (λ s is. cc)
  from_called site target x (call_items.receive to of_file there e) = other_constraint x _ _ e (λ s is. cc)
  from_called site target x (call_items.target_throws of_file e) = other_constraint x _ _ e (λ s is. cc)
  from_called site target x (call_items.keep_argument stub argument unit from constraint described there is gives_unit e) = other_constraint x _ _ e (unit_constraint site.kind site.resolved unit _ constraint gives_unit)
  from_called site target x (call_items.give_argument stub argument unit from to constraint described there is result gives_unit e) = other_constraint x _ _ e (unit_constraint site.kind site.resolved unit to constraint gives_unit)
  from_called site target x (call_items.give_new stub class to described there result e) = no_constraint x _ e
  from_called site target x (call_items.give_kept stub class to described there is_class result e) = other_constraint x _ _ e (λ s is. cc)
  from_called site target x (call_items.described_throws stub class to described there lands e) = no_constraint x _ e

  from_selected : (site : CallSite) (s : Site) (x : RuleItem) → SelectItem p site s x → ComesFromNode gives T x
  from_selected site s x (call_items.called target selects e) = no_constraint x _ e
  from_selected site s x (call_items.received target selects e) = no_constraint x _ e
  from_selected site s x (call_items.kept target stub argument selects described there is e) = no_constraint x _ e
  from_selected site s x (call_items.given target stub argument to selects described there is result e) = no_constraint x _ e

  from_passed : (constraint : Constraint) (s : Site) (x : RuleItem) → Passed p constraint s x → ComesFromNode gives T x
  from_passed (copy_to to) s x e = no_constraint x _ e
  from_passed (filter_to class to) s x made = no_constraint x _ made.1
  from_passed (load_field field to) s x e = other_constraint x _ _ e (λ site is. cc)
  from_passed (store_field field from) s x e = other_constraint x _ _ e (λ site is. cc)
  from_passed (load_elements to) s x e = other_constraint x _ _ e (λ site is. cc)
  from_passed (store_elements from) s x e = other_constraint x _ _ e (λ site is. cc)
  from_passed (throw_to catch_chain) s x made = no_constraint x _ made.1.2
  from_passed (rethrow_to catch_chain) s x made = no_constraint x _ made.2
  from_passed (dispatch site) s x made = from_selected site s x made

  -- ---- at a node of a method that may run

  module _ (m : MethodNo) (l : LoweredMethod) (n : Node) (stands : IsNodeOf gives m l n) (runs : T (known (may_run m))) where
    from_call_node : (c : NodeCall) (x : RuleItem) → n.op ≡ ops.Call c → CallNodeItem m l n c x → ComesFromNode gives T x
    from_call_node c x op (node_items.chosen target is e) = no_constraint x _ e
    from_call_node c x op (node_items.selecting own first kind is_site at e) = λ from site is.
        let constraints : constrained first (dispatch own) ≡ constrained from (dispatch site) = sym e ∙ is in
        let froms : first ≡ from = cc in
        let sites : own ≡ site = cc in
        let at_from : slice_get own.arguments 0 ≡ Some (Some from) = at ∙ ap (λ (h : Holder). Some (Some h)) froms in
        record {
          m = m;
          l = l;
          n = n;
          stands = stands;
          runs = runs;
          call = c;
          is_call = op;
          is_site = subst (λ (s : CallSite). IsCallSite m l n c s) sites is_site;
          receiver = subst (λ (s : CallSite). slice_get s.arguments 0 ≡ Some (Some from)) sites at_from;
        }

    from_load_static : (field : _) (target : ℕ) (x : RuleItem) → LoadStaticItem p l n field target x → ComesFromNode gives T x
    from_load_static field target x (node_items.read to after e) = other_constraint x _ _ e (λ site is. cc)
    from_load_static field target x (node_items.begin class begins e) = no_constraint x _ e

    from_new_array : (sites : List Site) (target : ℕ) (x : RuleItem) → NewArrayItem l n sites target x → ComesFromNode gives T x
    from_new_array sites target x (node_items.first s at made) = no_constraint x _ made.2
    from_new_array sites target x (node_items.nest i outer inner at next e) = no_constraint x _ e

    from_op : (op : Op) (x : RuleItem) → n.op ≡ op → OpItem op p m l n x → ComesFromNode gives T x
    from_op (ops.Assign changes) x is made = absurd made
    from_op (ops.Load object field target) x is made = other_constraint x _ _ made.4 (λ site e. cc)
    from_op (ops.Store object field value) x is made = other_constraint x _ _ made.4 (λ site e. cc)
    from_op (ops.LoadElement array target) x is made = other_constraint x _ _ made.4 (λ site e. cc)
    from_op (ops.StoreElement array value) x is made = other_constraint x _ _ made.4 (λ site e. cc)
    from_op (ops.LoadStatic field target) x is made = from_load_static field target x made
    from_op (ops.StoreStatic field value) x is made = other_constraint x _ _ made.2 (λ site e. cc)
    from_op (ops.New s target) x is made = no_constraint x _ made.2
    from_op (ops.NewArray sites target) x is made = from_new_array sites target x made
    from_op (ops.Constant s target) x is made = no_constraint x _ made.2
    from_op (ops.Call c) x is made = from_call_node c x is made
    from_op (ops.Return None) x is made = absurd made
    from_op (ops.Return (Some value)) x is made = other_constraint x _ _ made.2 (λ site e. cc)
    from_op (ops.Throw value) x is made = other_constraint x _ _ made.4 (λ site e. cc)
    from_op (ops.Cast class slot) x is made = other_constraint x _ _ made.4 (λ site e. cc)
    from_op (ops.Probe slot) x is made = absurd made

    from_flow : (x : RuleItem) → FlowItem l n x → ComesFromNode gives T x
    from_flow x (node_items.keep z from to inside effect slot merged e) = other_constraint x _ _ e (λ site is. cc)
    from_flow x (node_items.move y z from to inside effect slot merged e) = other_constraint x _ _ e (λ site is. cc)

    from_trigger : (x : RuleItem) → TriggerItem p m l n x → ComesFromNode gives T x
    from_trigger x (node_items.runs i starts e) = no_constraint x _ e
    from_trigger x (node_items.keeps_thrown i starts e) = other_constraint x _ _ e (λ site is. cc)
    from_trigger x (node_items.throws i catch_chain starts is e) = other_constraint x _ _ e (λ site is. cc)

    from_node : (x : RuleItem) → NodeItem p m l n x → ComesFromNode gives T x
    from_node x (node_items.flows made) = from_flow x made
    from_node x (node_items.enters made) = other_constraint x _ _ made.is (λ site is. cc)
    from_node x (node_items.handles made) = other_constraint x _ _ made.is (λ site is. cc)
    from_node x (node_items.operates made) = from_op n.op x refl made
    from_node x (node_items.raises made) = no_constraint x _ made.is
    from_node x (node_items.triggers made) = from_trigger x made

-- ---- the whole

-- The item is there, and comes from such a node if it is a constraint that selects.
abbrev ComesThere : GivenAs → List RuleItem → RuleItem → Type 0
ComesThere gives xs x = Contains xs x × ComesFromNode gives (Contains xs) x

comes_closed : (p : Program) (gives : GivenAs) (entry : MethodNo) (xs : List RuleItem) → IsClosedSet (ItemInstance p gives entry) (Contains xs) → IsClosedSet (ItemInstance p gives entry) (ComesThere gives xs)
comes_closed p gives entry xs closed premises x i hold = (closed premises x i (Hold-larger (ComesThere gives xs) (Contains xs) (λ y h. h.0) premises hold), by i)
  where
    by : ItemInstance p gives entry premises x → ComesFromNode gives (Contains xs) x
    by (of_start none made) = from_start p gives (Contains xs) entry x made
    by (of_node m l n are stands made) =
        let h = subst (λ (items : List RuleItem). Hold (ComesThere gives xs) items) are hold in
        from_node p gives (Contains xs) m l n stands h.0.0 x made
    by (of_call m l n c site target are stands op is_site made) = from_called p gives (Contains xs) site target x made
    by (of_constraint from constraint s are made) = from_passed p gives (Contains xs) constraint s x made

module _ (p : Program) (gives : GivenAs) (entry : MethodNo) (xs : List RuleItem) (least : IsLeast (ItemInstance p gives entry) xs) where
  selecting_node : (from : Holder) (site : CallSite) → Contains xs (constrained from (dispatch site)) → IsSelectingNode gives (Contains xs) from site
  selecting_node from site c =
      let d = All-contains (IsDerivable (ItemInstance p gives entry)) xs (constrained from (dispatch site)) least.derivable c in
      (derivable_in_closed (ItemInstance p gives entry) (ComesThere gives xs) (constrained from (dispatch site)) d (comes_closed p gives entry xs least.closed)).1 from site refl

  receiver_of : (l : LoweredMethod) (n : Node) (units : List (Option ℕ)) (arguments : List (Option Holder)) (from : Holder) → AllZip (IsUnitHolder l n) units arguments → slice_get arguments 0 ≡ Some (Some from)
      → (z : ℕ) × (slice_get units 0 ≡ Some (Some z)) × IsSlot l n z from
  receiver_of l n units arguments from all e = let (unit, at, is) = zip_back (IsUnitHolder l n) units arguments all 0 (Some from) e in by unit at is
    where
      by : (unit : Option ℕ) → slice_get units 0 ≡ Some unit → IsUnitHolder l n unit (Some from) → (z : ℕ) × (slice_get units 0 ≡ Some (Some z)) × IsSlot l n z from
      by None at is = absurd is
      by (Some z) at is = (z, at, is)

  pub lack_is_refused : (c : RefusedCall) → IsLackIn p (Contains xs) c → IsRefusedCall p gives (Contains (facts_of xs)) c.method c.offset c.reason
  lack_is_refused c lack =
      let node = selecting_node lack.from lack.call lack.constrains in
      let ats : node_of node.m node.n ≡ record { method = Some c.method; offset = c.offset } = sym node.is_site.at ∙ lack.at in
      let methods : node.m ≡ c.method = same_Some node.m c.method (ap (λ (at : NodeRef). at.method) ats) in
      let receiver = receiver_of node.l node.n node.call.arguments lack.call.arguments lack.from node.is_site.arguments node.receiver in
      let kinds = subst (λ (k : CallKind). LacksTarget p k lack.call.resolved lack.s c.reason) node.is_site.kind lack.lacks in
      record {
        runs = subst (λ (k : MethodNo). Contains (facts_of xs) (may_run k)) methods (fact_there xs (may_run node.m) node.runs);
        method = node.l;
        node = node.n;
        stands = subst (λ (k : MethodNo). IsNodeOf gives k node.l node.n) methods node.stands;
        at = ap (λ (at : NodeRef). at.offset) ats;
        call = node.call;
        is_call = node.is_call;
        z = receiver.0;
        receiver = receiver.1;
        holder = lack.from;
        slot = receiver.2;
        site = lack.s;
        held = fact_there xs (may_hold lack.from lack.s) lack.holds;
        lacks = subst (λ (k : MethodNo). LacksTarget p node.call.kind k lack.s c.reason) node.is_site.resolved kinds;
      }

  -- ---- the other way round

  selects_by_kind : (kind : CallKind) (resolved : MethodNo) (s : Site) (outcome : _) → SelectsFor kind p resolved s outcome → is_selecting_kind kind ≡ true
  selects_by_kind Virtual resolved s outcome h = refl
  selects_by_kind Special resolved s outcome none = absurd none
  selects_by_kind Static resolved s outcome none = absurd none
  selects_by_kind Interface resolved s outcome h = refl

  lacks_by_kind : (kind : CallKind) (resolved : MethodNo) (s : Site) (reason : Reason) → LacksTarget p kind resolved s reason → is_selecting_kind kind ≡ true
  lacks_by_kind kind resolved s reason (not_selected selects) = selects_by_kind kind resolved s (Err reason) selects
  lacks_by_kind kind resolved s reason (not_described target selects undescribed is) = selects_by_kind kind resolved s (Ok target) selects

  pub refused_is_lack : AreWholeMethods p gives → (m : MethodNo) (offset : ℕ) (reason : Reason) → IsRefusedCall p gives (Contains (facts_of xs)) m offset reason
      → IsLackIn p (Contains xs) (record { method = m; offset = offset; reason = reason })
  refused_is_lack methods m offset reason h =
      let is_method = methods m.0 h.method h.stands.given in
      let has = site_of_call m.0 m h.method is_method h.node h.stands.stands h.call in
      let site = site_at m h.method h.node h.call has in
      let is_site = is_site_at m h.method h.node h.call has in
      let first = argument_there m h.method is_method.reached h.node h.stands.stands h.call has 0 h.z h.holder h.receiver h.slot in
      let made : CallNodeItem m h.method h.node h.call (constrained h.holder (dispatch site)) = node_items.selecting site h.holder (lacks_by_kind h.call.kind h.call.resolved h.site reason h.lacks) is_site first refl in
      let at_op : OpItem h.node.op p m h.method h.node (constrained h.holder (dispatch site)) = subst (λ (op : Op). OpItem op p m h.method h.node (constrained h.holder (dispatch site))) (sym h.is_call) made in
      let runs = known_there xs (may_run m) h.runs in
      record {
        from = h.holder;
        call = site;
        s = h.site;
        constrains = least.closed (known (may_run m) ∷ []) (constrained h.holder (dispatch site)) (of_node m h.method h.node refl h.stands (node_items.operates at_op)) (runs, tt);
        holds = known_there xs (may_hold h.holder h.site) h.held;
        at = ap (λ (k : ℕ). record { method = Some m; offset = k }) h.at;
        lacks = h.lacks;
      }
