-- The method that a call goes to is one of its targets, and what it passes suits the rules.
use Rattle.std.proofs.Common.{◌≡◌, ℕ, zero, suc, Bool, true, false, List, Some, Result, Ok, Err, refl, sym, ap, ◌∙◌, subst}
use Rattle.std.specs.Prelude.{slice_get}
use Rattle.std.proofs.lemmas.Option.{same_Some}
use Rattle.jvm_model.specs.declared.number.MethodNo.{MethodNo}
use Rattle.jvm_model.specs.declared.reason.Reason.{Reason}
use Rattle.jvm_model.specs.declared.reason.Reason.TheVariants.{NoImplementation, PackageOverride}
use Rattle.jvm_model.specs.declared.site.Site.{Site}
use Rattle.jvm_model.specs.Programs.{Program, Method, is_abstract}
use Rattle.jvm_model.specs.Selection.{Selects, selected, no_code, hidden}
use Rattle.jvm_model.specs.Subtypes.{Fits}
use Rattle.least_sets.specs.Rules.{IsClosedSet}
use Rattle.op_model.specs.declared.lowered.LoweredMethod.{LoweredMethod}
use Rattle.op_model.specs.declared.node.Node.{Node}
use Rattle.op_model.specs.declared.op.Call.{Call as NodeCall}
use Rattle.op_model.specs.declared.op.CallKind.{CallKind}
use Rattle.op_model.specs.declared.op.CallKind.TheVariants.{Virtual, Special, Static, Interface}
use Rattle.op_model.specs.declared.op.Op.TheVariants.{Call}
use Rattle.op_model.specs.Supplies.{GivenAs}
use Rattle.machine_bytecode.specs.Machine.{SelectsByObject, selecting_class}
use Rattle.machine_bytecode.specs.Objects.{Subject, IsOf}
use Rattle.machine_bytecode.specs.States.{Value, reference_to, Object, World, slot_at}
use Rattle.machine_nodes.specs.NodeSteps.{IsTargetOf}
use Rattle.machine_nodes.specs.Slots.{argument_values}
use Rattle.points_to_rules.specs.Calls.{SelectsAs, SelectsFor, IsReceiver, MayPass, MayBeGiven}
use Rattle.points_to_rules.specs.Facts.{Fact, may_hold, may_run, may_call}
use Rattle.points_to_rules.specs.Refusals.{not_selected}
use Rattle.points_to_rules.specs.Rules.{IsNodeOf, node_of, Instance, call_chosen, call_selected}
use Rattle.points_to_rules.specs.WholeMethods.{AreWholeMethods}
use Rattle.coverage.proofs.RefusedCalls.{HasNoRefusedCall}
use Rattle.coverage.specs.Covering.{MayHold, IsCoveredWorld}
use Rattle.coverage.proofs.Values.{among_from}
use Rattle.coverage.proofs.Within.{same_place}
use Rattle.coverage.proofs.Slots.{AreSlotsCovered, operand_of}
use Rattle.coverage.proofs.Units.{IsUnit, of_slot, of_none, unit_is, argument_there}

-- ---- what suits each kind of call

pass_virtual : (p : Program) (c : NodeCall) (s : Site) (target : MethodNo) (unit : ℕ) → (unit ≡ 0 → SelectsAs false p c.resolved s (Ok target.0)) → MayPass Virtual p c.resolved s target unit
pass_virtual p c s target zero h = h refl
pass_virtual p c s target (suc unit) h = tt

pass_special : (p : Program) (c : NodeCall) (s : Site) (target : MethodNo) (unit : ℕ) → MayPass Special p c.resolved s target unit
pass_special p c s target zero = tt
pass_special p c s target (suc unit) = tt

pass_static : (p : Program) (c : NodeCall) (s : Site) (target : MethodNo) (unit : ℕ) → MayPass Static p c.resolved s target unit
pass_static p c s target zero = tt
pass_static p c s target (suc unit) = tt

pass_interface : (p : Program) (c : NodeCall) (s : Site) (target : MethodNo) (unit : ℕ) → (unit ≡ 0 → SelectsAs true p c.resolved s (Ok target.0)) → MayPass Interface p c.resolved s target unit
pass_interface p c s target zero h = h refl
pass_interface p c s target (suc unit) h = tt

given_virtual : (p : Program) (c : NodeCall) (s : Site) (target : MethodNo) (unit : ℕ) → (unit ≡ 0 → SelectsAs false p c.resolved s (Ok target.0)) → MayBeGiven Virtual p c.resolved s target unit
given_virtual p c s target zero h = h refl
given_virtual p c s target (suc unit) h = tt

given_special : (p : Program) (c : NodeCall) (s : Site) (target : MethodNo) (unit : ℕ) → (unit ≡ 0 → IsReceiver p c.resolved s) → MayBeGiven Special p c.resolved s target unit
given_special p c s target zero h = h refl
given_special p c s target (suc unit) h = tt

given_static : (p : Program) (c : NodeCall) (s : Site) (target : MethodNo) (unit : ℕ) → MayBeGiven Static p c.resolved s target unit
given_static p c s target zero = tt
given_static p c s target (suc unit) = tt

given_interface : (p : Program) (c : NodeCall) (s : Site) (target : MethodNo) (unit : ℕ) → (unit ≡ 0 → SelectsAs true p c.resolved s (Ok target.0)) → MayBeGiven Interface p c.resolved s target unit
given_interface p c s target zero h = h refl
given_interface p c s target (suc unit) h = tt

-- ---- selection

-- without a refusal the selected method is the outcome
selects_as : (p : Program) (by_interface : Bool) (c : NodeCall) (s : Site) → IsReceiver p c.resolved s → (target : ℕ) (m : Method) → slice_get p.methods target ≡ Some m
    → Selects p by_interface (selecting_class s.class) c.resolved.0 target → ((reason : Reason) → SelectsAs by_interface p c.resolved s (Err reason) → ⊥) → SelectsAs by_interface p c.resolved s (Ok target)
selects_as p by_interface c s receiver target m stands selects refused = by (is_abstract m) refl
  where
    by : (b : Bool) → is_abstract m ≡ b → SelectsAs by_interface p c.resolved s (Ok target)
    by true e = absurd (refused NoImplementation (receiver, no_code target m selects stands e refl))
    by false e = (receiver, selected target m selects stands e (λ other. refused PackageOverride (receiver, hidden target m selects stands e other refl)) refl)

-- a reference that is the first unit is that of a slot
pub record IsFirstUnit (c : NodeCall) (slots : List Value) (place : ℕ) : Type 0 where
  pub z : ℕ
  pub at : slice_get c.arguments 0 ≡ Some (Some z)
  pub is : slot_at slots z ≡ reference_to place

pub first_unit : (c : NodeCall) (slots : List Value) (place : ℕ) → slot_at (argument_values c.arguments slots) 0 ≡ reference_to place → IsFirstUnit c slots place
first_unit c slots place e = by (unit_is c.arguments slots 0)
  where
    by : IsUnit c.arguments slots 0 → IsFirstUnit c slots place
    by (of_slot z at same) = record { z = z; at = at; is = sym same ∙ e }
    by (of_none none) = absurd (let both = sym none ∙ e in cc)

-- the object of the first unit is the one that the slot leads to
same_object : (c : NodeCall) (slots : List Value) (heap : List Object) (place : ℕ) (o : Object) → slot_at (argument_values c.arguments slots) 0 ≡ reference_to place → slice_get heap place ≡ Some o
    → (unit z other : ℕ) (q : Object) → unit ≡ 0 → slice_get c.arguments unit ≡ Some (Some z) → slot_at slots z ≡ reference_to other → slice_get heap other ≡ Some q → o ≡ q
same_object c slots heap place o is held unit z other q first at is_other held_other =
    let f = first_unit c slots place is in
    let slots_same : f.z ≡ z = same_slot f.z z (sym f.at ∙ ap (slice_get c.arguments) (sym first) ∙ at) in
    let places : place ≡ other = same_place place other (sym f.is ∙ ap (slot_at slots) slots_same ∙ is_other) in
    same_Some o q (sym held ∙ ap (slice_get heap) places ∙ held_other)
  where
    same_slot : (a b : ℕ) → Some (Some a) ≡ Some (Some b) → a ≡ b
    same_slot a b e = cc

module _ (x : Subject) (gives : GivenAs) (S : Fact → Type 0) (closed : IsClosedSet (Instance x.program gives (record { 0 = x.entry })) S) (whole : AreWholeMethods x.program gives)
    (unrefused : HasNoRefusedCall x.program gives S) where
  -- the method is a target of the call at a node, and each object that is passed may be
  pub record IsTargeted (m : MethodNo) (n : Node) (c : NodeCall) (target : MethodNo) (heap : List Object) (slots : List Value) : Type 0 where
    pub called : S (may_call (node_of m n) target)
    pub passes : (unit z place : ℕ) (o : Object) → slice_get c.arguments unit ≡ Some (Some z) → slot_at slots z ≡ reference_to place → slice_get heap place ≡ Some o
        → MayPass c.kind x.program c.resolved o.site target unit
    pub suits : (unit z place : ℕ) (o : Object) → slice_get c.arguments unit ≡ Some (Some z) → slot_at slots z ≡ reference_to place → slice_get heap place ≡ Some o
        → MayBeGiven c.kind x.program c.resolved o.site target unit

  module _ (m : MethodNo) (l : LoweredMethod) (n : Node) (is : IsNodeOf gives m l n) (runs : S (may_run m)) (c : NodeCall) (is_call : n.op ≡ Call c)
      (w : World) (covered : IsCoveredWorld x gives S w) (slots : List Value) (before : AreSlotsCovered S l n w.heap slots)
      (resolved : Method) (stands : slice_get x.program.methods c.resolved.0 ≡ Some resolved) (target : ℕ) (t : Method) (there : slice_get x.program.methods target ≡ Some t) where
    abbrev chosen : MethodNo
    chosen = record { 0 = target }

    receiver_of : (o : IsOf x.program resolved.class w (slot_at (argument_values c.arguments slots) 0)) → IsReceiver x.program c.resolved o.to.object.site
    receiver_of o = record {
      method = resolved;
      stands = stands;
      fits = subst (λ (class : List ℕ). Fits x.program resolved.class class) (covered.objects o.to.place o.to.object o.to.held).of_class o.fits;
    }

    by_object : (by_interface : Bool) → ((s : Site) (outcome : Result ℕ Reason) → SelectsAs by_interface x.program c.resolved s outcome → SelectsFor c.kind x.program c.resolved s outcome)
        → ((s : Site) (unit : ℕ) → (unit ≡ 0 → SelectsAs by_interface x.program c.resolved s (Ok target)) → MayPass c.kind x.program c.resolved s chosen unit)
        → ((s : Site) (unit : ℕ) → (unit ≡ 0 → SelectsAs by_interface x.program c.resolved s (Ok target)) → MayBeGiven c.kind x.program c.resolved s chosen unit)
        → SelectsByObject x.program by_interface resolved c.resolved.0 w (argument_values c.arguments slots) target → IsTargeted m n c chosen w.heap slots
    by_object by_interface for_kind pass_kind given_kind h =
        let to = h.receiver.to in
        let first = first_unit c slots to.place to.is in
        let o = operand_of x gives S closed whole m l n (Call c) first.z w.heap slots is is_call (argument_there c.arguments 0 first.z first.at) before in
        let held : S (may_hold o.holder to.object.site) = among_from (MayHold S o.holder) w.heap (slot_at slots first.z) to.place to.object o.covered first.is to.held in
        let selects : Selects x.program by_interface (selecting_class to.object.site.class) c.resolved.0 target =
        subst (λ (class : List ℕ). Selects x.program by_interface (selecting_class class) c.resolved.0 target) (covered.objects to.place to.object to.held).of_class h.selects in
        let ok : SelectsAs by_interface x.program c.resolved to.object.site (Ok target) =
        selects_as x.program by_interface c to.object.site (receiver_of h.receiver) target t there selects (λ reason lacks. unrefused m n.offset reason (record {
          runs = runs;
          method = l;
          node = n;
          stands = is;
          at = refl;
          call = c;
          is_call = is_call;
          z = first.z;
          receiver = first.at;
          holder = o.holder;
          slot = o.slot;
          site = to.object.site;
          held = held;
          lacks = not_selected (for_kind to.object.site (Err reason) lacks);
        })) in
        let at_first : (unit z place : ℕ) (q : Object) → slice_get c.arguments unit ≡ Some (Some z) → slot_at slots z ≡ reference_to place → slice_get w.heap place ≡ Some q
        → unit ≡ 0 → SelectsAs by_interface x.program c.resolved q.site (Ok target) =
        λ unit z place q at is_place held_place zero_unit. subst (λ (p : Object). SelectsAs by_interface x.program c.resolved p.site (Ok target))
        (same_object c slots w.heap to.place to.object to.is to.held unit z place q zero_unit at is_place held_place) ok in
        record {
          called = closed _ _ (call_selected m l n c first.z o.holder to.object.site chosen is is_call first.at o.slot (for_kind to.object.site (Ok target) ok)) (runs, (held, tt));
          passes = λ unit z place q at is_place held_place. pass_kind q.site unit (at_first unit z place q at is_place held_place);
          suits = λ unit z place q at is_place held_place. given_kind q.site unit (at_first unit z place q at is_place held_place);
        }

    pub targeted : IsTargetOf c.kind x.program c resolved w (argument_values c.arguments slots) target → IsTargeted m n c chosen w.heap slots
    targeted h = by c.kind refl h
      where
        by : (k : CallKind) → c.kind ≡ k → IsTargetOf k x.program c resolved w (argument_values c.arguments slots) target → IsTargeted m n c chosen w.heap slots
        by Virtual e t =
            by_object false (λ s outcome g. subst (λ (k : CallKind). SelectsFor k x.program c.resolved s outcome) (sym e) g)
            (λ s unit g. subst (λ (k : CallKind). MayPass k x.program c.resolved s chosen unit) (sym e) (pass_virtual x.program c s chosen unit g))
            (λ s unit g. subst (λ (k : CallKind). MayBeGiven k x.program c.resolved s chosen unit) (sym e) (given_virtual x.program c s chosen unit g)) t
        by Special e t = record {
          called = closed _ _ (call_chosen m l n c chosen is is_call t.1) (runs, tt);
          passes = λ unit z place q at is_place held. subst (λ (k : CallKind). MayPass k x.program c.resolved q.site chosen unit) (sym e) (pass_special x.program c q.site chosen unit);
          suits = λ unit z place q at is_place held. subst (λ (k : CallKind). MayBeGiven k x.program c.resolved q.site chosen unit) (sym e)
              (given_special x.program c q.site chosen unit (λ zero_unit. subst (λ (p : Object). IsReceiver x.program c.resolved p.site)
              (same_object c slots w.heap t.0.to.place t.0.to.object t.0.to.is t.0.to.held unit z place q zero_unit at is_place held) (receiver_of t.0)));
        }
        by Static e t = record {
          called = closed _ _ (call_chosen m l n c chosen is is_call t) (runs, tt);
          passes = λ unit z place q at is_place held. subst (λ (k : CallKind). MayPass k x.program c.resolved q.site chosen unit) (sym e) (pass_static x.program c q.site chosen unit);
          suits = λ unit z place q at is_place held. subst (λ (k : CallKind). MayBeGiven k x.program c.resolved q.site chosen unit) (sym e) (given_static x.program c q.site chosen unit);
        }
        by Interface e t =
            by_object true (λ s outcome g. subst (λ (k : CallKind). SelectsFor k x.program c.resolved s outcome) (sym e) g)
            (λ s unit g. subst (λ (k : CallKind). MayPass k x.program c.resolved s chosen unit) (sym e) (pass_interface x.program c s chosen unit g))
            (λ s unit g. subst (λ (k : CallKind). MayBeGiven k x.program c.resolved s chosen unit) (sym e) (given_interface x.program c s chosen unit g)) t
