-- Facts that follow from the nodes of a method that may run, calls aside: where the items are closed by the rules of items, they have them.
use Rattle.std.proofs.Common.{codes, ◌≡◌, ◌⊎◌, inl, inr, ℕ, ◌+◌, ◌<◌, List, Some, slice_get, Contains, refl, subst}
use Rattle.jvm_model.specs.declared.number.ClassNo.{ClassNo}
use Rattle.jvm_model.specs.declared.number.FieldNo.{FieldNo}
use Rattle.jvm_model.specs.declared.number.MethodNo.{MethodNo}
use Rattle.jvm_model.specs.declared.site.Site.{Site}
use Rattle.jvm_model.specs.declared.site.SiteKind.TheVariants as kinds
use Rattle.jvm_model.specs.Programs.{Program}
use Rattle.jvm_model.specs.Subtypes.{Fits}
use Rattle.op_model.specs.declared.lowered.LoweredMethod.{LoweredMethod}
use Rattle.op_model.specs.declared.node.Node.{Node}
use Rattle.op_model.specs.declared.node.NodeHandler.{NodeHandler}
use Rattle.op_model.specs.declared.op.Op.TheVariants.{Load, Store, LoadElement, StoreElement, LoadStatic, StoreStatic, New, NewArray, Constant, Return, Throw, Cast}
use Rattle.op_model.specs.Supplies.{GivenAs}
use Rattle.machine_bytecode.specs.Start.{boot_site}
use Rattle.machine_nodes.specs.Nodes.{IsClassNumber}
use Rattle.slot_names.specs.declared.variable.Variable.TheVariants.{Parameter}
use Rattle.slot_names.specs.Variables.{keeps, moves, effect_on, IsFirstNode, IsMerge}
use Rattle.slot_names.proofs.MergePoints.{merge_or_not}
use Rattle.least_sets.specs.Rules.{Hold}
use Rattle.points_to_rules.specs.Facts.{Holder, variable, field_of, elements_of, static_field, kept_objects, returned_by, thrown_by, Fact, may_hold, may_run}
use Rattle.points_to_rules.specs.Rules.{site_of, IsSlot, IsSlotAfter, IsSlotAt, Lands, StartsAt, MayStart, before_entry, at_node, BeginsWith}
use Rattle.points_to_constraints.specs.ItemRules.{initialiser_runs, keep_thrown}
use Rattle.points_to_constraints.specs.Items.{copy_to, filter_to, load_field, store_field, load_elements, store_elements, throw_to, rethrow_to, Item, known, constrained}
use Rattle.points_to_constraints.specs.NodeItems.{IsSlotMerged, keep, move, read, begin, first, nest, runs, keeps_thrown, throws, flows, enters, handles, raises, triggers}
use Rattle.points_to_constraints.proofs.CallSites.{lands_there}
use Rattle.points_to_constraints.proofs.Closing.{IsClosing, IsRunning, by_start, by_constraint, passes, all_reached, own_number, by_node, by_operation, catch_chain_at}
use Rattle.points_to_constraints.proofs.Holders.{kept_holder, moved_holder, entered_holder}

-- a fact of one holder is that of the same one
held_as : (T : Item → Type 0) (s : Site) (h g : Holder) → h ≡ g → T (known (may_hold h s)) → T (known (may_hold g s))
held_as T s h g e holds = subst (λ (k : Holder). T (known (may_hold k s))) e holds

module _ {p : Program} {gives : GivenAs} {entry : MethodNo} {T : Item → Type 0} (h : IsClosing p gives entry T) where
  module _ {m : MethodNo} {l : LoweredMethod} {n : Node} (here : IsRunning gives T m l n) where
    -- ---- slots from node to node

    merged_after : (z : ℕ) (to : Holder) (after : IsSlotAfter l n z to) → IsMerge l after.next → IsSlotMerged l n z to
    merged_after z to after merge = record { next = after.next; stands = after.stands; leads = after.leads; merge = merge; slot = after.slot }

    pub keep_closed : (z : ℕ) (from to : Holder) (s : Site) → z < l.slots + l.stack → effect_on z n.op ≡ keeps → IsSlot l n z from → IsSlotAfter l n z to → T (known (may_hold from s)) → T (known (may_hold to s))
    keep_closed z from to s inside effect slot after holds = by (merge_or_not l (all_reached h here.is_node) after.next after.stands)
      where
        by : IsMerge l after.next ⊎ (IsMerge l after.next → ⊥) → T (known (may_hold to s))
        by (inl merge) =
            passes h from to s (by_node h here _ (flows (keep z from to inside effect slot (merged_after z to after merge) refl))) holds
        by (inr apart) = held_as T s from to (kept_holder l (all_reached h here.is_node) n z from to after apart effect slot) holds

    pub move_closed : (y z : ℕ) (from to : Holder) (s : Site) → z < l.slots + l.stack → effect_on z n.op ≡ moves y → IsSlot l n y from → IsSlotAfter l n z to → T (known (may_hold from s)) → T (known (may_hold to s))
    move_closed y z from to s inside effect slot after holds = by (merge_or_not l (all_reached h here.is_node) after.next after.stands)
      where
        by : IsMerge l after.next ⊎ (IsMerge l after.next → ⊥) → T (known (may_hold to s))
        by (inl merge) =
            passes h from to s (by_node h here _ (flows (move y z from to inside effect slot (merged_after z to after merge) refl))) holds
        by (inr apart) = held_as T s from to (moved_holder l (all_reached h here.is_node) n y z from to after apart effect slot) holds

    pub enter_closed : (z : ℕ) (to : Holder) (s : Site) → IsFirstNode l n → z < l.slots + l.stack → IsSlot l n z to → T (known (may_hold (variable (Parameter m z)) s)) → T (known (may_hold to s))
    enter_closed z to s is inside slot holds = by (merge_or_not l (all_reached h here.is_node) n here.is_node.stands)
      where
        by : IsMerge l n ⊎ (IsMerge l n → ⊥) → T (known (may_hold to s))
        by (inl merge) =
            let item = enters (record { z = z; inside = inside; first = is; merge = merge; to = to; slot = slot; is = refl }) in
            passes h (variable (Parameter m z)) to s (by_node h here _ item) holds
        by (inr apart) =
            let own = subst (λ (k : MethodNo). variable (Parameter k z) ≡ to) (own_number h here.is_node) (entered_holder l (all_reached h here.is_node) n here.is_node.stands z to apart is slot) in
            held_as T s (variable (Parameter m z)) to own holds

    pub handle_closed : (handler : NodeHandler) (z : ℕ) (from to : Holder) (s : Site) → Contains n.handlers handler → z < l.slots → IsSlot l n z from → IsSlotAt l handler.target z to
        → T (known (may_hold from s)) → T (known (may_hold to s))
    handle_closed handler z from to s covers is_local slot there holds =
        let item = handles (record { handler = handler; covers = covers; z = z; is_local = is_local; from = from; slot = slot; to = to; slot_there = there; is = refl }) in
        passes h from to s (by_node h here _ item) holds

    -- ---- what is loaded, made or cast

    pub load_closed : (object target : ℕ) (field : FieldNo) (from to : Holder) (base s : Site) → n.op ≡ Load object field target → IsSlot l n object from → IsSlotAfter l n target to
        → T (known (may_hold from base)) → T (known (may_hold (field_of base field) s)) → T (known (may_hold to s))
    load_closed object target field from to base s is slot after holds there =
        let reads = by_operation h here (Load object field target) is (constrained from (load_field field to)) (from, to, slot, after, refl) in
        passes h (field_of base field) to s (by_constraint h from (load_field field to) base _ reads holds refl) there

    pub load_element_closed : (array target : ℕ) (from to : Holder) (base s : Site) → n.op ≡ LoadElement array target → IsSlot l n array from → IsSlotAfter l n target to
        → T (known (may_hold from base)) → T (known (may_hold (elements_of base) s)) → T (known (may_hold to s))
    load_element_closed array target from to base s is slot after holds there =
        let reads = by_operation h here (LoadElement array target) is (constrained from (load_elements to)) (from, to, slot, after, refl) in
        passes h (elements_of base) to s (by_constraint h from (load_elements to) base _ reads holds refl) there

    pub load_static_closed : (target : ℕ) (field : FieldNo) (to : Holder) (s : Site) → n.op ≡ LoadStatic field target → IsSlotAfter l n target to
        → T (known (may_hold (static_field field) s)) → T (known (may_hold to s))
    load_static_closed target field to s is after holds = passes h (static_field field) to s (by_operation h here (LoadStatic field target) is _ (read to after refl)) holds

    pub make_closed : (target : ℕ) (to : Holder) (s : Site) → n.op ≡ New s target → IsSlotAfter l n target to → T (known (may_hold to s))
    make_closed target to s is after = by_operation h here (New s target) is _ (to, after, refl)

    pub make_array_closed : (sites : List Site) (target : ℕ) (to : Holder) (s : Site) → n.op ≡ NewArray sites target → slice_get sites 0 ≡ Some s → IsSlotAfter l n target to → T (known (may_hold to s))
    make_array_closed sites target to s is e after = by_operation h here (NewArray sites target) is _ (first s e (to, after, refl))

    pub get_constant_closed : (target : ℕ) (to : Holder) (s : Site) → n.op ≡ Constant s target → IsSlotAfter l n target to → T (known (may_hold to s))
    get_constant_closed target to s is after = by_operation h here (Constant s target) is _ (to, after, refl)

    pub cast_closed : (class : List ℕ) (slot : ℕ) (from to : Holder) (s : Site) → n.op ≡ Cast class slot → IsSlot l n slot from → IsSlotAfter l n slot to → Fits p class s.class
        → T (known (may_hold from s)) → T (known (may_hold to s))
    cast_closed class slot from to s is before after fits holds =
        let reads = by_operation h here (Cast class slot) is (constrained from (filter_to class to)) (from, to, before, after, refl) in
        by_constraint h from (filter_to class to) s _ reads holds (fits, refl)

    -- ---- what is stored, and with what places begin

    pub store_closed : (object value : ℕ) (field : FieldNo) (into from : Holder) (base s : Site) → n.op ≡ Store object field value → IsSlot l n object into → IsSlot l n value from
        → T (known (may_hold into base)) → T (known (may_hold from s)) → T (known (may_hold (field_of base field) s))
    store_closed object value field into from base s is slot stored holds there =
        let writes = by_operation h here (Store object field value) is (constrained into (store_field field from)) (into, from, slot, stored, refl) in
        passes h from (field_of base field) s (by_constraint h into (store_field field from) base _ writes holds refl) there

    pub store_element_closed : (array value : ℕ) (into from : Holder) (base s : Site) → n.op ≡ StoreElement array value → IsSlot l n array into → IsSlot l n value from
        → T (known (may_hold into base)) → T (known (may_hold from s)) → T (known (may_hold (elements_of base) s))
    store_element_closed array value into from base s is slot stored holds there =
        let writes = by_operation h here (StoreElement array value) is (constrained into (store_elements from)) (into, from, slot, stored, refl) in
        passes h from (elements_of base) s (by_constraint h into (store_elements from) base _ writes holds refl) there

    pub store_static_closed : (value : ℕ) (field : FieldNo) (from : Holder) (s : Site) → n.op ≡ StoreStatic field value → IsSlot l n value from
        → T (known (may_hold from s)) → T (known (may_hold (static_field field) s))
    store_static_closed value field from s is slot holds = passes h from (static_field field) s (by_operation h here (StoreStatic field value) is _ (from, slot, refl)) holds

    pub nest_closed : (sites : List Site) (target i : ℕ) (outer inner : Site) → n.op ≡ NewArray sites target → slice_get sites i ≡ Some outer → slice_get sites (i + 1) ≡ Some inner
        → T (known (may_hold (elements_of outer) inner))
    nest_closed sites target i outer inner is e f = by_operation h here (NewArray sites target) is _ (nest i outer inner e f refl)

    pub begin_static_closed : (target : ℕ) (field : FieldNo) (class : List ℕ) → n.op ≡ LoadStatic field target → BeginsWith p field class → T (known (may_hold (static_field field) (boot_site class)))
    begin_static_closed target field class is begins = by_operation h here (LoadStatic field target) is _ (begin class begins refl)

    -- ---- what is returned and thrown

    pub return_closed : (value : ℕ) (from : Holder) (s : Site) → n.op ≡ Return (Some value) → IsSlot l n value from → T (known (may_hold from s)) → T (known (may_hold (returned_by m) s))
    return_closed value from s is slot holds = passes h from (returned_by m) s (by_operation h here (Return (Some value)) is _ (from, slot, refl)) holds

    pub throw_closed : (value : ℕ) (from to : Holder) (s : Site) → n.op ≡ Throw value → IsSlot l n value from → Fits p (codes "java/lang/Throwable") s.class → Lands p m l n s.class to
        → T (known (may_hold from s)) → T (known (may_hold to s))
    throw_closed value from to s is slot fits lands holds =
        let catch_chain = catch_chain_at h here.is_node in
        let throws = by_operation h here (Throw value) is (constrained from (throw_to catch_chain.0)) (catch_chain.0, from, catch_chain.1, slot, refl) in
        by_constraint h from (throw_to catch_chain.0) s _ throws holds (fits, (to, lands_there p m l n (all_reached h here.is_node) s.class to catch_chain.0 catch_chain.1 lands, refl))

    pub raise_closed : (number : ClassNo) (class : List ℕ) (to : Holder) → Contains n.throws number → IsClassNumber p number class → Lands p m l n class to
        → T (known (may_hold to (site_of kinds.Thrown m n class)))
    raise_closed number class to listed is_class lands = by_node h here _ (raises (record { number = number; listed = listed; class = class; is_class = is_class; to = to; lands = lands; is = refl }))

    pub initialiser_throws_closed : (i : MethodNo) (to : Holder) (s : Site) → StartsAt p n i → Lands p m l n s.class to → T (known (may_hold (thrown_by i) s)) → T (known (may_hold to s))
    initialiser_throws_closed i to s starts lands holds =
        let catch_chain = catch_chain_at h here.is_node in
        let thrown = by_node h here (constrained (thrown_by i) (rethrow_to catch_chain.0)) (triggers (throws i catch_chain.0 starts catch_chain.1 refl)) in
        by_constraint h (thrown_by i) (rethrow_to catch_chain.0) s _ thrown holds (to, lands_there p m l n (all_reached h here.is_node) s.class to catch_chain.0 catch_chain.1 lands, refl)

  -- ---- initialisers that may be started

  pub initialiser_runs_closed : (premises : List Fact) (i : MethodNo) → MayStart p gives entry premises i → Hold (λ (f : Fact). T (known f)) premises → T (known (may_run i))
  initialiser_runs_closed premises i (before_entry method stands is e) hold = by_start h _ (initialiser_runs method i stands is refl)
  initialiser_runs_closed premises i (at_node m l n is_node starts e) hold =
      let held = subst (λ (fs : List Fact). Hold (λ (f : Fact). T (known f)) fs) e hold in
      by_node h (record { is_node = is_node; runs = held.0 }) _ (triggers (runs i starts refl))

  thrown_kept : (premises : List Fact) (i : MethodNo) → MayStart p gives entry premises i → Hold (λ (f : Fact). T (known f)) premises → T (constrained (thrown_by i) (copy_to kept_objects))
  thrown_kept premises i (before_entry method stands is e) hold = by_start h _ (keep_thrown method i stands is refl)
  thrown_kept premises i (at_node m l n is_node starts e) hold =
      let held = subst (λ (fs : List Fact). Hold (λ (f : Fact). T (known f)) fs) e hold in
      by_node h (record { is_node = is_node; runs = held.0 }) _ (triggers (keeps_thrown i starts refl))

  pub keep_thrown_closed : (premises : List Fact) (i : MethodNo) (s : Site) → MayStart p gives entry premises i → T (known (may_hold (thrown_by i) s)) → Hold (λ (f : Fact). T (known f)) premises
      → T (known (may_hold kept_objects s))
  keep_thrown_closed premises i s starts holds hold = passes h (thrown_by i) kept_objects s (thrown_kept premises i starts hold) holds
