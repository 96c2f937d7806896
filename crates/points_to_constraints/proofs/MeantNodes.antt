-- In a closed set in which a node's method runs, each item of the node is meant.
use Rattle.std.proofs.Common.{◌≡◌, ℕ, List, [], ◌∷◌, Some, None, refl}
use Rattle.jvm_model.specs.declared.number.FieldNo.{FieldNo}
use Rattle.jvm_model.specs.declared.number.MethodNo.{MethodNo}
use Rattle.jvm_model.specs.declared.site.Site.{Site}
use Rattle.jvm_model.specs.declared.site.SiteKind.TheVariants as kinds
use Rattle.op_model.specs.declared.op.Op.{Op}
use Rattle.op_model.specs.declared.op.Op.TheVariants.{Assign, Load, Store, LoadElement, StoreElement, LoadStatic, StoreStatic, New, NewArray, Constant, Call, Return, Throw, Cast, Probe}
use Rattle.machine_bytecode.specs.Start.{boot_site}
use Rattle.slot_names.specs.declared.variable.Variable.TheVariants.{Parameter}
use Rattle.points_to_rules.specs.Facts.{variable, field_of, elements_of, static_field, kept_objects, returned_by, thrown_by, may_hold, may_run}
use Rattle.points_to_rules.specs.Rules.{MayStart, at_node, site_of, StartsAt}
use Rattle.points_to_rules.specs.Rules as rules
use Rattle.points_to_constraints.specs.Items.{copy_to, load_field, store_field, load_elements, store_elements, throw_to, rethrow_to, filter_to, Item, known, constrained}
use Rattle.points_to_constraints.specs.NodeItems.{FlowItem, EnterItem, HandleItem, LoadStaticItem, NewArrayItem, OpItem, RaiseItem, TriggerItem, NodeItem}
use Rattle.points_to_constraints.specs.NodeItems as node_items
use Rattle.points_to_constraints.proofs.Meanings.{IsMeant, meant_as}
use Rattle.points_to_constraints.proofs.MeantCalls.{meant_call_node}
use Rattle.points_to_constraints.proofs.RunningNodes.{Running, of_node, of_one, of_two, slot_after, lands}

-- ---- slots from node to node

meant_flow : (r : Running) (x : Item) → FlowItem r.lowered r.node x → IsMeant r.program r.set x
meant_flow r x (node_items.keep z from to inside effect slot merged is) = meant_as r.program r.set x (constrained from (copy_to to)) is
    (λ s. of_one r (may_hold from s) (may_hold to s)
    (rules.keep r.method r.lowered r.node z from to s r.stands inside effect slot (slot_after r.lowered r.node z to merged)))
meant_flow r x (node_items.move y z from to inside effect slot merged is) = meant_as r.program r.set x (constrained from (copy_to to)) is
    (λ s. of_one r (may_hold from s) (may_hold to s)
    (rules.move r.method r.lowered r.node y z from to s r.stands inside effect slot (slot_after r.lowered r.node z to merged)))

meant_enter : (r : Running) (x : Item) → EnterItem r.method r.lowered r.node x → IsMeant r.program r.set x
meant_enter r x i = meant_as r.program r.set x (constrained (variable (Parameter r.method i.z)) (copy_to i.to)) i.is
    (λ s. of_one r (may_hold (variable (Parameter r.method i.z)) s) (may_hold i.to s)
    (rules.enter r.method r.lowered r.node i.z i.to s r.stands i.first i.inside i.slot))

meant_handle : (r : Running) (x : Item) → HandleItem r.lowered r.node x → IsMeant r.program r.set x
meant_handle r x i = meant_as r.program r.set x (constrained i.from (copy_to i.to)) i.is
    (λ s. of_one r (may_hold i.from s) (may_hold i.to s)
    (rules.handle r.method r.lowered r.node i.handler i.z i.from i.to s r.stands i.covers i.is_local i.slot i.slot_there))

-- ---- operations

meant_load_static : (r : Running) (field : FieldNo) (target : ℕ) → r.node.op ≡ LoadStatic field target → (x : Item)
    → LoadStaticItem r.program r.lowered r.node field target x → IsMeant r.program r.set x
meant_load_static r field target op x (node_items.read to slot is) = meant_as r.program r.set x (constrained (static_field field) (copy_to to)) is
    (λ s. of_one r (may_hold (static_field field) s) (may_hold to s) (rules.load_static r.method r.lowered r.node target field to s r.stands op slot))
meant_load_static r field target op x (node_items.begin class begins is) = meant_as r.program r.set x (known (may_hold (static_field field) (boot_site class))) is
    (of_node r (may_hold (static_field field) (boot_site class)) (rules.begin_static r.method r.lowered r.node target field class r.stands op begins))

meant_new_array : (r : Running) (sites : List Site) (target : ℕ) → r.node.op ≡ NewArray sites target → (x : Item)
    → NewArrayItem r.lowered r.node sites target x → IsMeant r.program r.set x
meant_new_array r sites target op x (node_items.first s stands made) = meant_as r.program r.set x (known (may_hold made.0 s)) made.2
    (of_node r (may_hold made.0 s) (rules.make_array r.method r.lowered r.node sites target made.0 s r.stands op stands made.1))
meant_new_array r sites target op x (node_items.nest i outer inner stands next is) = meant_as r.program r.set x (known (may_hold (elements_of outer) inner)) is
    (of_node r (may_hold (elements_of outer) inner) (rules.nest r.method r.lowered r.node sites target i outer inner r.stands op stands next))

meant_operation : (r : Running) (op : Op) → r.node.op ≡ op → (x : Item) → OpItem op r.program r.method r.lowered r.node x → IsMeant r.program r.set x
meant_operation r (Assign changes) op x i = absurd i
meant_operation r (Load object field target) op x i = meant_as r.program r.set x (constrained i.0 (load_field field i.1)) i.4
    (λ base held s. of_two r (may_hold i.0 base) (may_hold (field_of base field) s) (may_hold i.1 s)
    (rules.load r.method r.lowered r.node object target field i.0 i.1 base s r.stands op i.2 i.3) held)
meant_operation r (Store object field value) op x i = meant_as r.program r.set x (constrained i.0 (store_field field i.1)) i.4
    (λ base held s. of_two r (may_hold i.0 base) (may_hold i.1 s) (may_hold (field_of base field) s)
    (rules.store r.method r.lowered r.node object value field i.0 i.1 base s r.stands op i.2 i.3) held)
meant_operation r (LoadElement array target) op x i = meant_as r.program r.set x (constrained i.0 (load_elements i.1)) i.4
    (λ base held s. of_two r (may_hold i.0 base) (may_hold (elements_of base) s) (may_hold i.1 s)
    (rules.load_element r.method r.lowered r.node array target i.0 i.1 base s r.stands op i.2 i.3) held)
meant_operation r (StoreElement array value) op x i = meant_as r.program r.set x (constrained i.0 (store_elements i.1)) i.4
    (λ base held s. of_two r (may_hold i.0 base) (may_hold i.1 s) (may_hold (elements_of base) s)
    (rules.store_element r.method r.lowered r.node array value i.0 i.1 base s r.stands op i.2 i.3) held)
meant_operation r (LoadStatic field target) op x i = meant_load_static r field target op x i
meant_operation r (StoreStatic field value) op x i = meant_as r.program r.set x (constrained i.0 (copy_to (static_field field))) i.2
    (λ s. of_one r (may_hold i.0 s) (may_hold (static_field field) s) (rules.store_static r.method r.lowered r.node value field i.0 s r.stands op i.1))
meant_operation r (New s target) op x i = meant_as r.program r.set x (known (may_hold i.0 s)) i.2
    (of_node r (may_hold i.0 s) (rules.make r.method r.lowered r.node target i.0 s r.stands op i.1))
meant_operation r (NewArray sites target) op x i = meant_new_array r sites target op x i
meant_operation r (Constant s target) op x i = meant_as r.program r.set x (known (may_hold i.0 s)) i.2
    (of_node r (may_hold i.0 s) (rules.get_constant r.method r.lowered r.node target i.0 s r.stands op i.1))
meant_operation r (Call c) op x i = meant_call_node r c op x i
meant_operation r (Return None) op x i = absurd i
meant_operation r (Return (Some value)) op x i = meant_as r.program r.set x (constrained i.0 (copy_to (returned_by r.method))) i.2
    (λ s. of_one r (may_hold i.0 s) (may_hold (returned_by r.method) s) (rules.return r.method r.lowered r.node value i.0 s r.stands op i.1))
meant_operation r (Throw value) op x i = meant_as r.program r.set x (constrained i.1 (throw_to i.0)) i.4
    (λ s held fits to there. of_one r (may_hold i.1 s) (may_hold to s)
    (rules.throw r.method r.lowered r.node value i.1 to s r.stands op i.3 fits (lands r.program r.method r.lowered r.node i.0 s.class to i.2 there)) held)
meant_operation r (Cast class slot) op x i = meant_as r.program r.set x (constrained i.0 (filter_to class i.1)) i.4
    (λ s held fits. of_one r (may_hold i.0 s) (may_hold i.1 s) (rules.cast r.method r.lowered r.node class slot i.0 i.1 s r.stands op i.2 i.3 fits) held)
meant_operation r (Probe slot) op x i = absurd i

-- ---- exceptions and initialisers

meant_raise : (r : Running) (x : Item) → RaiseItem r.program r.method r.lowered r.node x → IsMeant r.program r.set x
meant_raise r x i =
    let s = site_of kinds.Thrown r.method r.node i.class in
    meant_as r.program r.set x (known (may_hold i.to s)) i.is
    (of_node r (may_hold i.to s) (rules.raise r.method r.lowered r.node i.number i.class i.to r.stands i.listed i.is_class i.lands))

-- the node may start the initialiser, as its method may run
start_here : (r : Running) (i : MethodNo) → StartsAt r.program r.node i → MayStart r.program r.gives r.entry (may_run r.method ∷ []) i
start_here r i starts = at_node r.method r.lowered r.node r.stands starts refl

meant_trigger : (r : Running) (x : Item) → TriggerItem r.program r.method r.lowered r.node x → IsMeant r.program r.set x
meant_trigger r x (node_items.runs i starts is) = meant_as r.program r.set x (known (may_run i)) is
    (of_node r (may_run i) (rules.initialiser_runs (may_run r.method ∷ []) i (start_here r i starts)))
meant_trigger r x (node_items.keeps_thrown i starts is) = meant_as r.program r.set x (constrained (thrown_by i) (copy_to kept_objects)) is
    (λ s held. r.closed (may_hold (thrown_by i) s ∷ may_run r.method ∷ []) (may_hold kept_objects s)
    (rules.keep_thrown (may_run r.method ∷ []) i s (start_here r i starts)) (held, (r.runs, tt)))
meant_trigger r x (node_items.throws i catch_chain starts catch_chain_is is) = meant_as r.program r.set x (constrained (thrown_by i) (rethrow_to catch_chain)) is
    (λ s held to there. of_one r (may_hold (thrown_by i) s) (may_hold to s)
    (rules.initialiser_throws r.method r.lowered r.node i to s r.stands starts (lands r.program r.method r.lowered r.node catch_chain s.class to catch_chain_is there)) held)

-- ---- the whole

-- what the node leads to is meant
pub meant_node : (r : Running) (x : Item) → NodeItem r.program r.method r.lowered r.node x → IsMeant r.program r.set x
meant_node r x (node_items.flows i) = meant_flow r x i
meant_node r x (node_items.enters i) = meant_enter r x i
meant_node r x (node_items.handles i) = meant_handle r x i
meant_node r x (node_items.operates i) = meant_operation r r.node.op refl x i
meant_node r x (node_items.raises i) = meant_raise r x i
meant_node r x (node_items.triggers i) = meant_trigger r x i
