-- A fact that is derivable by items is derivable by the rules: in each set that is closed under the rules, what the items mean is closed under
-- the rules by items.
use Rattle.std.proofs.Common.{List, [], ◌∷◌, refl, ap, subst}
use Rattle.std.proofs.lemmas.Option.{none-some}
use Rattle.jvm_model.specs.declared.number.MethodNo.{MethodNo}
use Rattle.jvm_model.specs.declared.site.Site.{Site}
use Rattle.jvm_model.specs.Programs.{Program}
use Rattle.op_model.specs.declared.node.NodeRef.{NodeRef}
use Rattle.op_model.specs.Supplies.{GivenAs}
use Rattle.machine_bytecode.specs.Objects.{string_name}
use Rattle.machine_bytecode.specs.Start.{boot_site}
use Rattle.slot_names.specs.declared.variable.Variable.TheVariants.{Parameter}
use Rattle.least_sets.specs.Rules.{Hold, IsClosedSet, IsDerivable}
use Rattle.least_sets.proofs.Derivations.{derivable_in_closed}
use Rattle.least_sets.proofs.Joined.{derivable_is_closed}
use Rattle.points_to_rules.specs.Facts.{variable, field_of, elements_of, kept_objects, thrown_by, Fact, may_hold, may_run, may_call}
use Rattle.points_to_rules.specs.Rules.{argument_site, start_call, before_entry, Instance}
use Rattle.points_to_rules.specs.Rules as rules
use Rattle.points_to_constraints.specs.CallItems.{SelectItem}
use Rattle.points_to_constraints.specs.CallItems as call_items
use Rattle.points_to_constraints.specs.Items.{Constraint, copy_to, filter_to, load_field, store_field, load_elements, store_elements, throw_to, rethrow_to, dispatch, CallSite, Item, known, constrained}
use Rattle.points_to_constraints.specs.ItemRules.{StartItem, Passed, ItemInstance, of_start, of_node, of_call, of_constraint}
use Rattle.points_to_constraints.specs.ItemRules as item_rules
use Rattle.points_to_constraints.proofs.Meanings.{has_fact, IsConstrained, IsMeant, meant_as}
use Rattle.points_to_constraints.proofs.MeantCalls.{meant_call}
use Rattle.points_to_constraints.proofs.MeantNodes.{meant_node}
use Rattle.points_to_constraints.proofs.RunningNodes.{Running}

-- ---- the start

meant_start : (p : Program) (gives : GivenAs) (entry : MethodNo) (D : Fact → Type 0) → IsClosedSet (Instance p gives entry) D → (x : Item) → StartItem p entry x → IsMeant p D x
meant_start p gives entry D closed x (item_rules.entry_runs is) = meant_as p D x (known (may_run entry)) is (closed [] (may_run entry) rules.entry_runs tt)
meant_start p gives entry D closed x (item_rules.entry_called is) = meant_as p D x (known (may_call start_call entry)) is
    (closed [] (may_call start_call entry) rules.entry_called tt, λ m e. absurd (none-some m e))
meant_start p gives entry D closed x (item_rules.entry_argument has is) = meant_as p D x (known (may_hold (variable (Parameter entry 0)) argument_site)) is
    (closed [] (may_hold (variable (Parameter entry 0)) argument_site) (rules.entry_argument has) tt)
meant_start p gives entry D closed x (item_rules.entry_strings has is) = meant_as p D x (known (may_hold (elements_of argument_site) (boot_site string_name))) is
    (closed [] (may_hold (elements_of argument_site) (boot_site string_name)) (rules.entry_strings has) tt)
meant_start p gives entry D closed x (item_rules.initialiser_runs m i stands coded is) = meant_as p D x (known (may_run i)) is
    (closed [] (may_run i) (rules.initialiser_runs [] i (before_entry m stands coded refl)) tt)
meant_start p gives entry D closed x (item_rules.keep_thrown m i stands coded is) = meant_as p D x (constrained (thrown_by i) (copy_to kept_objects)) is
    (λ s held. closed (may_hold (thrown_by i) s ∷ []) (may_hold kept_objects s) (rules.keep_thrown [] i s (before_entry m stands coded refl)) (held, tt))

-- ---- constraints

meant_selected : (p : Program) (D : Fact → Type 0) (site : CallSite) (s : Site) (x : Item) → IsConstrained p D (dispatch site) s → SelectItem p site s x → IsMeant p D x
meant_selected p D site s x h (call_items.called target selects is) = meant_as p D x (known (may_call site.at target)) is (h target selects).called
meant_selected p D site s x h (call_items.received target selects is) = meant_as p D x (known (may_hold (variable (Parameter target 0)) s)) is (h target selects).received
meant_selected p D site s x h (call_items.kept target stub argument selects described keeps is_unit is) = meant_as p D x (known (may_hold kept_objects s)) is
    ((h target selects).kept stub argument described keeps is_unit)
meant_selected p D site s x h (call_items.given target stub argument to selects described returns is_unit there is) = meant_as p D x (known (may_hold to s)) is
    ((h target selects).given stub argument to described returns is_unit there)

meant_passed : (p : Program) (D : Fact → Type 0) (constraint : Constraint) (s : Site) (x : Item) → IsConstrained p D constraint s → Passed p constraint s x → IsMeant p D x
meant_passed p D (copy_to to) s x h is = meant_as p D x (known (may_hold to s)) is h
meant_passed p D (filter_to class to) s x h made = meant_as p D x (known (may_hold to s)) made.1 (h made.0)
meant_passed p D (load_field field to) s x h is = meant_as p D x (constrained (field_of s field) (copy_to to)) is h
meant_passed p D (store_field field from) s x h is = meant_as p D x (constrained from (copy_to (field_of s field))) is h
meant_passed p D (load_elements to) s x h is = meant_as p D x (constrained (elements_of s) (copy_to to)) is h
meant_passed p D (store_elements from) s x h is = meant_as p D x (constrained from (copy_to (elements_of s))) is h
meant_passed p D (throw_to catch_chain) s x h made = meant_as p D x (known (may_hold made.1.0 s)) made.1.2 (h made.0 made.1.0 made.1.1)
meant_passed p D (rethrow_to catch_chain) s x h made = meant_as p D x (known (may_hold made.0 s)) made.2 (h made.0 made.1)
meant_passed p D (dispatch site) s x h made = meant_selected p D site s x h made

-- ---- the whole

-- what items mean in a set that is closed under the rules is closed under the rules by items
pub meant_is_closed : (p : Program) (gives : GivenAs) (entry : MethodNo) (D : Fact → Type 0) → IsClosedSet (Instance p gives entry) D → IsClosedSet (ItemInstance p gives entry) (IsMeant p D)
meant_is_closed p gives entry D closed premises x (of_start none i) hold = meant_start p gives entry D closed x i
meant_is_closed p gives entry D closed premises x (of_node m l n are stands i) hold =
    let h = subst (λ (items : List Item). Hold (IsMeant p D) items) are hold in
    let r : Running = record { program = p; gives = gives; entry = entry; set = D; closed = closed; method = m; lowered = l; node = n; stands = stands; runs = h.0 } in
    meant_node r x i
meant_is_closed p gives entry D closed premises x (of_call m l n c site target are stands op is_site i) hold =
    let h = subst (λ (items : List Item). Hold (IsMeant p D) items) are hold in
    let runs : D (may_run m) = h.0.1 m (ap (λ (at : NodeRef). at.method) is_site.at) in
    let r : Running = record { program = p; gives = gives; entry = entry; set = D; closed = closed; method = m; lowered = l; node = n; stands = stands; runs = runs } in
    meant_call r c site (record { is_call = op; is_site = is_site }) target (subst (λ (at : NodeRef). D (may_call at target)) is_site.at h.0.0) x i
meant_is_closed p gives entry D closed premises x (of_constraint from constraint s are i) hold =
    let h = subst (λ (items : List Item). Hold (IsMeant p D) items) are hold in
    meant_passed p D constraint s x (h.0 s h.1.0) i

-- a fact that is derivable by items is derivable by the rules
pub derivable_fact : (p : Program) (gives : GivenAs) (entry : MethodNo) (fact : Fact) → IsDerivable (ItemInstance p gives entry) (known fact) → IsDerivable (Instance p gives entry) fact
derivable_fact p gives entry fact d =
    let D : Fact → Type 0 = IsDerivable (Instance p gives entry) in
    has_fact D fact (derivable_in_closed (ItemInstance p gives entry) (IsMeant p D) (known fact) d
    (meant_is_closed p gives entry D (derivable_is_closed (Instance p gives entry))))
