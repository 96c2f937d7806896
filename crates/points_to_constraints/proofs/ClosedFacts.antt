-- The facts among the least items are the least facts: whatever the rules lead to from them is among them, since the items are closed by the
-- rules of items; and each is derivable.
use Rattle.std.proofs.Common.{◌≡◌, inl, inr, List, [], ◌∷◌, Contains, refl, subst}
use Rattle.std.proofs.lemmas.List.Elements.{All-contains}
use Rattle.list_laws.proofs.Members.{all_from_contains, contains_cases, contains_first, contains_later, contains_none}
use Rattle.jvm_model.specs.declared.number.MethodNo.{MethodNo}
use Rattle.jvm_model.specs.Programs.{Program}
use Rattle.op_model.specs.declared.lowered.LoweredMethod.{LoweredMethod}
use Rattle.op_model.specs.declared.node.Node.{Node}
use Rattle.op_model.specs.declared.node.NodeRef.{NodeRef}
use Rattle.op_model.specs.Supplies.{GivenAs}
use Rattle.least_sets.specs.Rules.{Hold, IsClosedSet, IsDerivable, IsLeast}
use Rattle.points_to_rules.specs.Facts.{Fact, may_run, may_call}
use Rattle.points_to_rules.specs.Rules.{IsNodeOf, Instance, entry_runs, entry_called, entry_argument, entry_strings, keep, move, enter, handle, load, load_element, load_static, make, make_array, get_constant, cast, store, store_element, store_static, nest, begin_static, call_chosen, call_selected, target_runs, pass, return, receive, keep_argument, give_argument, give_new, give_kept, throw, raise, target_throws, described_throws, initialiser_throws, initialiser_runs, keep_thrown}
use Rattle.points_to_constraints.specs.ItemRules.{StartItem, ItemInstance}
use Rattle.points_to_rules.specs.WholeMethods.{AreWholeMethods}
use Rattle.points_to_constraints.specs.Items.{Item, known, constrained, facts_of}
use Rattle.points_to_constraints.proofs.CalledNodes.{IsCallOf, call_comes_from}
use Rattle.points_to_constraints.proofs.ClosedCalls.{call_chosen_closed, call_selected_closed, pass_closed, receive_closed, give_new_closed, give_kept_closed, keep_argument_closed, give_argument_closed, target_throws_closed, described_throws_closed, target_runs_closed}
use Rattle.points_to_constraints.proofs.ClosedNodes.{keep_closed, move_closed, enter_closed, handle_closed, load_closed, load_element_closed, load_static_closed, make_closed, make_array_closed, get_constant_closed, cast_closed, store_closed, store_element_closed, store_static_closed, nest_closed, begin_static_closed, return_closed, throw_closed, raise_closed, initialiser_throws_closed, initialiser_runs_closed, keep_thrown_closed}
use Rattle.points_to_constraints.proofs.Closing.{IsClosing, IsRunning, by_start}

-- ---- facts

module _ {p : Program} {gives : GivenAs} {entry : MethodNo} {T : Item → Type 0} (h : IsClosing p gives entry T) (come : (call : NodeRef) (target : MethodNo) → T (known (may_call call target)) → IsCallOf gives entry call target) where
  -- the node, as one of a method that may run
  at : {m : MethodNo} {l : LoweredMethod} {n : Node} → IsNodeOf gives m l n → T (known (may_run m)) → IsRunning gives T m l n
  at is_node runs = record { is_node = is_node; runs = runs }

  facts_closed : (premises : List Fact) (fact : Fact) → Instance p gives entry premises fact → Hold (λ (f : Fact). T (known f)) premises → T (known fact)
  facts_closed premises fact entry_runs hold = by_start h _ (StartItem.entry_runs refl)
  facts_closed premises fact entry_called hold = by_start h _ (StartItem.entry_called refl)
  facts_closed premises fact (entry_argument has) hold = by_start h _ (StartItem.entry_argument has refl)
  facts_closed premises fact (entry_strings has) hold = by_start h _ (StartItem.entry_strings has refl)
  facts_closed premises fact (keep m l n z from to s is inside effect slot after) hold = keep_closed h (at is hold.0) z from to s inside effect slot after hold.1.0
  facts_closed premises fact (move m l n y z from to s is inside effect slot after) hold = move_closed h (at is hold.0) y z from to s inside effect slot after hold.1.0
  facts_closed premises fact (enter m l n z to s is is_first inside slot) hold = enter_closed h (at is hold.0) z to s is_first inside slot hold.1.0
  facts_closed premises fact (handle m l n handler z from to s is covers is_local slot there) hold = handle_closed h (at is hold.0) handler z from to s covers is_local slot there hold.1.0
  facts_closed premises fact (load m l n object target field from to base s is is_op slot after) hold =
      load_closed h (at is hold.0) object target field from to base s is_op slot after hold.1.0 hold.1.1.0
  facts_closed premises fact (load_element m l n array target from to base s is is_op slot after) hold =
      load_element_closed h (at is hold.0) array target from to base s is_op slot after hold.1.0 hold.1.1.0
  facts_closed premises fact (load_static m l n target field to s is is_op after) hold = load_static_closed h (at is hold.0) target field to s is_op after hold.1.0
  facts_closed premises fact (make m l n target to s is is_op after) hold = make_closed h (at is hold.0) target to s is_op after
  facts_closed premises fact (make_array m l n sites target to s is is_op e after) hold = make_array_closed h (at is hold.0) sites target to s is_op e after
  facts_closed premises fact (get_constant m l n target to s is is_op after) hold = get_constant_closed h (at is hold.0) target to s is_op after
  facts_closed premises fact (cast m l n class slot from to s is is_op before after fits) hold = cast_closed h (at is hold.0) class slot from to s is_op before after fits hold.1.0
  facts_closed premises fact (store m l n object value field into from base s is is_op slot stored) hold =
      store_closed h (at is hold.0) object value field into from base s is_op slot stored hold.1.0 hold.1.1.0
  facts_closed premises fact (store_element m l n array value into from base s is is_op slot stored) hold =
      store_element_closed h (at is hold.0) array value into from base s is_op slot stored hold.1.0 hold.1.1.0
  facts_closed premises fact (store_static m l n value field from s is is_op slot) hold = store_static_closed h (at is hold.0) value field from s is_op slot hold.1.0
  facts_closed premises fact (nest m l n sites target i outer inner is is_op e f) hold = nest_closed h (at is hold.0) sites target i outer inner is_op e f
  facts_closed premises fact (begin_static m l n target field class is is_op begins) hold = begin_static_closed h (at is hold.0) target field class is_op begins
  facts_closed premises fact (call_chosen m l n c target is is_op e) hold = call_chosen_closed h (at is hold.0) c is_op target e
  facts_closed premises fact (call_selected m l n c z from s target is is_op e slot selects) hold = call_selected_closed h (at is hold.0) c is_op z from s target e slot selects hold.1.0
  facts_closed premises fact (target_runs call target) hold = target_runs_closed h call target (come call target hold.0) hold.0
  facts_closed premises fact (pass m l n c target unit z from s is is_op e slot may) hold = pass_closed h (at is hold.0) c is_op target unit z from s e slot may hold.1.0 hold.1.1.0
  facts_closed premises fact (return m l n value from s is is_op slot) hold = return_closed h (at is hold.0) value from s is_op slot hold.1.0
  facts_closed premises fact (receive m l n c target z to s is is_op e of_file after) hold = receive_closed h (at is hold.0) c is_op target z to s e of_file after hold.1.0 hold.1.1.0
  facts_closed premises fact (keep_argument m l n c target stub argument from s is is_op described listed of) hold =
      keep_argument_closed h (at is hold.0) c is_op target stub argument from s described of listed hold.1.0 hold.1.1.0
  facts_closed premises fact (give_argument m l n c target stub argument from s z to is is_op described listed of e after) hold =
      give_argument_closed h (at is hold.0) c is_op target stub argument from s described of z to listed e after hold.1.0 hold.1.1.0
  facts_closed premises fact (give_new m l n c target stub class z to is is_op described listed e after) hold =
      give_new_closed h (at is hold.0) c is_op target stub class z to described listed e after hold.1.0
  facts_closed premises fact (give_kept m l n c target stub class s z to is is_op described listed is_class fits e after) hold =
      give_kept_closed h (at is hold.0) c is_op target stub class s z to described listed is_class fits e after hold.1.0 hold.1.1.0
  facts_closed premises fact (throw m l n value from to s is is_op slot fits lands) hold = throw_closed h (at is hold.0) value from to s is_op slot fits lands hold.1.0
  facts_closed premises fact (raise m l n number class to is listed is_class lands) hold = raise_closed h (at is hold.0) number class to listed is_class lands
  facts_closed premises fact (target_throws m l n c target to s is is_op of_file lands) hold = target_throws_closed h (at is hold.0) c is_op target to s of_file lands hold.1.0 hold.1.1.0
  facts_closed premises fact (described_throws m l n c target stub class to is is_op described listed lands) hold =
      described_throws_closed h (at is hold.0) c is_op target stub class to described listed lands hold.1.0
  facts_closed premises fact (initialiser_throws m l n i to s is starts_there lands) hold = initialiser_throws_closed h (at is hold.0) i to s starts_there lands hold.1.0
  facts_closed premises fact (initialiser_runs rest i may) hold = initialiser_runs_closed h rest i may hold
  facts_closed premises fact (keep_thrown rest i s may) hold = keep_thrown_closed h rest i s may hold.0 hold.1

-- Where the items are closed by the rules of items, and each call among them comes from a node or the start, the facts among them are closed.
pub closed_facts : (p : Program) (gives : GivenAs) (entry : MethodNo) (T : Item → Type 0) → AreWholeMethods p gives → IsClosedSet (ItemInstance p gives entry) T
    → ((call : NodeRef) (target : MethodNo) → T (known (may_call call target)) → IsCallOf gives entry call target) → IsClosedSet (Instance p gives entry) (λ (fact : Fact). T (known fact))
closed_facts p gives entry T methods closed come = facts_closed (record { methods = methods; closed = closed }) come

-- ---- lists of items

known_from_fact : (items : List Item) (fact : Fact) → Contains (facts_of items) fact → Contains items (known fact)
known_from_fact [] fact there = absurd (contains_none fact there)
known_from_fact (known own ∷ items) fact there = elim (contains_cases own fact (facts_of items) there) [
  | inl e ↦ subst (λ (f : Fact). Contains (known own ∷ items) (known f)) e (contains_first (known own) items)
  | inr more ↦ contains_later (known own) (known fact) items (known_from_fact items fact more)
]
known_from_fact (constrained holder constraint ∷ items) fact there = contains_later (constrained holder constraint) (known fact) items (known_from_fact items fact there)

fact_from_known : (items : List Item) (fact : Fact) → Contains items (known fact) → Contains (facts_of items) fact
fact_from_known [] fact there = absurd (contains_none (known fact) there)
fact_from_known (known own ∷ items) fact there = elim (contains_cases (known own) (known fact) items there) [
  | inl e ↦ (let same : own ≡ fact = cc in subst (λ (f : Fact). Contains (own ∷ facts_of items) f) same (contains_first own (facts_of items)))
  | inr more ↦ contains_later own fact (facts_of items) (fact_from_known items fact more)
]
fact_from_known (constrained holder constraint ∷ items) fact there = elim (contains_cases (constrained holder constraint) (known fact) items there) [
  | inl e ↦ absurd cc
  | inr more ↦ fact_from_known items fact more
]

hold_known : (items : List Item) (premises : List Fact) → Hold (Contains (facts_of items)) premises → Hold (λ (f : Fact). Contains items (known f)) premises
hold_known items [] hold = tt
hold_known items (f ∷ premises) hold = (known_from_fact items f hold.0, hold_known items premises hold.1)

-- ---- the least facts

-- The facts among the least items are the least facts, if each of those that is derivable by items is derivable by the rules.
pub least_facts : (p : Program) (gives : GivenAs) (entry : MethodNo) (items : List Item) → AreWholeMethods p gives
    → ((fact : Fact) → IsDerivable (ItemInstance p gives entry) (known fact) → IsDerivable (Instance p gives entry) fact)
    → IsLeast (ItemInstance p gives entry) items → IsLeast (Instance p gives entry) (facts_of items)
least_facts p gives entry items methods derivable least =
    let of_item : (fact : Fact) → Contains items (known fact) → IsDerivable (Instance p gives entry) fact =
    λ fact there. derivable fact (All-contains (IsDerivable (ItemInstance p gives entry)) items (known fact) least.derivable there) in
    let closed = closed_facts p gives entry (Contains items) methods least.closed (λ call target there. call_comes_from p gives entry call target (of_item (may_call call target) there)) in
    record {
      closed = λ premises fact instance hold. fact_from_known items fact (closed premises fact instance (hold_known items premises hold));
      derivable = all_from_contains (IsDerivable (Instance p gives entry)) (facts_of items) (λ fact there. of_item fact (known_from_fact items fact there));
    }
