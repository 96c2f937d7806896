-- What nodes, events and calls do keeps the paths of facts in order.
use Rattle.std.proofs.Common.{ℕ, Bool, true, false, cond, nat_eq, not, ◌&&◌, List, [], ◌∷◌, ◌++◌, map, Option, Some, None}
use Rattle.std.specs.List.{AllByRecursion, filter, flat_map}
use Rattle.std.specs.Option.{option_flatten}
use Rattle.std.specs.List.{slice_get}
use Rattle.jvm_model.specs.declared.automaton.Event.{Event}
use Rattle.jvm_model.specs.declared.number.FieldNo.{FieldNo}
use Rattle.jvm_model.specs.declared.number.MethodNo.{MethodNo}
use Rattle.op_model.specs.declared.lowered.LoweredMethod.{LoweredMethod}
use Rattle.op_model.specs.declared.node.Node.{Node}
use Rattle.op_model.specs.declared.op.Call.{Call as NodeCall}
use Rattle.machine_nodes.specs.Slots.{argument_slots}
use Rattle.op_model.specs.declared.op.Op.{Op}
use Rattle.op_model.specs.declared.op.Op.TheVariants.{Assign, Load, Store, LoadElement, StoreElement, LoadStatic, StoreStatic, New, NewArray, Constant, Call, Return, Throw, Cast, Probe}
use Rattle.points_to_rules.specs.Facts.{Holder, variable}
use Rattle.access_paths.specs.declared.root.Root.TheVariants.{Slot, Static}
use Rattle.access_paths.specs.Paths.{bare, has_path, Path}
use Rattle.access_paths.specs.Sets.{AreInOrder}
use Rattle.access_paths.proofs.SetMembers.{path_set_ordered, with_ordered}
use Rattle.stage_facts.specs.Facts.{Tuple, SiteFact, none_yet, some_yet, of_object}
use Rattle.stage_transfer.specs.Settings.{Setting, alike, among, same_site}
use Rattle.stage_transfer.specs.Changes.{Change, changed, changed_set, copied, copying, slots_go, unwritten, writing}
use Rattle.stage_transfer.specs.Operations.{after_load, after_new, after_operation, after_static_load, after_store, assigning, beside_new, loaded, on_tuples, puts_away, receiving, returning, stored_set, storing_static}
use Rattle.stage_transfer.specs.Exceptions.{after_raise, catching, thrown_slot, unwinding}
use Rattle.stage_transfer.specs.Calls.{Entering, Result, an_argument, a_new_object, another, after_answer, after_event, after_exception, begins_static, call_facts, entered_fact, entered_set, event_at, event_of_call, giving, is_handed_on, is_of_others, joined, joins, left_by_tuple, left_fact, left_set, moved_by_event, not_referring, passing, referring, written_by}

pub record IsOrdered (t : Tuple) : Type 0 where
  pub must : AreInOrder t.must
  pub must_not : AreInOrder t.must_not

abbrev pub Ordered : SiteFact → Type 0
Ordered none_yet = Unit {0}
Ordered some_yet = Unit {0}
Ordered (of_object t) = IsOrdered t

abbrev pub Each : List SiteFact → Type 0
Each facts = AllByRecursion Ordered facts

-- ---- tuples

set_changed : (c : Change) (set : List Path) → AreInOrder (changed_set c set)
set_changed c set = path_set_ordered (filter (λ (x : Path). not (c.goes x.root)) set ++ c.adds set)

set_joined : (slots : List ℕ) (set : List Path) → AreInOrder (joined slots set)
set_joined slots set = path_set_ordered (set ++ map (λ (z : ℕ). bare (Slot z)) slots)

set_entered : (by : Entering) (set : List Path) → AreInOrder (entered_set by set)
set_entered by set = path_set_ordered (filter begins_static set ++ copied (passing by) set)

set_left : (w : Setting) (by : Entering) (target : MethodNo) (caller exit : List Path) → AreInOrder (left_set w by target caller exit)
set_left w by target caller exit = path_set_ordered (filter (λ (x : Path). is_handed_on by x.root) exit ++ filter (joins w by target) caller)

changed_ordered : (c : Change) (t : Tuple) → IsOrdered (changed c t)
changed_ordered c t = record { must = set_changed c t.must; must_not = set_changed c t.must_not }

beside_ordered : (target : Option ℕ) (t : Tuple) → IsOrdered t → IsOrdered (beside_new target t)
beside_ordered None t ordered = record { must = ordered.must; must_not = ordered.must_not }
beside_ordered (Some z) t ordered = record { must = ordered.must; must_not = with_ordered (bare (Slot z)) t.must_not ordered.must_not }

-- ---- facts

-- what gives ordered tuples gives ordered facts
each_changed : (f : Tuple → Tuple) → ((t : Tuple) → IsOrdered (f t)) → (fact : SiteFact) → Each (on_tuples f fact)
each_changed f h none_yet = (tt, tt)
each_changed f h some_yet = (tt, tt)
each_changed f h (of_object t) = (h t, tt)

each_kept : (f : Tuple → Tuple) → ((t : Tuple) → IsOrdered t → IsOrdered (f t)) → (fact : SiteFact) → Ordered fact → Each (on_tuples f fact)
each_kept f h none_yet ordered = (tt, tt)
each_kept f h some_yet ordered = (tt, tt)
each_kept f h (of_object t) ordered = (h t ordered, tt)

each_new : (w : Setting) (target : Option ℕ) (written : Tuple → Tuple) → ((t : Tuple) → IsOrdered (written t)) → (fact : SiteFact) → Each (after_new w target written fact)
each_new w None written h none_yet = (tt, (record { must = tt; must_not = tt }, tt))
each_new w (Some z) written h none_yet = (tt, (record { must = (tt, tt); must_not = tt }, tt))
each_new w None written h some_yet = (tt, (record { must = tt; must_not = tt }, tt))
each_new w (Some z) written h some_yet = (tt, (record { must = (tt, tt); must_not = tt }, tt))
each_new w target written h (of_object t) = (beside_ordered target (written t) (h t), tt)

load_ordered : (w : Setting) (l : LoweredMethod) (n : Node) (object : ℕ) (field : FieldNo) (target : ℕ) (t : Tuple) → IsOrdered (after_load w l n object field target t)
load_ordered w l n object field target t =
    let c : Change = record { adds = loaded object field target; goes = slots_go (among (object ∷ target ∷ [])); doubles = unwritten w l n (among (object ∷ target ∷ [])) } in
    record { must = set_changed c t.must; must_not = set_changed c t.must_not }

store_ordered : (w : Setting) (l : LoweredMethod) (n : Node) (object : ℕ) (field : FieldNo) (value : ℕ) (t : Tuple) → IsOrdered (after_store w l n object field value t)
store_ordered w l n object field value t =
    let c = writing w l n (object ∷ value ∷ []) in
    record { must = set_changed c (stored_set w l n object field value t.must); must_not = set_changed c (stored_set w l n object field value t.must_not) }

pub operation_ordered : (w : Setting) (l : LoweredMethod) (n : Node) (op : Op) (fact : SiteFact) → Ordered fact → Each (after_operation w l n op fact)
operation_ordered w l n (Assign moves) fact ordered = each_changed (changed (assigning w l n moves)) (changed_ordered (assigning w l n moves)) fact
operation_ordered w l n (Load object field target) fact ordered = each_changed (after_load w l n object field target) (load_ordered w l n object field target) fact
operation_ordered w l n (Store object field value) fact ordered = each_changed (after_store w l n object field value) (store_ordered w l n object field value) fact
operation_ordered w l n (LoadElement array target) fact ordered = each_changed (changed (writing w l n (array ∷ target ∷ []))) (changed_ordered (writing w l n (array ∷ target ∷ []))) fact
operation_ordered w l n (StoreElement array value) fact ordered = each_changed (λ t. changed (writing w l n (array ∷ value ∷ [])) (puts_away (value ∷ []) t)) (λ t. changed_ordered (writing w l n (array ∷ value ∷ [])) (puts_away (value ∷ []) t)) fact
operation_ordered w l n (LoadStatic field target) fact ordered = each_changed (after_static_load w l n field target) (changed_ordered (copying w l n (target ∷ []) (record { from = Static field; to = Slot target }))) fact
operation_ordered w l n (StoreStatic field value) fact ordered = each_changed (changed (storing_static w l n field value)) (changed_ordered (storing_static w l n field value)) fact
operation_ordered w l n (New site target) fact ordered = by (same_site site w.site)
  where
    by : (b : Bool) → Each (cond b (after_new w (Some target) (changed (writing w l n (target ∷ []))) fact) (on_tuples (changed (writing w l n (target ∷ []))) fact))
    by true = each_new w (Some target) (changed (writing w l n (target ∷ []))) (changed_ordered (writing w l n (target ∷ []))) fact
    by false = each_changed (changed (writing w l n (target ∷ []))) (changed_ordered (writing w l n (target ∷ []))) fact
operation_ordered w l n (NewArray sites target) fact ordered = each_changed (changed (writing w l n (target ∷ []))) (changed_ordered (writing w l n (target ∷ []))) fact
operation_ordered w l n (Constant site target) fact ordered = each_changed (changed (writing w l n (target ∷ []))) (changed_ordered (writing w l n (target ∷ []))) fact
operation_ordered w l n (Call call) fact ordered = each_changed (changed (receiving w l n (argument_slots call.arguments) call.result)) (changed_ordered (receiving w l n (argument_slots call.arguments) call.result)) fact
operation_ordered w l n (Return value) fact ordered = each_changed (changed (returning value)) (changed_ordered (returning value)) fact
operation_ordered w l n (Throw value) fact ordered = tt
operation_ordered w l n (Cast class z) fact ordered = (ordered, tt)
operation_ordered w l n (Probe z) fact ordered = each_changed (changed (writing w l n (z ∷ []))) (changed_ordered (writing w l n (z ∷ []))) fact

pub raise_ordered : (w : Setting) (l : LoweredMethod) (n : Node) (handler : Option ℕ) (fact : SiteFact) → Each (after_raise w l n handler fact)
raise_ordered w l n None fact = each_changed (changed (unwinding (thrown_slot n.op))) (changed_ordered (unwinding (thrown_slot n.op))) fact
raise_ordered w l n (Some handler) fact = each_changed (changed (catching w l n (thrown_slot n.op))) (changed_ordered (catching w l n (thrown_slot n.op))) fact

-- ---- events

abbrev EachTuple : List Tuple → Type 0
EachTuple tuples = AllByRecursion IsOrdered tuples

facts_ordered : (tuples : List Tuple) → EachTuple tuples → Each (map of_object tuples)
facts_ordered [] each = tt
facts_ordered (t ∷ ts) (first, rest) = (first, facts_ordered ts rest)

event_ordered : (w : Setting) (e : Event) (receiver : Holder) (z : ℕ) (slots : List ℕ) (t : Tuple) → IsOrdered t → EachTuple (after_event w e receiver z slots t)
event_ordered w e receiver z slots t ordered =
    by (has_path t.must (bare (Slot z))) (is_of_others w receiver z t) (t.unique && w.answers.holds_no_other receiver w.site) (nat_eq w.stage 4)
  where
    moved : IsOrdered (moved_by_event e t)
    moved = record { must = ordered.must; must_not = ordered.must_not }

    refers : IsOrdered (referring slots (moved_by_event e t))
    refers = record { must = set_joined slots t.must; must_not = ordered.must_not }

    refers_not : IsOrdered (not_referring slots t)
    refers_not = record { must = ordered.must; must_not = set_joined slots t.must_not }

    by : (a b c d : Bool) → EachTuple (cond a (moved_by_event e t ∷ []) (cond b (t ∷ []) (cond c (referring slots (moved_by_event e t) ∷ [])
        (cond d (referring slots (moved_by_event e t) ∷ not_referring slots t ∷ []) (t ∷ moved_by_event e t ∷ [])))))
    by true b c d = (moved, tt)
    by false true c d = (ordered, tt)
    by false false true d = (refers, tt)
    by false false false true = (refers, (refers_not, tt))
    by false false false false = (ordered, (moved, tt))

at_ordered : (w : Setting) (l : LoweredMethod) (n : Node) (e : Option Event) (receiver : Option ℕ) (t : Tuple) → IsOrdered t → EachTuple (event_at w l n e receiver t)
at_ordered w l n None receiver t ordered = (ordered, tt)
at_ordered w l n (Some e) None t ordered = (ordered, tt)
at_ordered w l n (Some e) (Some z) t ordered = event_ordered w e (variable (w.answers.variable_at l n z)) z (alike w l n z) t ordered

pub call_ordered : (w : Setting) (l : LoweredMethod) (n : Node) (c : NodeCall) (fact : SiteFact) → Ordered fact → Each (call_facts w l n c fact)
call_ordered w l n c none_yet ordered = (tt, tt)
call_ordered w l n c some_yet ordered = (tt, tt)
call_ordered w l n c (of_object t) ordered =
    facts_ordered (event_at w l n (event_of_call w.property c) (option_flatten (slice_get c.arguments 0)) t) (at_ordered w l n (event_of_call w.property c) (option_flatten (slice_get c.arguments 0)) t ordered)

-- ---- described methods

abbrev kept_and_written : Setting → LoweredMethod → Node → NodeCall → List ℕ → Tuple → Tuple
kept_and_written w l n c kept t = changed (writing w l n (written_by c)) (puts_away kept t)

kept_ordered : (w : Setting) (l : LoweredMethod) (n : Node) (c : NodeCall) (kept : List ℕ) (t : Tuple) → IsOrdered (kept_and_written w l n c kept t)
kept_ordered w l n c kept t = changed_ordered (writing w l n (written_by c)) (puts_away kept t)

pub answer_ordered : (w : Setting) (l : LoweredMethod) (n : Node) (c : NodeCall) (kept : List ℕ) (result : Result) (fact : SiteFact)
    → Each (after_answer w l n c kept result fact)
answer_ordered w l n c kept (an_argument z) fact =
    each_changed (λ t. changed (giving w l n c z) (puts_away kept t)) (λ t. changed_ordered (giving w l n c z) (puts_away kept t)) fact
answer_ordered w l n c kept (a_new_object site) fact = by (same_site site w.site)
  where
    by : (b : Bool) → Each (cond b (after_new w c.result (kept_and_written w l n c kept) fact) (on_tuples (kept_and_written w l n c kept) fact))
    by true = each_new w c.result (kept_and_written w l n c kept) (kept_ordered w l n c kept) fact
    by false = each_changed (kept_and_written w l n c kept) (kept_ordered w l n c kept) fact
answer_ordered w l n c kept another fact = each_changed (kept_and_written w l n c kept) (kept_ordered w l n c kept) fact

each_append : (fs gs : List SiteFact) → Each fs → Each gs → Each (fs ++ gs)
each_append [] gs first second = second
each_append (f ∷ fs) gs (one, rest) second = (one, each_append fs gs rest second)

each_raised : (w : Setting) (l : LoweredMethod) (n : Node) (handler : Option ℕ) (facts : List SiteFact) → Each (flat_map (after_raise w l n handler) facts)
each_raised w l n handler [] = tt
each_raised w l n handler (f ∷ fs) = each_append (after_raise w l n handler f) (flat_map (after_raise w l n handler) fs) (raise_ordered w l n handler f) (each_raised w l n handler fs)

pub exception_ordered : (w : Setting) (l : LoweredMethod) (n : Node) (kept : List ℕ) (handler : Option ℕ) (fact : SiteFact) → Each (after_exception w l n kept handler fact)
exception_ordered w l n kept handler fact = each_raised w l n handler (on_tuples (puts_away kept) fact)

-- ---- methods that are entered and left

pub entered_ordered : (by : Entering) (fact : SiteFact) → Ordered (entered_fact by fact)
entered_ordered by none_yet = tt
entered_ordered by some_yet = tt
entered_ordered by (of_object t) = record { must = set_entered by t.must; must_not = set_entered by t.must_not }

by_tuple_ordered : (w : Setting) (l : LoweredMethod) (n : Node) (by : Entering) (target : MethodNo) (caller : SiteFact) (exit : Tuple) → IsOrdered (left_by_tuple w l n by target caller exit)
by_tuple_ordered w l n by target none_yet exit = record { must = set_left w by target [] exit.must; must_not = set_left w by target [] exit.must_not }
by_tuple_ordered w l n by target some_yet exit = record { must = set_left w by target [] exit.must; must_not = set_left w by target [] exit.must_not }
by_tuple_ordered w l n by target (of_object t) exit = record { must = set_left w by target t.must exit.must; must_not = set_left w by target t.must_not exit.must_not }

pub left_ordered : (w : Setting) (l : LoweredMethod) (n : Node) (by : Entering) (target : MethodNo) (caller exit : SiteFact) → Ordered (left_fact w l n by target caller exit)
left_ordered w l n by target caller none_yet = tt
left_ordered w l n by target caller some_yet = tt
left_ordered w l n by target caller (of_object exit) = by_tuple_ordered w l n by target caller exit
