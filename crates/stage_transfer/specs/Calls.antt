-- Public contracts rest on this module.
-- What calls do to facts: their events; results and exceptions of described methods; what a target is entered with; and what a caller knows when it
-- has ended.
use Rattle.std.specs.Prelude.{ℕ, suc, nat_eq, Bool, true, false, not, ◌&&◌, ◌||◌, List, [], ◌∷◌, ◌++◌, map, filter, flat_map, slice_index, slice_get, Option, Some, None, if◌then◌else◌}
use Rattle.std.specs.List.{list_any}
use Rattle.std.specs.Option.{option_flatten, option_to_list}
use Rattle.jvm_model.specs.declared.automaton.Automaton.{Automaton}
use Rattle.jvm_model.specs.declared.automaton.Event.{Event}
use Rattle.jvm_model.specs.declared.number.MethodNo.{MethodNo}
use Rattle.jvm_model.specs.declared.site.Site.{Site}
use Rattle.op_model.specs.declared.lowered.LoweredMethod.{LoweredMethod}
use Rattle.op_model.specs.declared.node.Node.{Node}
use Rattle.op_model.specs.declared.op.Call.{Call as NodeCall}
use Rattle.machine_bytecode.specs.Events.{event_for}
use Rattle.machine_nodes.specs.NodeSteps.{is_selecting_kind}
use Rattle.machine_nodes.specs.Slots.{argument_slots}
use Rattle.points_to_rules.specs.Facts.{Holder, variable}
use Rattle.access_paths.specs.declared.root.Root.{Root}
use Rattle.access_paths.specs.declared.root.Root.TheVariants.{Slot, Static, Returned, Thrown}
use Rattle.access_paths.specs.Paths.{Path, bare, has_path, path_set}
use Rattle.stage_facts.specs.Facts.{Tuple, SiteFact, none_yet, some_yet, of_object}
use Rattle.stage_transfer.specs.Settings.{Setting, alike, among, same_site}
use Rattle.stage_transfer.specs.Changes.{Change, Copy, changed, copied, has_fields, is_doubled, moved_to, slots_go, unwritten, writing}
use Rattle.stage_transfer.specs.Operations.{after_new, on_tuples, puts_away}
use Rattle.stage_transfer.specs.Exceptions.{after_raise}

-- ---- events

-- The event of a call that selects by its object, if it is one of the property's.
abbrev pub event_of_call : Automaton → NodeCall → Option Event
event_of_call a c = if is_selecting_kind c.kind then event_for a (record { name = c.name; descriptor = c.descriptor }) else None

abbrev pub moved_by_event : Event → Tuple → Tuple
moved_by_event e t = record { unique = t.unique; state = slice_index e.next t.state; must = t.must; may = t.may; must_not = t.must_not }

-- Paths of some slots join a set.
abbrev pub joined : List ℕ → List Path → List Path
joined slots set = path_set (set ++ map (λ (z : ℕ). bare (Slot z)) slots)

abbrev pub referring : List ℕ → Tuple → Tuple
referring slots t = record { unique = t.unique; state = t.state; must = joined slots t.must; may = t.may; must_not = t.must_not }

abbrev pub not_referring : List ℕ → Tuple → Tuple
not_referring slots t = record { unique = t.unique; state = t.state; must = t.must; may = t.may; must_not = joined slots t.must_not }

-- The event is on this object, or on another one. Only the last stage remembers which.
abbrev pub either_way : Setting → Event → (slots : List ℕ) → Tuple → List Tuple
either_way w e slots t =
    if nat_eq w.stage 4
    then referring slots (moved_by_event e t) ∷ not_referring slots t ∷ []
    else t ∷ moved_by_event e t ∷ []

-- The receiver refers to no object of the site, or not to this one.
abbrev pub is_of_others : Setting → (receiver : Holder) → (z : ℕ) → Tuple → Bool
is_of_others w receiver z t = not (w.answers.may_hold_site receiver w.site) || (has_path t.must_not (bare (Slot z)) || not t.may)

-- The receiver is known to be the object; or known to be another one; or it can only be the object; or it may be either.
abbrev pub after_event : Setting → Event → (receiver : Holder) → (z : ℕ) → (slots : List ℕ) → Tuple → List Tuple
after_event w e receiver z slots t =
    if has_path t.must (bare (Slot z)) then moved_by_event e t ∷ []
    else if is_of_others w receiver z t then t ∷ []
    else if t.unique && w.answers.holds_no_other receiver w.site then referring slots (moved_by_event e t) ∷ []
    else either_way w e slots t

abbrev pub event_at : Setting → LoweredMethod → Node → Option Event → (receiver : Option ℕ) → Tuple → List Tuple
event_at w l n None receiver t = t ∷ []
event_at w l n (Some e) None t = t ∷ []
event_at w l n (Some e) (Some z) t = after_event w e (variable (w.answers.variable_at l n z)) z (alike w l n z) t

-- The facts before a call that is made on an event's receiver, once the event has happened.
abbrev pub call_facts : Setting → LoweredMethod → Node → NodeCall → SiteFact → List SiteFact
call_facts w l n c none_yet = none_yet ∷ []
call_facts w l n c some_yet = some_yet ∷ []
call_facts w l n c (of_object t) = map of_object (event_at w l n (event_of_call w.property c) (option_flatten (slice_get c.arguments 0)) t)

-- ---- described methods

-- What a described method gives: an argument, by its slot; a new object of a site; or neither.
pub data Result : Type 0 where
  an_argument : (z : ℕ) → Result
  a_new_object : Site → Result
  another : Result

-- The slots that a call writes.
abbrev pub written_by : NodeCall → List ℕ
written_by c = option_to_list c.result ++ argument_slots c.arguments

-- The argument is copied to the slot of the result.
abbrev pub giving : Setting → LoweredMethod → Node → NodeCall → (z : ℕ) → Change
giving w l n c z = record {
  adds = copied (map (λ (r : ℕ). record { from = Slot z; to = Slot r }) (option_to_list c.result));
  goes = slots_go (among (written_by c));
  doubles = λ r. unwritten w l n (among (written_by c)) r ++ flat_map (λ (y : ℕ). moved_to w l n z (Slot y) r) (option_to_list c.result);
}

-- The method keeps the objects in some slots, and then gives a result.
abbrev pub after_answer : Setting → LoweredMethod → Node → NodeCall → (kept : List ℕ) → Result → SiteFact → List SiteFact
after_answer w l n c kept (an_argument z) fact = on_tuples (λ t. changed (giving w l n c z) (puts_away kept t)) fact
after_answer w l n c kept (a_new_object site) fact =
    if same_site site w.site
    then after_new w c.result (λ t. changed (writing w l n (written_by c)) (puts_away kept t)) fact
    else on_tuples (λ t. changed (writing w l n (written_by c)) (puts_away kept t)) fact
after_answer w l n c kept another fact = on_tuples (λ t. changed (writing w l n (written_by c)) (puts_away kept t)) fact

-- It keeps them, and then throws a new object.
abbrev pub after_exception : Setting → LoweredMethod → Node → (kept : List ℕ) → (handler : Option ℕ) → SiteFact → List SiteFact
after_exception w l n kept handler fact = flat_map (after_raise w l n handler) (on_tuples (puts_away kept) fact)

-- ---- entering

-- Why a method of a class file is entered: it is called, or it is an initialiser.
pub data Entering : Type 0 where
  by_call : NodeCall → Entering
  by_trigger : Entering

-- The slots that are passed.
abbrev pub passed : Entering → List ℕ
passed (by_call c) = argument_slots c.arguments
passed by_trigger = []

-- Each argument is copied to the slot of its unit.
abbrev pub passing_to : (unit : ℕ) → Option ℕ → List Copy
passing_to unit None = []
passing_to unit (Some z) = record { from = Slot z; to = Slot unit } ∷ []

abbrev pub passing_from : (unit : ℕ) → List (Option ℕ) → List Copy
passing_from unit [] = []
passing_from unit (a ∷ rest) = passing_to unit a ++ passing_from (suc unit) rest

abbrev pub passing : Entering → List Copy
passing (by_call c) = passing_from 0 c.arguments
passing by_trigger = []

abbrev pub is_static : Root → Bool
is_static (Slot z) = false
is_static (Static f) = true
is_static Returned = false
is_static Thrown = false

abbrev pub begins_static : Path → Bool
begins_static x = is_static x.root

abbrev pub is_passed_on : Entering → Root → Bool
is_passed_on by (Slot z) = among (passed by) z
is_passed_on by (Static f) = true
is_passed_on by Returned = false
is_passed_on by Thrown = false

abbrev pub entered_set : Entering → List Path → List Path
entered_set by set = path_set (filter begins_static set ++ copied (passing by) set)

-- Paths of static fields stay, those of arguments become paths of the callee's slots, and all others go.
abbrev pub entered : Entering → Tuple → Tuple
entered by t = record {
  unique = t.unique;
  state = t.state;
  must = entered_set by t.must;
  may = t.may || list_any (λ (x : Path). has_fields x.fields && not (is_passed_on by x.root)) t.must;
  must_not = entered_set by t.must_not;
}

abbrev pub entered_fact : Entering → SiteFact → SiteFact
entered_fact by none_yet = none_yet
entered_fact by some_yet = some_yet
entered_fact by (of_object t) = of_object (entered by t)

-- ---- leaving

-- What an exit hands on: static fields, and of a call what is returned or thrown.
abbrev pub is_handed_on : Entering → Root → Bool
is_handed_on by (Slot z) = false
is_handed_on by (Static f) = true
is_handed_on (by_call c) Returned = true
is_handed_on by_trigger Returned = false
is_handed_on (by_call c) Thrown = true
is_handed_on by_trigger Thrown = false

-- A slot of the caller that is not passed is as it was.
abbrev pub is_kept : Entering → Root → Bool
is_kept by (Slot z) = not (among (passed by) z)
is_kept by (Static f) = false
is_kept by Returned = false
is_kept by Thrown = false

-- A path of the caller joins where it begins at such a slot, and passes no field that the target may write.
abbrev pub joins : Setting → Entering → (target : MethodNo) → Path → Bool
joins w by target x = is_kept by x.root && not (list_any (w.answers.may_write_field target) x.fields)

abbrev pub left_set : Setting → Entering → (target : MethodNo) → (caller exit : List Path) → List Path
left_set w by target caller exit = path_set (filter (λ (x : Path). is_handed_on by x.root) exit ++ filter (joins w by target) caller)

-- The slots that the node writes: a call its arguments and its result; a node that waits for an initialiser none yet.
abbrev pub written_on : Entering → List ℕ
written_on (by_call c) = written_by c
written_on by_trigger = []

abbrev pub is_slot : Root → Bool
is_slot (Slot z) = true
is_slot (Static f) = false
is_slot Returned = false
is_slot Thrown = false

-- A path of the caller, of at least one field and with a slot as its root, does not join, and is not doubled.
abbrev pub is_left_out : Setting → LoweredMethod → Node → Entering → (target : MethodNo) → (after : List Path) → Path → Bool
is_left_out w l n by target after x =
    has_fields x.fields
    && (is_slot x.root && (not (joins w by target x) && not (is_doubled (unwritten w l n (among (written_on by))) after x)))

-- What an initialiser returns or throws is not handed on.
abbrev pub is_dropped : Entering → Path → Bool
is_dropped by x = not (is_handed_on by x.root) && not (is_slot x.root)

abbrev pub left : Setting → LoweredMethod → Node → Entering → (target : MethodNo) → (caller : Tuple) → (exit : Tuple) → Tuple
left w l n by target caller exit = record {
  unique = exit.unique;
  state = exit.state;
  must = left_set w by target caller.must exit.must;
  may = exit.may || (caller.may
      || (list_any (is_dropped by) exit.must || list_any (is_left_out w l n by target (left_set w by target caller.must exit.must)) caller.must));
  must_not = left_set w by target caller.must_not exit.must_not;
}

-- The object was not there at the call: nothing of the caller joins.
abbrev pub left_alone : Setting → Entering → (target : MethodNo) → (exit : Tuple) → Tuple
left_alone w by target exit = record {
  unique = exit.unique;
  state = exit.state;
  must = left_set w by target [] exit.must;
  may = exit.may || list_any (is_dropped by) exit.must;
  must_not = left_set w by target [] exit.must_not;
}

abbrev pub left_by_tuple : Setting → LoweredMethod → Node → Entering → (target : MethodNo) → (caller : SiteFact) → (exit : Tuple) → Tuple
left_by_tuple w l n by target none_yet exit = left_alone w by target exit
left_by_tuple w l n by target some_yet exit = left_alone w by target exit
left_by_tuple w l n by target (of_object t) exit = left w l n by target t exit

-- The state, and whether the object is the only one, are the exit's.
abbrev pub left_fact : Setting → LoweredMethod → Node → Entering → (target : MethodNo) → (caller exit : SiteFact) → SiteFact
left_fact w l n by target caller none_yet = none_yet
left_fact w l n by target caller some_yet = some_yet
left_fact w l n by target caller (of_object exit) = of_object (left_by_tuple w l n by target caller exit)
