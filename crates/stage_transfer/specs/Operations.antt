-- Public contracts rest on this module.
-- What an operation does to facts on the way to a successor of its node. Before it all sets are read, and every slot that it writes goes: its
-- target, and the slots that it names as operands.
use Rattle.std.specs.Prelude.{ℕ, nat_le, Bool, true, false, not, ◌&&◌, ◌||◌, List, [], ◌∷◌, ◌++◌, length, map, filter, flat_map, Option, Some, None, if◌then◌else◌}
use Rattle.std.specs.List.{list_any}
use Rattle.std.specs.Option.{option_to_list}
use Rattle.jvm_model.specs.declared.number.FieldNo.{FieldNo}
use Rattle.op_model.specs.declared.lowered.LoweredMethod.{LoweredMethod}
use Rattle.op_model.specs.declared.node.Node.{Node}
use Rattle.op_model.specs.declared.op.Move.{Move}
use Rattle.op_model.specs.declared.op.Op.{Op}
use Rattle.op_model.specs.declared.op.Op.TheVariants.{Assign, Load, Store, LoadElement, StoreElement, LoadStatic, StoreStatic, New, NewArray, Constant, Call, Return, Throw, Cast, Probe}
use Rattle.op_model.specs.declared.op.Source.{Source}
use Rattle.op_model.specs.declared.op.Source.TheVariants as sources
use Rattle.machine_nodes.specs.Slots.{argument_slots}
use Rattle.access_paths.specs.declared.root.Root.{Root}
use Rattle.access_paths.specs.declared.root.Root.TheVariants.{Slot, Static, Returned}
use Rattle.access_paths.specs.Paths.{Path, bare, has_path, path_set, same_root, with_path}
use Rattle.stage_facts.specs.Facts.{Tuple, SiteFact, none_yet, some_yet, of_object}
use Rattle.stage_transfer.specs.Settings.{Setting, alike, among, same_field, same_site}
use Rattle.stage_transfer.specs.Changes.{Change, Copy, begins_at, changed, copied, copying, moved_to, slots_go, unwritten, with_may, writing}

-- ---- moves

abbrev pub target_of : Move → ℕ
target_of m = m.target

-- A move of a slot copies it; null and a primitive are no object.
abbrev pub copies_of : Source → (target : ℕ) → List Copy
copies_of (sources.Slot y) target = record { from = Slot y; to = Slot target } ∷ []
copies_of sources.Null target = []
copies_of sources.Primitive target = []

-- The slot into which a slot of the root's variable is moved.
abbrev pub moved_by : Setting → LoweredMethod → Node → Root → Source → (target : ℕ) → List Root
moved_by w l n r (sources.Slot y) target = moved_to w l n y (Slot target) r
moved_by w l n r sources.Null target = []
moved_by w l n r sources.Primitive target = []

-- Each source is copied to its target.
abbrev pub assigning : Setting → LoweredMethod → Node → List Move → Change
assigning w l n moves = record {
  adds = copied (flat_map (λ (m : Move). copies_of m.source m.target) moves);
  goes = slots_go (among (map target_of moves));
  doubles = λ r. unwritten w l n (among (map target_of moves)) r ++ flat_map (λ (m : Move). moved_by w l n r m.source m.target) moves;
}

-- ---- loads

-- The path behind the field, of the target.
abbrev pub loaded_fields : FieldNo → (target : ℕ) → List FieldNo → List Path
loaded_fields field target [] = []
loaded_fields field target (f ∷ rest) = if same_field field f then record { root = Slot target; fields = rest } ∷ [] else []

abbrev pub loaded : (object : ℕ) → FieldNo → (target : ℕ) → List Path → List Path
loaded object field target set = flat_map (λ (x : Path). loaded_fields field target x.fields) (filter (begins_at (Slot object)) set)

abbrev pub ends_in : FieldNo → List FieldNo → Bool
ends_in field [] = false
ends_in field (f ∷ []) = same_field field f
ends_in field (f ∷ g ∷ rest) = ends_in field (g ∷ rest)

abbrev pub field_of : (object : ℕ) → FieldNo → Path
field_of object field = record { root = Slot object; fields = field ∷ [] }

-- Some path ends in the field, but not that of the object: so the object may be what is loaded.
abbrev pub may_be_loaded : (object : ℕ) → FieldNo → List Path → Bool
may_be_loaded object field must = not (has_path must (field_of object field)) && list_any (λ (x : Path). ends_in field x.fields) must

-- For each path of the object that begins with the field, the target has that behind it.
abbrev pub after_load : Setting → LoweredMethod → Node → (object : ℕ) → FieldNo → (target : ℕ) → Tuple → Tuple
after_load w l n object field target t =
    with_may (may_be_loaded object field t.must)
    (changed (record { adds = loaded object field target; goes = slots_go (among (object ∷ target ∷ [])); doubles = unwritten w l n (among (object ∷ target ∷ [])) }) t)

-- ---- stores

abbrev pub passes_field : FieldNo → Path → Bool
passes_field field x = list_any (same_field field) x.fields

-- The field itself of the object, by a slot of its variable.
abbrev pub is_stored_field : Setting → LoweredMethod → Node → (object : ℕ) → FieldNo → Path → Bool
is_stored_field w l n object field x = has_path (map (λ (z : ℕ). field_of z field) (alike w l n object)) x

-- For each path of the value, that of the field, by each slot of the object's variable.
abbrev pub stored : Setting → LoweredMethod → Node → (object : ℕ) → FieldNo → (value : ℕ) → List Path → List Path
stored w l n object field value set =
    flat_map (λ (z : ℕ). map (λ (x : Path). record { root = Slot z; fields = field ∷ x.fields }) (filter (begins_at (Slot value)) set)) (alike w l n object)

abbrev pub is_short : Setting → Path → Bool
is_short w x = nat_le (length x.fields) w.depth

-- What is left of a set where the field is stored to: the paths that do not pass the field.
abbrev pub unstored : FieldNo → List Path → List Path
unstored field set = filter (λ (x : Path). not (passes_field field x)) set

abbrev pub stored_set : Setting → LoweredMethod → Node → (object : ℕ) → FieldNo → (value : ℕ) → List Path → List Path
stored_set w l n object field value set = path_set (unstored field set ++ filter (is_short w) (stored w l n object field value (unstored field set)))

-- A path that passes the field leaves, and a path that would have too many fields is left out. Each such must path sets may, but for the field
-- itself of the object.
abbrev pub store_loses : Setting → LoweredMethod → Node → (object : ℕ) → FieldNo → (value : ℕ) → List Path → Bool
store_loses w l n object field value must =
    list_any (λ (x : Path). passes_field field x && not (is_stored_field w l n object field x)) must
    || list_any (λ (x : Path). not (is_short w x)) (stored w l n object field value (unstored field must))

-- Then the operands go. The object is one of the slots of its variable: the path that was added for it goes with it.
abbrev pub after_store : Setting → LoweredMethod → Node → (object : ℕ) → FieldNo → (value : ℕ) → Tuple → Tuple
after_store w l n object field value t =
    changed (writing w l n (object ∷ value ∷ [])) (record {
      unique = t.unique;
      state = t.state;
      must = stored_set w l n object field value t.must;
      may = t.may || store_loses w l n object field value t.must;
      must_not = stored_set w l n object field value t.must_not;
    })

-- A static field is loaded: it is copied.
abbrev pub after_static_load : Setting → LoweredMethod → Node → FieldNo → (target : ℕ) → Tuple → Tuple
after_static_load w l n field target t = changed (copying w l n (target ∷ []) (record { from = Static field; to = Slot target })) t

-- A static field is stored to: it goes, and the value is copied to it.
abbrev pub storing_static : Setting → LoweredMethod → Node → FieldNo → (value : ℕ) → Change
storing_static w l n field value = record {
  adds = copied (record { from = Slot value; to = Static field } ∷ []);
  goes = λ r. slots_go (among (value ∷ [])) r || same_root (Static field) r;
  doubles = unwritten w l n (among (value ∷ []));
}

-- Objects are put where no path leads: into an array, or to what the library keeps.
abbrev pub puts_away : List ℕ → Tuple → Tuple
puts_away values t = with_may (list_any (λ (z : ℕ). has_path t.must (bare (Slot z))) values) t

-- ---- allocation

-- The tuple of a new object, which the slot holds, if there is one.
abbrev pub new_tuple : Setting → (target : Option ℕ) → (unique : Bool) → Tuple
new_tuple w target unique =
    record { unique = unique; state = w.property.initial; must = map (λ (z : ℕ). bare (Slot z)) (option_to_list target); may = false; must_not = [] }

-- Of another object: it is not the only one any more, and the slot holds the new one.
abbrev pub beside_new : (target : Option ℕ) → Tuple → Tuple
beside_new None t = record { unique = false; state = t.state; must = t.must; may = t.may; must_not = t.must_not }
beside_new (Some z) t = record { unique = false; state = t.state; must = t.must; may = t.may; must_not = with_path (bare (Slot z)) t.must_not }

-- An object of the site is allocated. It may be the one of the fact, or not.
abbrev pub after_new : Setting → (target : Option ℕ) → (Tuple → Tuple) → SiteFact → List SiteFact
after_new w target written none_yet = some_yet ∷ of_object (new_tuple w target true) ∷ []
after_new w target written some_yet = some_yet ∷ of_object (new_tuple w target false) ∷ []
after_new w target written (of_object t) = of_object (beside_new target (written t)) ∷ []

-- ---- facts

-- What changes tuples alone.
abbrev pub on_tuples : (Tuple → Tuple) → SiteFact → List SiteFact
on_tuples f none_yet = none_yet ∷ []
on_tuples f some_yet = some_yet ∷ []
on_tuples f (of_object t) = of_object (f t) ∷ []

abbrev pub every_slot : ℕ → Bool
every_slot z = true

-- A return: what was returned before goes, the value is copied there, and all slots go.
abbrev pub returning : (value : Option ℕ) → Change
returning value = record {
  adds = copied (map (λ (z : ℕ). record { from = Slot z; to = Returned }) (option_to_list value));
  goes = λ r. slots_go every_slot r || same_root Returned r;
  doubles = λ r. [];
}

-- After a call: what was returned is copied to the slot of the result, and goes.
abbrev pub receiving : Setting → LoweredMethod → Node → (arguments : List ℕ) → (result : Option ℕ) → Change
receiving w l n arguments result = record {
  adds = copied (map (λ (z : ℕ). record { from = Returned; to = Slot z }) (option_to_list result));
  goes = λ r. slots_go (among (option_to_list result ++ arguments)) r || same_root Returned r;
  doubles = λ r. unwritten w l n (among (option_to_list result ++ arguments)) r ++ (if same_root Returned r then map Slot (option_to_list result) else []);
}

-- On the way to a successor; of a call, once it has returned; of a return, out of the method. A throw has no such way. A cast keeps its slot.
abbrev pub after_operation : Setting → LoweredMethod → Node → Op → SiteFact → List SiteFact
after_operation w l n (Assign moves) fact = on_tuples (changed (assigning w l n moves)) fact
after_operation w l n (Load object field target) fact = on_tuples (after_load w l n object field target) fact
after_operation w l n (Store object field value) fact = on_tuples (after_store w l n object field value) fact
after_operation w l n (LoadElement array target) fact = on_tuples (changed (writing w l n (array ∷ target ∷ []))) fact
after_operation w l n (StoreElement array value) fact = on_tuples (λ t. changed (writing w l n (array ∷ value ∷ [])) (puts_away (value ∷ []) t)) fact
after_operation w l n (LoadStatic field target) fact = on_tuples (after_static_load w l n field target) fact
after_operation w l n (StoreStatic field value) fact = on_tuples (changed (storing_static w l n field value)) fact
after_operation w l n (New site target) fact =
    if same_site site w.site
    then after_new w (Some target) (changed (writing w l n (target ∷ []))) fact
    else on_tuples (changed (writing w l n (target ∷ []))) fact
after_operation w l n (NewArray sites target) fact = on_tuples (changed (writing w l n (target ∷ []))) fact
after_operation w l n (Constant site target) fact = on_tuples (changed (writing w l n (target ∷ []))) fact
after_operation w l n (Call call) fact = on_tuples (changed (receiving w l n (argument_slots call.arguments) call.result)) fact
after_operation w l n (Return value) fact = on_tuples (changed (returning value)) fact
after_operation w l n (Throw value) fact = []
after_operation w l n (Cast class z) fact = fact ∷ []
after_operation w l n (Probe z) fact = on_tuples (changed (writing w l n (z ∷ []))) fact
