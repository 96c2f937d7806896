-- What operations hand on reads as before.
use Rattle.std.proofs.Common.{◌≡◌, ℕ, List, [], ◌∷◌, Some, None, Contains, sym, ap, ◌∙◌, subst}
use Rattle.std.proofs.lemmas.Option.{none-some}
use Rattle.list_laws.proofs.Members.{contains_none}
use Rattle.op_model.specs.declared.op.Call.{Call as NodeCall}
use Rattle.op_model.specs.declared.op.Op.{Op}
use Rattle.op_model.specs.declared.op.Op.TheVariants.{Assign, Load, Store, LoadElement, StoreElement, LoadStatic, StoreStatic, New, NewArray, Constant, Call, Return, Throw, Cast, Probe}
use Rattle.machine_bytecode.specs.Objects.{Subject}
use Rattle.machine_bytecode.specs.States.{Value, World, primitive_value, slot_at}
use Rattle.machine_nodes.specs.NodeSteps.{Leads}
use Rattle.machine_nodes.specs.Slots.{AreLeft, argument_slots}
use Rattle.slot_names.specs.Variables.{effect_on, written_slots}
use Rattle.slot_names.proofs.Effects.{HandsOn, free, target_first, left_slot, left_by, moved_slot}

pub handed_on : (op : Op) (x : Subject) (before : World) (slots left : List Value) (after : World) (y z : ℕ) → Leads op x before slots left after → HandsOn (effect_on z op) y z → slot_at left z ≡ slot_at slots y
handed_on (Assign ms) x before slots left after y z l h = moved_slot ms slots left y z l.0 h
handed_on (Load object field target) x before slots left after y z l h = left_by (object ∷ []) (Some target) l.value slots left y z l.are_left h
handed_on (Store object field value) x before slots left after y z l h = left_by (object ∷ value ∷ []) None primitive_value slots left y z l.1 h
handed_on (LoadElement array target) x before slots left after y z l h = left_by (array ∷ []) (Some target) l.value slots left y z l.are_left h
handed_on (StoreElement array value) x before slots left after y z l h = left_by (array ∷ value ∷ []) None primitive_value slots left y z l.1 h
handed_on (LoadStatic field target) x before slots left after y z l h = left_by [] (Some target) l.value slots left y z l.are_left h
handed_on (StoreStatic field value) x before slots left after y z l h = left_by (value ∷ []) None primitive_value slots left y z l.1 h
handed_on (New site target) x before slots left after y z l h = left_by [] (Some target) l.made slots left y z l.are_left h
handed_on (NewArray sites target) x before slots left after y z l h = left_by [] (Some target) l.made slots left y z l.are_left h
handed_on (Constant site target) x before slots left after y z l h = left_by [] (Some target) l.value slots left y z l.are_left h
handed_on (Call call) x before slots left after y z l h = absurd l
handed_on (Return value) x before slots left after y z l h = absurd l
handed_on (Throw value) x before slots left after y z l h = absurd l
handed_on (Cast class slot) x before slots left after y z l h = l.1 z ∙ ap (slot_at slots) (sym (free (slot ∷ []) y z h).same)
handed_on (Probe slot) x before slots left after y z l h = left_by (slot ∷ []) None primitive_value slots left y z l.1 h

-- ---- calls

-- where the result comes at once
pub answered : (c : NodeCall) (v : Value) (before after : List Value) (y z : ℕ) → AreLeft (argument_slots c.arguments) c.result v before after → HandsOn (effect_on z (Call c)) y z → slot_at after z ≡ slot_at before y
answered c v before after y z left h =
    left_slot (written_slots (Call c)) (argument_slots c.arguments) c.result v before after y z (target_first (argument_slots c.arguments) c.result) left h

-- where the call waits, and the arguments are taken
pub stays_waiting : (c : NodeCall) (v : Value) (before after : List Value) (y z : ℕ) → AreLeft (argument_slots c.arguments) None v before after → HandsOn (effect_on z (Call c)) y z → slot_at after y ≡ slot_at before y
stays_waiting c v before after y z left h =
    let f = free (written_slots (Call c)) y z h in
    let among = target_first (argument_slots c.arguments) c.result in
    left.kept y (λ there. f.apart (among.operand z (subst (λ (x : ℕ). Contains (argument_slots c.arguments) x) f.same there))) (none-some y)

-- where the result comes later
pub returned : (c : NodeCall) (v : Value) (before after : List Value) (y z : ℕ) → AreLeft [] c.result v before after → HandsOn (effect_on z (Call c)) y z → slot_at after z ≡ slot_at before y
returned c v before after y z left h =
    let among = target_first (argument_slots c.arguments) c.result in
    left_slot (written_slots (Call c)) [] c.result v before after y z (record { operand = λ x there. absurd (contains_none x there); result = among.result }) left h
