-- The machine goes on at an instruction, action by action.
use Rattle.std.proofs.Common.{◌≡◌, ◌⊎◌, inl, inr, ℕ, Bool, true, false, List, ◌∷◌, ◌++◌, refl}
use Rattle.std.specs.Prelude.{MatchBool, codes}
use Rattle.jvm_model.specs.declared.site.SiteKind.TheVariants.{New}
use Rattle.jvm_model.specs.Subtypes.{Fits}
use Rattle.jvm_model.specs.Table.{Action, plain, load_constant, load_element, store_element, probe_element, probe_array, probe_object, get_static, put_static, get_field, put_field, invoke_virtual, invoke_special, invoke_static, invoke_interface, make_object, make_array, throw_object, cast, leave_method, refused, null_pointer, array_index, class_cast, negative_size}
use Rattle.machine_bytecode.specs.Machine.{At, HasOperands, of_string, of_class, NamesField, NamesClass, throws, returns, resumes, Leaves, IsAfterCall, of_start, of_code}
use Rattle.machine_bytecode.specs.Objects.{Subject, Refers, ReadsField, WritesField, IsOf, no_object, fitting}
use Rattle.machine_bytecode.specs.States.{Value, primitive_value, null_value, reference_to, fields, World, State, is_reference_type, slot_at, runs_on, throws_on, moved_to, with_contents, with_object, new_object, site_at, updated}
use Rattle.machine_laws.specs.Progress.{GoesOn, HasConstant, HasFields, IsHolder, IsNull, CanReturn, CanGoOn, IsReady}
use Rattle.machine_laws.proofs.ProgressCalls.{calls}
use Rattle.machine_laws.proofs.ProgressDecided.{DecidesSubtypes, DecidesFits}
use Rattle.machine_laws.proofs.ProgressSteps.{HasUnits, moves_onward, moves_plainly, raises_it_here}

-- ---- constants and fields

loads : (x : Subject) (s : State) (h : HasUnits x s) → h.at.now.row.action ≡ load_constant → HasConstant h.at.now.here.code.file.pool h.at.now.instruction.operand → GoesOn x s
loads x s h is (inl (text, e)) = moves_onward x s h load_constant is refl (reference_to 0) s.world (of_string text e (record { place = 0; stands = refl; is = refl }), refl)
loads x s h is (inr (name, e)) = moves_onward x s h load_constant is refl (reference_to 1) s.world (of_class name e (record { place = 1; stands = refl; is = refl }), refl)

read_by : (b : Bool) (w : World) (object : Value) (number : ℕ) → MatchBool b (HasFields w object) (Refers w object)
    → (made : Value) × MatchBool b (ReadsField w object number made) (Refers w object × (made ≡ primitive_value))
read_by true w object number has = (has.values number, record { to = has.to; values = has.values; holds = has.holds; is = refl })
read_by false w object number to = (primitive_value, (to, refl))

write_by : (b : Bool) (w : World) (object : Value) (number : ℕ) (v : Value) → MatchBool b (HasFields w object) (Refers w object)
    → (after : World) × MatchBool b (WritesField w object number v after) (Refers w object × (after ≡ w))
write_by true w object number v has =
    (with_contents w has.to.place has.to.object (fields (updated has.values number v)), record { to = has.to; values = has.values; holds = has.holds; is = refl })
write_by false w object number v to = (w, (to, refl))

gets : (x : Subject) (s : State) (h : HasUnits x s) → h.at.now.row.action ≡ get_field → (n : NamesField x.program h.at.now.here.code.file.pool h.at.now.instruction.operand false)
    → IsNull h.units ⊎ IsHolder n.field s.world (slot_at h.units 0) → GoesOn x s
gets x s h is n (inl null) = raises_it_here x s h null_pointer get_field is refl null
gets x s h is n (inr holder) =
    let r = read_by (is_reference_type n.field.signature.descriptor) s.world (slot_at h.units 0) n.number holder in
    moves_onward x s h get_field is refl r.0 s.world (n, (r.1, refl))

puts : (x : Subject) (s : State) (h : HasUnits x s) → h.at.now.row.action ≡ put_field → (n : NamesField x.program h.at.now.here.code.file.pool h.at.now.instruction.operand false)
    → IsNull h.units ⊎ IsHolder n.field s.world (slot_at h.units 0) → GoesOn x s
puts x s h is n (inl null) = raises_it_here x s h null_pointer put_field is refl null
puts x s h is n (inr holder) =
    let w = write_by (is_reference_type n.field.signature.descriptor) s.world (slot_at h.units 0) n.number (slot_at h.units 1) holder in
    moves_onward x s h put_field is refl primitive_value w.0 (n, w.1, refl)

-- ---- casts, throws and returns

casts : (x : Subject) → DecidesFits x.program → (s : State) (h : HasUnits x s) → h.at.now.row.action ≡ cast → (n : NamesClass h.at.now.here.code.file.pool h.at.now.instruction.operand)
    → IsNull h.units ⊎ Refers s.world (slot_at h.units 0) → GoesOn x s
casts x decides s h is n (inl null) = moves_onward x s h cast is refl primitive_value s.world (n, no_object null, (refl, refl))
casts x decides s h is n (inr to) = by (decides n.class to.object.class) where
  by : Fits x.program n.class to.object.class ⊎ (Fits x.program n.class to.object.class → ⊥) → GoesOn x s
  by (inl fits) = moves_onward x s h cast is refl primitive_value s.world (n, fitting (record { to = to; fits = fits }), (refl, refl))
  by (inr misfit) = raises_it_here x s h class_cast cast is refl (n, record { to = to; misfit = misfit })

throws_it : (x : Subject) (s : State) (h : HasUnits x s) → h.at.now.row.action ≡ throw_object → IsNull h.units ⊎ IsOf x.program (codes "java/lang/Throwable") s.world (slot_at h.units 0) → GoesOn x s
throws_it x s h is (inl null) = raises_it_here x s h null_pointer throw_object is refl null
throws_it x s h is (inr thrown) = record {
  next = throws_on (h.at.frame ∷ h.at.below) s.world thrown.to.place;
  step = throws h.at (record { action = is; kept = h.kept; units = h.units; operands = h.operands; thrown = thrown; after = refl });
}

leaves_of : (x : Subject) (s : State) (h : HasUnits x s) → h.at.now.row.action ≡ leave_method → CanReturn x s h.at → Leaves x.program h.at.frame h.at.now
leaves_of x s h is r = record { action = is; kept = h.kept; units = h.units; operands = h.operands; parameters = r.parameters; results = r.results }

returns_to : (x : Subject) (s : State) (h : HasUnits x s) → h.at.now.row.action ≡ leave_method → (r : CanReturn x s h.at) → r.caller.waits ≡ true → (next : ℕ) → IsAfterCall x.program r.caller next → GoesOn x s
returns_to x s h is r waits next goes = let l = leaves_of x s h is r in record {
  next = runs_on (moved_to r.caller next (r.caller.slots ++ l.units) ∷ r.rest) s.world;
  step = returns h.at (record { leaves = l; caller = r.caller; rest = r.rest; below = r.below; called = waits; next = next; goes = goes; after = refl });
}

leaves : (x : Subject) (s : State) (h : HasUnits x s) → h.at.now.row.action ≡ leave_method → (r : CanReturn x s h.at) → CanGoOn x r.caller → GoesOn x s
leaves x s h is r (inl resumed) = record {
  next = runs_on (r.caller ∷ r.rest) s.world;
  step = resumes h.at (record { leaves = leaves_of x s h is r; caller = r.caller; rest = r.rest; below = r.below; triggered = resumed; after = refl });
}
leaves x s h is r (inr (waits, inl start)) = returns_to x s h is r waits _ (of_start start refl)
leaves x s h is r (inr (waits, inr at)) = returns_to x s h is r waits _ (of_code at refl)

-- ---- each action

goes_by : (x : Subject) → DecidesSubtypes x.program → DecidesFits x.program → (s : State) (h : HasUnits x s) (a : Action) → h.at.now.row.action ≡ a → IsReady a x s h.at h.units → GoesOn x s
goes_by x subtypes fits s h plain is ready = moves_plainly x s h is ready
goes_by x subtypes fits s h load_constant is ready = loads x s h is ready
goes_by x subtypes fits s h load_element is (inl null) = raises_it_here x s h null_pointer load_element is refl null
goes_by x subtypes fits s h load_element is (inr array) = raises_it_here x s h array_index load_element is refl (record { default = null_value; of_action = refl; array = array })
goes_by x subtypes fits s h store_element is (inl null) = raises_it_here x s h null_pointer store_element is refl null
goes_by x subtypes fits s h store_element is (inr array) = raises_it_here x s h array_index store_element is refl (record { default = null_value; of_action = refl; array = array })
goes_by x subtypes fits s h probe_element is (inl null) = raises_it_here x s h null_pointer probe_element is refl null
goes_by x subtypes fits s h probe_element is (inr array) = moves_onward x s h probe_element is refl primitive_value s.world (array, (refl, refl))
goes_by x subtypes fits s h probe_array is (inl null) = raises_it_here x s h null_pointer probe_array is refl null
goes_by x subtypes fits s h probe_array is (inr array) = moves_onward x s h probe_array is refl primitive_value s.world (array, (refl, refl))
goes_by x subtypes fits s h probe_object is (inl null) = raises_it_here x s h null_pointer probe_object is refl null
goes_by x subtypes fits s h probe_object is (inr to) = moves_onward x s h probe_object is refl primitive_value s.world (to, (refl, refl))
goes_by x subtypes fits s h get_static is n = moves_onward x s h get_static is refl _ s.world (n, (refl, refl))
goes_by x subtypes fits s h put_static is n = moves_onward x s h put_static is refl primitive_value _ (n, refl, refl)
goes_by x subtypes fits s h get_field is ready = gets x s h is ready.0 ready.1
goes_by x subtypes fits s h put_field is ready = puts x s h is ready.0 ready.1
goes_by x subtypes fits s h invoke_virtual is (inl null) = raises_it_here x s h null_pointer invoke_virtual is refl null
goes_by x subtypes fits s h invoke_virtual is (inr callable) = calls x subtypes s h callable
goes_by x subtypes fits s h invoke_special is (inl null) = raises_it_here x s h null_pointer invoke_special is refl null
goes_by x subtypes fits s h invoke_special is (inr callable) = calls x subtypes s h callable
goes_by x subtypes fits s h invoke_static is callable = calls x subtypes s h callable
goes_by x subtypes fits s h invoke_interface is (inl null) = raises_it_here x s h null_pointer invoke_interface is refl null
goes_by x subtypes fits s h invoke_interface is (inr callable) = calls x subtypes s h callable
goes_by x subtypes fits s h make_object is n =
    moves_onward x s h make_object is refl (reference_to _) (with_object s.world (new_object x.program (site_at New h.at.frame n.class) x.property.initial)) (n, record { made_is = refl; after_is = refl })
goes_by x subtypes fits s h make_array is ready = raises_it_here x s h negative_size make_array is refl tt
goes_by x subtypes fits s h throw_object is ready = throws_it x s h is ready
goes_by x subtypes fits s h cast is ready = casts x fits s h is ready.0 ready.1
goes_by x subtypes fits s h leave_method is ready = leaves x s h is ready ready.goes_on
goes_by x subtypes fits s h refused is ready = absurd ready

pub running_goes_on : (x : Subject) → DecidesSubtypes x.program → DecidesFits x.program → (s : State) (at : At x.program s) (kept units : List Value)
    → HasOperands at.now.row at.frame.slots kept units → IsReady at.now.row.action x s at units → GoesOn x s
running_goes_on x subtypes fits s at kept units operands ready =
    goes_by x subtypes fits s (record { at = at; kept = kept; units = units; operands = operands }) at.now.row.action refl ready
