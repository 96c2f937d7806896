-- The operation of a call has the units, the target and the result of the instruction.
use Rattle.std.proofs.Common.{◌≡◌, ◌⊎◌, inl, inr, ℕ, zero, suc, ◌+◌, ◌≤◌, Bool, true, false, cond, eqb, ◌||◌, List, [], ◌∷◌, ◌++◌, length, map, length-append, Option, Some, None, refl, sym, ap, ◌∙◌, subst, arith}
use Rattle.std.specs.List.{Contains, list_all, AllZip, flat_map, slice_get}
use Rattle.std.proofs.lemmas.List.{append-nil}
use Rattle.std.proofs.lemmas.Option.{same_Some}
use Rattle.jvm_model.specs.declared.pool.PoolEntry.{PoolEntry}
use Rattle.jvm_model.specs.Instructions.{HasDescriptorUnits, kinds_of, made_for}
use Rattle.jvm_model.specs.LinkedPrograms.{IsProgram}
use Rattle.jvm_model.specs.Lookups.{MemberReference}
use Rattle.jvm_model.specs.Programs.{Method, Program}
use Rattle.jvm_model.specs.Selection.{SelectsSpecial}
use Rattle.jvm_model.specs.Table.{UnitKind, any_kind, primitive, reference, UnitSource, the_made, onward, Action, invoke_virtual, invoke_special, invoke_static, invoke_interface, is_call, is_selecting}
use Rattle.op_model.specs.declared.op.Call.{Call as NodeCall}
use Rattle.op_model.specs.declared.op.CallKind.{CallKind}
use Rattle.op_model.specs.declared.op.CallKind.TheVariants.{Virtual, Special, Static, Interface}
use Rattle.op_model.specs.declared.op.Op.{Op}
use Rattle.op_model.specs.declared.op.Op.TheVariants.{Call}
use Rattle.machine_bytecode.specs.Machine.{AtInstruction, HasKind, IsTarget, NamesMethod, SelectsByObject}
use Rattle.machine_bytecode.specs.Objects.{IsOf}
use Rattle.machine_bytecode.specs.States.{Frame, Value, World, null_value, primitive_value, reference_to, slot_at}
use Rattle.machine_nodes.specs.NodeSteps.{IsTargetOf, is_selecting_kind}
use Rattle.machine_nodes.specs.Slots.{AreLeft, argument_slots, argument_values, returned_value}
use Rattle.lowering_spec.specs.Operations.{IsCallOp, IsOp, unit_slots, value_slot}
use Rattle.program_laws.proofs.Orders.{first_there, more_there, none_there, where_there}
use Rattle.program_laws.proofs.SpecialCalls.{one_special}
use Rattle.simulation.proofs.Known.{told}
use Rattle.simulation.proofs.Leads.{KindsOf, of_reference, of_primitives_alone, which_kinds, clear_units, top}
use Rattle.simulation.proofs.Left.{AllPrimitive, ArePopped, left_one, left_primitives}
use Rattle.lowering_laws.proofs.Named.{same_method}
use Rattle.lowering_laws.proofs.OneRow.{units_agree}
use Rattle.simulation.proofs.Rows.{IsCalling, ShapeOf, are_primitives}
use Rattle.simulation.proofs.Targets.{has_receiver}

-- ---- kinds that are told apart

abbrev is_known : UnitKind → Bool
is_known any_kind = false
is_known primitive = true
is_known reference = true

abbrev pub are_known : List UnitKind → Bool
are_known kinds = list_all is_known kinds

known_append : (ks js : List UnitKind) → are_known ks ≡ true → are_known js ≡ true → are_known (ks ++ js) ≡ true
known_append [] js e f = f
known_append (primitive ∷ ks) js e f = known_append ks js e f
known_append (reference ∷ ks) js e f = known_append ks js e f
known_append (any_kind ∷ ks) js e f = absurd cc

known_letter : (a b c : Bool) → are_known (cond a (primitive ∷ primitive ∷ []) (cond b (reference ∷ []) (cond c [] (primitive ∷ [])))) ≡ true
known_letter true b c = refl
known_letter false true c = refl
known_letter false false true = refl
known_letter false false false = refl

known_kinds : (text : List ℕ) → are_known (kinds_of text) ≡ true
known_kinds [] = refl
known_kinds (letter ∷ rest) = known_letter (eqb letter 74 || eqb letter 68) (eqb letter 76 || eqb letter 91) (eqb letter 86)

known_all : (texts : List (List ℕ)) → are_known (flat_map kinds_of texts) ≡ true
known_all [] = refl
known_all (t ∷ texts) = known_append (kinds_of t) (flat_map kinds_of texts) (known_kinds t) (known_all texts)

pub known_parameters : (text : List ℕ) (ps rs : List UnitKind) → HasDescriptorUnits text ps rs → are_known ps ≡ true
known_parameters text ps rs u = ap are_known u.parameters_are ∙ known_all u.is.parameters

-- ---- the units of a call

pub arguments_are : (kinds : List UnitKind) (units slots : List Value) (from : ℕ) → are_known kinds ≡ true → AllZip HasKind kinds units → ((i : ℕ) → slot_at slots (from + i) ≡ slot_at units i)
    → argument_values (unit_slots from kinds) slots ≡ units
arguments_are [] [] slots from e zip at = refl
arguments_are [] (v ∷ units) slots from e zip at = absurd zip
arguments_are (k ∷ kinds) [] slots from e zip at = absurd zip
arguments_are (any_kind ∷ kinds) (v ∷ units) slots from e zip at = absurd cc
arguments_are (primitive ∷ kinds) (primitive_value ∷ units) slots from e zip at =
    ap (λ (vs : List Value). primitive_value ∷ vs) (arguments_are kinds units slots (from + 1) e zip.1 (λ i. let next : from + 1 + i ≡ from + suc i = omega arith in ap (slot_at slots) next ∙ at (suc i)))
arguments_are (primitive ∷ kinds) (null_value ∷ units) slots from e zip at = absurd zip.0
arguments_are (primitive ∷ kinds) (reference_to place ∷ units) slots from e zip at = absurd zip.0
arguments_are (reference ∷ kinds) (v ∷ units) slots from e zip at =
    let here : from ≡ from + 0 = omega arith in
    let first : slot_at slots from ≡ v = ap (slot_at slots) here ∙ at 0 in
    let rest = arguments_are kinds units slots (from + 1) e zip.1 (λ i. let next : from + 1 + i ≡ from + suc i = omega arith in ap (slot_at slots) next ∙ at (suc i)) in
    ap (λ (w : Value). w ∷ argument_values (unit_slots (from + 1) kinds) slots) first ∙ ap (λ (vs : List Value). v ∷ vs) rest

slots_above : (kinds : List UnitKind) (from z : ℕ) → Contains (argument_slots (unit_slots from kinds)) z → from ≤ z
slots_above [] from z there = absurd (none_there z there)
slots_above (any_kind ∷ kinds) from z there = let le = slots_above kinds (from + 1) z there in omega (arith, le)
slots_above (primitive ∷ kinds) from z there = let le = slots_above kinds (from + 1) z there in omega (arith, le)
slots_above (reference ∷ kinds) from z there = by (where_there from z (argument_slots (unit_slots (from + 1) kinds)) there) (slots_above kinds (from + 1) z)
  where
    by : (from ≡ z) ⊎ Contains (argument_slots (unit_slots (from + 1) kinds)) z → (Contains (argument_slots (unit_slots (from + 1) kinds)) z → from + 1 ≤ z) → from ≤ z
    by (inl e) deeper = omega (arith, e)
    by (inr later) deeper = let le = deeper later in omega (arith, le)

clear_elsewhere : (kinds : List UnitKind) (units : List Value) (from : ℕ) → are_known kinds ≡ true → AllZip HasKind kinds units → (i : ℕ) → (Contains (argument_slots (unit_slots from kinds)) (from + i) → ⊥) → slot_at units i ≡ primitive_value
clear_elsewhere [] [] from e zip i free = refl
clear_elsewhere [] (v ∷ units) from e zip i free = absurd zip
clear_elsewhere (k ∷ kinds) [] from e zip i free = refl
clear_elsewhere (any_kind ∷ kinds) (v ∷ units) from e zip i free = absurd cc
clear_elsewhere (primitive ∷ kinds) (primitive_value ∷ units) from e zip zero free = refl
clear_elsewhere (primitive ∷ kinds) (null_value ∷ units) from e zip zero free = absurd zip.0
clear_elsewhere (primitive ∷ kinds) (reference_to place ∷ units) from e zip zero free = absurd zip.0
clear_elsewhere (primitive ∷ kinds) (v ∷ units) from e zip (suc i) free =
    let next : from + 1 + i ≡ from + suc i = omega arith in
    clear_elsewhere kinds units (from + 1) e zip.1 i (λ there. free (subst (Contains (argument_slots (unit_slots (from + 1) kinds))) next there))
clear_elsewhere (reference ∷ kinds) (v ∷ units) from e zip zero free =
    let here : from ≡ from + zero = omega arith in
    absurd (free (subst (Contains (from ∷ argument_slots (unit_slots (from + 1) kinds))) here (first_there from (argument_slots (unit_slots (from + 1) kinds)))))
clear_elsewhere (reference ∷ kinds) (v ∷ units) from e zip (suc i) free =
    let next : from + 1 + i ≡ from + suc i = omega arith in
    clear_elsewhere kinds units (from + 1) e zip.1 i
    (λ there. free (more_there from (from + suc i) (argument_slots (unit_slots (from + 1) kinds)) (subst (Contains (argument_slots (unit_slots (from + 1) kinds))) next there)))

pub call_popped : (kept units : List Value) (kinds : List UnitKind) → are_known kinds ≡ true → AllZip HasKind kinds units → ArePopped kept units (argument_slots (unit_slots (length kept) kinds))
call_popped kept units kinds e zip = record { above = λ z there. slots_above kinds (length kept) z there; each = λ i free. clear_elsewhere kinds units (length kept) e zip i free }

-- ---- what a call leaves

-- the units of a result: one reference, or primitives alone
pub data ResultKinds (kinds : List UnitKind) : Type 0 where
  one_reference : kinds ≡ reference ∷ [] → ResultKinds kinds
  all_primitives : are_primitives kinds ≡ true → ResultKinds kinds

pub result_kinds : (text : List ℕ) (ps rs : List UnitKind) → HasDescriptorUnits text ps rs → ResultKinds rs
result_kinds text ps rs u = by (which_kinds u.is.outcome)
  where
    by : KindsOf u.is.outcome → ResultKinds rs
    by (of_reference e one) = one_reference (u.results_are ∙ one)
    by (of_primitives_alone e all) = all_primitives (ap are_primitives u.results_are ∙ all)

no_slot : (from : ℕ) (kinds : List UnitKind) → are_primitives kinds ≡ true → value_slot from kinds ≡ None
no_slot from [] e = refl
no_slot from (primitive ∷ kinds) e = refl
no_slot from (any_kind ∷ kinds) e = absurd cc
no_slot from (reference ∷ kinds) e = absurd cc

clear_made : (kinds : List UnitKind) (f : UnitSource → Value) → f (made_for primitive) ≡ primitive_value → are_primitives kinds ≡ true → AllPrimitive (map f (map made_for kinds))
clear_made [] f is e i = refl
clear_made (primitive ∷ kinds) f is e zero = is
clear_made (primitive ∷ kinds) f is e (suc i) = clear_made kinds f is e i
clear_made (any_kind ∷ kinds) f is e i = absurd cc
clear_made (reference ∷ kinds) f is e i = absurd cc

-- what is pushed for a result in place of what was popped
pub result_left : (kept units : List Value) (operands : List ℕ) (kinds : List UnitKind) (v : Value) (f : UnitSource → Value) → f the_made ≡ v → f (made_for primitive) ≡ primitive_value → ResultKinds kinds → ArePopped kept units operands
    → AreLeft operands (value_slot (length kept) kinds) v (kept ++ units) (kept ++ map f (map made_for kinds))
result_left kept units operands kinds v f is clear (one_reference e) are =
    subst (λ (ks : List UnitKind). AreLeft operands (value_slot (length kept) ks) v (kept ++ units) (kept ++ map f (map made_for ks))) (sym e)
    (subst (λ (w : Value). AreLeft operands (Some (length kept)) v (kept ++ units) (kept ++ w ∷ [])) (sym is) (left_one kept units operands v are))
result_left kept units operands kinds v f is clear (all_primitives e) are =
    subst (λ (o : Option ℕ). AreLeft operands o v (kept ++ units) (kept ++ map f (map made_for kinds))) (sym (no_slot (length kept) kinds e))
    (left_primitives kept units (map f (map made_for kinds)) operands v are (clear_made kinds f clear e))

-- what is returned, behind the caller's slots
pub returned_left : (slots kept units : List Value) (kinds : List UnitKind) → ResultKinds kinds → AllZip HasKind kinds units
    → AreLeft [] (value_slot (length slots) kinds) (returned_value (value_slot (length kept) kinds) (kept ++ units)) slots (slots ++ units)
returned_left slots kept units kinds (one_reference e) zip = subst Here (sym e) (at_one units (subst (λ (ks : List UnitKind). AllZip HasKind ks units) e zip))
  where
    Here : List UnitKind → Type 0
    Here ks = AreLeft [] (value_slot (length slots) ks) (returned_value (value_slot (length kept) ks) (kept ++ units)) slots (slots ++ units)

    at_one : (vs : List Value) → AllZip HasKind (reference ∷ []) vs → AreLeft [] (Some (length slots)) (slot_at (kept ++ vs) (length kept)) slots (slots ++ vs)
    at_one [] z = absurd z
    at_one (v ∷ w ∷ vs) z = absurd z.1
    at_one (v ∷ []) z =
        let left = left_one slots [] [] v (record { above = λ y there. absurd (none_there y there); each = λ i free. refl }) in
        let old = subst (λ (before : List Value). AreLeft [] (Some (length slots)) v before (slots ++ v ∷ [])) (append-nil slots) left in
        subst (λ (w : Value). AreLeft [] (Some (length slots)) w slots (slots ++ v ∷ [])) (sym (top kept (v ∷ []))) old
returned_left slots kept units kinds (all_primitives e) zip =
    let value = returned_value (value_slot (length kept) kinds) (kept ++ units) in
    let left = left_primitives slots [] units [] value (record { above = λ y there. absurd (none_there y there); each = λ i free. refl }) (clear_units kinds units e zip) in
    subst (λ (o : Option ℕ). AreLeft [] o value slots (slots ++ units)) (sym (no_slot (length slots) kinds e))
    (subst (λ (before : List Value). AreLeft [] None value before (slots ++ units)) (append-nil slots) left)

-- ---- the operation of a call

pub record CallAt (x_program : Program) (f : Frame) (now : AtInstruction x_program f) (base : ℕ) (op : Op) (call : NodeCall) : Type 0 where
  pub is : op ≡ Call call
  pub names : NamesMethod x_program now.here.code.file.pool now.instruction.operand
  pub resolved : call.resolved.0 ≡ names.resolved
  pub signature : record { name = call.name; descriptor = call.descriptor } ≡ names.called.signature
  pub arguments : call.arguments ≡ unit_slots base now.row.pops
  pub parameters : List UnitKind
  pub results : List UnitKind
  pub described : HasDescriptorUnits names.called.signature.descriptor parameters results
  pub result : call.result ≡ value_slot base results
  pub pops : are_known now.row.pops ≡ true
  pub count : length now.row.pops ≡ cond (has_receiver now.row.action) 1 0 + length parameters
  pub pushes : now.row.pushes ≡ map made_for results
  pub stores : now.row.stores ≡ []
  pub goes : now.row.flow ≡ onward
  pub selects : is_selecting_kind call.kind ≡ is_selecting now.row.action

module _ (p : Program) (program : IsProgram p) (f : Frame) (now : AtInstruction p f) (base : ℕ) (op : Op) where
  abbrev Made : Type 0
  Made = (call : NodeCall) × CallAt p f now base op call

  made : (kind : CallKind) (receiver : List UnitKind) → IsCallOp (told p f now base) kind op → IsCalling now.here.code.file.pool now.instruction.operand receiver now.row
      → are_known receiver ≡ true → length receiver ≡ cond (has_receiver now.row.action) 1 0 → is_selecting_kind kind ≡ is_selecting now.row.action → Made
  made kind receiver is shape known count selects =
      let named : shape.method ≡ is.names.called = same_Some shape.method is.names.called (sym shape.named ∙ is.names.named) in
      let units = units_agree shape.method.signature.descriptor is.names.called.signature.descriptor shape.parameters shape.results is.parameters is.results (ap (λ (m : MemberReference). m.signature.descriptor) named) shape.described is.units in (
        _,
        record {
          is = is.is;
          names = is.names;
          resolved = refl;
          signature = refl;
          arguments = refl;
          parameters = is.parameters;
          results = is.results;
          described = is.units;
          result = refl;
          pops = ap are_known shape.units.pops_are ∙ known_append receiver shape.parameters known (known_parameters shape.method.signature.descriptor shape.parameters shape.results shape.described);
          count = ap (λ (ks : List UnitKind). length ks) shape.units.pops_are ∙ length-append receiver shape.parameters ∙ ap (λ (k : ℕ). k + length shape.parameters) count ∙ ap (λ (ps : List UnitKind). cond (has_receiver now.row.action) 1 0 + length ps) units.0;
          pushes = shape.units.pushes_are ∙ ap (map made_for) units.1;
          stores = shape.units.stores_are;
          goes = shape.goes;
          selects = selects;
        },
      )

  call_by : (a : Action) → now.row.action ≡ a → is_call a ≡ true → IsOp a (told p f now base) op → ShapeOf a now.here.code.file.pool now.instruction.operand now.row → Made
  call_by invoke_virtual e is op_is shape = made Virtual (reference ∷ []) op_is shape refl (ap (λ (b : Action). cond (has_receiver b) 1 0) (sym e)) (ap is_selecting (sym e))
  call_by invoke_special e is op_is shape = made Special (reference ∷ []) op_is shape refl (ap (λ (b : Action). cond (has_receiver b) 1 0) (sym e)) (ap is_selecting (sym e))
  call_by invoke_static e is op_is shape = made Static [] op_is shape refl (ap (λ (b : Action). cond (has_receiver b) 1 0) (sym e)) (ap is_selecting (sym e))
  call_by invoke_interface e is op_is shape = made Interface (reference ∷ []) op_is shape refl (ap (λ (b : Action). cond (has_receiver b) 1 0) (sym e)) (ap is_selecting (sym e))
  call_by _ e is op_is shape = absurd cc

  pub call_at : is_call now.row.action ≡ true → IsOp now.row.action (told p f now base) op → ShapeOf now.row.action now.here.code.file.pool now.instruction.operand now.row → Made
  call_at is op_is shape = call_by now.row.action refl is op_is shape

  -- ---- its target

  abbrev pool : List PoolEntry
  pool = now.here.code.file.pool

  abbrev operand : ℕ
  operand = now.instruction.operand

  object_target : (by_interface : Bool) (n m : NamesMethod p pool operand) (w : World) (units : List Value) (target : ℕ) → SelectsByObject p by_interface n.method n.resolved w units target
      → SelectsByObject p by_interface m.method m.resolved w units target
  object_target by_interface n m w units target s =
      let same = same_method p pool operand program n m in
      subst (λ (k : ℕ). SelectsByObject p by_interface m.method k w units target) same.resolved (subst (λ (k : Method). SelectsByObject p by_interface k n.resolved w units target) same.method s)

  abbrev Targeted : World → List Value → ℕ → NodeCall → Type 0
  Targeted w units target call = (m : Method) × (slice_get p.methods call.resolved.0 ≡ Some m) × IsTargetOf call.kind p call m w units target

  same_call : (a b : NodeCall) → Call a ≡ Call b → a ≡ b
  same_call a b e = cc e

  by_object : (kind : CallKind) (by_interface : Bool) (w : World) (units : List Value) (target : ℕ) → ((c : NodeCall) (m : Method) → SelectsByObject p by_interface m c.resolved.0 w units target → IsTargetOf kind p c m w units target)
      → IsCallOp (told p f now base) kind op → (n : NamesMethod p pool operand) → SelectsByObject p by_interface n.method n.resolved w units target → (call : NodeCall) → op ≡ Call call → Targeted w units target call
  by_object kind by_interface w units target to is n t call e =
      subst (Targeted w units target) (same_call _ call (sym is.is ∙ e)) (is.names.method, is.names.stands, to _ is.names.method (object_target by_interface n is.names w units target t))

  by_special : (w : World) (units : List Value) (target : ℕ) → IsCallOp (told p f now base) Special op → (n : NamesMethod p pool operand) → IsOf p n.method.class w (slot_at units 0)
      → SelectsSpecial p now.here.code.method.class n.called target → (call : NodeCall) → op ≡ Call call → Targeted w units target call
  by_special w units target is n of selects call e =
      let same = same_method p pool operand program n is.names in
      let object = subst (λ (m : Method). IsOf p m.class w (slot_at units 0)) same.method of in
      let mine = subst (λ (r : MemberReference). SelectsSpecial p now.here.code.method.class r target) same.called selects in
      let one = one_special p now.here.code.method.class is.names.called is.is_chosen.0 target program is.is_chosen.1 mine in
      subst (Targeted w units target) (same_call _ call (sym is.is ∙ e)) (is.names.method, is.names.stands, (object, is.is_chosen.2 ∙ ap (λ (t : ℕ). Some (record { 0 = t })) one))

  by_static : (w : World) (units : List Value) (target : ℕ) → IsCallOp (told p f now base) Static op → (n : NamesMethod p pool operand) → target ≡ n.resolved → (call : NodeCall) → op ≡ Call call → Targeted w units target call
  by_static w units target is n t call e =
      let same = same_method p pool operand program n is.names in
      subst (Targeted w units target) (same_call _ call (sym is.is ∙ e)) (is.names.method, is.names.stands, is.is_chosen ∙ ap (λ (k : ℕ). Some (record { 0 = k })) (sym (t ∙ same.resolved)))

  pub node_target : (a : Action) → IsOp a (told p f now base) op → (n : NamesMethod p pool operand) (w : World) (units : List Value) (target : ℕ) → IsTarget a p now.here.code.method.class pool operand n w units target
      → (call : NodeCall) → op ≡ Call call → (m : Method) × (slice_get p.methods call.resolved.0 ≡ Some m) × IsTargetOf call.kind p call m w units target
  node_target invoke_virtual op_is n w units target t call e = by_object Virtual false w units target (λ c m s. s) op_is n t call e
  node_target invoke_special op_is n w units target t call e = by_special w units target op_is n t.0 t.1 call e
  node_target invoke_static op_is n w units target t call e = by_static w units target op_is n t.1 call e
  node_target invoke_interface op_is n w units target t call e = by_object Interface true w units target (λ c m s. s) op_is n t call e
  node_target _ op_is n w units target t call e = absurd t

  -- an instruction with a target is a call
  pub calls_it : (a : Action) (n : NamesMethod p pool operand) (w : World) (units : List Value) (target : ℕ) → IsTarget a p now.here.code.method.class pool operand n w units target → is_call a ≡ true
  calls_it invoke_virtual n w units target t = refl
  calls_it invoke_special n w units target t = refl
  calls_it invoke_static n w units target t = refl
  calls_it invoke_interface n w units target t = refl
  calls_it _ n w units target t = absurd t
