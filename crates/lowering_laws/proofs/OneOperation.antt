-- An instruction has one operation, but for the order and the repeats of moves.
use Rattle.std.proofs.Common.{◌≡◌, ℕ, Bool, ◌+◌, true, false, List, map, Option, Some, if◌then◌else◌, sym, ap, ◌∙◌, subst}
use Rattle.std.specs.Bool.{MatchBool}
use Rattle.jvm_model.specs.declared.number.FieldNo.{FieldNo}
use Rattle.jvm_model.specs.declared.number.MethodNo.{MethodNo}
use Rattle.jvm_model.specs.LinkedPrograms.{IsProgram}
use Rattle.jvm_model.specs.Lookups.{MemberReference}
use Rattle.jvm_model.specs.Programs.{Field}
use Rattle.jvm_model.specs.Selection.{SelectsSpecial}
use Rattle.jvm_model.specs.Table.{UnitKind, Action, plain, load_constant, load_element, store_element, probe_element, probe_array, probe_object, get_static, put_static, get_field, put_field, invoke_virtual, invoke_special, invoke_static, invoke_interface, make_object, make_array, throw_object, cast, leave_method, refused}
use Rattle.op_model.specs.declared.op.CallKind.{CallKind}
use Rattle.op_model.specs.declared.op.CallKind.TheVariants.{Virtual, Special, Static, Interface}
use Rattle.op_model.specs.declared.op.Op.{Op}
use Rattle.op_model.specs.declared.op.Op.TheVariants.{Load, Store, LoadStatic, StoreStatic, New, NewArray, Constant, Call, Cast, Probe}
use Rattle.machine_bytecode.specs.Machine.{NamesMethod}
use Rattle.machine_bytecode.specs.Start.{boot_site}
use Rattle.machine_bytecode.specs.States.{is_reference_type}
use Rattle.lowering_spec.specs.Operations.{Placed, IsAssign, IsCallOp, IsChosen, IsFieldOp, IsOp, IsStaticOp, field_no, new_site, unit_slots, value_slot}
use Rattle.lowering_laws.specs.Alike.{AlikeOps, equal, by_moves}
use Rattle.program_laws.proofs.SpecialCalls.{one_special}
use Rattle.lowering_laws.proofs.Named.{one_arrays, one_class, one_constant, same_field, same_method}
use Rattle.lowering_laws.proofs.OneRow.{units_agree}

same_moves : (i : Placed) (a b : Op) → IsAssign i a → IsAssign i b → AlikeOps a b
same_moves i a b x y =
    by_moves x.moves y.moves x.is y.is (record { each = λ m. (λ there. (y.each.each m).1 ((x.each.each m).0 there), λ there. (x.each.each m).1 ((y.each.each m).0 there)) })

-- ---- fields

by_reference : (i : Placed) (reference : Bool) (of_reference : FieldNo → Op) (m n : ℕ) (a b : Op) → m ≡ n → MatchBool reference (a ≡ of_reference (field_no m)) (IsAssign i a)
    → MatchBool reference (b ≡ of_reference (field_no n)) (IsAssign i b) → AlikeOps a b
by_reference i true of_reference m n a b same x y = equal (x ∙ ap (λ (k : ℕ). of_reference (field_no k)) same ∙ sym y)
by_reference i false of_reference m n a b same x y = same_moves i a b x y

one_static : (i : Placed) → IsProgram i.program → (of_reference : FieldNo → Op) (a b : Op) → IsStaticOp i of_reference a → IsStaticOp i of_reference b → AlikeOps a b
one_static i program of_reference a b x y =
    let same = same_field i.program i.pool i.instruction.operand true program x.names y.names in
    let is = subst (λ (f : Field). MatchBool (is_reference_type f.signature.descriptor) (a ≡ of_reference (field_no x.names.number)) (IsAssign i a)) same.field x.is in
    by_reference i (is_reference_type y.names.field.signature.descriptor) of_reference x.names.number y.names.number a b same.number is y.is

one_access : (i : Placed) → IsProgram i.program → (of_reference : FieldNo → Op) (a b : Op) → IsFieldOp i of_reference a → IsFieldOp i of_reference b → AlikeOps a b
one_access i program of_reference a b x y =
    let same = same_field i.program i.pool i.instruction.operand false program x.names y.names in
    equal (x.is
    ∙ ap (λ (f : Field). if is_reference_type f.signature.descriptor then of_reference (field_no x.names.number) else Probe i.base) same.field
    ∙ ap (λ (n : ℕ). if is_reference_type y.names.field.signature.descriptor then of_reference (field_no n) else Probe i.base) same.number
    ∙ sym y.is)

-- ---- calls

one_chosen : (kind : CallKind) (i : Placed) → IsProgram i.program → (m n : NamesMethod i.program i.pool i.instruction.operand) (a b : Option MethodNo) → m.called ≡ n.called → m.resolved ≡ n.resolved
    → IsChosen kind i m a → IsChosen kind i n b → a ≡ b
one_chosen Virtual i program m n a b called resolved x y = x ∙ sym y
one_chosen Special i program m n a b called resolved x y =
    let of_other = subst (λ (r : MemberReference). SelectsSpecial i.program i.current r x.0) called x.1 in
    x.2 ∙ ap (λ (t : ℕ). Some (record { 0 = t })) (one_special i.program i.current n.called x.0 y.0 program of_other y.1) ∙ sym y.2
one_chosen Static i program m n a b called resolved x y = x ∙ ap (λ (t : ℕ). Some (record { 0 = t })) resolved ∙ sym y
one_chosen Interface i program m n a b called resolved x y = x ∙ sym y

abbrev call_of : Placed → CallKind → MemberReference → ℕ → Option MethodNo → List UnitKind → Op
call_of i kind called resolved chosen results = Call (record {
  kind = kind;
  resolved = record { 0 = resolved };
  chosen = chosen;
  name = called.signature.name;
  descriptor = called.signature.descriptor;
  arguments = unit_slots i.base i.row.pops;
  result = value_slot i.base results;
})

one_call : (i : Placed) → IsProgram i.program → (kind : CallKind) (a b : Op) → IsCallOp i kind a → IsCallOp i kind b → AlikeOps a b
one_call i program kind a b x y =
    let same = same_method i.program i.pool i.instruction.operand program x.names y.names in
    let chosen : x.chosen ≡ y.chosen = one_chosen kind i program x.names y.names x.chosen y.chosen same.called same.resolved x.is_chosen y.is_chosen in
    let units = units_agree x.names.called.signature.descriptor y.names.called.signature.descriptor x.parameters x.results y.parameters y.results (ap (λ (m : MemberReference). m.signature.descriptor) same.called) x.units y.units in
    equal (x.is
    ∙ ap (λ (m : MemberReference). call_of i kind m x.names.resolved x.chosen x.results) same.called
    ∙ ap (λ (n : ℕ). call_of i kind y.names.called n x.chosen x.results) same.resolved
    ∙ ap (λ (c : Option MethodNo). call_of i kind y.names.called y.names.resolved c x.results) chosen
    ∙ ap (λ (rs : List UnitKind). call_of i kind y.names.called y.names.resolved y.chosen rs) units.1
    ∙ sym y.is)

-- ---- the operation

pub one_op : (action : Action) (i : Placed) (a b : Op) → IsProgram i.program → IsOp action i a → IsOp action i b → AlikeOps a b
one_op plain i a b program x y = same_moves i a b x y
one_op load_constant i a b program x y = equal (x.2 ∙ ap (λ (c : List ℕ). Constant (boot_site c) i.base) (one_constant i x.0 y.0 x.1 y.1) ∙ sym y.2)
one_op load_element i a b program x y = equal (x ∙ sym y)
one_op store_element i a b program x y = equal (x ∙ sym y)
one_op probe_element i a b program x y = equal (x ∙ sym y)
one_op probe_array i a b program x y = equal (x ∙ sym y)
one_op probe_object i a b program x y = equal (x ∙ sym y)
one_op get_static i a b program x y = one_static i program (λ field. LoadStatic field i.base) a b x y
one_op put_static i a b program x y = one_static i program (λ field. StoreStatic field i.base) a b x y
one_op get_field i a b program x y = one_access i program (λ field. Load i.base field i.base) a b x y
one_op put_field i a b program x y = one_access i program (λ field. Store i.base field (i.base + 1)) a b x y
one_op invoke_virtual i a b program x y = one_call i program Virtual a b x y
one_op invoke_special i a b program x y = one_call i program Special a b x y
one_op invoke_static i a b program x y = one_call i program Static a b x y
one_op invoke_interface i a b program x y = one_call i program Interface a b x y
one_op make_object i a b program x y = equal (x.1 ∙ ap (λ (c : List ℕ). New (new_site i c) i.base) (one_class i.pool i.instruction.operand x.0 y.0) ∙ sym y.1)
one_op make_array i a b program x y = equal (x.2 ∙ ap (λ (cs : List (List ℕ)). NewArray (map (new_site i) cs) i.base) (one_arrays i.pool i.instruction x.0 y.0 x.1 y.1) ∙ sym y.2)
one_op throw_object i a b program x y = equal (x ∙ sym y)
one_op cast i a b program x y = equal (x.1 ∙ ap (λ (c : List ℕ). Cast c i.base) (one_class i.pool i.instruction.operand x.0 y.0) ∙ sym y.1)
one_op leave_method i a b program x y = equal (x ∙ sym y)
one_op refused i a b program x y = absurd x

pub operation_once : (i : Placed) (a b : Op) → IsProgram i.program → IsOp i.row.action i a → IsOp i.row.action i b → AlikeOps a b
operation_once i a b program x y = one_op i.row.action i a b program x y
