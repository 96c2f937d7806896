-- The members that an operation names by number are in the program: the field that a static load reads, and the method that a call resolves
-- to and the one that it is known to go to.
use Rattle.std.proofs.Common.{◌≡◌, ℕ, ◌+◌, Bool, true, false, List, Option, Some, if◌then◌else◌, refl, sym, ap, ◌∙◌, subst, true≢false}
use Rattle.std.specs.Bool.{MatchBool}
use Rattle.std.proofs.lemmas.Option.{slice_get_within, none-some, same_Some}
use Rattle.jvm_model.specs.declared.number.FieldNo.{FieldNo}
use Rattle.jvm_model.specs.declared.number.MethodNo.{MethodNo}
use Rattle.jvm_model.specs.Lookups.{MemberReference}
use Rattle.jvm_model.specs.Programs.{Program}
use Rattle.jvm_model.specs.Resolution.{IsFoundIn, IsInstanceWith}
use Rattle.jvm_model.specs.Selection.{SelectsSpecial}
use Rattle.jvm_model.specs.Table.{Action, plain, load_constant, load_element, store_element, probe_element, probe_array, probe_object, get_static, put_static, get_field, put_field, invoke_virtual, invoke_special, invoke_static, invoke_interface, make_object, make_array, throw_object, cast, leave_method, refused}
use Rattle.program_model.specs.Numbers.{IsFieldNumber, IsMethodNumber}
use Rattle.machine_bytecode.specs.Machine.{NamesMethod}
use Rattle.machine_bytecode.specs.States.{is_reference_type}
use Rattle.lowering_spec.specs.Operations.{Placed, IsAssign, IsCallOp, IsChosen, IsFieldOp, IsOp, IsStaticOp, field_no}
use Rattle.op_model.specs.declared.op.Call.{Call as NodeCall}
use Rattle.op_model.specs.declared.op.CallKind.{CallKind}
use Rattle.op_model.specs.declared.op.CallKind.TheVariants.{Virtual, Special, Static, Interface}
use Rattle.op_model.specs.declared.op.Op.{Op}
use Rattle.op_model.specs.declared.op.Op.TheVariants.{Assign, Load, Store, LoadElement, StoreElement, LoadStatic, StoreStatic, New, NewArray, Constant, Call, Return, Throw, Cast, Probe}
use Rattle.program_laws.proofs.Targets.{IsMethod, found_in_stands, selected_stands}

-- the numbers of members that an operation names are in the program
pub record NamesMembers (p : Program) (op : Op) : Type 0 where
  pub statics : (field : FieldNo) (target : ℕ) → op ≡ LoadStatic field target → IsFieldNumber p field.0
  pub resolved : (c : NodeCall) → op ≡ Call c → IsMethodNumber p c.resolved.0
  pub chosen : (c : NodeCall) (target : MethodNo) → op ≡ Call c → c.chosen ≡ Some target → IsMethodNumber p target.0

-- ---- operations that name no such member

abbrev names_member : Op → Bool
names_member (Assign moves) = false
names_member (Load object field target) = false
names_member (Store object field value) = false
names_member (LoadElement array target) = false
names_member (StoreElement array value) = false
names_member (LoadStatic field target) = true
names_member (StoreStatic field value) = false
names_member (New site target) = false
names_member (NewArray sites target) = false
names_member (Constant site target) = false
names_member (Call call) = true
names_member (Return value) = false
names_member (Throw value) = false
names_member (Cast class slot) = false
names_member (Probe slot) = false

no_member : (p : Program) (op : Op) → names_member op ≡ false → NamesMembers p op
no_member p op none = record {
  statics = λ field target e. absurd (true≢false (sym (ap names_member e) ∙ none));
  resolved = λ c e. absurd (true≢false (sym (ap names_member e) ∙ none));
  chosen = λ c target e is. absurd (true≢false (sym (ap names_member e) ∙ none));
}

assigned : (i : Placed) (op : Op) → IsAssign i op → NamesMembers i.program op
assigned i op a = no_member i.program op (ap names_member a.is)

-- ---- fields

loaded : (p : Program) (number slot : ℕ) (op : Op) → IsFieldNumber p number → op ≡ LoadStatic (field_no number) slot → NamesMembers p op
loaded p number slot op within is = record {
  statics = λ field target e.
      let same : field_no number ≡ field = cc in
      subst (λ (f : FieldNo). IsFieldNumber p f.0) same within;
  resolved = λ c e. absurd cc;
  chosen = λ c target e known. absurd cc;
}

static_loaded : (i : Placed) (op : Op) → IsStaticOp i (λ field. LoadStatic field i.base) op → NamesMembers i.program op
static_loaded i op s = by (is_reference_type s.names.field.signature.descriptor) s.is
  where
    by : (reference : Bool) → MatchBool reference (op ≡ LoadStatic (field_no s.names.number) i.base) (IsAssign i op) → NamesMembers i.program op
    by true is = loaded i.program s.names.number i.base op (slice_get_within i.program.fields s.names.number s.names.field s.names.stands) is
    by false a = assigned i op a

static_stored : (i : Placed) (op : Op) → IsStaticOp i (λ field. StoreStatic field i.base) op → NamesMembers i.program op
static_stored i op s = by (is_reference_type s.names.field.signature.descriptor) s.is
  where
    by : (reference : Bool) → MatchBool reference (op ≡ StoreStatic (field_no s.names.number) i.base) (IsAssign i op) → NamesMembers i.program op
    by true is = no_member i.program op (ap names_member is)
    by false a = assigned i op a

-- nothing is asked of the field of an object
of_object : (i : Placed) (of_reference : FieldNo → Op) (op : Op) → ((field : FieldNo) → names_member (of_reference field) ≡ false) → IsFieldOp i of_reference op → NamesMembers i.program op
of_object i of_reference op none f = by (is_reference_type f.names.field.signature.descriptor) f.is
  where
    by : (reference : Bool) → op ≡ (if reference then of_reference (field_no f.names.number) else Probe i.base) → NamesMembers i.program op
    by true is = no_member i.program op (ap names_member is ∙ none (field_no f.names.number))
    by false is = no_member i.program op (ap names_member is)

-- ---- calls

method_within : (p : Program) (number : ℕ) → IsMethod p number → IsMethodNumber p number
method_within p number m = slice_get_within p.methods number m.0 m.1

special_stands : (p : Program) (current : List ℕ) (m : MemberReference) (target : ℕ) → SelectsSpecial p current m target → IsMethod p target
special_stands p current m target s =
    selected_stands p s.start m.signature (IsFoundIn p (IsInstanceWith m.signature) m.signature s.class) target
    (found_in_stands p (IsInstanceWith m.signature) m.signature s.class target) s.chosen

chosen_within : (kind : CallKind) (i : Placed) (names : NamesMethod i.program i.pool i.instruction.operand) (chosen : Option MethodNo) (target : MethodNo) → IsChosen kind i names chosen
    → chosen ≡ Some target → IsMethodNumber i.program target.0
chosen_within Virtual i names chosen target is e = absurd (none-some target (sym is ∙ e))
chosen_within Special i names chosen target is e =
    subst (λ (m : MethodNo). IsMethodNumber i.program m.0) (same_Some (record { 0 = is.0 }) target (sym is.2 ∙ e))
    (method_within i.program is.0 (special_stands i.program i.current names.called is.0 is.1))
chosen_within Static i names chosen target is e =
    subst (λ (m : MethodNo). IsMethodNumber i.program m.0) (same_Some (record { 0 = names.resolved }) target (sym is ∙ e))
    (method_within i.program names.resolved (names.method, names.stands))
chosen_within Interface i names chosen target is e = absurd (none-some target (sym is ∙ e))

called : (i : Placed) (kind : CallKind) (op : Op) → IsCallOp i kind op → NamesMembers i.program op
called i kind op made = record {
  statics = λ field target e. absurd (cc (made.is, e));
  resolved = λ c e.
      let same : record { 0 = made.names.resolved } ≡ c.resolved = cc (made.is, e) in
      subst (λ (m : MethodNo). IsMethodNumber i.program m.0) same (method_within i.program made.names.resolved (made.names.method, made.names.stands));
  chosen = λ c target e known.
      let same : made.chosen ≡ c.chosen = cc (made.is, e) in
      chosen_within kind i made.names made.chosen target made.is_chosen (same ∙ known);
}

-- ---- the operation

pub members_named : (action : Action) (i : Placed) (op : Op) → IsOp action i op → NamesMembers i.program op
members_named plain i op is = assigned i op is
members_named load_constant i op is = no_member i.program op (ap names_member is.2)
members_named load_element i op is = no_member i.program op (ap names_member is)
members_named store_element i op is = no_member i.program op (ap names_member is)
members_named probe_element i op is = no_member i.program op (ap names_member is)
members_named probe_array i op is = no_member i.program op (ap names_member is)
members_named probe_object i op is = no_member i.program op (ap names_member is)
members_named get_static i op is = static_loaded i op is
members_named put_static i op is = static_stored i op is
members_named get_field i op is = of_object i (λ field. Load i.base field i.base) op (λ field. refl) is
members_named put_field i op is = of_object i (λ field. Store i.base field (i.base + 1)) op (λ field. refl) is
members_named invoke_virtual i op is = called i Virtual op is
members_named invoke_special i op is = called i Special op is
members_named invoke_static i op is = called i Static op is
members_named invoke_interface i op is = called i Interface op is
members_named make_object i op is = no_member i.program op (ap names_member is.1)
members_named make_array i op is = no_member i.program op (ap names_member is.2)
members_named throw_object i op is = no_member i.program op (ap names_member is)
members_named cast i op is = no_member i.program op (ap names_member is.1)
members_named leave_method i op is = no_member i.program op (ap names_member is)
members_named refused i op is = absurd is
