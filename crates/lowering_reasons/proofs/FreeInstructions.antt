-- What an instruction without a reason names.
use Rattle.std.proofs.Common.{◌≡◌, ◌⊎◌, inl, inr, ℕ, Bool, true, false, List, Option, Some, None, Result, Ok, Err, refl, sym, ◌∙◌, ap, subst}
use Rattle.std.specs.Prelude.{IfNone, IfSome, IsTrue, option_and_then, option_map, if◌then◌else◌}
use Rattle.std.proofs.lemmas.Bool.{false≢true, true≢false}
use Rattle.std.proofs.lemmas.Option.{none-some, same_Some, slice_get_within}
use Rattle.jvm_model.specs.declared.number.FieldNo.{FieldNo}
use Rattle.jvm_model.specs.declared.number.MethodNo.{MethodNo}
use Rattle.jvm_model.specs.declared.pool.PoolEntry.{PoolEntry}
use Rattle.jvm_model.specs.declared.pool.PoolEntry.TheVariants.{Utf8, Integer, Float, Long, Double, Class, Str, Fieldref, Methodref, InterfaceMethodref, NameAndType, MethodHandle, MethodType, InvokeDynamic, Taken}
use Rattle.jvm_model.specs.declared.reason.Reason.{Reason}
use Rattle.jvm_model.specs.declared.reason.Reason.TheVariants as reasons
use Rattle.jvm_model.specs.Instructions.{member_of}
use Rattle.jvm_model.specs.Lookups.{MemberReference, Signature, class_name_at, entry_at, signature_at}
use Rattle.jvm_model.specs.Programs.{Class as ProgramClass, Program}
use Rattle.jvm_model.specs.Resolution.{FieldResolution, MethodResolution, found, other_kind, not_found, missing}
use Rattle.jvm_model.specs.Soundness.{is_array}
use Rattle.jvm_model.specs.Subtypes.{class_named}
use Rattle.jvm_model.specs.Table.{is_call, is_field_access, Action, plain, load_constant, load_element, store_element, probe_element, probe_array, probe_object, get_static, put_static, get_field, put_field, invoke_virtual, invoke_special, invoke_static, invoke_interface, make_object, make_array, throw_object, cast, leave_method, refused}
use Rattle.program_model.specs.Numbers.{field_number, IsFieldNumber, IsMethodNumber}
use Rattle.lowering_reasons.specs.Judgements.{IsKnownTarget}
use Rattle.lowering_reasons.specs.Looked.{AccessesNone, CallsNone, IsOnly}
use Rattle.lowering_reasons.specs.Named.{NamesMember, LeadsToMethod, LeadsToMember}
use Rattle.lowering_reasons.specs.Reasons.{Judged, class_in, Names, wants_static, LooksUpField, LooksUpMethod, IsMismatched, by_field, by_reference, HasTarget, static, special, LacksTarget, finds_none, LacksStub, of_class, of_array_field, of_array_method, of_field, of_method, a_class, IsFirstReason, no_stub, missing_field, missing_method, kind_mismatch, no_implementation, reason_order}
use Rattle.lowering_reasons.proofs.Dispatch.{target_other, target_within}
use Rattle.lowering_reasons.proofs.FirstReasons.{none_of}
use Rattle.lowering_reasons.proofs.Only.{none_such, only_here}
use Rattle.lowering_reasons.proofs.OtherKinds.{ok_or_err, same_err, same_ok}

-- ---- no reason holds

pub record IsFree (j : Judged) : Type 0 where
  pub stubs : LacksStub j → ⊥
  pub field : LooksUpField j (Err reasons.MissingField) → ⊥
  pub method : LooksUpMethod j (Err reasons.MissingMethod) → ⊥
  pub kinds : IsMismatched j → ⊥
  pub target : LacksTarget j → ⊥

pub free : (j : Judged) → IsFirstReason j None → IsFree j
free j first = record {
  stubs = λ h. none_of j reason_order 4 reasons.NoStub first refl (no_stub refl h);
  field = λ h. none_of j reason_order 5 reasons.MissingField first refl (missing_field refl h);
  method = λ h. none_of j reason_order 6 reasons.MissingMethod first refl (missing_method refl h);
  kinds = λ h. none_of j reason_order 7 reasons.KindMismatch first refl (kind_mismatch refl h);
  target = λ h. none_of j reason_order 8 reasons.NoImplementation first refl (no_implementation refl h);
}

-- ---- look-ups that fail have a reason

either_missing : (b : Bool) (r s : Reason) → r ≡ (if b then s else reasons.NoStub) → (r ≡ s) ⊎ (r ≡ reasons.NoStub)
either_missing true r s e = inl e
either_missing false r s e = inr e

field_failed : (j : Judged) (r : Reason) (l : LooksUpField j (Err r)) → FieldResolution j.program l.class l.field.signature (wants_static j.action) (Err r)
    → (r ≡ reasons.KindMismatch) ⊎ ((r ≡ reasons.MissingField) ⊎ (r ≡ reasons.NoStub))
field_failed j r l (found number f x stands kind e) = absurd (ok_or_err number r (sym e))
field_failed j r l (other_kind number f x stands kind e) = inl (same_err r reasons.KindMismatch e)
field_failed j r l (not_found x e) = inr (either_missing l.class.is_folder r reasons.MissingField (same_err r (missing l.class reasons.MissingField) e))

method_failed : (j : Judged) (r : Reason) (l : LooksUpMethod j (Err r)) → MethodResolution j.program l.class l.by_interface l.method.signature (Err r)
    → (r ≡ reasons.KindMismatch) ⊎ ((r ≡ reasons.MissingMethod) ⊎ (r ≡ reasons.NoStub))
method_failed j r l (found number x kind e) = absurd (ok_or_err number r (sym e))
method_failed j r l (other_kind number x kind e) = inl (same_err r reasons.KindMismatch e)
method_failed j r l (not_found x e) = inr (either_missing l.class.is_folder r reasons.MissingMethod (same_err r (missing l.class reasons.MissingMethod) e))

pub no_failed_field : (j : Judged) (r : Reason) → IsFree j → LooksUpField j (Err r) → ⊥
no_failed_field j r is l = by (field_failed j r l l.is)
  where
    by : (r ≡ reasons.KindMismatch) ⊎ ((r ≡ reasons.MissingField) ⊎ (r ≡ reasons.NoStub)) → ⊥
    by (inl e) = is.kinds (by_field (subst (λ (x : Reason). LooksUpField j (Err x)) e l))
    by (inr (inl e)) = is.field (subst (λ (x : Reason). LooksUpField j (Err x)) e l)
    by (inr (inr e)) = is.stubs (of_field (subst (λ (x : Reason). LooksUpField j (Err x)) e l))

pub no_failed_method : (j : Judged) (r : Reason) → IsFree j → LooksUpMethod j (Err r) → ⊥
no_failed_method j r is l = by (method_failed j r l l.is)
  where
    by : (r ≡ reasons.KindMismatch) ⊎ ((r ≡ reasons.MissingMethod) ⊎ (r ≡ reasons.NoStub)) → ⊥
    by (inl e) = is.kinds (by_reference (subst (λ (x : Reason). LooksUpMethod j (Err x)) e l))
    by (inr (inl e)) = is.method (subst (λ (x : Reason). LooksUpMethod j (Err x)) e l)
    by (inr (inr e)) = is.stubs (of_method (subst (λ (x : Reason). LooksUpMethod j (Err x)) e l))

-- ---- the class of a member that is named is there

class_first : (m : MemberReference) (o : Option (List ℕ)) (t : Option Signature)
    → option_and_then (λ (n : List ℕ). option_map (λ (s : Signature). record { class = n; signature = s }) t) o ≡ Some m → o ≡ Some m.class
class_first m None t e = absurd (none-some m e)
class_first m (Some n) None e = absurd (none-some m e)
class_first m (Some n) (Some t) e = ap (λ (x : MemberReference). Some x.class) (same_Some (record { class = n; signature = t }) m e)

entry_class : (pool : List PoolEntry) (entry : PoolEntry) (m : MemberReference) → member_of pool entry ≡ Some m → class_in pool entry ≡ Some m.class
entry_class pool (Fieldref class member) m e = class_first m (class_name_at pool class) (signature_at pool member) e
entry_class pool (Methodref class member) m e = class_first m (class_name_at pool class) (signature_at pool member) e
entry_class pool (InterfaceMethodref class member) m e = class_first m (class_name_at pool class) (signature_at pool member) e
entry_class pool (Utf8 bytes) m e = absurd (none-some m e)
entry_class pool (Integer bits) m e = absurd (none-some m e)
entry_class pool (Float bits) m e = absurd (none-some m e)
entry_class pool (Long bits) m e = absurd (none-some m e)
entry_class pool (Double bits) m e = absurd (none-some m e)
entry_class pool (Class name) m e = absurd (none-some m e)
entry_class pool (Str text) m e = absurd (none-some m e)
entry_class pool (NameAndType name descriptor) m e = absurd (none-some m e)
entry_class pool (MethodHandle kind member) m e = absurd (none-some m e)
entry_class pool (MethodType descriptor) m e = absurd (none-some m e)
entry_class pool (InvokeDynamic bootstrap member) m e = absurd (none-some m e)
entry_class pool Taken m e = absurd (none-some m e)

member_class : (pool : List PoolEntry) (o : Option PoolEntry) (m : MemberReference) → option_and_then (member_of pool) o ≡ Some m → option_and_then (class_in pool) o ≡ Some m.class
member_class pool None m e = absurd (none-some m e)
member_class pool (Some entry) m e = entry_class pool entry m e

-- the class of the member is no array, and in the program
there_or_stub : (j : Judged) (m : MemberReference) → Names j m.class → (IsTrue (is_array m.class) → ⊥) → IsFree j → (c : ProgramClass) × (class_named j.program m.class ≡ Some c)
there_or_stub j m names no_array is = by (class_named j.program m.class) refl (is_array m.class) refl
  where
    by : (o : Option ProgramClass) → class_named j.program m.class ≡ o → (b : Bool) → is_array m.class ≡ b → (c : ProgramClass) × (class_named j.program m.class ≡ Some c)
    by (Some c) e b array = (c, e)
    by None e true array = absurd (no_array array)
    by None e false array = absurd (is.stubs (of_class m.class names (a_class array e)))

pub call_there : (j : Judged) → IsFree j → IsTrue (is_call j.action) → LeadsToMethod j → CallsNone j → ⊥
call_there j is call leads none =
    let m = leads.method in
    let names : Names j m.class = (leads.index, member_class j.pool (entry_at j.pool j.operand) m leads.named) in
    let there = there_or_stub j m names (λ array. is.stubs (of_array_method m (call, leads.named) array)) is in
    none m leads.by_interface there.0 (call, leads.named) leads.kind there.1

pub access_there : (j : Judged) → IsFree j → IsTrue (is_field_access j.action) → LeadsToMember j → AccessesNone j → ⊥
access_there j is access leads none =
    let m = leads.member in
    let names : Names j m.class = (leads.index, member_class j.pool (entry_at j.pool j.operand) m leads.named) in
    let there = there_or_stub j m names (λ array. is.stubs (of_array_field m (access, leads.named) array)) is in
    none m there.0 (access, leads.named) there.1

pub not_so : (b : Bool) → (IsTrue b → ⊥) → b ≡ false
not_so true none = absurd (none refl)
not_so false none = refl

-- ---- the target

abbrev picks_special : Action → Bool
picks_special invoke_special = true
picks_special _ = false

abbrev Targets : Judged → Option MethodNo → Type 0
Targets j target = IsOnly (HasTarget j) (option_map (λ (m : MethodNo). m.0) target)

no_target : (j : Judged) (action : Action) (target : MethodNo) → j.action ≡ action → picks_special action ≡ false → wants_static action ≡ false → Targets j (Some target) → ⊥
no_target j action target e special_not static_not only =
    target_other j (λ x. true≢false (sym (ap picks_special x) ∙ ap picks_special e ∙ special_not)) (λ x. true≢false (sym (ap wants_static x) ∙ ap wants_static e ∙ static_not)) target.0
    (only_here (HasTarget j) target.0 only)

pub known : (j : Judged) (action : Action) (n : ℕ) (target : Option MethodNo) → j.action ≡ action → IsTrue (is_call action) → IsFree j → LooksUpMethod j (Ok n) → Targets j target
    → IsKnownTarget j action target
known j invoke_special n (Some target) e call is l only = only_here (HasTarget j) target.0 only
known j invoke_special n None e call is l only =
    absurd (is.target (finds_none n e l is.kinds (λ t selects. none_such (HasTarget j) only t (special n e l is.kinds selects))))
known j invoke_static n (Some target) e call is l only = only_here (HasTarget j) target.0 only
known j invoke_static n None e call is l only = absurd (none_such (HasTarget j) only n (static e l is.kinds))
known j invoke_virtual n None e call is l only = tt
known j invoke_virtual n (Some target) e call is l only = absurd (no_target j invoke_virtual target e refl refl only)
known j invoke_interface n None e call is l only = tt
known j invoke_interface n (Some target) e call is l only = absurd (no_target j invoke_interface target e refl refl only)
known j plain n target e call is l only = absurd (false≢true call)
known j load_constant n target e call is l only = absurd (false≢true call)
known j load_element n target e call is l only = absurd (false≢true call)
known j store_element n target e call is l only = absurd (false≢true call)
known j probe_element n target e call is l only = absurd (false≢true call)
known j probe_array n target e call is l only = absurd (false≢true call)
known j probe_object n target e call is l only = absurd (false≢true call)
known j get_static n target e call is l only = absurd (false≢true call)
known j put_static n target e call is l only = absurd (false≢true call)
known j get_field n target e call is l only = absurd (false≢true call)
known j put_field n target e call is l only = absurd (false≢true call)
known j make_object n target e call is l only = absurd (false≢true call)
known j make_array n target e call is l only = absurd (false≢true call)
known j throw_object n target e call is l only = absurd (false≢true call)
known j cast n target e call is l only = absurd (false≢true call)
known j leave_method n target e call is l only = absurd (false≢true call)
known j refused n target e call is l only = absurd (false≢true call)

-- ---- what was looked up

pub at_field : (P : Result ℕ Reason → Type 0) (m : Option (Result FieldNo Reason)) (f r : Result FieldNo Reason) → m ≡ Some f → f ≡ r → IsOnly P (option_map field_number m)
    → IsOnly P (Some (field_number r))
at_field P m f r e is only =
    subst (λ (x : Result FieldNo Reason). IsOnly P (Some (field_number x))) is (subst (λ (o : Option (Result FieldNo Reason)). IsOnly P (option_map field_number o)) e only)

-- no method is called
pub no_call : (j : Judged) (m : Option (Result MethodNo Reason)) → IsFree j → NamesMember j → m ≡ None → IfNone m (CallsNone j) → is_call j.action ≡ false
no_call j m is named e none =
    not_so (is_call j.action) (λ call. call_there j is call (named.call call) (subst (λ (o : Option (Result MethodNo Reason)). IfNone o (CallsNone j)) e none))

pub no_access : (j : Judged) (m : Option (Result FieldNo Reason)) → IsFree j → NamesMember j → m ≡ None → IfNone m (AccessesNone j) → is_field_access j.action ≡ false
no_access j m is named e none =
    not_so (is_field_access j.action)
    (λ access. access_there j is access (named.access access) (subst (λ (o : Option (Result FieldNo Reason)). IfNone o (AccessesNone j)) e none))

-- ---- numbers

resolved_field : (p : Program) (c : ProgramClass) (s : Signature) (b : Bool) (n : ℕ) → FieldResolution p c s b (Ok n) → IsFieldNumber p n
resolved_field p c s b n (found number f x stands kind e) = subst (λ (k : ℕ). IsFieldNumber p k) (sym (same_ok n number e)) (slice_get_within p.fields number f stands)
resolved_field p c s b n (other_kind number f x stands kind e) = absurd (ok_or_err n reasons.KindMismatch e)
resolved_field p c s b n (not_found x e) = absurd (ok_or_err n (missing c reasons.MissingField) e)

pub field_within : (j : Judged) (n : ℕ) → LooksUpField j (Ok n) → IsFieldNumber j.program n
field_within j n l = resolved_field j.program l.class l.field.signature (wants_static j.action) n l.is

pub target_numbers : (j : Judged) (target : Option MethodNo) → Targets j target → IfSome target (λ (m : MethodNo). IsMethodNumber j.program m.0)
target_numbers j None only = tt
target_numbers j (Some m) only = target_within j m.0 (only_here (HasTarget j) m.0 only)
