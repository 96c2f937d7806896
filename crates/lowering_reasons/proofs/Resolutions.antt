-- What the look-up of a member gives is one outcome, by what the reference names.
use Rattle.std.proofs.Common.{◌≡◌, ℕ, Bool, true, false, List, Option, Some, None, Result, refl, sym, ◌∙◌, ap, subst}
use Rattle.std.specs.Prelude.{option_and_then}
use Rattle.std.proofs.lemmas.Option.{none-some, same_Some}
use Rattle.jvm_model.specs.declared.pool.PoolEntry.{PoolEntry}
use Rattle.jvm_model.specs.declared.pool.PoolEntry.TheVariants.{Utf8, Integer, Float, Long, Double, Class, Str, Fieldref, Methodref, InterfaceMethodref, NameAndType, MethodHandle, MethodType, InvokeDynamic, Taken}
use Rattle.jvm_model.specs.declared.reason.Reason.{Reason}
use Rattle.jvm_model.specs.LinkedPrograms.{IsProgram}
use Rattle.jvm_model.specs.Lookups.{MemberReference, entry_at}
use Rattle.jvm_model.specs.Programs.{Class as ProgramClass}
use Rattle.jvm_model.specs.Resolution.{FieldResolution, MethodResolution}
use Rattle.jvm_model.specs.Subtypes.{class_named}
use Rattle.program_laws.proofs.Outcomes.{one_field_outcome, one_method_outcome}
use Rattle.lowering_reasons.specs.Looked.{AccessesNone, CallsNone, IsOnly, reference_kind}
use Rattle.lowering_reasons.specs.Reasons.{Judged, Accesses, Calls, IsByInterface, of_class, of_interface, LooksUpField, LooksUpMethod, wants_static}
use Rattle.lowering_reasons.proofs.Only.{only_none, only_one, only_same}
use Rattle.hierarchy.proofs.ClassPlaces.{IsNowhere, somewhere}

-- ---- fields

pub field_nowhere : (j : Judged) (f : MemberReference) → IsOnly (Accesses j) (Some f) → IsNowhere j.program f.class → IsOnly (LooksUpField j) None
field_nowhere j f only nowhere =
    only_none (LooksUpField j) (λ outcome l.
    let e = only_same (Accesses j) f l.field only l.accesses in
    somewhere j.program l.field.class l.class l.named (subst (λ (x : MemberReference). IsNowhere j.program x.class) e nowhere))

pub field_looked : (j : Judged) (f : MemberReference) (c : ProgramClass) (outcome : Result ℕ Reason) → IsProgram j.program → IsOnly (Accesses j) (Some f)
    → class_named j.program f.class ≡ Some c → FieldResolution j.program c f.signature (wants_static j.action) outcome → IsOnly (LooksUpField j) (Some outcome)
field_looked j f c outcome program only named is =
    only_one (LooksUpField j) outcome (record { field = f; accesses = only.holds f refl; class = c; named = named; is = is }) (λ other l.
    let e : l.field ≡ f = sym (only_same (Accesses j) f l.field only l.accesses) in
    let there : class_named j.program f.class ≡ Some l.class = subst (λ (x : MemberReference). class_named j.program x.class ≡ Some l.class) e l.named in
    let class : l.class ≡ c = same_Some l.class c (sym there ∙ named) in
    let here : FieldResolution j.program c f.signature (wants_static j.action) other =
    subst (λ (d : ProgramClass). FieldResolution j.program d f.signature (wants_static j.action) other) class
    (subst (λ (x : MemberReference). FieldResolution j.program l.class x.signature (wants_static j.action) other) e l.is) in
    one_field_outcome j.program c f.signature (wants_static j.action) outcome other program is here)

-- ---- methods

kind_told : (pool : List PoolEntry) (operand : ℕ) (b : Bool) → IsByInterface pool operand b → option_and_then reference_kind (entry_at pool operand) ≡ Some b
kind_told pool operand b (of_class class member at e) = ap (option_and_then reference_kind) at ∙ ap (λ v. Some v) (sym e)
kind_told pool operand b (of_interface class member at e) = ap (option_and_then reference_kind) at ∙ ap (λ v. Some v) (sym e)

entry_kind : (pool : List PoolEntry) (operand : ℕ) (b : Bool) (entry : PoolEntry) → entry_at pool operand ≡ Some entry → reference_kind entry ≡ Some b → IsByInterface pool operand b
entry_kind pool operand b (Utf8 bytes) at e = absurd (none-some b e)
entry_kind pool operand b (Integer bits) at e = absurd (none-some b e)
entry_kind pool operand b (Float bits) at e = absurd (none-some b e)
entry_kind pool operand b (Long bits) at e = absurd (none-some b e)
entry_kind pool operand b (Double bits) at e = absurd (none-some b e)
entry_kind pool operand b (Class name) at e = absurd (none-some b e)
entry_kind pool operand b (Str text) at e = absurd (none-some b e)
entry_kind pool operand b (Fieldref class member) at e = absurd (none-some b e)
entry_kind pool operand b (Methodref class member) at e = of_class class member at (sym (same_Some false b e))
entry_kind pool operand b (InterfaceMethodref class member) at e = of_interface class member at (sym (same_Some true b e))
entry_kind pool operand b (NameAndType name descriptor) at e = absurd (none-some b e)
entry_kind pool operand b (MethodHandle kind member) at e = absurd (none-some b e)
entry_kind pool operand b (MethodType descriptor) at e = absurd (none-some b e)
entry_kind pool operand b (InvokeDynamic bootstrap member) at e = absurd (none-some b e)
entry_kind pool operand b Taken at e = absurd (none-some b e)

-- what the reference takes its class for is one
pub only_kind : (pool : List PoolEntry) (operand : ℕ) (found : Option Bool) → found ≡ option_and_then reference_kind (entry_at pool operand) → IsOnly (IsByInterface pool operand) found
only_kind pool operand found is = record {
  holds = λ b e. by (entry_at pool operand) refl b (sym is ∙ e);
  only = λ b h. is ∙ kind_told pool operand b h;
}
  where
    by : (o : Option PoolEntry) → entry_at pool operand ≡ o → (b : Bool) → option_and_then reference_kind o ≡ Some b → IsByInterface pool operand b
    by None at b e = absurd (none-some b e)
    by (Some entry) at b e = entry_kind pool operand b entry at e

pub method_nowhere : (j : Judged) (m : MemberReference) → IsOnly (Calls j) (Some m) → IsNowhere j.program m.class → IsOnly (LooksUpMethod j) None
method_nowhere j m only nowhere =
    only_none (LooksUpMethod j) (λ outcome l.
    let e = only_same (Calls j) m l.method only l.calls in
    somewhere j.program l.method.class l.class l.named (subst (λ (x : MemberReference). IsNowhere j.program x.class) e nowhere))

pub method_looked : (j : Judged) (m : MemberReference) (c : ProgramClass) (b : Bool) (outcome : Result ℕ Reason) → IsProgram j.program → IsOnly (Calls j) (Some m)
    → class_named j.program m.class ≡ Some c → IsOnly (IsByInterface j.pool j.operand) (Some b) → MethodResolution j.program c b m.signature outcome
    → IsOnly (LooksUpMethod j) (Some outcome)
method_looked j m c b outcome program only named kind is =
    only_one (LooksUpMethod j) outcome
    (record { method = m; calls = only.holds m refl; class = c; named = named; by_interface = b; kind = kind.holds b refl; is = is })
    (λ other l.
    let e : l.method ≡ m = sym (only_same (Calls j) m l.method only l.calls) in
    let there : class_named j.program m.class ≡ Some l.class = subst (λ (x : MemberReference). class_named j.program x.class ≡ Some l.class) e l.named in
    let class : l.class ≡ c = same_Some l.class c (sym there ∙ named) in
    let by : l.by_interface ≡ b = sym (only_same (IsByInterface j.pool j.operand) b l.by_interface kind l.kind) in
    let here : MethodResolution j.program c b m.signature other =
    subst (λ (k : Bool). MethodResolution j.program c k m.signature other) by
    (subst (λ (d : ProgramClass). MethodResolution j.program d l.by_interface m.signature other) class
    (subst (λ (x : MemberReference). MethodResolution j.program l.class l.by_interface x.signature other) e l.is)) in
    one_method_outcome j.program c b m.signature outcome other program is here)

-- ---- names of no class

pub field_unnamed : (j : Judged) (f : MemberReference) → IsOnly (Accesses j) (Some f) → IsNowhere j.program f.class → AccessesNone j
field_unnamed j f only nowhere m c accesses named =
    somewhere j.program m.class c named (subst (λ (x : MemberReference). IsNowhere j.program x.class) (only_same (Accesses j) f m only accesses) nowhere)

pub method_unnamed : (j : Judged) (f : MemberReference) → IsOnly (Calls j) (Some f) → IsNowhere j.program f.class → CallsNone j
method_unnamed j f only nowhere m b c calls kind named =
    somewhere j.program m.class c named (subst (λ (x : MemberReference). IsNowhere j.program x.class) (only_same (Calls j) f m only calls) nowhere)
