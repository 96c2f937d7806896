-- Only the proofs of this crate rest on this module.
-- What look-ups answer, and the parts of the reasons that the functions of this crate test one by one.
use Rattle.std.specs.Prelude.{codes, ◌≡◌, ◌≢◌, ℕ, Bool, true, false, List, [], ◌∷◌, ◌++◌, replicate, Option, Some, None, Ok, Err, slice_get, option_map, IfNone, ◌↔◌, Contains, IsTrue}
use Rattle.jvm_model.specs.declared.number.MethodNo.{MethodNo}
use Rattle.jvm_model.specs.declared.pool.PoolEntry.{PoolEntry}
use Rattle.jvm_model.specs.declared.pool.PoolEntry.TheVariants.{Utf8, Integer, Float, Long, Double, Class, Str, Fieldref, Methodref, InterfaceMethodref, NameAndType, MethodHandle, MethodType, InvokeDynamic, Taken}
use Rattle.jvm_model.specs.declared.reason.Reason.{Reason}
use Rattle.jvm_model.specs.declared.reason.Reason.TheVariants as reasons
use Rattle.jvm_model.specs.Lookups.{MemberReference, Signature, entry_at}
use Rattle.jvm_model.specs.Programs.{Body, in_file, described, Class as ProgramClass, Method, Program, is_private, is_static, IsUndescribed}
use Rattle.jvm_model.specs.Resolution.{Declares, HasSignature}
use Rattle.jvm_model.specs.Selection.{SelectsSpecial}
use Rattle.jvm_model.specs.Soundness.{is_array}
use Rattle.jvm_model.specs.Subtypes.{class_named, IsChain}
use Rattle.jvm_model.specs.Table.{Action, load_constant, invoke_special, invoke_interface}
use Rattle.lowering_reasons.specs.Reasons.{Judged, Calls, Accesses, IsByInterface, IsFinalizer, LooksUpField, LooksUpMethod, IsMismatched, HasTarget, wants_static}
use Rattle.lowering_reasons.specs.declared.lookups.Lookups.{Lookups}
use Rattle.program_model.specs.Numbers.{field_number, method_number}

-- The value, if there is one, is the only one of which the fact holds; there is none only where it holds of none.
pub record IsOnly {X : Type 0} (P : X → Type 0) (found : Option X) : Type 0 where
  pub holds : (x : X) → found ≡ Some x → P x
  pub only : (x : X) → P x → found ≡ Some x

-- There is something of which both facts hold.
pub record HasSuch {X : Type 0} (P Q : X → Type 0) : Type 0 where
  pub one : X
  pub first : P one
  pub second : Q one

-- ---- entries

-- A method handle or a method type.
abbrev pub is_method_constant : PoolEntry → Bool
is_method_constant (Utf8 bytes) = false
is_method_constant (Integer bits) = false
is_method_constant (Float bits) = false
is_method_constant (Long bits) = false
is_method_constant (Double bits) = false
is_method_constant (Class name) = false
is_method_constant (Str text) = false
is_method_constant (Fieldref class member) = false
is_method_constant (Methodref class member) = false
is_method_constant (InterfaceMethodref class member) = false
is_method_constant (NameAndType name descriptor) = false
is_method_constant (MethodHandle kind member) = true
is_method_constant (MethodType descriptor) = true
is_method_constant (InvokeDynamic bootstrap member) = false
is_method_constant Taken = false

-- Whether a reference to a method takes its class for an interface.
abbrev pub reference_kind : PoolEntry → Option Bool
reference_kind (Methodref class member) = Some false
reference_kind (InterfaceMethodref class member) = Some true
reference_kind _ = None

-- ---- what the analysis does not follow

-- A method handle or a method type is loaded.
abbrev pub LoadsMethodConstant : Judged → Type 0
LoadsMethodConstant j =
    (j.action ≡ load_constant) × ((entry : PoolEntry) × (entry_at j.pool j.operand ≡ Some entry) × IsTrue (is_method_constant entry))

-- A method of java/lang/Class, but for two.
pub record IsReflectiveMember (m : MemberReference) : Type 0 where
  pub of_class : m.class ≡ codes "java/lang/Class"
  pub no_status : m.signature.name ≢ codes "desiredAssertionStatus"
  pub no_name : m.signature.name ≢ codes "getName"

-- ---- what stands for a method

abbrev pub is_in_file : Body → Bool
is_in_file (in_file file number member) = true
is_in_file (described description) = false

-- ---- members of another kind

-- The resolved method is not of the kind that the instruction asks for.
pub data IsOtherKind (action : Action) (m : Method) : Type 0 where
  other_static : is_static m ≢ wants_static action → IsOtherKind action m
  private_call : action ≡ invoke_interface → IsTrue (is_private m) → IsOtherKind action m

-- The method that the reference resolves to is of another kind; or the reference is.
pub data CallsOtherKind (j : Judged) : Type 0 where
  other_reference : LooksUpMethod j (Err reasons.KindMismatch) → CallsOtherKind j
  other_method : (number : ℕ) (m : Method) → LooksUpMethod j (Ok number) → slice_get j.program.methods number ≡ Some m → IsOtherKind j.action m → CallsOtherKind j

-- A method is called that no instruction of this action may call.
pub data IsInternal (action : Action) (name : List ℕ) : Type 0 where
  constructor_elsewhere : action ≢ invoke_special → name ≡ codes "<init>" → IsInternal action name
  initialiser : name ≡ codes "<clinit>" → IsInternal action name

-- ---- targets

-- The search of a special call finds the method.
pub record SelectsCalled (j : Judged) (target : ℕ) : Type 0 where
  pub number : ℕ
  pub looked : LooksUpMethod j (Ok number)
  pub selects : SelectsSpecial j.program j.current looked.method target

-- A special call of the right kind, whose reference resolves to a method.
pub record WantsTarget (j : Judged) : Type 0 where
  pub special : j.action ≡ invoke_special
  pub number : ℕ
  pub looked : LooksUpMethod j (Ok number)
  pub matched : IsMismatched j → ⊥

-- The instruction goes to a native method that no stub describes.
abbrev pub GoesUndescribed : Judged → Type 0
GoesUndescribed j = HasSuch (HasTarget j) (IsUndescribed j.program)

-- ---- what is looked up once

-- No field is looked up in a class of the program; no method is.
abbrev pub AccessesNone : Judged → Type 0
AccessesNone j = (m : MemberReference) (c : ProgramClass) → Accesses j m → class_named j.program m.class ≡ Some c → ⊥

abbrev pub CallsNone : Judged → Type 0
CallsNone j = (m : MemberReference) (by_interface : Bool) (c : ProgramClass) → Calls j m → IsByInterface j.pool j.operand by_interface
    → class_named j.program m.class ≡ Some c → ⊥

-- What the references of the instruction give, whether its member is of another kind, and its target.
pub record AreLookups (j : Judged) (l : Lookups) : Type 0 where
  pub no_field : IfNone l.field (AccessesNone j)
  pub no_method : IfNone l.method (CallsNone j)
  pub field : IsOnly (LooksUpField j) (option_map field_number l.field)
  pub method : IsOnly (LooksUpMethod j) (option_map method_number l.method)
  pub mismatched : IsTrue l.mismatched ↔ IsMismatched j
  pub target : IsOnly (HasTarget j) (option_map (λ (m : MethodNo). m.0) l.target)

-- ---- arrays

-- The text is what stands behind this many [, and does not begin with another one.
pub record IsBehindBrackets (name rest : List ℕ) : Type 0 where
  pub dimensions : ℕ
  pub is : name ≡ replicate dimensions 91 ++ rest
  pub no_array : is_array rest ≡ false

-- The text is the descriptor of a class (JVMS 4.3.2).
abbrev pub IsClassDescriptor : List ℕ → List ℕ → Type 0
IsClassDescriptor text class = text ≡ codes "L" ++ class ++ codes ";"

-- ---- finalizers

-- The class declares the method of the name and descriptor.
abbrev pub DeclaresOne : Program → Signature → List ℕ → Type 0
DeclaresOne p s class = (number : ℕ) × Declares p (HasSignature s) class number

-- The class declares a finalizer.
abbrev pub DeclaresFinalizer : Program → List ℕ → Type 0
DeclaresFinalizer p class = (number : ℕ) × Declares p IsFinalizer class number

-- The class is one of the folder, and declares a finalizer.
abbrev pub IsFolderFinalizer : Program → ProgramClass → Type 0
IsFolderFinalizer p c = IsTrue c.is_folder × DeclaresFinalizer p c.name

-- A class of the folder from that of a name upward declares one.
pub record HasFolderFinalizer (p : Program) (start : List ℕ) : Type 0 where
  pub chain : List ProgramClass
  pub of_start : IsChain p (Some start) chain
  pub owner : ProgramClass
  pub above : Contains chain owner
  pub finalizes : IsFolderFinalizer p owner

-- ---- the first reason

-- The reasons that are asked before anything is looked up, and those after them, in the order of all.
abbrev pub unfollowed_reasons : List Reason
unfollowed_reasons = reasons.InvokeDynamic ∷ reasons.MethodConstant ∷ reasons.Reflection ∷ reasons.Threads ∷ []

abbrev pub member_reasons : List Reason
member_reasons = reasons.NoStub ∷ reasons.MissingField ∷ reasons.MissingMethod ∷ reasons.KindMismatch ∷ reasons.NoImplementation ∷ reasons.Finalizer ∷ []
