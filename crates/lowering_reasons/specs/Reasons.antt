-- Public contracts rest on this module.
-- Why an instruction has no node: what it names is not there, or is of another kind (JVMS 5.4.3, 6.5), or is something that the
-- analysis does not follow.
use Rattle.std.specs.Prelude.{codes, ◌≡◌, ◌≢◌, ◌⊎◌, ℕ, ◌+◌, Bool, true, false, List, [], ◌∷◌, ◌++◌, replicate, option_and_then, Option, Some, None, Result, Ok, Err, slice_get, Contains, IsTrue}
use Rattle.jvm_model.specs.declared.pool.PoolEntry.{PoolEntry}
use Rattle.jvm_model.specs.declared.pool.PoolEntry.TheVariants.{Utf8, Integer, Float, Long, Double, Class, Str, Fieldref, Methodref, InterfaceMethodref, NameAndType, MethodHandle, MethodType, InvokeDynamic, Taken}
use Rattle.jvm_model.specs.declared.reason.Reason.{Reason}
use Rattle.jvm_model.specs.declared.reason.Reason.TheVariants as reasons
use Rattle.jvm_model.specs.Instructions.{member_at}
use Rattle.jvm_model.specs.Lookups.{MemberReference, Signature, entry_at, text_at, class_name_at}
use Rattle.jvm_model.specs.Programs.{Class as ProgramClass, Method, Program, IsUndescribed, is_abstract, is_private, is_static}
use Rattle.jvm_model.specs.Resolution.{Declares, FieldResolution, MethodResolution}
use Rattle.jvm_model.specs.Selection.{SelectsSpecial}
use Rattle.jvm_model.specs.Soundness.{is_array}
use Rattle.jvm_model.specs.Subtypes.{class_named, IsChain, IsSubtype}
use Rattle.jvm_model.specs.Table.{Operands, is_pool_index, Action, plain, load_constant, load_element, store_element, probe_element, probe_array, probe_object, get_static, put_static, get_field, put_field, invoke_virtual, invoke_special, invoke_static, invoke_interface, make_object, make_array, throw_object, cast, leave_method, refused, is_call, is_field_access}

-- An instruction as it is judged: the program, the class of its method, the constant pool, what it does and takes, and its operand.
pub record Judged : Type 0 where
  pub program : Program
  pub current : List ℕ
  pub pool : List PoolEntry
  pub action : Action
  pub operands : Operands
  pub operand : ℕ

-- ---- what an instruction names

-- The class that an entry names, or that a member which it names is looked up in (JVMS 4.4.1, 4.4.2).
abbrev pub class_in : List PoolEntry → PoolEntry → Option (List ℕ)
class_in pool (Class name) = text_at pool name
class_in pool (Fieldref class member) = class_name_at pool class
class_in pool (Methodref class member) = class_name_at pool class
class_in pool (InterfaceMethodref class member) = class_name_at pool class
class_in pool (Utf8 bytes) = None
class_in pool (Integer bits) = None
class_in pool (Float bits) = None
class_in pool (Long bits) = None
class_in pool (Double bits) = None
class_in pool (Str text) = None
class_in pool (NameAndType name descriptor) = None
class_in pool (MethodHandle kind member) = None
class_in pool (MethodType descriptor) = None
class_in pool (InvokeDynamic bootstrap member) = None
class_in pool Taken = None

-- The instruction names the class, the interface or the array.
abbrev pub Names : Judged → List ℕ → Type 0
Names j class = IsTrue (is_pool_index j.operands) × (option_and_then (class_in j.pool) (entry_at j.pool j.operand) ≡ Some class)

-- It calls the method; it reads or writes the field.
abbrev pub Calls : Judged → MemberReference → Type 0
Calls j m = IsTrue (is_call j.action) × (member_at j.pool j.operand ≡ Some m)

abbrev pub Accesses : Judged → MemberReference → Type 0
Accesses j m = IsTrue (is_field_access j.action) × (member_at j.pool j.operand ≡ Some m)

-- It asks for a static member.
abbrev pub wants_static : Action → Bool
wants_static plain = false
wants_static load_constant = false
wants_static load_element = false
wants_static store_element = false
wants_static probe_element = false
wants_static probe_array = false
wants_static probe_object = false
wants_static get_static = true
wants_static put_static = true
wants_static get_field = false
wants_static put_field = false
wants_static invoke_virtual = false
wants_static invoke_special = false
wants_static invoke_static = true
wants_static invoke_interface = false
wants_static make_object = false
wants_static make_array = false
wants_static throw_object = false
wants_static cast = false
wants_static leave_method = false
wants_static refused = false

-- The reference is one to a method of an interface, or of a class (JVMS 4.4.2).
pub data IsByInterface (pool : List PoolEntry) (operand : ℕ) (by_interface : Bool) : Type 0 where
  of_class : (class member : ℕ) → entry_at pool operand ≡ Some (Methodref class member) → by_interface ≡ false → IsByInterface pool operand by_interface
  of_interface : (class member : ℕ) → entry_at pool operand ≡ Some (InterfaceMethodref class member) → by_interface ≡ true → IsByInterface pool operand by_interface

-- The field is looked up in a class of the program, with this outcome (JVMS 5.4.3.2).
pub record LooksUpField (j : Judged) (outcome : Result ℕ Reason) : Type 0 where
  pub field : MemberReference
  pub accesses : Accesses j field
  pub class : ProgramClass
  pub named : class_named j.program field.class ≡ Some class
  pub is : FieldResolution j.program class field.signature (wants_static j.action) outcome

-- So is the method (JVMS 5.4.3.3, 5.4.3.4).
pub record LooksUpMethod (j : Judged) (outcome : Result ℕ Reason) : Type 0 where
  pub method : MemberReference
  pub calls : Calls j method
  pub class : ProgramClass
  pub named : class_named j.program method.class ≡ Some class
  pub by_interface : Bool
  pub kind : IsByInterface j.pool j.operand by_interface
  pub is : MethodResolution j.program class by_interface method.signature outcome

-- ---- what the analysis does not follow

-- invokedynamic: of the instructions that the table refuses, code has no other one.
abbrev pub IsDynamic : Judged → Type 0
IsDynamic j = j.action ≡ refused

-- A method handle or a method type is loaded, or a method of a handle is called (JVMS 2.9, 6.5.ldc).
pub data UsesMethodConstant (j : Judged) : Type 0 where
  loads_handle : (kind member : ℕ) → j.action ≡ load_constant → entry_at j.pool j.operand ≡ Some (MethodHandle kind member) → UsesMethodConstant j
  loads_type : (descriptor : ℕ) → j.action ≡ load_constant → entry_at j.pool j.operand ≡ Some (MethodType descriptor) → UsesMethodConstant j
  calls_handle : (m : MemberReference) → Calls j m → m.class ≡ codes "java/lang/invoke/MethodHandle" → UsesMethodConstant j

-- The name begins so.
pub record IsUnder (prefix name : List ℕ) : Type 0 where
  pub rest : List ℕ
  pub is : name ≡ prefix ++ rest

-- A class of reflection is named; or a method of java/lang/Class but for two.
pub data IsReflective (j : Judged) : Type 0 where
  names_class : (class : List ℕ) → Names j class → IsUnder (codes "java/lang/reflect/") class → IsReflective j
  calls_class : (m : MemberReference) → Calls j m → m.class ≡ codes "java/lang/Class" → m.signature.name ≢ codes "desiredAssertionStatus"
      → m.signature.name ≢ codes "getName" → IsReflective j

-- The class is one of threads, or of what they share.
pub data IsOfThreads (p : Program) (class : List ℕ) : Type 0 where
  a_thread : IsSubtype p (codes "java/lang/Thread") class → IsOfThreads p class
  a_group : class ≡ codes "java/lang/ThreadGroup" → IsOfThreads p class
  concurrent : IsUnder (codes "java/util/concurrent/") class → IsOfThreads p class

-- The methods by which threads wait for each other.
abbrev pub waiting_methods : List Signature
waiting_methods =
    record { name = codes "wait"; descriptor = codes "()V" } ∷ record { name = codes "wait"; descriptor = codes "(J)V" }
    ∷ record { name = codes "wait"; descriptor = codes "(JI)V" } ∷ record { name = codes "notify"; descriptor = codes "()V" }
    ∷ record { name = codes "notifyAll"; descriptor = codes "()V" } ∷ []

pub data UsesThreads (j : Judged) : Type 0 where
  names_class : (class : List ℕ) → Names j class → IsOfThreads j.program class → UsesThreads j
  calls_waiting : (m : MemberReference) → Calls j m → Contains waiting_methods m.signature → UsesThreads j

-- ---- members of another kind

-- A static member stands where an instance member has to, or the reverse; a reference to a method of a class names an interface,
-- or the reverse; a private method is called as one of an interface; a constructor otherwise than by invokespecial; or the
-- initialiser of a class is called.
pub data IsMismatched (j : Judged) : Type 0 where
  by_field : LooksUpField j (Err reasons.KindMismatch) → IsMismatched j
  by_reference : LooksUpMethod j (Err reasons.KindMismatch) → IsMismatched j
  by_static : (number : ℕ) (m : Method) → LooksUpMethod j (Ok number) → slice_get j.program.methods number ≡ Some m → is_static m ≢ wants_static j.action → IsMismatched j
  by_private : (number : ℕ) (m : Method) → j.action ≡ invoke_interface → LooksUpMethod j (Ok number) → slice_get j.program.methods number ≡ Some m
      → IsTrue (is_private m) → IsMismatched j
  by_constructor : (m : MemberReference) → j.action ≢ invoke_special → Calls j m → m.signature.name ≡ codes "<init>" → IsMismatched j
  by_initialiser : (m : MemberReference) → Calls j m → m.signature.name ≡ codes "<clinit>" → IsMismatched j

-- ---- targets that are known beforehand

-- The method that a special or a static call of the right kind goes to, abstract or not (JVMS 6.5.invokespecial, 6.5.invokestatic).
pub data HasTarget (j : Judged) (target : ℕ) : Type 0 where
  special : (number : ℕ) → j.action ≡ invoke_special → (l : LooksUpMethod j (Ok number)) → (IsMismatched j → ⊥)
      → SelectsSpecial j.program j.current l.method target → HasTarget j target
  static : j.action ≡ invoke_static → LooksUpMethod j (Ok target) → (IsMismatched j → ⊥) → HasTarget j target

-- A special call finds no method, or several; or what a special or a static call goes to is abstract.
pub data LacksTarget (j : Judged) : Type 0 where
  finds_none : (number : ℕ) → j.action ≡ invoke_special → (l : LooksUpMethod j (Ok number)) → (IsMismatched j → ⊥)
      → ((target : ℕ) → SelectsSpecial j.program j.current l.method target → ⊥) → LacksTarget j
  finds_abstract : (target : ℕ) (m : Method) → HasTarget j target → slice_get j.program.methods target ≡ Some m → IsTrue (is_abstract m) → LacksTarget j

-- ---- what no stub describes

-- The elements of the elements, and so on, of the array are of the class.
pub record IsElementClass (array class : List ℕ) : Type 0 where
  pub dimensions : ℕ
  pub is : array ≡ replicate (dimensions + 1) 91 ++ codes "L" ++ class ++ codes ";"

-- The class is not in the program, or the class of the elements is not.
pub data IsNotThere (p : Program) (name : List ℕ) : Type 0 where
  a_class : is_array name ≡ false → class_named p name ≡ None → IsNotThere p name
  an_array : (class : List ℕ) → IsElementClass name class → class_named p class ≡ None → IsNotThere p name

pub data LacksStub (j : Judged) : Type 0 where
  of_class : (class : List ℕ) → Names j class → IsNotThere j.program class → LacksStub j
  of_array_field : (m : MemberReference) → Accesses j m → IsTrue (is_array m.class) → LacksStub j
  of_array_method : (m : MemberReference) → Calls j m → IsTrue (is_array m.class) → LacksStub j
  of_field : LooksUpField j (Err reasons.NoStub) → LacksStub j
  of_method : LooksUpMethod j (Err reasons.NoStub) → LacksStub j
  of_target : (target : ℕ) → HasTarget j target → IsUndescribed j.program target → LacksStub j

-- ---- what the library calls by itself

-- Finalization, and what the constructor of an exception calls (JVMS 12.6 of the language; java/lang/Throwable).
abbrev pub finalizers : List Signature
finalizers =
    record { name = codes "finalize"; descriptor = codes "()V" }
    ∷ record { name = codes "fillInStackTrace"; descriptor = codes "()Ljava/lang/Throwable;" } ∷ []

abbrev pub IsFinalizer : ℕ → Method → Type 0
IsFinalizer number m = Contains finalizers m.signature

-- The class has such a method in itself, or in a superclass of the folder.
pub record HasFinalizer (p : Program) (class : List ℕ) : Type 0 where
  pub chain : List ProgramClass
  pub of_class : IsChain p (Some class) chain
  pub owner : ProgramClass
  pub above : Contains chain owner
  pub own : (owner.name ≡ class) ⊎ IsTrue owner.is_folder
  pub number : ℕ
  pub declares : Declares p IsFinalizer owner.name number

pub record MakesFinalized (j : Judged) : Type 0 where
  pub makes : j.action ≡ make_object
  pub class : List ℕ
  pub names : Names j class
  pub has : HasFinalizer j.program class

-- ---- the first reason

-- The reason holds of the instruction.
pub data HasReason (j : Judged) (reason : Reason) : Type 0 where
  dynamic : reason ≡ reasons.InvokeDynamic → IsDynamic j → HasReason j reason
  method_constant : reason ≡ reasons.MethodConstant → UsesMethodConstant j → HasReason j reason
  reflection : reason ≡ reasons.Reflection → IsReflective j → HasReason j reason
  threads : reason ≡ reasons.Threads → UsesThreads j → HasReason j reason
  no_stub : reason ≡ reasons.NoStub → LacksStub j → HasReason j reason
  missing_field : reason ≡ reasons.MissingField → LooksUpField j (Err reasons.MissingField) → HasReason j reason
  missing_method : reason ≡ reasons.MissingMethod → LooksUpMethod j (Err reasons.MissingMethod) → HasReason j reason
  kind_mismatch : reason ≡ reasons.KindMismatch → IsMismatched j → HasReason j reason
  no_implementation : reason ≡ reasons.NoImplementation → LacksTarget j → HasReason j reason
  finalizer : reason ≡ reasons.Finalizer → MakesFinalized j → HasReason j reason

-- Of several reasons at one instruction the first of these is named.
abbrev pub reason_order : List Reason
reason_order =
    reasons.InvokeDynamic ∷ reasons.MethodConstant ∷ reasons.Reflection ∷ reasons.Threads ∷ reasons.NoStub ∷ reasons.MissingField
    ∷ reasons.MissingMethod ∷ reasons.KindMismatch ∷ reasons.NoImplementation ∷ reasons.Finalizer ∷ []

-- The first of some reasons that holds, if one does.
abbrev pub IsFirstOf : Judged → List Reason → Option Reason → Type 0
IsFirstOf j [] first = first ≡ None
IsFirstOf j (reason ∷ others) first =
    (HasReason j reason × (first ≡ Some reason)) ⊎ ((HasReason j reason → ⊥) × IsFirstOf j others first)

abbrev pub IsFirstReason : Judged → Option Reason → Type 0
IsFirstReason j first = IsFirstOf j reason_order first
