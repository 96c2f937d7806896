-- Public contracts rest on this module.
-- What a call selects by the object that it is made on, the methods that stubs describe, and the initialisers that may be started (JVMS 5.5,
-- 6.5.invokevirtual, 6.5.invokespecial, 6.5.invokeinterface).
use Rattle.std.specs.Prelude.{◌≡◌, ℕ, zero, suc, Bool, true, false, Result, Ok, Some, slice_get}
use Rattle.jvm_model.specs.declared.class_file.ClassFile.{ClassFile}
use Rattle.jvm_model.specs.declared.class_file.Member.{Member}
use Rattle.jvm_model.specs.declared.number.MethodNo.{MethodNo}
use Rattle.jvm_model.specs.declared.reason.Reason.{Reason}
use Rattle.jvm_model.specs.declared.site.Site.{Site}
use Rattle.jvm_model.specs.declared.stub.StubArgument.{StubArgument}
use Rattle.jvm_model.specs.declared.stub.StubMethod.{StubMethod}
use Rattle.jvm_model.specs.Descriptors.{IsMethodDescriptor}
use Rattle.jvm_model.specs.Programs.{Program, Method, in_file, described}
use Rattle.jvm_model.specs.Selection.{Selection}
use Rattle.jvm_model.specs.Subtypes.{Fits}
use Rattle.op_model.specs.declared.op.CallKind.{CallKind}
use Rattle.op_model.specs.declared.op.CallKind.TheVariants.{Virtual, Special, Static, Interface}
use Rattle.machine_bytecode.specs.Described.{argument_unit}
use Rattle.machine_bytecode.specs.Machine.{selecting_class}

-- ---- selection

-- An object of the site fits the class that declares the resolved method.
pub record IsReceiver (p : Program) (resolved : MethodNo) (s : Site) : Type 0 where
  pub method : Method
  pub stands : slice_get p.methods resolved.0 ≡ Some method
  pub fits : Fits p method.class s.class

-- What a call gives that selects by the class of the object, for one of the site.
abbrev pub SelectsAs : Bool → Program → MethodNo → Site → Result ℕ Reason → Type 0
SelectsAs by_interface p resolved s outcome = IsReceiver p resolved s × Selection p by_interface (selecting_class s.class) resolved.0 outcome

abbrev pub SelectsFor : CallKind → Program → MethodNo → Site → Result ℕ Reason → Type 0
SelectsFor Virtual p resolved s outcome = SelectsAs false p resolved s outcome
SelectsFor Special p resolved s outcome = ⊥
SelectsFor Static p resolved s outcome = ⊥
SelectsFor Interface p resolved s outcome = SelectsAs true p resolved s outcome

-- An object of the site may be a unit of the arguments that a call passes to a target. Where the call selects by it, the first unit is an
-- object that selects this target.
abbrev pub MayPass : CallKind → Program → MethodNo → Site → (target : MethodNo) → (unit : ℕ) → Type 0
MayPass kind p resolved s target (suc unit) = Unit {0}
MayPass Virtual p resolved s target zero = SelectsAs false p resolved s (Ok target.0)
MayPass Special p resolved s target zero = Unit {0}
MayPass Static p resolved s target zero = Unit {0}
MayPass Interface p resolved s target zero = SelectsAs true p resolved s (Ok target.0)

-- The same for a described method: at a special call its object fits the class of the resolved method.
abbrev pub MayBeGiven : CallKind → Program → MethodNo → Site → (target : MethodNo) → (unit : ℕ) → Type 0
MayBeGiven kind p resolved s target (suc unit) = Unit {0}
MayBeGiven Virtual p resolved s target zero = SelectsAs false p resolved s (Ok target.0)
MayBeGiven Special p resolved s target zero = IsReceiver p resolved s
MayBeGiven Static p resolved s target zero = Unit {0}
MayBeGiven Interface p resolved s target zero = SelectsAs true p resolved s (Ok target.0)

-- ---- targets

-- The method of the number is one of a class file.
pub record IsOfFile (p : Program) (number : MethodNo) : Type 0 where
  pub method : Method
  pub stands : slice_get p.methods number.0 ≡ Some method
  pub file : ClassFile
  pub place : ℕ
  pub member : Member
  pub of_file : method.body ≡ in_file file place member

-- A stub describes the method of the number, which is not abstract.
pub record IsDescribedBy (p : Program) (number : MethodNo) (stub : StubMethod) : Type 0 where
  pub method : Method
  pub stands : slice_get p.methods number.0 ≡ Some method
  pub of_stub : method.body ≡ described stub
  pub concrete : stub.is_abstract ≡ false

-- The unit of an argument that a stub names.
pub record IsUnitOf (stub : StubMethod) (argument : StubArgument) (unit : ℕ) : Type 0 where
  pub descriptor : IsMethodDescriptor stub.descriptor
  pub is : unit ≡ argument_unit stub.is_static descriptor.parameters argument
