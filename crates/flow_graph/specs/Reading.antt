-- Public contracts rest on this module.
-- What the reader of code saw to at each instruction, and the units of descriptors as the code counts them.
use Rattle.std.specs.Prelude.{◌≡◌, ℕ, ◌+◌, ◌<◌, ◌≤◌, Bool, true, false, List, length, Option, Some, None, option_and_then, sum_by, slice_index_or}
use Rattle.std.specs.BTreeMap.{BTreeMap, get}
use Rattle.std.specs.List.{AllZip}
use Rattle.std.specs.Ordering.{nat_cmp}
use Rattle.jvm_model.specs.declared.class_file.ClassFile.{ClassFile}
use Rattle.jvm_model.specs.declared.code.Code.{Code}
use Rattle.jvm_model.specs.declared.code.Instruction.{Instruction as Given}
use Rattle.jvm_model.specs.declared.code.PlacedInstruction.{PlacedInstruction}
use Rattle.jvm_model.specs.declared.descriptor.Descriptor.{Descriptor}
use Rattle.jvm_model.specs.declared.descriptor.Descriptor.TheVariants.{Method}
use Rattle.jvm_model.specs.declared.descriptor.Kind.{Kind as TypeKind}
use Rattle.jvm_model.specs.declared.pool.PoolEntry.{PoolEntry}
use Rattle.jvm_model.specs.declared.pool.PoolEntry.TheVariants.{Fieldref, Methodref, InterfaceMethodref, NameAndType, InvokeDynamic}
use Rattle.jvm_model.specs.Descriptors.{IsMethodDescriptor}
use Rattle.jvm_model.specs.Instructions.{HasDescriptorUnits}
use Rattle.jvm_model.specs.InstructionUses.{is_subroutine, leads_right}
use Rattle.jvm_model.specs.Lookups.{entry_at, text_at}
use Rattle.jvm_model.specs.Soundness.{IsSoundClass}
use Rattle.jvm_model.specs.Table.{Row, row_of, UnitKind, Operands, widened}
use Rattle.jvm_model.specs.DescriptorValues.{kind_units}
use Rattle.flow_graph.specs.declared.effect.Effect.{Effect}
use Rattle.flow_graph.specs.declared.mark.Mark.{Mark}
use Rattle.flow_graph.specs.declared.units.MethodUnits.{MethodUnits}
use Rattle.flow_graph.specs.Effects.{with_row, HasEffect}
use Rattle.flow_graph.specs.Walks.{Walk, at_start}

abbrev pub is_widened : Operands → Bool
is_widened widened = true
is_widened _ = false

-- An instruction of a sound class file: it has a row, which is none of a subroutine, and its index of the constant pool
-- leads to what it should (JVMS 4.9.1).
pub record IsSoundInstruction (c : ClassFile) (i : Given) : Type 0 where
  pub sound : IsSoundClass c
  pub row : Row
  pub of_opcode : row_of i.opcode ≡ Some row
  pub no_subroutine : is_subroutine row.flow ≡ false
  pub not_wide : is_widened row.operands ≡ false
  pub leads : leads_right c.pool (with_row i row) ≡ true

-- If the instruction is sound, it pops and pushes so many units.
pub record HasEffectIfSound (c : ClassFile) (p : PlacedInstruction) (e : Effect) : Type 0 where
  pub if_sound : IsSoundInstruction c p.instruction → HasEffect c.pool p.instruction e

-- The instructions stand in the order of their offsets.
pub record AreInOrder (instructions : List PlacedInstruction) : Type 0 where
  pub below : (i j : ℕ) (p : PlacedInstruction) → i < j → j < length instructions → (slice_index_or instructions i p).offset < (slice_index_or instructions j p).offset

-- A method descriptor has so many units of parameters and of the result (JVMS 4.3.3).
pub record HasCounts (descriptor : List ℕ) (u : MethodUnits) : Type 0 where
  pub parameters : List UnitKind
  pub results : List UnitKind
  pub units : HasDescriptorUnits descriptor parameters results
  pub parameters_are : u.parameters ≡ length parameters
  pub results_are : u.results ≡ length results

-- A call of a method of this descriptor, whose receiver takes so many units, pops and pushes so many.
pub record IsCallEffect (descriptor : List ℕ) (receiver : ℕ) (e : Effect) : Type 0 where
  pub units : MethodUnits
  pub counted : HasCounts descriptor units
  pub pops_are : e.pops ≡ receiver + units.parameters
  pub pushes_are : e.pushes ≡ units.results

-- The text at an index of the constant pool, if it is the descriptor of a method, has so many units.
pub record IsUnitsAt (pool : List PoolEntry) (index : ℕ) (u : MethodUnits) : Type 0 where
  pub few : u.parameters ≤ 255
  pub counted : (descriptor : List ℕ) → text_at pool index ≡ Some descriptor → IsMethodDescriptor descriptor → HasCounts descriptor u

-- The units that were read are those of the texts at their indices.
pub record AreRead (pool : List PoolEntry) (read : BTreeMap ℕ MethodUnits) : Type 0 where
  pub each : (index : ℕ) (u : MethodUnits) → get nat_cmp read index ≡ Some u → IsUnitsAt pool index u

-- The index of the text that is the descriptor of a name and descriptor (JVMS 4.4.6).
abbrev pub descriptor_index_in : PoolEntry → Option ℕ
descriptor_index_in (NameAndType name descriptor) = Some descriptor
descriptor_index_in _ = None

abbrev pub signature_descriptor_at : List PoolEntry → ℕ → Option ℕ
signature_descriptor_at pool index = option_and_then descriptor_index_in (entry_at pool index)

-- That of the field or the method that an entry names (JVMS 4.4.2).
abbrev pub member_descriptor_in : List PoolEntry → PoolEntry → Option ℕ
member_descriptor_in pool (Fieldref class signature) = signature_descriptor_at pool signature
member_descriptor_in pool (Methodref class signature) = signature_descriptor_at pool signature
member_descriptor_in pool (InterfaceMethodref class signature) = signature_descriptor_at pool signature
member_descriptor_in pool _ = None

abbrev pub member_descriptor_at : List PoolEntry → ℕ → Option ℕ
member_descriptor_at pool index = option_and_then (member_descriptor_in pool) (entry_at pool index)

-- That of a call site (JVMS 4.4.10).
abbrev pub site_descriptor_in : List PoolEntry → PoolEntry → Option ℕ
site_descriptor_in pool (InvokeDynamic bootstrap signature) = signature_descriptor_at pool signature
site_descriptor_in pool _ = None

abbrev pub site_descriptor_at : List PoolEntry → ℕ → Option ℕ
site_descriptor_at pool index = option_and_then (site_descriptor_in pool) (entry_at pool index)

-- A call of a method whose descriptor is the text at an index of the constant pool, if there is one, pops and pushes so many.
pub record IsCallAt (pool : List PoolEntry) (index : Option ℕ) (receiver : ℕ) (e : Effect) : Type 0 where
  pub by_descriptor : (descriptor : List ℕ) → option_and_then (text_at pool) index ≡ Some descriptor → IsMethodDescriptor descriptor → IsCallEffect descriptor receiver e

-- The units of a result: none of void.
abbrev pub outcome_units : Option TypeKind → ℕ
outcome_units None = 0
outcome_units (Some kind) = kind_units kind

-- The units of a descriptor that was read: none but of a method.
abbrev pub spelled_units : Option Descriptor → MethodUnits
spelled_units (Some (Method kinds outcome)) = record { parameters = sum_by kind_units kinds; results = outcome_units outcome }
spelled_units _ = record { parameters = 0; results = 0 }

-- If each instruction is sound, the walk over the code ends with these marks.
pub record IsWalkedIfSound (c : ClassFile) (code : Code) (marks : List Mark) : Type 0 where
  pub effects : List Effect
  pub known : AllZip (HasEffectIfSound c) code.instructions effects
  pub walk : Walk code effects (at_start code) marks
