-- Public contracts rest on this module.
-- The operation of an instruction, by its action (JVMS 6.5).
use Rattle.std.specs.Prelude.{codes, ◌≡◌, ℕ, ◌+◌, Bool, true, false, List, [], ◌∷◌, map, Option, Some, None, MatchBool, if◌then◌else◌}
use Rattle.jvm_model.specs.declared.number.FieldNo.{FieldNo}
use Rattle.jvm_model.specs.declared.number.MethodNo.{MethodNo}
use Rattle.jvm_model.specs.declared.pool.PoolEntry.{PoolEntry}
use Rattle.jvm_model.specs.declared.pool.PoolEntry.TheVariants as entries
use Rattle.jvm_model.specs.declared.site.Site.{Site}
use Rattle.jvm_model.specs.declared.site.SiteKind.TheVariants as kinds
use Rattle.jvm_model.specs.Instructions.{DecodedInstruction, HasDescriptorUnits}
use Rattle.jvm_model.specs.Lookups.{entry_at}
use Rattle.jvm_model.specs.Programs.{Program, Method, Field}
use Rattle.jvm_model.specs.Selection.{SelectsSpecial}
use Rattle.jvm_model.specs.Table.{Row, UnitKind, any_kind, primitive, reference, Action, plain, load_constant, load_element, store_element, probe_element, probe_array, probe_object, get_static, put_static, get_field, put_field, invoke_virtual, invoke_special, invoke_static, invoke_interface, make_object, make_array, throw_object, cast, leave_method, refused}
use Rattle.op_model.specs.declared.op.CallKind.{CallKind}
use Rattle.op_model.specs.declared.op.CallKind.TheVariants.{Virtual, Special, Static, Interface}
use Rattle.op_model.specs.declared.op.Move.{Move}
use Rattle.op_model.specs.declared.op.Op.{Op}
use Rattle.op_model.specs.declared.op.Op.TheVariants.{Assign, Load, Store, LoadElement, StoreElement, LoadStatic, StoreStatic, New, NewArray, Constant, Call, Return, Throw, Cast, Probe}
use Rattle.machine_bytecode.specs.Machine.{NamesField, NamesMethod, NamesClass, NamesArrays}
use Rattle.machine_bytecode.specs.Objects.{string_name}
use Rattle.machine_bytecode.specs.Start.{boot_site}
use Rattle.machine_bytecode.specs.States.{is_reference_type}
use Rattle.lowering_spec.specs.Moves.{AreMovesOf}

-- An instruction of a method: the program, the method's number and class, the constant pool, the instruction and its offset, its
-- row, and the slot of the lowest unit that it pops.
pub record Placed : Type 0 where
  pub program : Program
  pub method : ℕ
  pub current : List ℕ
  pub pool : List PoolEntry
  pub instruction : DecodedInstruction
  pub offset : ℕ
  pub row : Row
  pub base : ℕ

-- What it allocates of a class.
abbrev pub new_site : Placed → List ℕ → Site
new_site i class = record { kind = kinds.New; method = Some (record { 0 = i.method }); offset = i.offset; class = class }

-- It only moves units.
pub record IsAssign (i : Placed) (op : Op) : Type 0 where
  pub moves : List Move
  pub is : op ≡ Assign moves
  pub each : AreMovesOf i.row i.instruction.operand i.base moves

-- The class of the constants that ldc loads: strings, or classes. It has no operation for a method handle or a method type.
pub data LoadsConstantOf (i : Placed) (class : List ℕ) : Type 0 where
  of_string : (text : ℕ) → entry_at i.pool i.instruction.operand ≡ Some (entries.Str text) → class ≡ string_name → LoadsConstantOf i class
  of_class : (name : ℕ) → entry_at i.pool i.instruction.operand ≡ Some (entries.Class name) → class ≡ codes "java/lang/Class" → LoadsConstantOf i class

-- Units as slots, from a slot on: a primitive has none.
abbrev pub unit_slots : ℕ → List UnitKind → List (Option ℕ)
unit_slots slot [] = []
unit_slots slot (any_kind ∷ kinds) = None ∷ unit_slots (slot + 1) kinds
unit_slots slot (primitive ∷ kinds) = None ∷ unit_slots (slot + 1) kinds
unit_slots slot (reference ∷ kinds) = Some slot ∷ unit_slots (slot + 1) kinds

-- The slot of a value of these units, if it is a reference.
abbrev pub value_slot : ℕ → List UnitKind → Option ℕ
value_slot slot [] = None
value_slot slot (any_kind ∷ kinds) = None
value_slot slot (primitive ∷ kinds) = None
value_slot slot (reference ∷ kinds) = Some slot

abbrev pub field_no : ℕ → FieldNo
field_no number = record { 0 = number }

-- ---- fields: one of a primitive type holds nothing

-- getstatic and putstatic (JVMS 6.5.getstatic, 6.5.putstatic).
pub record IsStaticOp (i : Placed) (of_reference : FieldNo → Op) (op : Op) : Type 0 where
  pub names : NamesField i.program i.pool i.instruction.operand true
  pub is : MatchBool (is_reference_type names.field.signature.descriptor) (op ≡ of_reference (field_no names.number)) (IsAssign i op)

-- getfield and putfield (JVMS 6.5.getfield, 6.5.putfield).
pub record IsFieldOp (i : Placed) (of_reference : FieldNo → Op) (op : Op) : Type 0 where
  pub names : NamesField i.program i.pool i.instruction.operand false
  pub is : op ≡ (if is_reference_type names.field.signature.descriptor then of_reference (field_no names.number) else Probe i.base)

-- ---- calls

-- The target that is known beforehand, if there is one: that of a special call, or the resolved static method.
abbrev pub IsChosen : CallKind → (i : Placed) → NamesMethod i.program i.pool i.instruction.operand → Option MethodNo → Type 0
IsChosen Virtual i n chosen = chosen ≡ None
IsChosen Special i n chosen = (target : ℕ) × SelectsSpecial i.program i.current n.called target × (chosen ≡ Some (record { 0 = target }))
IsChosen Static i n chosen = chosen ≡ Some (record { 0 = n.resolved })
IsChosen Interface i n chosen = chosen ≡ None

pub record IsCallOp (i : Placed) (kind : CallKind) (op : Op) : Type 0 where
  pub names : NamesMethod i.program i.pool i.instruction.operand
  pub chosen : Option MethodNo
  pub is_chosen : IsChosen kind i names chosen
  pub parameters : List UnitKind
  pub results : List UnitKind
  pub units : HasDescriptorUnits names.called.signature.descriptor parameters results
  pub is : op ≡ Call (record {
    kind = kind;
    resolved = record { 0 = names.resolved };
    chosen = chosen;
    name = names.called.signature.name;
    descriptor = names.called.signature.descriptor;
    arguments = unit_slots i.base i.row.pops;
    result = value_slot i.base results;
  })

-- ---- the operation

-- The actions that the table refuses have none.
abbrev pub IsOp : Action → Placed → Op → Type 0
IsOp plain i op = IsAssign i op
IsOp load_constant i op = (class : List ℕ) × LoadsConstantOf i class × (op ≡ Constant (boot_site class) i.base)
IsOp load_element i op = op ≡ LoadElement i.base i.base
IsOp store_element i op = op ≡ StoreElement i.base (i.base + 2)
IsOp probe_element i op = op ≡ Probe i.base
IsOp probe_array i op = op ≡ Probe i.base
IsOp probe_object i op = op ≡ Probe i.base
IsOp get_static i op = IsStaticOp i (λ field. LoadStatic field i.base) op
IsOp put_static i op = IsStaticOp i (λ field. StoreStatic field i.base) op
IsOp get_field i op = IsFieldOp i (λ field. Load i.base field i.base) op
IsOp put_field i op = IsFieldOp i (λ field. Store i.base field (i.base + 1)) op
IsOp invoke_virtual i op = IsCallOp i Virtual op
IsOp invoke_special i op = IsCallOp i Special op
IsOp invoke_static i op = IsCallOp i Static op
IsOp invoke_interface i op = IsCallOp i Interface op
IsOp make_object i op = (n : NamesClass i.pool i.instruction.operand) × (op ≡ New (new_site i n.class) i.base)
IsOp make_array i op = (arrays : List (List ℕ)) × NamesArrays i.pool i.instruction arrays × (op ≡ NewArray (map (new_site i) arrays) i.base)
IsOp throw_object i op = op ≡ Throw i.base
IsOp cast i op = (n : NamesClass i.pool i.instruction.operand) × (op ≡ Cast n.class i.base)
IsOp leave_method i op = op ≡ Return (value_slot i.base i.row.pops)
IsOp refused i op = ⊥
