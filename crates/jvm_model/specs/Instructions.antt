-- Public contracts rest on this module.
-- The instructions in the code of a method (JVMS 4.7.3, 6.5), why none is read at an offset, and the rows of instructions
-- once the constant pool is known.
use Rattle.std.specs.Prelude.{◌≡◌, ℕ, zero, suc, ◌+◌, ◌-◌, ◌*◌, ◌%◌, Bool, ◌||◌, ◌==◌, nat_eq, nat_lt, List, [], ◌∷◌, ◌++◌, length, map, replicate, drop, slice_index, option_map, option_and_then, Option, Some, None, Result, Ok, Err, if◌then◌else◌}
use Rattle.std.specs.List.{flat_map}
use Rattle.jvm_model.specs.declared.pool.PoolEntry.{PoolEntry}
use Rattle.jvm_model.specs.declared.pool.PoolEntry.TheVariants.{Utf8, Integer, Float, Long, Double, Class, Str, Fieldref, Methodref, InterfaceMethodref, NameAndType, MethodHandle, MethodType, InvokeDynamic, Taken}
use Rattle.jvm_model.specs.declared.reason.Reason.{Reason}
use Rattle.jvm_model.specs.declared.reason.Reason.TheVariants.{BadOpcode, CodeCut}
use Rattle.jvm_model.specs.Descriptors.{IsMethodDescriptor, IsFieldDescriptor}
use Rattle.jvm_model.specs.Lookups.{MemberReference, Signature, entry_at, class_name_at, signature_at}
use Rattle.jvm_model.specs.Table.{Row, row, row_of, Operands, nothing, implied, value_1, value_2, type_code, local_1, pool_1, pool_2, offset_2, offset_4, local_and_value, pool_2_and_count, pool_2_and_zeros, pool_2_and_dimensions, table_of_offsets, pairs_with_offsets, widened, UnitKind, any_kind, primitive, reference, UnitSource, a_primitive, the_made, Action, plain, load_constant, load_element, store_element, probe_element, probe_array, probe_object, get_static, put_static, get_field, put_field, invoke_virtual, invoke_special, invoke_static, invoke_interface, make_object, make_array, throw_object, cast, leave_method, refused}

-- An instruction: its opcode and the row of it; its operand, which is an index of the constant pool, a local variable
-- or the code of a type, and else 0; for multianewarray its dimensions; the offsets to which it may branch, in the
-- order of its operands, where None is one before the code; and how many bytes it takes. What the prefix wide stands
-- before is given as that instruction.
pub record DecodedInstruction : Type 0 where
  pub opcode : ℕ
  pub row : Row
  pub operand : ℕ
  pub dimensions : ℕ
  pub targets : List (Option ℕ)
  pub size : ℕ

abbrev pub instruction : ℕ → Row → ℕ → ℕ → List (Option ℕ) → ℕ → DecodedInstruction
instruction opcode r operand dimensions targets size = record { opcode = opcode; row = r; operand = operand; dimensions = dimensions; targets = targets; size = size }

-- ---- numbers

-- A number of two bytes, high byte first, and one of four.
abbrev pub number_2 : ℕ → ℕ → ℕ
number_2 a b = a * 256 + b

abbrev pub number_4 : ℕ → ℕ → ℕ → ℕ → ℕ
number_4 a b c d = number_2 (number_2 (number_2 a b) c) d

-- The number in the first four of some bytes.
abbrev pub word : List ℕ → ℕ
word bytes = number_4 (slice_index bytes 0) (slice_index bytes 1) (slice_index bytes 2) (slice_index bytes 3)

-- How far a signed number, which is written modulo 2^32, is above the least one.
abbrev pub above_least : ℕ → ℕ
above_least n = (n + 0x80000000) % 0x100000000

-- The place at a signed distance from an offset, where the distance is written modulo this number; none before
-- the first byte.
abbrev pub target : ℕ → ℕ → ℕ → Option ℕ
target modulus offset distance =
    if nat_lt (distance + distance) modulus then Some (offset + distance)
    else if nat_lt (offset + distance) modulus then None
    else Some (offset + distance - modulus)

-- The same, where the distance is one of two bytes, or of four.
abbrev pub near_target : ℕ → ℕ → Option ℕ
near_target offset distance = target 0x10000 offset distance

abbrev pub far_target : ℕ → ℕ → Option ℕ
far_target offset distance = target 0x100000000 offset distance

-- ---- switches (JVMS 6.5.tableswitch, 6.5.lookupswitch)

-- How many bytes of padding stand after an opcode, so that what follows is at a multiple of four in the code.
abbrev pub padding : ℕ → ℕ
padding offset = 3 - offset % 4

-- So many targets of the instruction at an offset, each in the first four bytes of an entry of this size.
abbrev pub table_targets : ℕ → ℕ → ℕ → List ℕ → List (Option ℕ)
table_targets offset entry zero bytes = []
table_targets offset entry (suc n) bytes = far_target offset (word bytes) ∷ table_targets offset entry n (drop entry bytes)

-- A switch at an offset, from the bytes after its padding, of which it takes this many: its default, and so many
-- entries, whose targets begin with the thirteenth byte.
abbrev pub switch : ℕ → Row → ℕ → ℕ → ℕ → ℕ → List ℕ → Result DecodedInstruction Reason
switch opcode r offset long entry count bytes =
    if nat_lt (length bytes) long then Err CodeCut
    else Ok (instruction opcode r 0 0 (far_target offset (word bytes) ∷ table_targets offset entry count (drop 12 bytes)) (1 + padding offset + long))

-- From its lowest to its highest value, both signed, tableswitch has one target each.
abbrev pub table_switch : ℕ → Row → ℕ → List ℕ → Result DecodedInstruction Reason
table_switch opcode r offset bytes =
    let low = above_least (word (drop 4 bytes)) in
    let high = above_least (word (drop 8 bytes)) in
    if nat_lt (length bytes) 12 then Err CodeCut
    else if nat_lt high low then Err BadOpcode
    else switch opcode r offset (12 + 4 * (high - low + 1)) 4 (high - low + 1) bytes

-- lookupswitch has so many pairs of a value and a target, a number that is signed and not below 0.
abbrev pub pairs_switch : ℕ → Row → ℕ → List ℕ → Result DecodedInstruction Reason
pairs_switch opcode r offset bytes =
    let count = word (drop 4 bytes) in
    if nat_lt (length bytes) 8 then Err CodeCut
    else if nat_lt count 0x80000000 then switch opcode r offset (8 + 8 * count) 8 count bytes
    else Err BadOpcode

-- ---- operands

-- The first byte, as a number; and the first two.
abbrev pub byte : List ℕ → ℕ
byte bytes = slice_index bytes 0

abbrev pub short : List ℕ → ℕ
short bytes = number_2 (slice_index bytes 0) (slice_index bytes 1)

-- The instruction, if there are so many bytes after its opcode.
abbrev pub needs : ℕ → List ℕ → DecodedInstruction → Result DecodedInstruction Reason
needs count bytes i = if nat_lt (length bytes) count then Err CodeCut else Ok i

-- The same, unless something is wrong with what stands there.
abbrev pub needs_right : ℕ → List ℕ → Bool → DecodedInstruction → Result DecodedInstruction Reason
needs_right count bytes wrong i =
    if nat_lt (length bytes) count then Err CodeCut
    else if wrong then Err BadOpcode
    else Ok i

-- An instruction that the prefix wide stands before: one with a local variable, which takes two bytes here, and the
-- value of iinc two (JVMS 6.5.wide).
abbrev pub widened_by : ℕ → Row → Operands → List ℕ → Result DecodedInstruction Reason
widened_by opcode r local_1 bytes = needs 2 bytes (instruction opcode r (short bytes) 0 [] 4)
widened_by opcode r local_and_value bytes = needs 4 bytes (instruction opcode r (short bytes) 0 [] 6)
widened_by opcode r _ bytes = Err BadOpcode

abbrev pub widened_row : ℕ → Option Row → List ℕ → Result DecodedInstruction Reason
widened_row opcode (Some r) bytes = widened_by opcode r r.operands bytes
widened_row opcode None bytes = Err BadOpcode

abbrev pub widened_first : List ℕ → Result DecodedInstruction Reason
widened_first [] = Err CodeCut
widened_first (opcode ∷ bytes) = widened_row opcode (row_of opcode) bytes

-- The instruction of an opcode and its row at an offset, from the bytes after its opcode. It is cut where the code ends
-- before its last operand; and newarray has the code of a type, from 4 to 11, and multianewarray a dimension.
abbrev pub with_operands : ℕ → Row → ℕ → Operands → List ℕ → Result DecodedInstruction Reason
with_operands opcode r offset nothing bytes = Ok (instruction opcode r 0 0 [] 1)
with_operands opcode r offset (implied local) bytes = Ok (instruction opcode r local 0 [] 1)
with_operands opcode r offset value_1 bytes = needs 1 bytes (instruction opcode r 0 0 [] 2)
with_operands opcode r offset value_2 bytes = needs 2 bytes (instruction opcode r 0 0 [] 3)
with_operands opcode r offset type_code bytes = needs_right 1 bytes (nat_lt (byte bytes) 4 || nat_lt 11 (byte bytes)) (instruction opcode r (byte bytes) 0 [] 2)
with_operands opcode r offset local_1 bytes = needs 1 bytes (instruction opcode r (byte bytes) 0 [] 2)
with_operands opcode r offset (pool_1 leads) bytes = needs 1 bytes (instruction opcode r (byte bytes) 0 [] 2)
with_operands opcode r offset (pool_2 leads) bytes = needs 2 bytes (instruction opcode r (short bytes) 0 [] 3)
with_operands opcode r offset offset_2 bytes = needs 2 bytes (instruction opcode r 0 0 (near_target offset (short bytes) ∷ []) 3)
with_operands opcode r offset offset_4 bytes = needs 4 bytes (instruction opcode r 0 0 (far_target offset (word bytes) ∷ []) 5)
with_operands opcode r offset local_and_value bytes = needs 2 bytes (instruction opcode r (byte bytes) 0 [] 3)
with_operands opcode r offset pool_2_and_count bytes = needs 4 bytes (instruction opcode r (short bytes) 0 [] 5)
with_operands opcode r offset pool_2_and_zeros bytes = needs 4 bytes (instruction opcode r (short bytes) 0 [] 5)
with_operands opcode r offset pool_2_and_dimensions bytes =
    needs_right 3 bytes (nat_eq (slice_index bytes 2) 0) (instruction opcode r (short bytes) (slice_index bytes 2) [] 4)
with_operands opcode r offset table_of_offsets bytes = table_switch opcode r offset (drop (padding offset) bytes)
with_operands opcode r offset pairs_with_offsets bytes = pairs_switch opcode r offset (drop (padding offset) bytes)
with_operands opcode r offset widened bytes = widened_first bytes

abbrev pub with_row : ℕ → Option Row → ℕ → List ℕ → Result DecodedInstruction Reason
with_row opcode (Some r) offset bytes = with_operands opcode r offset r.operands bytes
with_row opcode None offset bytes = Err BadOpcode

-- The instruction that the bytes at an offset begin with, or why none is there.
abbrev pub first_instruction : ℕ → List ℕ → Result DecodedInstruction Reason
first_instruction offset [] = Err CodeCut
first_instruction offset (opcode ∷ bytes) = with_row opcode (row_of opcode) offset bytes

-- The instruction at an offset of the code.
abbrev pub instruction_at : List ℕ → ℕ → Result DecodedInstruction Reason
instruction_at code offset = first_instruction offset (drop offset code)

-- ---- what the constant pool says

-- A member that is named: its class, and its name and descriptor (JVMS 4.4.2).
abbrev pub member_in : List PoolEntry → ℕ → ℕ → Option MemberReference
member_in pool class signature =
    option_and_then (λ (c : List ℕ). option_map (λ (s : Signature). record { class = c; signature = s }) (signature_at pool signature)) (class_name_at pool class)

abbrev pub member_of : List PoolEntry → PoolEntry → Option MemberReference
member_of pool (Fieldref class signature) = member_in pool class signature
member_of pool (Methodref class signature) = member_in pool class signature
member_of pool (InterfaceMethodref class signature) = member_in pool class signature
member_of pool _ = None

-- The field or the method that the entry at an index names.
abbrev pub member_at : List PoolEntry → ℕ → Option MemberReference
member_at pool index = option_and_then (member_of pool) (entry_at pool index)

-- The kinds of the units of a type, by the first letter of its descriptor (JVMS 4.3.2): two for J and D; a
-- reference for a class and an array; none for V.
abbrev pub kinds_by : ℕ → List UnitKind
kinds_by letter =
    if letter == 74 || letter == 68 then primitive ∷ primitive ∷ []
    else if letter == 76 || letter == 91 then reference ∷ []
    else if letter == 86 then []
    else primitive ∷ []

abbrev pub kinds_of : List ℕ → List UnitKind
kinds_of [] = []
kinds_of (letter ∷ rest) = kinds_by letter

-- The units of a method's parameters, without the receiver, and those of its result (JVMS 4.3.3).
pub record HasDescriptorUnits (descriptor : List ℕ) (parameters results : List UnitKind) : Type 0 where
  pub is : IsMethodDescriptor descriptor
  pub parameters_are : parameters ≡ flat_map kinds_of is.parameters
  pub results_are : results ≡ kinds_of is.outcome

-- What is pushed for a unit of a kind.
abbrev pub made_for : UnitKind → UnitSource
made_for primitive = a_primitive
made_for any_kind = the_made
made_for reference = the_made

-- The row with these units popped and pushed.
abbrev pub with_units : Row → List UnitKind → List UnitSource → Row
with_units r pops pushes = row r.mnemonic r.operands pops pushes r.stores r.flow r.action r.raises

-- A call pops its receiver, if it has one, and its arguments, and pushes its result.
pub record IsCallRow (pool : List PoolEntry) (i : DecodedInstruction) (receiver : List UnitKind) (r : Row) : Type 0 where
  pub method : MemberReference
  pub named : member_at pool i.operand ≡ Some method
  pub parameters : List UnitKind
  pub results : List UnitKind
  pub units : HasDescriptorUnits method.signature.descriptor parameters results
  pub row_is : r ≡ with_units i.row (receiver ++ parameters) (map made_for results)

-- An access to a field pops its object, if it has one, and what is put, and pushes what is got.
pub record IsFieldRow (pool : List PoolEntry) (i : DecodedInstruction) (pops : List UnitKind → List UnitKind) (pushes : List UnitKind → List UnitSource) (r : Row) : Type 0 where
  pub field : MemberReference
  pub named : member_at pool i.operand ≡ Some field
  pub is : IsFieldDescriptor field.signature.descriptor
  pub row_is : r ≡ with_units i.row (pops (kinds_of field.signature.descriptor)) (pushes (kinds_of field.signature.descriptor))

-- ldc and ldc_w push a primitive for a number, which is all that they do, and else a reference.
abbrev pub constant_row : Row → PoolEntry → Option Row
constant_row r (Integer bits) = Some (row r.mnemonic r.operands [] (a_primitive ∷ []) [] r.flow plain r.raises)
constant_row r (Float bits) = Some (row r.mnemonic r.operands [] (a_primitive ∷ []) [] r.flow plain r.raises)
constant_row r (Str text) = Some (with_units r [] (the_made ∷ []))
constant_row r (Class name) = Some (with_units r [] (the_made ∷ []))
constant_row r (MethodHandle kind member) = Some (with_units r [] (the_made ∷ []))
constant_row r (MethodType descriptor) = Some (with_units r [] (the_made ∷ []))
constant_row r (Utf8 bytes) = None
constant_row r (Long bits) = None
constant_row r (Double bits) = None
constant_row r (Fieldref class member) = None
constant_row r (Methodref class member) = None
constant_row r (InterfaceMethodref class member) = None
constant_row r (NameAndType name descriptor) = None
constant_row r (InvokeDynamic bootstrap member) = None
constant_row r Taken = None

-- multianewarray pops a size for each of its dimensions.
abbrev pub array_row : Operands → DecodedInstruction → Row
array_row pool_2_and_dimensions i = with_units i.row (replicate i.dimensions primitive) i.row.pushes
array_row _ i = i.row

-- The row of an instruction, by its action, with what the constant pool says of its units.
abbrev pub RowBy : Action → List PoolEntry → DecodedInstruction → Row → Type 0
RowBy plain pool i r = r ≡ i.row
RowBy load_constant pool i r = option_and_then (constant_row i.row) (entry_at pool i.operand) ≡ Some r
RowBy load_element pool i r = r ≡ i.row
RowBy store_element pool i r = r ≡ i.row
RowBy probe_element pool i r = r ≡ i.row
RowBy probe_array pool i r = r ≡ i.row
RowBy probe_object pool i r = r ≡ i.row
RowBy get_static pool i r = IsFieldRow pool i (λ value. []) (map made_for) r
RowBy put_static pool i r = IsFieldRow pool i (λ value. value) (λ value. []) r
RowBy get_field pool i r = IsFieldRow pool i (λ value. reference ∷ []) (map made_for) r
RowBy put_field pool i r = IsFieldRow pool i (λ value. reference ∷ value) (λ value. []) r
RowBy invoke_virtual pool i r = IsCallRow pool i (reference ∷ []) r
RowBy invoke_special pool i r = IsCallRow pool i (reference ∷ []) r
RowBy invoke_static pool i r = IsCallRow pool i [] r
RowBy invoke_interface pool i r = IsCallRow pool i (reference ∷ []) r
RowBy make_object pool i r = r ≡ i.row
RowBy make_array pool i r = r ≡ array_row i.row.operands i
RowBy throw_object pool i r = r ≡ i.row
RowBy cast pool i r = r ≡ i.row
RowBy leave_method pool i r = r ≡ i.row
RowBy refused pool i r = r ≡ i.row

abbrev pub IsRowAt : List PoolEntry → DecodedInstruction → Row → Type 0
IsRowAt pool i r = RowBy i.row.action pool i r
