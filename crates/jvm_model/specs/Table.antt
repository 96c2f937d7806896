-- Public contracts rest on this module.
-- The instruction table (JVMS 6.5): for each opcode its mnemonic, its operands, the units that it pops from
-- the operand stack and those that it writes, where it goes on, what it does beside that, and what it may
-- raise. A long or a double is two units (JVMS 2.6.1, 2.6.2).
use Rattle.std.specs.Prelude.{codes, ℕ, Bool, true, false, List, [], ◌∷◌, Option, slice_get}

-- What an index of the constant pool has to lead to (JVMS 6.5).
pub data PoolTarget : Type 0 where
  -- what ldc loads: a number of one unit, a text, a class, a method handle or a method type
  loadable : PoolTarget
  -- what ldc2_w loads: a number of two units
  wide_number : PoolTarget
  a_field : PoolTarget
  -- a method of a class; of a class or an interface; of an interface
  class_method : PoolTarget
  any_method : PoolTarget
  interface_method : PoolTarget
  -- what invokedynamic names
  call_site : PoolTarget
  -- a class, an interface or an array; one that is no array; one that is
  any_class : PoolTarget
  no_array : PoolTarget
  an_array : PoolTarget

-- What stands after an opcode.
pub data Operands : Type 0 where
  -- no operand
  nothing : Operands
  -- none either: the opcode itself says which local variable
  implied : (local : ℕ) → Operands
  -- a constant of one byte, or of two
  value_1 : Operands
  value_2 : Operands
  -- the code of a primitive type, of one byte
  type_code : Operands
  -- a local variable, of one byte
  local_1 : Operands
  -- an index of the constant pool, of one byte, or of two
  pool_1 : (target : PoolTarget) → Operands
  pool_2 : (target : PoolTarget) → Operands
  -- a branch offset, of two bytes, or of four
  offset_2 : Operands
  offset_4 : Operands
  -- a local variable and a constant, of one byte each
  local_and_value : Operands
  -- an index of two bytes, a count and a zero; two zeros; a number of dimensions
  pool_2_and_count : Operands
  pool_2_and_zeros : Operands
  pool_2_and_dimensions : Operands
  -- padding, and a table of branch offsets; or pairs of keys and branch offsets
  table_of_offsets : Operands
  pairs_with_offsets : Operands
  -- another instruction, whose operands are widened
  widened : Operands

-- The operand is an index of the constant pool.
abbrev pub is_pool_index : Operands → Bool
is_pool_index nothing = false
is_pool_index (implied local) = false
is_pool_index value_1 = false
is_pool_index value_2 = false
is_pool_index type_code = false
is_pool_index local_1 = false
is_pool_index (pool_1 target) = true
is_pool_index (pool_2 target) = true
is_pool_index offset_2 = false
is_pool_index offset_4 = false
is_pool_index local_and_value = false
is_pool_index pool_2_and_count = true
is_pool_index pool_2_and_zeros = true
is_pool_index pool_2_and_dimensions = true
is_pool_index table_of_offsets = false
is_pool_index pairs_with_offsets = false
is_pool_index widened = false

-- What a popped unit has to be.
pub data UnitKind : Type 0 where
  any_kind : UnitKind
  primitive : UnitKind
  reference : UnitKind

-- Where a unit that is written comes from: a popped unit, counted from the lowest one; the local variable
-- that the operand names; the null reference; a primitive; or what the instruction's action makes.
pub data UnitSource : Type 0 where
  popped : (unit : ℕ) → UnitSource
  the_local : UnitSource
  a_null : UnitSource
  a_primitive : UnitSource
  the_made : UnitSource

-- Where an instruction goes on, if it raises and throws nothing: at the next one; at its target, or at any of them; at either; at its target
-- just where its reference is null, or is not; where its two references are the same, or are not; nowhere in
-- its method; or as a subroutine.
pub data Flow : Type 0 where
  onward : Flow
  jump : Flow
  branch : Flow
  branch_if_null : Flow
  branch_if_object : Flow
  branch_if_same : Flow
  branch_if_other : Flow
  leave : Flow
  subroutine : Flow

-- What an instruction does beside popping and writing units.
pub data Action : Type 0 where
  plain : Action
  load_constant : Action
  -- on an array of references
  load_element : Action
  store_element : Action
  -- it looks at an object that must be there: at an element of an array of primitives, at an array, or at any object
  probe_element : Action
  probe_array : Action
  probe_object : Action
  get_static : Action
  put_static : Action
  get_field : Action
  put_field : Action
  invoke_virtual : Action
  invoke_special : Action
  invoke_static : Action
  invoke_interface : Action
  make_object : Action
  make_array : Action
  throw_object : Action
  cast : Action
  leave_method : Action
  -- jsr, ret, invokedynamic, and the prefix wide
  refused : Action

-- An exception that an instruction itself raises.
pub data Raise : Type 0 where
  null_pointer : Raise
  array_index : Raise
  array_store : Raise
  arithmetic : Raise
  class_cast : Raise
  negative_size : Raise

-- A row of the table. `pushes` are the units that it pushes, and `stores` those that it writes into the local
-- variables from its operand on. What a call, an access to a field and ldc pop and push depends on the constant
-- pool, and what multianewarray pops on its dimensions; that does not stand here. An address to return to is a
-- primitive (JVMS 2.3). IllegalMonitorStateException, and errors of linking, are left out.
pub record Row : Type 0 where
  pub mnemonic : List ℕ
  pub operands : Operands
  pub pops : List UnitKind
  pub pushes : List UnitSource
  pub stores : List UnitSource
  pub flow : Flow
  pub action : Action
  pub raises : List Raise

abbrev pub row : List ℕ → Operands → List UnitKind → List UnitSource → List UnitSource → Flow → Action → List Raise → Row
row mnemonic operands pops pushes stores flow action raises =
    record { mnemonic = mnemonic; operands = operands; pops = pops; pushes = pushes; stores = stores; flow = flow; action = action; raises = raises }

-- The classes of actions.
-- A call of a method of an object, chosen by the object's class (JVMS 6.5.invokevirtual, 6.5.invokeinterface).
abbrev pub is_selecting : Action → Bool
is_selecting plain = false
is_selecting load_constant = false
is_selecting load_element = false
is_selecting store_element = false
is_selecting probe_element = false
is_selecting probe_array = false
is_selecting probe_object = false
is_selecting get_static = false
is_selecting put_static = false
is_selecting get_field = false
is_selecting put_field = false
is_selecting invoke_virtual = true
is_selecting invoke_special = false
is_selecting invoke_static = false
is_selecting invoke_interface = true
is_selecting make_object = false
is_selecting make_array = false
is_selecting throw_object = false
is_selecting cast = false
is_selecting leave_method = false
is_selecting refused = false

-- What calls a method that its operand names.
abbrev pub is_call : Action → Bool
is_call plain = false
is_call load_constant = false
is_call load_element = false
is_call store_element = false
is_call probe_element = false
is_call probe_array = false
is_call probe_object = false
is_call get_static = false
is_call put_static = false
is_call get_field = false
is_call put_field = false
is_call invoke_virtual = true
is_call invoke_special = true
is_call invoke_static = true
is_call invoke_interface = true
is_call make_object = false
is_call make_array = false
is_call throw_object = false
is_call cast = false
is_call leave_method = false
is_call refused = false

-- What reads or writes the field that its operand names.
abbrev pub is_field_access : Action → Bool
is_field_access plain = false
is_field_access load_constant = false
is_field_access load_element = false
is_field_access store_element = false
is_field_access probe_element = false
is_field_access probe_array = false
is_field_access probe_object = false
is_field_access get_static = true
is_field_access put_static = true
is_field_access get_field = true
is_field_access put_field = true
is_field_access invoke_virtual = false
is_field_access invoke_special = false
is_field_access invoke_static = false
is_field_access invoke_interface = false
is_field_access make_object = false
is_field_access make_array = false
is_field_access throw_object = false
is_field_access cast = false
is_field_access leave_method = false
is_field_access refused = false

-- What may start the initialisation of a class (JVMS 5.5).
abbrev pub is_trigger : Action → Bool
is_trigger plain = false
is_trigger load_constant = false
is_trigger load_element = false
is_trigger store_element = false
is_trigger probe_element = false
is_trigger probe_array = false
is_trigger probe_object = false
is_trigger get_static = true
is_trigger put_static = true
is_trigger get_field = false
is_trigger put_field = false
is_trigger invoke_virtual = false
is_trigger invoke_special = false
is_trigger invoke_static = true
is_trigger invoke_interface = false
is_trigger make_object = true
is_trigger make_array = false
is_trigger throw_object = false
is_trigger cast = false
is_trigger leave_method = false
is_trigger refused = false

-- The rows of the opcodes 0 to 201; each shows its opcode at its end.
abbrev pub rows : List Row
rows =
    row (codes "nop") nothing [] [] [] onward plain []  -- 0
    ∷ row (codes "aconst_null") nothing [] (a_null ∷ []) [] onward plain []  -- 1
    ∷ row (codes "iconst_m1") nothing [] (a_primitive ∷ []) [] onward plain []  -- 2
    ∷ row (codes "iconst_0") nothing [] (a_primitive ∷ []) [] onward plain []  -- 3
    ∷ row (codes "iconst_1") nothing [] (a_primitive ∷ []) [] onward plain []  -- 4
    ∷ row (codes "iconst_2") nothing [] (a_primitive ∷ []) [] onward plain []  -- 5
    ∷ row (codes "iconst_3") nothing [] (a_primitive ∷ []) [] onward plain []  -- 6
    ∷ row (codes "iconst_4") nothing [] (a_primitive ∷ []) [] onward plain []  -- 7
    ∷ row (codes "iconst_5") nothing [] (a_primitive ∷ []) [] onward plain []  -- 8
    ∷ row (codes "lconst_0") nothing [] (a_primitive ∷ a_primitive ∷ []) [] onward plain []  -- 9
    ∷ row (codes "lconst_1") nothing [] (a_primitive ∷ a_primitive ∷ []) [] onward plain []  -- 10
    ∷ row (codes "fconst_0") nothing [] (a_primitive ∷ []) [] onward plain []  -- 11
    ∷ row (codes "fconst_1") nothing [] (a_primitive ∷ []) [] onward plain []  -- 12
    ∷ row (codes "fconst_2") nothing [] (a_primitive ∷ []) [] onward plain []  -- 13
    ∷ row (codes "dconst_0") nothing [] (a_primitive ∷ a_primitive ∷ []) [] onward plain []  -- 14
    ∷ row (codes "dconst_1") nothing [] (a_primitive ∷ a_primitive ∷ []) [] onward plain []  -- 15
    ∷ row (codes "bipush") value_1 [] (a_primitive ∷ []) [] onward plain []  -- 16
    ∷ row (codes "sipush") value_2 [] (a_primitive ∷ []) [] onward plain []  -- 17
    ∷ row (codes "ldc") (pool_1 loadable) [] [] [] onward load_constant []  -- 18
    ∷ row (codes "ldc_w") (pool_2 loadable) [] [] [] onward load_constant []  -- 19
    ∷ row (codes "ldc2_w") (pool_2 wide_number) [] (a_primitive ∷ a_primitive ∷ []) [] onward plain []  -- 20
    ∷ row (codes "iload") local_1 [] (a_primitive ∷ []) [] onward plain []  -- 21
    ∷ row (codes "lload") local_1 [] (a_primitive ∷ a_primitive ∷ []) [] onward plain []  -- 22
    ∷ row (codes "fload") local_1 [] (a_primitive ∷ []) [] onward plain []  -- 23
    ∷ row (codes "dload") local_1 [] (a_primitive ∷ a_primitive ∷ []) [] onward plain []  -- 24
    ∷ row (codes "aload") local_1 [] (the_local ∷ []) [] onward plain []  -- 25
    ∷ row (codes "iload_0") (implied 0) [] (a_primitive ∷ []) [] onward plain []  -- 26
    ∷ row (codes "iload_1") (implied 1) [] (a_primitive ∷ []) [] onward plain []  -- 27
    ∷ row (codes "iload_2") (implied 2) [] (a_primitive ∷ []) [] onward plain []  -- 28
    ∷ row (codes "iload_3") (implied 3) [] (a_primitive ∷ []) [] onward plain []  -- 29
    ∷ row (codes "lload_0") (implied 0) [] (a_primitive ∷ a_primitive ∷ []) [] onward plain []  -- 30
    ∷ row (codes "lload_1") (implied 1) [] (a_primitive ∷ a_primitive ∷ []) [] onward plain []  -- 31
    ∷ row (codes "lload_2") (implied 2) [] (a_primitive ∷ a_primitive ∷ []) [] onward plain []  -- 32
    ∷ row (codes "lload_3") (implied 3) [] (a_primitive ∷ a_primitive ∷ []) [] onward plain []  -- 33
    ∷ row (codes "fload_0") (implied 0) [] (a_primitive ∷ []) [] onward plain []  -- 34
    ∷ row (codes "fload_1") (implied 1) [] (a_primitive ∷ []) [] onward plain []  -- 35
    ∷ row (codes "fload_2") (implied 2) [] (a_primitive ∷ []) [] onward plain []  -- 36
    ∷ row (codes "fload_3") (implied 3) [] (a_primitive ∷ []) [] onward plain []  -- 37
    ∷ row (codes "dload_0") (implied 0) [] (a_primitive ∷ a_primitive ∷ []) [] onward plain []  -- 38
    ∷ row (codes "dload_1") (implied 1) [] (a_primitive ∷ a_primitive ∷ []) [] onward plain []  -- 39
    ∷ row (codes "dload_2") (implied 2) [] (a_primitive ∷ a_primitive ∷ []) [] onward plain []  -- 40
    ∷ row (codes "dload_3") (implied 3) [] (a_primitive ∷ a_primitive ∷ []) [] onward plain []  -- 41
    ∷ row (codes "aload_0") (implied 0) [] (the_local ∷ []) [] onward plain []  -- 42
    ∷ row (codes "aload_1") (implied 1) [] (the_local ∷ []) [] onward plain []  -- 43
    ∷ row (codes "aload_2") (implied 2) [] (the_local ∷ []) [] onward plain []  -- 44
    ∷ row (codes "aload_3") (implied 3) [] (the_local ∷ []) [] onward plain []  -- 45
    ∷ row (codes "iaload") nothing (reference ∷ primitive ∷ []) (a_primitive ∷ []) [] onward probe_element (null_pointer ∷ array_index ∷ [])  -- 46
    ∷ row (codes "laload") nothing (reference ∷ primitive ∷ []) (a_primitive ∷ a_primitive ∷ []) [] onward probe_element (null_pointer ∷ array_index ∷ [])  -- 47
    ∷ row (codes "faload") nothing (reference ∷ primitive ∷ []) (a_primitive ∷ []) [] onward probe_element (null_pointer ∷ array_index ∷ [])  -- 48
    ∷ row (codes "daload") nothing (reference ∷ primitive ∷ []) (a_primitive ∷ a_primitive ∷ []) [] onward probe_element (null_pointer ∷ array_index ∷ [])  -- 49
    ∷ row (codes "aaload") nothing (reference ∷ primitive ∷ []) (the_made ∷ []) [] onward load_element (null_pointer ∷ array_index ∷ [])  -- 50
    ∷ row (codes "baload") nothing (reference ∷ primitive ∷ []) (a_primitive ∷ []) [] onward probe_element (null_pointer ∷ array_index ∷ [])  -- 51
    ∷ row (codes "caload") nothing (reference ∷ primitive ∷ []) (a_primitive ∷ []) [] onward probe_element (null_pointer ∷ array_index ∷ [])  -- 52
    ∷ row (codes "saload") nothing (reference ∷ primitive ∷ []) (a_primitive ∷ []) [] onward probe_element (null_pointer ∷ array_index ∷ [])  -- 53
    ∷ row (codes "istore") local_1 (primitive ∷ []) [] (a_primitive ∷ []) onward plain []  -- 54
    ∷ row (codes "lstore") local_1 (primitive ∷ primitive ∷ []) [] (a_primitive ∷ a_primitive ∷ []) onward plain []  -- 55
    ∷ row (codes "fstore") local_1 (primitive ∷ []) [] (a_primitive ∷ []) onward plain []  -- 56
    ∷ row (codes "dstore") local_1 (primitive ∷ primitive ∷ []) [] (a_primitive ∷ a_primitive ∷ []) onward plain []  -- 57
    ∷ row (codes "astore") local_1 (any_kind ∷ []) [] (popped 0 ∷ []) onward plain []  -- 58
    ∷ row (codes "istore_0") (implied 0) (primitive ∷ []) [] (a_primitive ∷ []) onward plain []  -- 59
    ∷ row (codes "istore_1") (implied 1) (primitive ∷ []) [] (a_primitive ∷ []) onward plain []  -- 60
    ∷ row (codes "istore_2") (implied 2) (primitive ∷ []) [] (a_primitive ∷ []) onward plain []  -- 61
    ∷ row (codes "istore_3") (implied 3) (primitive ∷ []) [] (a_primitive ∷ []) onward plain []  -- 62
    ∷ row (codes "lstore_0") (implied 0) (primitive ∷ primitive ∷ []) [] (a_primitive ∷ a_primitive ∷ []) onward plain []  -- 63
    ∷ row (codes "lstore_1") (implied 1) (primitive ∷ primitive ∷ []) [] (a_primitive ∷ a_primitive ∷ []) onward plain []  -- 64
    ∷ row (codes "lstore_2") (implied 2) (primitive ∷ primitive ∷ []) [] (a_primitive ∷ a_primitive ∷ []) onward plain []  -- 65
    ∷ row (codes "lstore_3") (implied 3) (primitive ∷ primitive ∷ []) [] (a_primitive ∷ a_primitive ∷ []) onward plain []  -- 66
    ∷ row (codes "fstore_0") (implied 0) (primitive ∷ []) [] (a_primitive ∷ []) onward plain []  -- 67
    ∷ row (codes "fstore_1") (implied 1) (primitive ∷ []) [] (a_primitive ∷ []) onward plain []  -- 68
    ∷ row (codes "fstore_2") (implied 2) (primitive ∷ []) [] (a_primitive ∷ []) onward plain []  -- 69
    ∷ row (codes "fstore_3") (implied 3) (primitive ∷ []) [] (a_primitive ∷ []) onward plain []  -- 70
    ∷ row (codes "dstore_0") (implied 0) (primitive ∷ primitive ∷ []) [] (a_primitive ∷ a_primitive ∷ []) onward plain []  -- 71
    ∷ row (codes "dstore_1") (implied 1) (primitive ∷ primitive ∷ []) [] (a_primitive ∷ a_primitive ∷ []) onward plain []  -- 72
    ∷ row (codes "dstore_2") (implied 2) (primitive ∷ primitive ∷ []) [] (a_primitive ∷ a_primitive ∷ []) onward plain []  -- 73
    ∷ row (codes "dstore_3") (implied 3) (primitive ∷ primitive ∷ []) [] (a_primitive ∷ a_primitive ∷ []) onward plain []  -- 74
    ∷ row (codes "astore_0") (implied 0) (any_kind ∷ []) [] (popped 0 ∷ []) onward plain []  -- 75
    ∷ row (codes "astore_1") (implied 1) (any_kind ∷ []) [] (popped 0 ∷ []) onward plain []  -- 76
    ∷ row (codes "astore_2") (implied 2) (any_kind ∷ []) [] (popped 0 ∷ []) onward plain []  -- 77
    ∷ row (codes "astore_3") (implied 3) (any_kind ∷ []) [] (popped 0 ∷ []) onward plain []  -- 78
    ∷ row (codes "iastore") nothing (reference ∷ primitive ∷ primitive ∷ []) [] [] onward probe_element (null_pointer ∷ array_index ∷ [])  -- 79
    ∷ row (codes "lastore") nothing (reference ∷ primitive ∷ primitive ∷ primitive ∷ []) [] [] onward probe_element (null_pointer ∷ array_index ∷ [])  -- 80
    ∷ row (codes "fastore") nothing (reference ∷ primitive ∷ primitive ∷ []) [] [] onward probe_element (null_pointer ∷ array_index ∷ [])  -- 81
    ∷ row (codes "dastore") nothing (reference ∷ primitive ∷ primitive ∷ primitive ∷ []) [] [] onward probe_element (null_pointer ∷ array_index ∷ [])  -- 82
    ∷ row (codes "aastore") nothing (reference ∷ primitive ∷ reference ∷ []) [] [] onward store_element (null_pointer ∷ array_index ∷ array_store ∷ [])  -- 83
    ∷ row (codes "bastore") nothing (reference ∷ primitive ∷ primitive ∷ []) [] [] onward probe_element (null_pointer ∷ array_index ∷ [])  -- 84
    ∷ row (codes "castore") nothing (reference ∷ primitive ∷ primitive ∷ []) [] [] onward probe_element (null_pointer ∷ array_index ∷ [])  -- 85
    ∷ row (codes "sastore") nothing (reference ∷ primitive ∷ primitive ∷ []) [] [] onward probe_element (null_pointer ∷ array_index ∷ [])  -- 86
    ∷ row (codes "pop") nothing (any_kind ∷ []) [] [] onward plain []  -- 87
    ∷ row (codes "pop2") nothing (any_kind ∷ any_kind ∷ []) [] [] onward plain []  -- 88
    ∷ row (codes "dup") nothing (any_kind ∷ []) (popped 0 ∷ popped 0 ∷ []) [] onward plain []  -- 89
    ∷ row (codes "dup_x1") nothing (any_kind ∷ any_kind ∷ []) (popped 1 ∷ popped 0 ∷ popped 1 ∷ []) [] onward plain []  -- 90
    ∷ row (codes "dup_x2") nothing (any_kind ∷ any_kind ∷ any_kind ∷ []) (popped 2 ∷ popped 0 ∷ popped 1 ∷ popped 2 ∷ []) [] onward plain []  -- 91
    ∷ row (codes "dup2") nothing (any_kind ∷ any_kind ∷ []) (popped 0 ∷ popped 1 ∷ popped 0 ∷ popped 1 ∷ []) [] onward plain []  -- 92
    ∷ row (codes "dup2_x1") nothing (any_kind ∷ any_kind ∷ any_kind ∷ []) (popped 1 ∷ popped 2 ∷ popped 0 ∷ popped 1 ∷ popped 2 ∷ []) [] onward plain []  -- 93
    ∷ row (codes "dup2_x2") nothing (any_kind ∷ any_kind ∷ any_kind ∷ any_kind ∷ []) (popped 2 ∷ popped 3 ∷ popped 0 ∷ popped 1 ∷ popped 2 ∷ popped 3 ∷ []) [] onward plain []  -- 94
    ∷ row (codes "swap") nothing (any_kind ∷ any_kind ∷ []) (popped 1 ∷ popped 0 ∷ []) [] onward plain []  -- 95
    ∷ row (codes "iadd") nothing (primitive ∷ primitive ∷ []) (a_primitive ∷ []) [] onward plain []  -- 96
    ∷ row (codes "ladd") nothing (primitive ∷ primitive ∷ primitive ∷ primitive ∷ []) (a_primitive ∷ a_primitive ∷ []) [] onward plain []  -- 97
    ∷ row (codes "fadd") nothing (primitive ∷ primitive ∷ []) (a_primitive ∷ []) [] onward plain []  -- 98
    ∷ row (codes "dadd") nothing (primitive ∷ primitive ∷ primitive ∷ primitive ∷ []) (a_primitive ∷ a_primitive ∷ []) [] onward plain []  -- 99
    ∷ row (codes "isub") nothing (primitive ∷ primitive ∷ []) (a_primitive ∷ []) [] onward plain []  -- 100
    ∷ row (codes "lsub") nothing (primitive ∷ primitive ∷ primitive ∷ primitive ∷ []) (a_primitive ∷ a_primitive ∷ []) [] onward plain []  -- 101
    ∷ row (codes "fsub") nothing (primitive ∷ primitive ∷ []) (a_primitive ∷ []) [] onward plain []  -- 102
    ∷ row (codes "dsub") nothing (primitive ∷ primitive ∷ primitive ∷ primitive ∷ []) (a_primitive ∷ a_primitive ∷ []) [] onward plain []  -- 103
    ∷ row (codes "imul") nothing (primitive ∷ primitive ∷ []) (a_primitive ∷ []) [] onward plain []  -- 104
    ∷ row (codes "lmul") nothing (primitive ∷ primitive ∷ primitive ∷ primitive ∷ []) (a_primitive ∷ a_primitive ∷ []) [] onward plain []  -- 105
    ∷ row (codes "fmul") nothing (primitive ∷ primitive ∷ []) (a_primitive ∷ []) [] onward plain []  -- 106
    ∷ row (codes "dmul") nothing (primitive ∷ primitive ∷ primitive ∷ primitive ∷ []) (a_primitive ∷ a_primitive ∷ []) [] onward plain []  -- 107
    ∷ row (codes "idiv") nothing (primitive ∷ primitive ∷ []) (a_primitive ∷ []) [] onward plain (arithmetic ∷ [])  -- 108
    ∷ row (codes "ldiv") nothing (primitive ∷ primitive ∷ primitive ∷ primitive ∷ []) (a_primitive ∷ a_primitive ∷ []) [] onward plain (arithmetic ∷ [])  -- 109
    ∷ row (codes "fdiv") nothing (primitive ∷ primitive ∷ []) (a_primitive ∷ []) [] onward plain []  -- 110
    ∷ row (codes "ddiv") nothing (primitive ∷ primitive ∷ primitive ∷ primitive ∷ []) (a_primitive ∷ a_primitive ∷ []) [] onward plain []  -- 111
    ∷ row (codes "irem") nothing (primitive ∷ primitive ∷ []) (a_primitive ∷ []) [] onward plain (arithmetic ∷ [])  -- 112
    ∷ row (codes "lrem") nothing (primitive ∷ primitive ∷ primitive ∷ primitive ∷ []) (a_primitive ∷ a_primitive ∷ []) [] onward plain (arithmetic ∷ [])  -- 113
    ∷ row (codes "frem") nothing (primitive ∷ primitive ∷ []) (a_primitive ∷ []) [] onward plain []  -- 114
    ∷ row (codes "drem") nothing (primitive ∷ primitive ∷ primitive ∷ primitive ∷ []) (a_primitive ∷ a_primitive ∷ []) [] onward plain []  -- 115
    ∷ row (codes "ineg") nothing (primitive ∷ []) (a_primitive ∷ []) [] onward plain []  -- 116
    ∷ row (codes "lneg") nothing (primitive ∷ primitive ∷ []) (a_primitive ∷ a_primitive ∷ []) [] onward plain []  -- 117
    ∷ row (codes "fneg") nothing (primitive ∷ []) (a_primitive ∷ []) [] onward plain []  -- 118
    ∷ row (codes "dneg") nothing (primitive ∷ primitive ∷ []) (a_primitive ∷ a_primitive ∷ []) [] onward plain []  -- 119
    ∷ row (codes "ishl") nothing (primitive ∷ primitive ∷ []) (a_primitive ∷ []) [] onward plain []  -- 120
    ∷ row (codes "lshl") nothing (primitive ∷ primitive ∷ primitive ∷ []) (a_primitive ∷ a_primitive ∷ []) [] onward plain []  -- 121
    ∷ row (codes "ishr") nothing (primitive ∷ primitive ∷ []) (a_primitive ∷ []) [] onward plain []  -- 122
    ∷ row (codes "lshr") nothing (primitive ∷ primitive ∷ primitive ∷ []) (a_primitive ∷ a_primitive ∷ []) [] onward plain []  -- 123
    ∷ row (codes "iushr") nothing (primitive ∷ primitive ∷ []) (a_primitive ∷ []) [] onward plain []  -- 124
    ∷ row (codes "lushr") nothing (primitive ∷ primitive ∷ primitive ∷ []) (a_primitive ∷ a_primitive ∷ []) [] onward plain []  -- 125
    ∷ row (codes "iand") nothing (primitive ∷ primitive ∷ []) (a_primitive ∷ []) [] onward plain []  -- 126
    ∷ row (codes "land") nothing (primitive ∷ primitive ∷ primitive ∷ primitive ∷ []) (a_primitive ∷ a_primitive ∷ []) [] onward plain []  -- 127
    ∷ row (codes "ior") nothing (primitive ∷ primitive ∷ []) (a_primitive ∷ []) [] onward plain []  -- 128
    ∷ row (codes "lor") nothing (primitive ∷ primitive ∷ primitive ∷ primitive ∷ []) (a_primitive ∷ a_primitive ∷ []) [] onward plain []  -- 129
    ∷ row (codes "ixor") nothing (primitive ∷ primitive ∷ []) (a_primitive ∷ []) [] onward plain []  -- 130
    ∷ row (codes "lxor") nothing (primitive ∷ primitive ∷ primitive ∷ primitive ∷ []) (a_primitive ∷ a_primitive ∷ []) [] onward plain []  -- 131
    ∷ row (codes "iinc") local_and_value [] [] (a_primitive ∷ []) onward plain []  -- 132
    ∷ row (codes "i2l") nothing (primitive ∷ []) (a_primitive ∷ a_primitive ∷ []) [] onward plain []  -- 133
    ∷ row (codes "i2f") nothing (primitive ∷ []) (a_primitive ∷ []) [] onward plain []  -- 134
    ∷ row (codes "i2d") nothing (primitive ∷ []) (a_primitive ∷ a_primitive ∷ []) [] onward plain []  -- 135
    ∷ row (codes "l2i") nothing (primitive ∷ primitive ∷ []) (a_primitive ∷ []) [] onward plain []  -- 136
    ∷ row (codes "l2f") nothing (primitive ∷ primitive ∷ []) (a_primitive ∷ []) [] onward plain []  -- 137
    ∷ row (codes "l2d") nothing (primitive ∷ primitive ∷ []) (a_primitive ∷ a_primitive ∷ []) [] onward plain []  -- 138
    ∷ row (codes "f2i") nothing (primitive ∷ []) (a_primitive ∷ []) [] onward plain []  -- 139
    ∷ row (codes "f2l") nothing (primitive ∷ []) (a_primitive ∷ a_primitive ∷ []) [] onward plain []  -- 140
    ∷ row (codes "f2d") nothing (primitive ∷ []) (a_primitive ∷ a_primitive ∷ []) [] onward plain []  -- 141
    ∷ row (codes "d2i") nothing (primitive ∷ primitive ∷ []) (a_primitive ∷ []) [] onward plain []  -- 142
    ∷ row (codes "d2l") nothing (primitive ∷ primitive ∷ []) (a_primitive ∷ a_primitive ∷ []) [] onward plain []  -- 143
    ∷ row (codes "d2f") nothing (primitive ∷ primitive ∷ []) (a_primitive ∷ []) [] onward plain []  -- 144
    ∷ row (codes "i2b") nothing (primitive ∷ []) (a_primitive ∷ []) [] onward plain []  -- 145
    ∷ row (codes "i2c") nothing (primitive ∷ []) (a_primitive ∷ []) [] onward plain []  -- 146
    ∷ row (codes "i2s") nothing (primitive ∷ []) (a_primitive ∷ []) [] onward plain []  -- 147
    ∷ row (codes "lcmp") nothing (primitive ∷ primitive ∷ primitive ∷ primitive ∷ []) (a_primitive ∷ []) [] onward plain []  -- 148
    ∷ row (codes "fcmpl") nothing (primitive ∷ primitive ∷ []) (a_primitive ∷ []) [] onward plain []  -- 149
    ∷ row (codes "fcmpg") nothing (primitive ∷ primitive ∷ []) (a_primitive ∷ []) [] onward plain []  -- 150
    ∷ row (codes "dcmpl") nothing (primitive ∷ primitive ∷ primitive ∷ primitive ∷ []) (a_primitive ∷ []) [] onward plain []  -- 151
    ∷ row (codes "dcmpg") nothing (primitive ∷ primitive ∷ primitive ∷ primitive ∷ []) (a_primitive ∷ []) [] onward plain []  -- 152
    ∷ row (codes "ifeq") offset_2 (primitive ∷ []) [] [] branch plain []  -- 153
    ∷ row (codes "ifne") offset_2 (primitive ∷ []) [] [] branch plain []  -- 154
    ∷ row (codes "iflt") offset_2 (primitive ∷ []) [] [] branch plain []  -- 155
    ∷ row (codes "ifge") offset_2 (primitive ∷ []) [] [] branch plain []  -- 156
    ∷ row (codes "ifgt") offset_2 (primitive ∷ []) [] [] branch plain []  -- 157
    ∷ row (codes "ifle") offset_2 (primitive ∷ []) [] [] branch plain []  -- 158
    ∷ row (codes "if_icmpeq") offset_2 (primitive ∷ primitive ∷ []) [] [] branch plain []  -- 159
    ∷ row (codes "if_icmpne") offset_2 (primitive ∷ primitive ∷ []) [] [] branch plain []  -- 160
    ∷ row (codes "if_icmplt") offset_2 (primitive ∷ primitive ∷ []) [] [] branch plain []  -- 161
    ∷ row (codes "if_icmpge") offset_2 (primitive ∷ primitive ∷ []) [] [] branch plain []  -- 162
    ∷ row (codes "if_icmpgt") offset_2 (primitive ∷ primitive ∷ []) [] [] branch plain []  -- 163
    ∷ row (codes "if_icmple") offset_2 (primitive ∷ primitive ∷ []) [] [] branch plain []  -- 164
    ∷ row (codes "if_acmpeq") offset_2 (reference ∷ reference ∷ []) [] [] branch_if_same plain []  -- 165
    ∷ row (codes "if_acmpne") offset_2 (reference ∷ reference ∷ []) [] [] branch_if_other plain []  -- 166
    ∷ row (codes "goto") offset_2 [] [] [] jump plain []  -- 167
    ∷ row (codes "jsr") offset_2 [] (a_primitive ∷ []) [] subroutine refused []  -- 168
    ∷ row (codes "ret") local_1 [] [] [] subroutine refused []  -- 169
    ∷ row (codes "tableswitch") table_of_offsets (primitive ∷ []) [] [] jump plain []  -- 170
    ∷ row (codes "lookupswitch") pairs_with_offsets (primitive ∷ []) [] [] jump plain []  -- 171
    ∷ row (codes "ireturn") nothing (primitive ∷ []) [] [] leave leave_method []  -- 172
    ∷ row (codes "lreturn") nothing (primitive ∷ primitive ∷ []) [] [] leave leave_method []  -- 173
    ∷ row (codes "freturn") nothing (primitive ∷ []) [] [] leave leave_method []  -- 174
    ∷ row (codes "dreturn") nothing (primitive ∷ primitive ∷ []) [] [] leave leave_method []  -- 175
    ∷ row (codes "areturn") nothing (reference ∷ []) [] [] leave leave_method []  -- 176
    ∷ row (codes "return") nothing [] [] [] leave leave_method []  -- 177
    ∷ row (codes "getstatic") (pool_2 a_field) [] [] [] onward get_static []  -- 178
    ∷ row (codes "putstatic") (pool_2 a_field) [] [] [] onward put_static []  -- 179
    ∷ row (codes "getfield") (pool_2 a_field) [] [] [] onward get_field (null_pointer ∷ [])  -- 180
    ∷ row (codes "putfield") (pool_2 a_field) [] [] [] onward put_field (null_pointer ∷ [])  -- 181
    ∷ row (codes "invokevirtual") (pool_2 class_method) [] [] [] onward invoke_virtual (null_pointer ∷ [])  -- 182
    ∷ row (codes "invokespecial") (pool_2 any_method) [] [] [] onward invoke_special (null_pointer ∷ [])  -- 183
    ∷ row (codes "invokestatic") (pool_2 any_method) [] [] [] onward invoke_static []  -- 184
    ∷ row (codes "invokeinterface") pool_2_and_count [] [] [] onward invoke_interface (null_pointer ∷ [])  -- 185
    ∷ row (codes "invokedynamic") pool_2_and_zeros [] [] [] onward refused []  -- 186
    ∷ row (codes "new") (pool_2 no_array) [] (the_made ∷ []) [] onward make_object []  -- 187
    ∷ row (codes "newarray") type_code (primitive ∷ []) (the_made ∷ []) [] onward make_array (negative_size ∷ [])  -- 188
    ∷ row (codes "anewarray") (pool_2 any_class) (primitive ∷ []) (the_made ∷ []) [] onward make_array (negative_size ∷ [])  -- 189
    ∷ row (codes "arraylength") nothing (reference ∷ []) (a_primitive ∷ []) [] onward probe_array (null_pointer ∷ [])  -- 190
    ∷ row (codes "athrow") nothing (reference ∷ []) [] [] leave throw_object (null_pointer ∷ [])  -- 191
    ∷ row (codes "checkcast") (pool_2 any_class) (reference ∷ []) (popped 0 ∷ []) [] onward cast (class_cast ∷ [])  -- 192
    ∷ row (codes "instanceof") (pool_2 any_class) (reference ∷ []) (a_primitive ∷ []) [] onward plain []  -- 193
    ∷ row (codes "monitorenter") nothing (reference ∷ []) [] [] onward probe_object (null_pointer ∷ [])  -- 194
    ∷ row (codes "monitorexit") nothing (reference ∷ []) [] [] onward probe_object (null_pointer ∷ [])  -- 195
    ∷ row (codes "wide") widened [] [] [] onward refused []  -- 196
    ∷ row (codes "multianewarray") pool_2_and_dimensions [] (the_made ∷ []) [] onward make_array (negative_size ∷ [])  -- 197
    ∷ row (codes "ifnull") offset_2 (reference ∷ []) [] [] branch_if_null plain []  -- 198
    ∷ row (codes "ifnonnull") offset_2 (reference ∷ []) [] [] branch_if_object plain []  -- 199
    ∷ row (codes "goto_w") offset_4 [] [] [] jump plain []  -- 200
    ∷ row (codes "jsr_w") offset_4 [] (a_primitive ∷ []) [] subroutine refused []  -- 201
    ∷ []

-- The row of an opcode.
abbrev pub row_of : ℕ → Option Row
row_of opcode = slice_get rows opcode
