-- An instruction that is read has the row of its opcode, which is not that of the prefix wide.
use Rattle.std.proofs.Common.{◌≡◌, ℕ, false, List, Some, Ok, refl}
use Rattle.jvm_model.specs.declared.pool.PoolEntry.{PoolEntry}
use Rattle.jvm_model.specs.Instructions.{DecodedInstruction}
use Rattle.jvm_model.specs.Table.{row_of, Operands, nothing, implied, value_1, value_2, type_code, local_1, pool_1, pool_2, offset_2, offset_4, local_and_value, pool_2_and_count, pool_2_and_zeros, pool_2_and_dimensions, table_of_offsets, pairs_with_offsets, widened}
use Rattle.code_reader.proofs.KnownInstructions.{HasSize, known_at, read_in}
use Rattle.code_reader.specs.Division.{instruction_in}
use Rattle.flow_graph.specs.Reading.{is_widened}

pub record IsNarrow (i : DecodedInstruction) : Type 0 where
  pub row : row_of i.opcode ≡ Some i.row
  pub narrow : is_widened i.row.operands ≡ false

narrow_of : (o : Operands) (size : ℕ) → HasSize o size → is_widened o ≡ false
narrow_of nothing size is = refl
narrow_of (implied local) size is = refl
narrow_of value_1 size is = refl
narrow_of value_2 size is = refl
narrow_of type_code size is = refl
narrow_of local_1 size is = refl
narrow_of (pool_1 leads) size is = refl
narrow_of (pool_2 leads) size is = refl
narrow_of offset_2 size is = refl
narrow_of offset_4 size is = refl
narrow_of local_and_value size is = refl
narrow_of pool_2_and_count size is = refl
narrow_of pool_2_and_zeros size is = refl
narrow_of pool_2_and_dimensions size is = refl
narrow_of table_of_offsets size is = refl
narrow_of pairs_with_offsets size is = refl
narrow_of widened size is = absurd is

pub known_in : (pool : List PoolEntry) (code : List ℕ) (offset : ℕ) (i : DecodedInstruction) → instruction_in pool code offset ≡ Ok i → IsNarrow i
known_in pool code offset i e =
    let k = known_at code offset i (read_in pool code offset i e) in
    record { row = k.row; narrow = narrow_of i.row.operands i.size k.size }
