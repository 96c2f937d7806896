-- An instruction that is read takes its opcode, and no more bytes than there are.
use Rattle.std.proofs.Common.{◌≡◌, ℕ, suc, ◌+◌, ◌*◌, ◌-◌, ◌<◌, ◌≤◌, Bool, cond, ltb, List, [], ◌∷◌, length, drop, Option, Some, None, Result, Ok, Err, refl, subst, arith}
use Rattle.std.proofs.lemmas.Bool.{ltb-false}
use Rattle.std.proofs.lemmas.List.{length-drop}
use Rattle.jvm_model.specs.declared.pool.PoolEntry.{PoolEntry}
use Rattle.jvm_model.specs.declared.reason.Reason.{Reason}
use Rattle.jvm_model.specs.declared.reason.Reason.TheVariants.{BadOpcode, CodeCut}
use Rattle.jvm_model.specs.Instructions.{DecodedInstruction, word, above_least, padding, switch, table_switch, pairs_switch, needs, needs_right, widened_by, widened_row, widened_first, with_operands, with_row, first_instruction, instruction_at}
use Rattle.jvm_model.specs.InstructionUses.{within_dimensions}
use Rattle.jvm_model.specs.Table.{Row, row_of, Operands, nothing, implied, value_1, value_2, type_code, local_1, pool_1, pool_2, offset_2, offset_4, local_and_value, pool_2_and_count, pool_2_and_zeros, pool_2_and_dimensions, table_of_offsets, pairs_with_offsets, widened}
use Rattle.byte_reader.proofs.Fields.{ok_is, if_ok, unless_ok}
use Rattle.code_reader.specs.Division.{within, instruction_in}

-- the instruction takes its opcode, and no more bytes than there are after it
pub record Fits (bytes : ℕ) (i : DecodedInstruction) : Type 0 where
  pub opcode : 1 ≤ i.size
  pub operands : i.size ≤ 1 + bytes

abbrev read_as : DecodedInstruction → Result DecodedInstruction Reason
read_as i = Ok i

of_size : (bytes size : ℕ) (j i : DecodedInstruction) → read_as j ≡ Ok i → j.size ≡ size → 1 ≤ size → size ≤ 1 + bytes → Fits bytes i
of_size bytes size j i e is least most = subst (Fits bytes) (ok_is j i e) (record { opcode = omega (arith, is, least); operands = omega (arith, is, most) })

by_needs : (count size : ℕ) (bytes : List ℕ) (j i : DecodedInstruction) → needs count bytes j ≡ Ok i → j.size ≡ size → 1 ≤ size → size ≤ count + 1 → Fits (length bytes) i
by_needs count size bytes j i e is least most =
    let p = unless_ok (ltb (length bytes) count) CodeCut (read_as j) i e in
    of_size (length bytes) size j i p.1 is least (omega (arith, ltb-false (length bytes) count p.0, most))

by_needs_right : (count size : ℕ) (bytes : List ℕ) (wrong : Bool) (j i : DecodedInstruction) → needs_right count bytes wrong j ≡ Ok i → j.size ≡ size → 1 ≤ size → size ≤ count + 1 → Fits (length bytes) i
by_needs_right count size bytes wrong j i e is least most =
    let p = unless_ok (ltb (length bytes) count) CodeCut (cond wrong (Err BadOpcode) (read_as j)) i e in
    let q = unless_ok wrong BadOpcode (read_as j) i p.1 in
    of_size (length bytes) size j i q.1 is least (omega (arith, ltb-false (length bytes) count p.0, most))

by_switch : (opcode : ℕ) (r : Row) (offset long entry count : ℕ) (bytes : List ℕ) (i : DecodedInstruction) → 1 ≤ long
    → switch opcode r offset long entry count (drop (padding offset) bytes) ≡ Ok i → Fits (length bytes) i
by_switch opcode r offset long entry count bytes i least e =
    let p = unless_ok (ltb (length (drop (padding offset) bytes)) long) CodeCut _ i e in
    let there = ltb-false (length (drop (padding offset) bytes)) long p.0 in
    let left = length-drop (padding offset) bytes in
    of_size (length bytes) (1 + padding offset + long) _ i p.1 refl (omega arith) (omega (arith, there, left, least))

by_table : (opcode : ℕ) (r : Row) (offset : ℕ) (bytes : List ℕ) (i : DecodedInstruction) → table_switch opcode r offset (drop (padding offset) bytes) ≡ Ok i → Fits (length bytes) i
by_table opcode r offset bytes i e =
    let rest = drop (padding offset) bytes in
    let low = above_least (word (drop 4 rest)) in
    let high = above_least (word (drop 8 rest)) in
    let p = unless_ok (ltb (length rest) 12) CodeCut _ i e in
    let q = unless_ok (ltb high low) BadOpcode _ i p.1 in
    by_switch opcode r offset (12 + 4 * (high - low + 1)) 4 (high - low + 1) bytes i (omega arith) q.1

by_pairs : (opcode : ℕ) (r : Row) (offset : ℕ) (bytes : List ℕ) (i : DecodedInstruction) → pairs_switch opcode r offset (drop (padding offset) bytes) ≡ Ok i → Fits (length bytes) i
by_pairs opcode r offset bytes i e =
    let rest = drop (padding offset) bytes in
    let count = word (drop 4 rest) in
    let p = unless_ok (ltb (length rest) 8) CodeCut _ i e in
    by_switch opcode r offset (8 + 8 * count) 8 count bytes i (omega arith) (if_ok (ltb count 0x80000000) BadOpcode _ i p.1).1

wider : (bytes : ℕ) (i : DecodedInstruction) (j : DecodedInstruction) → i ≡ j → 1 ≤ i.size → i.size ≤ 2 + bytes → Fits (suc bytes) j
wider bytes i j e least most = subst (Fits (suc bytes)) e (record { opcode = least; operands = omega (arith, most) })

by_widened : (opcode : ℕ) (r : Row) (o : Operands) (bytes : List ℕ) (i : DecodedInstruction) → widened_by opcode r o bytes ≡ Ok i → Fits (suc (length bytes)) i
by_widened opcode r local_1 bytes i e =
    let p = unless_ok (ltb (length bytes) 2) CodeCut _ i e in
    wider (length bytes) _ i (ok_is _ i p.1) (omega arith) (omega (arith, ltb-false (length bytes) 2 p.0))
by_widened opcode r local_and_value bytes i e =
    let p = unless_ok (ltb (length bytes) 4) CodeCut _ i e in
    wider (length bytes) _ i (ok_is _ i p.1) (omega arith) (omega (arith, ltb-false (length bytes) 4 p.0))
by_widened opcode r nothing bytes i e = absurd cc
by_widened opcode r (implied local) bytes i e = absurd cc
by_widened opcode r value_1 bytes i e = absurd cc
by_widened opcode r value_2 bytes i e = absurd cc
by_widened opcode r type_code bytes i e = absurd cc
by_widened opcode r (pool_1 leads) bytes i e = absurd cc
by_widened opcode r (pool_2 leads) bytes i e = absurd cc
by_widened opcode r offset_2 bytes i e = absurd cc
by_widened opcode r offset_4 bytes i e = absurd cc
by_widened opcode r pool_2_and_count bytes i e = absurd cc
by_widened opcode r pool_2_and_zeros bytes i e = absurd cc
by_widened opcode r pool_2_and_dimensions bytes i e = absurd cc
by_widened opcode r table_of_offsets bytes i e = absurd cc
by_widened opcode r pairs_with_offsets bytes i e = absurd cc
by_widened opcode r widened bytes i e = absurd cc

by_widened_row : (opcode : ℕ) (r : Option Row) (bytes : List ℕ) (i : DecodedInstruction) → widened_row opcode r bytes ≡ Ok i → Fits (suc (length bytes)) i
by_widened_row opcode (Some r) bytes i e = by_widened opcode r r.operands bytes i e
by_widened_row opcode None bytes i e = absurd cc

by_widened_first : (bytes : List ℕ) (i : DecodedInstruction) → widened_first bytes ≡ Ok i → Fits (length bytes) i
by_widened_first [] i e = absurd cc
by_widened_first (opcode ∷ bytes) i e = by_widened_row opcode (row_of opcode) bytes i e

by_operands : (opcode : ℕ) (r : Row) (offset : ℕ) (o : Operands) (bytes : List ℕ) (i : DecodedInstruction) → with_operands opcode r offset o bytes ≡ Ok i → Fits (length bytes) i
by_operands opcode r offset nothing bytes i e = of_size (length bytes) 1 _ i e refl (omega arith) (omega arith)
by_operands opcode r offset (implied local) bytes i e = of_size (length bytes) 1 _ i e refl (omega arith) (omega arith)
by_operands opcode r offset value_1 bytes i e = by_needs 1 2 bytes _ i e refl (omega arith) (omega arith)
by_operands opcode r offset value_2 bytes i e = by_needs 2 3 bytes _ i e refl (omega arith) (omega arith)
by_operands opcode r offset type_code bytes i e = by_needs_right 1 2 bytes _ _ i e refl (omega arith) (omega arith)
by_operands opcode r offset local_1 bytes i e = by_needs 1 2 bytes _ i e refl (omega arith) (omega arith)
by_operands opcode r offset (pool_1 leads) bytes i e = by_needs 1 2 bytes _ i e refl (omega arith) (omega arith)
by_operands opcode r offset (pool_2 leads) bytes i e = by_needs 2 3 bytes _ i e refl (omega arith) (omega arith)
by_operands opcode r offset offset_2 bytes i e = by_needs 2 3 bytes _ i e refl (omega arith) (omega arith)
by_operands opcode r offset offset_4 bytes i e = by_needs 4 5 bytes _ i e refl (omega arith) (omega arith)
by_operands opcode r offset local_and_value bytes i e = by_needs 2 3 bytes _ i e refl (omega arith) (omega arith)
by_operands opcode r offset pool_2_and_count bytes i e = by_needs 4 5 bytes _ i e refl (omega arith) (omega arith)
by_operands opcode r offset pool_2_and_zeros bytes i e = by_needs 4 5 bytes _ i e refl (omega arith) (omega arith)
by_operands opcode r offset pool_2_and_dimensions bytes i e = by_needs_right 3 4 bytes _ _ i e refl (omega arith) (omega arith)
by_operands opcode r offset table_of_offsets bytes i e = by_table opcode r offset bytes i e
by_operands opcode r offset pairs_with_offsets bytes i e = by_pairs opcode r offset bytes i e
by_operands opcode r offset widened bytes i e = by_widened_first bytes i e

by_row : (opcode : ℕ) (r : Option Row) (offset : ℕ) (bytes : List ℕ) (i : DecodedInstruction) → with_row opcode r offset bytes ≡ Ok i → Fits (length bytes) i
by_row opcode (Some r) offset bytes i e = by_operands opcode r offset r.operands bytes i e
by_row opcode None offset bytes i e = absurd cc

by_first : (offset : ℕ) (bytes : List ℕ) (i : DecodedInstruction) → first_instruction offset bytes ≡ Ok i → (1 ≤ i.size) × (i.size ≤ length bytes)
by_first offset [] i e = absurd cc
by_first offset (opcode ∷ bytes) i e =
    let f = by_row opcode (row_of opcode) offset bytes i e in
    (f.opcode, omega (arith, f.operands))

within_is : (pool : List PoolEntry) (r : Result DecodedInstruction Reason) (i : DecodedInstruction) → within pool r ≡ Ok i → r ≡ Ok i
within_is pool (Ok j) i e = (if_ok (within_dimensions pool j) BadOpcode (read_as j) i e).1
within_is pool (Err reason) i e = absurd cc

-- what is read at an offset, whatever the constant pool has, is what the machine reads there
pub read_there : (pool : List PoolEntry) (code : List ℕ) (offset : ℕ) (i : DecodedInstruction) → instruction_in pool code offset ≡ Ok i → instruction_at code offset ≡ Ok i
read_there pool code offset i e = within_is pool (instruction_at code offset) i e

pub inside : (pool : List PoolEntry) (code : List ℕ) (offset : ℕ) (i : DecodedInstruction) → offset < length code → instruction_in pool code offset ≡ Ok i → (1 ≤ i.size) × (offset + i.size ≤ length code)
inside pool code offset i lt e =
    let f = by_first offset (drop offset code) i (read_there pool code offset i e) in
    (f.0, omega (arith, f.1, length-drop offset code, lt))
