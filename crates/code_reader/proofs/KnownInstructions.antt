-- An instruction that is read has the row of its opcode, and takes as many bytes as the row's operands say.
use Rattle.std.proofs.Common.{◌≡◌, ℕ, ◌+◌, ◌*◌, ◌-◌, Bool, true, false, cond, ltb, eqb, ◌||◌, List, [], ◌∷◌, length, drop, get_or, Option, Some, None, Result, Ok, Err, refl, sym, ap, ◌∙◌, subst}
use Rattle.jvm_model.specs.declared.pool.PoolEntry.{PoolEntry}
use Rattle.jvm_model.specs.declared.reason.Reason.{Reason}
use Rattle.jvm_model.specs.declared.reason.Reason.TheVariants.{BadOpcode, CodeCut}
use Rattle.jvm_model.specs.Instructions.{DecodedInstruction, word, above_least, padding, switch, table_switch, pairs_switch, widened_by, widened_row, widened_first, with_operands, with_row, first_instruction, instruction_at}
use Rattle.jvm_model.specs.InstructionUses.{within_dimensions}
use Rattle.jvm_model.specs.Table.{Row, row_of, Operands, nothing, implied, value_1, value_2, type_code, local_1, pool_1, pool_2, offset_2, offset_4, local_and_value, pool_2_and_count, pool_2_and_zeros, pool_2_and_dimensions, table_of_offsets, pairs_with_offsets, widened}
use Rattle.code_reader.specs.Division.{within, instruction_in}

-- without operands it takes one byte, and with an index of two bytes three; none is the prefix wide
abbrev pub HasSize : Operands → ℕ → Type 0
HasSize nothing size = size ≡ 1
HasSize (implied local) size = size ≡ 1
HasSize (pool_2 leads) size = size ≡ 3
HasSize widened size = ⊥
HasSize _ size = Unit {0}

pub record IsKnown (i : DecodedInstruction) : Type 0 where
  pub row : row_of i.opcode ≡ Some i.row
  pub size : HasSize i.row.operands i.size

abbrev read_as : DecodedInstruction → Result DecodedInstruction Reason
read_as i = Ok i

abbrev refused : Reason → Result DecodedInstruction Reason
refused reason = Err reason

ok_is : (i j : DecodedInstruction) → read_as i ≡ Ok j → i ≡ j
ok_is i j e = cc

-- a test that did not refuse
passed : (t : Bool) (reason : Reason) (r : Result DecodedInstruction Reason) (i : DecodedInstruction) → cond t (refused reason) r ≡ Ok i → r ≡ Ok i
passed true reason r i e = absurd cc
passed false reason r i e = e

taken : (t : Bool) (r : Result DecodedInstruction Reason) (reason : Reason) (i : DecodedInstruction) → cond t r (refused reason) ≡ Ok i → r ≡ Ok i
taken true r reason i e = e
taken false r reason i e = absurd cc

-- what is refused is not read
never_read : (reason : Reason) (i : DecodedInstruction) → refused reason ≡ Ok i → IsKnown i
never_read reason i e = absurd cc

-- an instruction with a row, which is the one that is read
known : (opcode : ℕ) (r : Row) (o : Operands) (j i : DecodedInstruction) → row_of opcode ≡ Some r → r.operands ≡ o → j.opcode ≡ opcode → j.row ≡ r → HasSize o j.size → read_as j ≡ Ok i → IsKnown i
known opcode r o j i row of at same size e =
    subst IsKnown (ok_is j i e) (record {
      row = ap row_of at ∙ row ∙ ap (λ (x : Row). Some x) (sym same);
      size = subst (λ (p : Operands). HasSize p j.size) (sym (ap (λ (x : Row). x.operands) same ∙ of)) size;
    })

by_switch : (opcode : ℕ) (r : Row) (o : Operands) (offset long entry count : ℕ) (bytes : List ℕ) (i : DecodedInstruction) → row_of opcode ≡ Some r → r.operands ≡ o → ((size : ℕ) → HasSize o size)
    → switch opcode r offset long entry count bytes ≡ Ok i → IsKnown i
by_switch opcode r o offset long entry count bytes i row of any e = known opcode r o _ i row of refl refl (any _) (passed (ltb (length bytes) long) CodeCut _ i e)

by_table : (opcode : ℕ) (r : Row) (offset : ℕ) (bytes : List ℕ) (i : DecodedInstruction) → row_of opcode ≡ Some r → r.operands ≡ table_of_offsets → table_switch opcode r offset bytes ≡ Ok i → IsKnown i
by_table opcode r offset bytes i row of e =
    let low = above_least (word (drop 4 bytes)) in
    let high = above_least (word (drop 8 bytes)) in
    let p = passed (ltb (length bytes) 12) CodeCut _ i e in
    by_switch opcode r table_of_offsets offset (12 + 4 * (high - low + 1)) 4 (high - low + 1) bytes i row of (λ size. tt) (passed (ltb high low) BadOpcode _ i p)

by_pairs : (opcode : ℕ) (r : Row) (offset : ℕ) (bytes : List ℕ) (i : DecodedInstruction) → row_of opcode ≡ Some r → r.operands ≡ pairs_with_offsets → pairs_switch opcode r offset bytes ≡ Ok i → IsKnown i
by_pairs opcode r offset bytes i row of e =
    let count = word (drop 4 bytes) in
    let p = passed (ltb (length bytes) 8) CodeCut _ i e in
    by_switch opcode r pairs_with_offsets offset (8 + 8 * count) 8 count bytes i row of (λ size. tt) (taken (ltb count 0x80000000) _ BadOpcode i p)

by_widened : (opcode : ℕ) (r : Row) (o : Operands) (bytes : List ℕ) (i : DecodedInstruction) → row_of opcode ≡ Some r → r.operands ≡ o → widened_by opcode r o bytes ≡ Ok i → IsKnown i
by_widened opcode r local_1 bytes i row of e = known opcode r local_1 _ i row of refl refl tt (passed (ltb (length bytes) 2) CodeCut _ i e)
by_widened opcode r local_and_value bytes i row of e = known opcode r local_and_value _ i row of refl refl tt (passed (ltb (length bytes) 4) CodeCut _ i e)
by_widened opcode r nothing bytes i row of e = never_read BadOpcode i e
by_widened opcode r (implied local) bytes i row of e = never_read BadOpcode i e
by_widened opcode r value_1 bytes i row of e = never_read BadOpcode i e
by_widened opcode r value_2 bytes i row of e = never_read BadOpcode i e
by_widened opcode r type_code bytes i row of e = never_read BadOpcode i e
by_widened opcode r (pool_1 leads) bytes i row of e = never_read BadOpcode i e
by_widened opcode r (pool_2 leads) bytes i row of e = never_read BadOpcode i e
by_widened opcode r offset_2 bytes i row of e = never_read BadOpcode i e
by_widened opcode r offset_4 bytes i row of e = never_read BadOpcode i e
by_widened opcode r pool_2_and_count bytes i row of e = never_read BadOpcode i e
by_widened opcode r pool_2_and_zeros bytes i row of e = never_read BadOpcode i e
by_widened opcode r pool_2_and_dimensions bytes i row of e = never_read BadOpcode i e
by_widened opcode r table_of_offsets bytes i row of e = never_read BadOpcode i e
by_widened opcode r pairs_with_offsets bytes i row of e = never_read BadOpcode i e
by_widened opcode r widened bytes i row of e = never_read BadOpcode i e

by_widened_row : (opcode : ℕ) (o : Option Row) (bytes : List ℕ) (i : DecodedInstruction) → row_of opcode ≡ o → widened_row opcode o bytes ≡ Ok i → IsKnown i
by_widened_row opcode (Some r) bytes i row e = by_widened opcode r r.operands bytes i row refl e
by_widened_row opcode None bytes i row e = never_read BadOpcode i e

by_widened_first : (bytes : List ℕ) (i : DecodedInstruction) → widened_first bytes ≡ Ok i → IsKnown i
by_widened_first [] i e = never_read CodeCut i e
by_widened_first (opcode ∷ bytes) i e = by_widened_row opcode (row_of opcode) bytes i refl e

by_operands : (opcode : ℕ) (r : Row) (offset : ℕ) (o : Operands) (bytes : List ℕ) (i : DecodedInstruction) → row_of opcode ≡ Some r → r.operands ≡ o → with_operands opcode r offset o bytes ≡ Ok i → IsKnown i
by_operands opcode r offset nothing bytes i row of e = known opcode r nothing _ i row of refl refl refl e
by_operands opcode r offset (implied local) bytes i row of e = known opcode r (implied local) _ i row of refl refl refl e
by_operands opcode r offset value_1 bytes i row of e = known opcode r value_1 _ i row of refl refl tt (passed (ltb (length bytes) 1) CodeCut _ i e)
by_operands opcode r offset value_2 bytes i row of e = known opcode r value_2 _ i row of refl refl tt (passed (ltb (length bytes) 2) CodeCut _ i e)
by_operands opcode r offset type_code bytes i row of e =
    let wrong = ltb (get_or bytes 0 0) 4 || ltb 11 (get_or bytes 0 0) in
    known opcode r type_code _ i row of refl refl tt (passed wrong BadOpcode _ i (passed (ltb (length bytes) 1) CodeCut _ i e))
by_operands opcode r offset local_1 bytes i row of e = known opcode r local_1 _ i row of refl refl tt (passed (ltb (length bytes) 1) CodeCut _ i e)
by_operands opcode r offset (pool_1 leads) bytes i row of e = known opcode r (pool_1 leads) _ i row of refl refl tt (passed (ltb (length bytes) 1) CodeCut _ i e)
by_operands opcode r offset (pool_2 leads) bytes i row of e = known opcode r (pool_2 leads) _ i row of refl refl refl (passed (ltb (length bytes) 2) CodeCut _ i e)
by_operands opcode r offset offset_2 bytes i row of e = known opcode r offset_2 _ i row of refl refl tt (passed (ltb (length bytes) 2) CodeCut _ i e)
by_operands opcode r offset offset_4 bytes i row of e = known opcode r offset_4 _ i row of refl refl tt (passed (ltb (length bytes) 4) CodeCut _ i e)
by_operands opcode r offset local_and_value bytes i row of e = known opcode r local_and_value _ i row of refl refl tt (passed (ltb (length bytes) 2) CodeCut _ i e)
by_operands opcode r offset pool_2_and_count bytes i row of e = known opcode r pool_2_and_count _ i row of refl refl tt (passed (ltb (length bytes) 4) CodeCut _ i e)
by_operands opcode r offset pool_2_and_zeros bytes i row of e = known opcode r pool_2_and_zeros _ i row of refl refl tt (passed (ltb (length bytes) 4) CodeCut _ i e)
by_operands opcode r offset pool_2_and_dimensions bytes i row of e =
    known opcode r pool_2_and_dimensions _ i row of refl refl tt (passed (eqb (get_or bytes 2 0) 0) BadOpcode _ i (passed (ltb (length bytes) 3) CodeCut _ i e))
by_operands opcode r offset table_of_offsets bytes i row of e = by_table opcode r offset (drop (padding offset) bytes) i row of e
by_operands opcode r offset pairs_with_offsets bytes i row of e = by_pairs opcode r offset (drop (padding offset) bytes) i row of e
by_operands opcode r offset widened bytes i row of e = by_widened_first bytes i e

by_row : (opcode : ℕ) (o : Option Row) (offset : ℕ) (bytes : List ℕ) (i : DecodedInstruction) → row_of opcode ≡ o → with_row opcode o offset bytes ≡ Ok i → IsKnown i
by_row opcode (Some r) offset bytes i row e = by_operands opcode r offset r.operands bytes i row refl e
by_row opcode None offset bytes i row e = never_read BadOpcode i e

by_first : (offset : ℕ) (bytes : List ℕ) (i : DecodedInstruction) → first_instruction offset bytes ≡ Ok i → IsKnown i
by_first offset [] i e = never_read CodeCut i e
by_first offset (opcode ∷ bytes) i e = by_row opcode (row_of opcode) offset bytes i refl e

pub known_at : (code : List ℕ) (offset : ℕ) (i : DecodedInstruction) → instruction_at code offset ≡ Ok i → IsKnown i
known_at code offset i e = by_first offset (drop offset code) i e

within_is : (pool : List PoolEntry) (r : Result DecodedInstruction Reason) (i : DecodedInstruction) → within pool r ≡ Ok i → r ≡ Ok i
within_is pool (Ok j) i e = taken (within_dimensions pool j) (read_as j) BadOpcode i e
within_is pool (Err reason) i e = absurd cc

pub read_in : (pool : List PoolEntry) (code : List ℕ) (offset : ℕ) (i : DecodedInstruction) → instruction_in pool code offset ≡ Ok i → instruction_at code offset ≡ Ok i
read_in pool code offset i e = within_is pool (instruction_at code offset) i e
