-- The operand of an instruction that is read is a number of two bytes.
use Rattle.std.proofs.Common.{◌≡◌, ℕ, zero, suc, ◌+◌, ◌-◌, ◌*◌, ◌<◌, Bool, true, false, nat_lt, List, [], ◌∷◌, ◌++◌, length, drop, filter, get_or, get_or-drop, Option, Some, None, Result, Ok, Err, refl, sym, ap, subst, ltb-true, arith}
use Rattle.std.specs.List.{All, AllByRecursion, Contains, list_all, slice_get}
use Rattle.std.specs.Prelude.{if◌then◌else◌, ◌^◌}
use Rattle.std.proofs.lemmas.Bool.{and_parts}
use Rattle.std.proofs.lemmas.List.Elements.{All-contains, All-filter, All-from_recursion}
use Rattle.std.proofs.lemmas.Option.{same_Some}
use Rattle.jvm_model.specs.declared.class_file.Attribute.{Attribute}
use Rattle.jvm_model.specs.declared.class_file.ClassFile.{ClassFile}
use Rattle.jvm_model.specs.declared.class_file.Member.{Member}
use Rattle.jvm_model.specs.declared.code.Code.{Code}
use Rattle.jvm_model.specs.declared.code.PlacedInstruction.{PlacedInstruction}
use Rattle.jvm_model.specs.declared.reason.Reason.{Reason}
use Rattle.jvm_model.specs.declared.reason.Reason.TheVariants.{BadOpcode, CodeCut}
use Rattle.jvm_model.specs.Code.{CodeBody, HasCode, handler, spell_code}
use Rattle.jvm_model.specs.Instructions.{DecodedInstruction, needs, needs_right, short, switch, table_switch, pairs_switch, above_least, word, padding, widened_by, widened_row, widened_first, with_operands, with_row, first_instruction}
use Rattle.jvm_model.specs.Soundness.{IsChecked, is_code}
use Rattle.jvm_model.specs.Spelling.{u2, u4, table, attribute, AttributeFits, MemberFits}
use Rattle.jvm_model.specs.Table.{Row, row_of, rows, Operands, nothing, implied, value_1, value_2, type_code, local_1, pool_1, pool_2, offset_2, offset_4, local_and_value, pool_2_and_count, pool_2_and_zeros, pool_2_and_dimensions, table_of_offsets, pairs_with_offsets, widened}
use Rattle.byte_reader.proofs.Fields.{IsBytes, bytes_of_each}
use Rattle.code_reader.proofs.MachineBodies.{code_is_the_body}
use Rattle.code_reader.proofs.ToldCodes.{Contains-from_slice_get}
use Rattle.flow_graph.specs.Graphing.{IsCodeOf}

-- ---- what is read has a small operand

abbrev GivesSmall : Result DecodedInstruction Reason → Type 0
GivesSmall r = (i : DecodedInstruction) → r ≡ Ok i → i.operand < 65536

abbrev given : DecodedInstruction → Result DecodedInstruction Reason
given i = Ok i

same_given : (i j : DecodedInstruction) → given i ≡ given j → i ≡ j
same_given i j e = cc

ok_small : (i : DecodedInstruction) → i.operand < 65536 → GivesSmall (Ok i)
ok_small i l j e = subst (λ (k : DecodedInstruction). k.operand < 65536) (same_given i j e) l

err_small : (r : Reason) → GivesSmall (Err r)
err_small r j e = absurd cc

either_small : (b : Bool) (x y : Result DecodedInstruction Reason) → GivesSmall x → GivesSmall y → GivesSmall (if b then x else y)
either_small true x y hx hy = hx
either_small false x y hx hy = hy

needs_small : (count : ℕ) (bytes : List ℕ) (i : DecodedInstruction) → i.operand < 65536 → GivesSmall (needs count bytes i)
needs_small count bytes i l = either_small (nat_lt (length bytes) count) (Err CodeCut) (Ok i) (err_small CodeCut) (ok_small i l)

needs_right_small : (count : ℕ) (bytes : List ℕ) (wrong : Bool) (i : DecodedInstruction) → i.operand < 65536 → GivesSmall (needs_right count bytes wrong i)
needs_right_small count bytes wrong i l =
    either_small (nat_lt (length bytes) count) (Err CodeCut) (if wrong then Err BadOpcode else Ok i) (err_small CodeCut)
    (either_small wrong (Err BadOpcode) (Ok i) (err_small BadOpcode) (ok_small i l))

byte_small : (bytes : List ℕ) → IsBytes bytes → get_or bytes 0 0 < 65536
byte_small bytes h = let a = h 0 in omega (arith, a)

short_small : (bytes : List ℕ) → IsBytes bytes → short bytes < 65536
short_small bytes h =
    let a = h 0 in
    let b = h 1 in
    omega (arith, a, b)

switch_small : (opcode : ℕ) (r : Row) (offset long entry count : ℕ) (bytes : List ℕ) → GivesSmall (switch opcode r offset long entry count bytes)
switch_small opcode r offset long entry count bytes = either_small (nat_lt (length bytes) long) (Err CodeCut) _ (err_small CodeCut) (ok_small _ (omega arith))

table_small : (opcode : ℕ) (r : Row) (offset : ℕ) (bytes : List ℕ) → GivesSmall (table_switch opcode r offset bytes)
table_small opcode r offset bytes =
    let low = above_least (word (drop 4 bytes)) in
    let high = above_least (word (drop 8 bytes)) in
    let rows_from = switch opcode r offset (12 + 4 * (high - low + 1)) 4 (high - low + 1) bytes in
    either_small (nat_lt (length bytes) 12) (Err CodeCut) (if nat_lt high low then Err BadOpcode else rows_from) (err_small CodeCut)
    (either_small (nat_lt high low) (Err BadOpcode) rows_from (err_small BadOpcode) (switch_small opcode r offset (12 + 4 * (high - low + 1)) 4 (high - low + 1) bytes))

pairs_small : (opcode : ℕ) (r : Row) (offset : ℕ) (bytes : List ℕ) → GivesSmall (pairs_switch opcode r offset bytes)
pairs_small opcode r offset bytes =
    let count = word (drop 4 bytes) in
    let pairs_from = switch opcode r offset (8 + 8 * count) 8 count bytes in
    either_small (nat_lt (length bytes) 8) (Err CodeCut) (if nat_lt count 0x80000000 then pairs_from else Err BadOpcode) (err_small CodeCut)
    (either_small (nat_lt count 0x80000000) pairs_from (Err BadOpcode) (switch_small opcode r offset (8 + 8 * count) 8 count bytes) (err_small BadOpcode))

-- ---- by the form of the operands

abbrev small_implied : Operands → Bool
small_implied (implied local) = nat_lt local 256
small_implied _ = true

abbrev IsSmallImplied : Operands → Type 0
IsSmallImplied (implied local) = local < 65536
IsSmallImplied _ = Unit {0}

widened_small : (opcode : ℕ) (r : Row) (o : Operands) (bytes : List ℕ) → IsBytes bytes → GivesSmall (widened_by opcode r o bytes)
widened_small opcode r local_1 bytes h = needs_small 2 bytes _ (short_small bytes h)
widened_small opcode r local_and_value bytes h = needs_small 4 bytes _ (short_small bytes h)
widened_small opcode r nothing bytes h = err_small BadOpcode
widened_small opcode r (implied local) bytes h = err_small BadOpcode
widened_small opcode r value_1 bytes h = err_small BadOpcode
widened_small opcode r value_2 bytes h = err_small BadOpcode
widened_small opcode r type_code bytes h = err_small BadOpcode
widened_small opcode r (pool_1 leads) bytes h = err_small BadOpcode
widened_small opcode r (pool_2 leads) bytes h = err_small BadOpcode
widened_small opcode r offset_2 bytes h = err_small BadOpcode
widened_small opcode r offset_4 bytes h = err_small BadOpcode
widened_small opcode r pool_2_and_count bytes h = err_small BadOpcode
widened_small opcode r pool_2_and_zeros bytes h = err_small BadOpcode
widened_small opcode r pool_2_and_dimensions bytes h = err_small BadOpcode
widened_small opcode r table_of_offsets bytes h = err_small BadOpcode
widened_small opcode r pairs_with_offsets bytes h = err_small BadOpcode
widened_small opcode r widened bytes h = err_small BadOpcode

widened_row_small : (opcode : ℕ) (o : Option Row) (bytes : List ℕ) → IsBytes bytes → GivesSmall (widened_row opcode o bytes)
widened_row_small opcode (Some r) bytes h = widened_small opcode r r.operands bytes h
widened_row_small opcode None bytes h = err_small BadOpcode

bytes_after : (b : ℕ) (bytes : List ℕ) → IsBytes (b ∷ bytes) → IsBytes bytes
bytes_after b bytes h i = h (suc i)

widened_first_small : (bytes : List ℕ) → IsBytes bytes → GivesSmall (widened_first bytes)
widened_first_small [] h = err_small CodeCut
widened_first_small (opcode ∷ bytes) h = widened_row_small opcode (row_of opcode) bytes (bytes_after opcode bytes h)

operands_small : (opcode : ℕ) (r : Row) (offset : ℕ) (o : Operands) (bytes : List ℕ) → IsBytes bytes → IsSmallImplied o → GivesSmall (with_operands opcode r offset o bytes)
operands_small opcode r offset nothing bytes h s = ok_small _ (omega arith)
operands_small opcode r offset (implied local) bytes h s = ok_small _ s
operands_small opcode r offset value_1 bytes h s = needs_small 1 bytes _ (omega arith)
operands_small opcode r offset value_2 bytes h s = needs_small 2 bytes _ (omega arith)
operands_small opcode r offset type_code bytes h s = needs_right_small 1 bytes _ _ (byte_small bytes h)
operands_small opcode r offset local_1 bytes h s = needs_small 1 bytes _ (byte_small bytes h)
operands_small opcode r offset (pool_1 leads) bytes h s = needs_small 1 bytes _ (byte_small bytes h)
operands_small opcode r offset (pool_2 leads) bytes h s = needs_small 2 bytes _ (short_small bytes h)
operands_small opcode r offset offset_2 bytes h s = needs_small 2 bytes _ (omega arith)
operands_small opcode r offset offset_4 bytes h s = needs_small 4 bytes _ (omega arith)
operands_small opcode r offset local_and_value bytes h s = needs_small 2 bytes _ (byte_small bytes h)
operands_small opcode r offset pool_2_and_count bytes h s = needs_small 4 bytes _ (short_small bytes h)
operands_small opcode r offset pool_2_and_zeros bytes h s = needs_small 4 bytes _ (short_small bytes h)
operands_small opcode r offset pool_2_and_dimensions bytes h s = needs_right_small 3 bytes _ _ (short_small bytes h)
operands_small opcode r offset table_of_offsets bytes h s = table_small opcode r offset (drop (padding offset) bytes)
operands_small opcode r offset pairs_with_offsets bytes h s = pairs_small opcode r offset (drop (padding offset) bytes)
operands_small opcode r offset widened bytes h s = widened_first_small bytes h

-- ---- by the table

each_implied : list_all (λ (r : Row). small_implied r.operands) rows ≡ true
each_implied = refl

-- a test that each row passes
pub passes : (test : Row → Bool) (all : List Row) (place : ℕ) (r : Row) → list_all test all ≡ true → slice_get all place ≡ Some r → test r ≡ true
passes test [] place r e is = absurd cc
passes test (q ∷ all) zero r e is =
    let same : q ≡ r = same_Some q r is in
    subst (λ (k : Row). test k ≡ true) same (and_parts (test q) (list_all test all) e).0
passes test (q ∷ all) (suc place) r e is = passes test all place r (and_parts (test q) (list_all test all) e).1 is

implied_of : (o : Operands) → small_implied o ≡ true → IsSmallImplied o
implied_of (implied local) e = let l = ltb-true local 256 e in omega (arith, l)
implied_of nothing e = tt
implied_of value_1 e = tt
implied_of value_2 e = tt
implied_of type_code e = tt
implied_of local_1 e = tt
implied_of (pool_1 leads) e = tt
implied_of (pool_2 leads) e = tt
implied_of offset_2 e = tt
implied_of offset_4 e = tt
implied_of local_and_value e = tt
implied_of pool_2_and_count e = tt
implied_of pool_2_and_zeros e = tt
implied_of pool_2_and_dimensions e = tt
implied_of table_of_offsets e = tt
implied_of pairs_with_offsets e = tt
implied_of widened e = tt

row_small : (opcode : ℕ) (o : Option Row) (offset : ℕ) (bytes : List ℕ) → row_of opcode ≡ o → IsBytes bytes → GivesSmall (with_row opcode o offset bytes)
row_small opcode (Some r) offset bytes is h = operands_small opcode r offset r.operands bytes h (implied_of r.operands (passes (λ (q : Row). small_implied q.operands) rows opcode r each_implied is))
row_small opcode None offset bytes is h = err_small BadOpcode

first_small : (offset : ℕ) (bytes : List ℕ) → IsBytes bytes → GivesSmall (first_instruction offset bytes)
first_small offset [] h = err_small CodeCut
first_small offset (opcode ∷ bytes) h = row_small opcode (row_of opcode) offset bytes refl (bytes_after opcode bytes h)

bytes_from : (n : ℕ) (bytes : List ℕ) → IsBytes bytes → IsBytes (drop n bytes)
bytes_from n bytes h i = rw get_or-drop (h (n + i))

-- ---- the code

left_part : (xs ys : List ℕ) → AllByRecursion (λ b. b < 2 ^ 8) (xs ++ ys) → AllByRecursion (λ b. b < 2 ^ 8) xs
left_part [] ys h = tt
left_part (x ∷ xs) ys h = (h.0, left_part xs ys h.1)

right_part : (xs ys : List ℕ) → AllByRecursion (λ b. b < 2 ^ 8) (xs ++ ys) → AllByRecursion (λ b. b < 2 ^ 8) ys
right_part [] ys h = h
right_part (x ∷ xs) ys h = right_part xs ys h.1

-- the bytes of the code in a body of bytes
body_bytes : (body : CodeBody) (bytes : List ℕ) → bytes ≡ spell_code body → AllByRecursion (λ b. b < 2 ^ 8) bytes → IsBytes body.bytes
body_bytes body bytes is h =
    let front = u2 body.max_stack ++ u2 body.max_locals ++ u4 (length body.bytes) in
    let code = front ++ body.bytes in
    let all : AllByRecursion (λ b. b < 2 ^ 8) (code ++ table handler body.handlers ++ table attribute body.attributes) = subst (λ (bs : List ℕ). AllByRecursion (λ b. b < 2 ^ 8) bs) is h in
    let before = left_part code (table handler body.handlers) (left_part (code ++ table handler body.handlers) (table attribute body.attributes) all) in
    bytes_of_each body.bytes (right_part front body.bytes before)

-- the attribute with the body fits
code_fits : (c : ClassFile) (m : Member) (body : CodeBody) → IsChecked c → Contains c.methods m → (h : HasCode c m body) → AttributeFits h.code
code_fits c m body checked there h =
    let member_fits : MemberFits m = All-contains MemberFits c.methods m (All-from_recursion MemberFits c.methods checked.fits.methods) there in
    let each : All AttributeFits m.attributes = All-from_recursion AttributeFits m.attributes member_fits.attributes in
    let kept : All AttributeFits (filter (is_code c.pool) m.attributes) = All-filter (is_code c.pool) AttributeFits m.attributes each in
    All-contains AttributeFits (h.code ∷ []) h.code (subst (λ (as_ : List Attribute). All AttributeFits as_) h.only kept) (0, omega arith, refl)

pub small_operand : (c : ClassFile) (code : Code) → IsChecked c → IsCodeOf c code → (p : PlacedInstruction) (k : ℕ) → slice_get code.instructions k ≡ Some p → p.instruction.operand < 65536
small_operand c code checked is p k stands =
    let same = code_is_the_body c is.method is.read.owner code checked.fits checked.sound is.read.there is.read in
    let body = same.0 in
    let fits = code_fits c is.read.owner body checked (Contains-from_slice_get c.methods is.method is.read.owner is.read.there) same.1 in
    let bytes = body_bytes body same.1.code.body same.1.body.spelled fits.bytes in
    let reads = same.2.each k p stands in
    let small = first_small p.offset (drop p.offset body.bytes) (bytes_from p.offset body.bytes bytes) reads.i reads.is in
    subst (λ (n : ℕ). n < 65536) (sym (ap (λ i. i.operand) reads.same)) small
