-- Facts of the instruction table, each a test of all rows, and what the index of an instruction that names a class leads to.
use Rattle.std.proofs.Common.{◌≡◌, ◌≢◌, ℕ, ◌≤◌, Bool, true, false, not, ◌||◌, leb, eqb, List, [], ◌∷◌, length, Some, refl, sym, ap, ◌∙◌}
use Rattle.std.specs.List.{list_all}
use Rattle.std.specs.Option.{option_map_or}
use Rattle.std.proofs.lemmas.Bool.{and_parts, leb-true, eqb-true, false≢true}
use Rattle.std.proofs.lemmas.Option.{same_Some}
use Rattle.list_laws.proofs.Tests.{passes_at}
use Rattle.jvm_model.specs.declared.class_file.ClassFile.{ClassFile}
use Rattle.jvm_model.specs.declared.code.Instruction.{Instruction as Given}
use Rattle.jvm_model.specs.declared.opcode.Operands.{Operands as CodeOperands}
use Rattle.jvm_model.specs.declared.opcode.Operands.TheVariants as operands
use Rattle.jvm_model.specs.declared.opcode.PoolTarget.TheVariants as targets
use Rattle.jvm_model.specs.declared.pool.EntryKind.TheVariants as kinds
use Rattle.jvm_model.specs.InstructionUses.{pool_target, has_shape, leads_there, leads_right}
use Rattle.jvm_model.specs.Lookups.{class_name_at}
use Rattle.jvm_model.specs.RowViews.{operands_view}
use Rattle.jvm_model.specs.Soundness.{leads_to}
use Rattle.jvm_model.specs.Table.{Row, row_of, rows, Operands, type_code, pool_2, pool_2_and_dimensions, any_class, no_array, Action, plain, make_array, is_field_access}
use Rattle.jvm_model.proofs.SoundUses.{class_there}
use Rattle.machine_bytecode.specs.Machine.{NamesClass}
use Rattle.flow_graph.specs.Effects.{with_row}
use Rattle.flow_graph.specs.Reading.{IsSoundInstruction}
use Rattle.lowering_operations.specs.ByAction.{names_class}
use Rattle.lowering_operations.proofs.MovesMade.{makes_nothing}

pub implied_by : (a b : Bool) → (not a || b) ≡ true → a ≡ true → b ≡ true
implied_by true b h e = h
implied_by false b h e = absurd (false≢true e)

pub of_row : (test : Row → Bool) (opcode : ℕ) (r : Row) → list_all test rows ≡ true → row_of opcode ≡ Some r → test r ≡ true
of_row test opcode r all is = passes_at test rows opcode r all is

abbrev stores_few : Row → Bool
stores_few r = leb (length r.stores) 255

pub few_stores : (opcode : ℕ) (r : Row) → row_of opcode ≡ Some r → length r.stores ≤ 255
few_stores opcode r is = leb-true (length r.stores) 255 (of_row stores_few opcode r refl is)

abbrev is_plain : Action → Bool
is_plain plain = true
is_plain _ = false

abbrev plain_reads : Row → Bool
plain_reads r = not (is_plain r.action) || makes_nothing r

-- a plain row writes nothing that an action makes
pub plain_makes_nothing : (opcode : ℕ) (r : Row) → row_of opcode ≡ Some r → r.action ≡ plain → makes_nothing r ≡ true
plain_makes_nothing opcode r is a = implied_by (is_plain r.action) (makes_nothing r) (of_row plain_reads opcode r refl is) (ap is_plain a)

abbrev accesses_no_local : Row → Bool
accesses_no_local r = not (is_field_access r.action) || eqb (length r.stores) 0

-- an access to a field stores nothing
pub no_stores : (opcode : ℕ) (r : Row) → row_of opcode ≡ Some r → is_field_access r.action ≡ true → r.stores ≡ []
no_stores opcode r is a = none r.stores (eqb-true (length r.stores) 0 (implied_by (is_field_access r.action) (eqb (length r.stores) 0) (of_row accesses_no_local opcode r refl is) a))
  where
    none : {X : Type 0} (xs : List X) → length xs ≡ 0 → xs ≡ []
    none [] e = refl
    none (x ∷ xs) e = absurd cc

-- ---- classes

abbrev pub is_class_operands : Operands → Bool
is_class_operands (pool_2 any_class) = true
is_class_operands (pool_2 no_array) = true
is_class_operands pool_2_and_dimensions = true
is_class_operands _ = false

abbrev class_row : Row → Bool
class_row r = not (names_class r.action) || is_class_operands r.operands

pub class_operands : (opcode : ℕ) (r : Row) → row_of opcode ≡ Some r → names_class r.action ≡ true → is_class_operands r.operands ≡ true
class_operands opcode r is a = implied_by (names_class r.action) (is_class_operands r.operands) (of_row class_row opcode r refl is) a

abbrev is_array_operands : Operands → Bool
is_array_operands type_code = true
is_array_operands (pool_2 any_class) = true
is_array_operands pool_2_and_dimensions = true
is_array_operands _ = false

abbrev pub is_make_array : Action → Bool
is_make_array make_array = true
is_make_array _ = false

abbrev arrays_row : Row → Bool
arrays_row r = not (is_make_array r.action) || is_array_operands r.operands

array_operands : (opcode : ℕ) (r : Row) → row_of opcode ≡ Some r → r.action ≡ make_array → is_array_operands r.operands ≡ true
array_operands opcode r is a = implied_by (is_make_array r.action) (is_array_operands r.operands) (of_row arrays_row opcode r refl is) (ap is_make_array a)

references_left : (o : CodeOperands) → is_array_operands (operands_view o) ≡ true → o ≢ operands.TypeCode → o ≢ operands.Pool2AndDimensions → operands_view o ≡ pool_2 any_class
references_left operands.TypeCode h ne ne2 = absurd (ne refl)
references_left operands.Pool2AndDimensions h ne ne2 = absurd (ne2 refl)
references_left (operands.Pool2 targets.AnyClass) h ne ne2 = refl
references_left _ h ne ne2 = absurd (false≢true h)

-- what is left of the instructions that make arrays, but for arrays of primitives and of dimensions
pub array_of_references : (opcode : ℕ) (r : Row) (o : CodeOperands) → row_of opcode ≡ Some r → r.action ≡ make_array → r.operands ≡ operands_view o → o ≢ operands.TypeCode → o ≢ operands.Pool2AndDimensions → operands_view o ≡ pool_2 any_class
array_of_references opcode r o is a same ne ne2 = references_left o (sym (ap is_array_operands same) ∙ array_operands opcode r is a) ne ne2

leads_by : (c : ClassFile) (index : ℕ) (o : Operands) → option_map_or (leads_there c.pool index) (pool_target o) true ≡ true → is_class_operands o ≡ true → leads_to c.pool (kinds.Class ∷ []) index ≡ true
leads_by c index (pool_2 any_class) e h = (and_parts (leads_to c.pool (kinds.Class ∷ []) index) (has_shape (class_name_at c.pool index) any_class) e).0
leads_by c index (pool_2 no_array) e h = (and_parts (leads_to c.pool (kinds.Class ∷ []) index) (has_shape (class_name_at c.pool index) no_array) e).0
leads_by c index pool_2_and_dimensions e h = (and_parts (leads_to c.pool (kinds.Class ∷ []) index) _ e).0
leads_by c index _ e h = absurd (false≢true h)

-- a sound instruction with such operands names a class
pub class_named : (c : ClassFile) (i : Given) (r : Row) → IsSoundInstruction c i → row_of i.opcode ≡ Some r → is_class_operands r.operands ≡ true → NamesClass c.pool i.operand
class_named c i r x is e =
    let same : x.row ≡ r = same_Some x.row r (sym x.of_opcode ∙ is) in
    let leads : leads_right c.pool (with_row i r) ≡ true = ap (λ (s : Row). leads_right c.pool (with_row i s)) (sym same) ∙ x.leads in
    let there = class_there c i.operand x.sound (leads_by c i.operand r.operands leads e) in
    record { class = there.name; named = there.named }
