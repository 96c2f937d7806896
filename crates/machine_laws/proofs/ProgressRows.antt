-- What the row of an instruction says by its action: that it goes on at the next instruction, and which exceptions it lists.
use Rattle.std.proofs.Common.{◌≡◌, ◌⊎◌, inl, inr, ℕ, zero, suc, Bool, true, false, cond, ◌&&◌, ◌||◌, not, eqb, List, [], ◌∷◌, Option, Some, None, refl, sym, ap, ◌∙◌, subst, arith}
use Rattle.std.specs.List.{Contains, list_all, list_any, slice_get}
use Rattle.std.specs.Prelude.{option_and_then}
use Rattle.std.proofs.lemmas.Bool.{eqb-true}
use Rattle.std.proofs.lemmas.Option.{same_Some}
use Rattle.jvm_model.specs.declared.pool.PoolEntry.{PoolEntry}
use Rattle.jvm_model.specs.declared.pool.PoolEntry.TheVariants.{Utf8, Integer, Float, Long, Double, Class, Str, Fieldref, Methodref, InterfaceMethodref, NameAndType, MethodHandle, MethodType, InvokeDynamic, Taken}
use Rattle.jvm_model.specs.Instructions.{DecodedInstruction, RowBy, with_units, constant_row, array_row}
use Rattle.jvm_model.specs.Lookups.{entry_at}
use Rattle.jvm_model.specs.Programs.{Program}
use Rattle.jvm_model.specs.Table.{Row, row_of, rows, UnitKind, UnitSource, Operands, nothing, implied, value_1, value_2, type_code, local_1, pool_1, pool_2, offset_2, offset_4, local_and_value, pool_2_and_count, pool_2_and_zeros, pool_2_and_dimensions, table_of_offsets, pairs_with_offsets, widened, Flow, onward, jump, branch, branch_if_null, branch_if_object, branch_if_same, branch_if_other, leave, subroutine, Action, plain, load_constant, load_element, store_element, probe_element, probe_array, probe_object, get_static, put_static, get_field, put_field, invoke_virtual, invoke_special, invoke_static, invoke_interface, make_object, make_array, throw_object, cast, leave_method, refused, Raise, null_pointer, array_index, array_store, arithmetic, class_cast, negative_size}
use Rattle.code_reader.proofs.KnownInstructions.{known_at}
use Rattle.machine_bytecode.specs.Machine.{AtInstruction}
use Rattle.machine_bytecode.specs.States.{Frame}

-- ---- all rows

-- what acts on an object that has to be there
abbrev asks_object : Action → Bool
asks_object load_element = true
asks_object store_element = true
asks_object probe_element = true
asks_object probe_array = true
asks_object probe_object = true
asks_object get_field = true
asks_object put_field = true
asks_object invoke_virtual = true
asks_object invoke_special = true
asks_object invoke_interface = true
asks_object throw_object = true
asks_object _ = false

-- what acts on an element of an array
abbrev asks_element : Action → Bool
asks_element load_element = true
asks_element store_element = true
asks_element probe_element = true
asks_element _ = false

abbrev is_cast : Action → Bool
is_cast cast = true
is_cast _ = false

abbrev makes_array : Action → Bool
makes_array make_array = true
makes_array _ = false

-- the instructions of an action list an exception
abbrev pub lists : Raise → Action → Bool
lists null_pointer a = asks_object a
lists array_index a = asks_element a
lists array_store a = false
lists arithmetic a = false
lists class_cast a = is_cast a
lists negative_size a = makes_array a

-- those of these actions go on at the next instruction
abbrev pub goes_onward : Action → Bool
goes_onward load_constant = true
goes_onward load_element = true
goes_onward store_element = true
goes_onward probe_element = true
goes_onward probe_array = true
goes_onward probe_object = true
goes_onward get_static = true
goes_onward put_static = true
goes_onward get_field = true
goes_onward put_field = true
goes_onward make_object = true
goes_onward make_array = true
goes_onward cast = true
goes_onward _ = false

abbrev is_onward : Flow → Bool
is_onward onward = true
is_onward _ = false

abbrev number_of : Raise → ℕ
number_of null_pointer = 0
number_of array_index = 1
number_of array_store = 2
number_of arithmetic = 3
number_of class_cast = 4
number_of negative_size = 5

abbrev raise_of : ℕ → Raise
raise_of n =
    cond (eqb n 0) null_pointer (cond (eqb n 1) array_index (cond (eqb n 2) array_store (cond (eqb n 3) arithmetic (cond (eqb n 4) class_cast negative_size))))

abbrev is_raise : Raise → Raise → Bool
is_raise k r = eqb (number_of r) (number_of k)

abbrev row_lists : Raise → Row → Bool
row_lists k r = not (lists k r.action) || list_any (is_raise k) r.raises

abbrev row_goes : Row → Bool
row_goes r = not (goes_onward r.action) || is_onward r.flow

all_list : (k : Raise) → list_all (row_lists k) rows ≡ true
all_list null_pointer = refl
all_list array_index = refl
all_list array_store = refl
all_list arithmetic = refl
all_list class_cast = refl
all_list negative_size = refl

all_go : list_all row_goes rows ≡ true
all_go = refl

-- ---- one row

all_at : (p : Row → Bool) (all : List Row) (k : ℕ) (r : Row) → list_all p all ≡ true → slice_get all k ≡ Some r → p r ≡ true
all_at p [] k r e is = absurd cc
all_at p (x ∷ all) zero r e is =
    let same : x ≡ r = cc is in
    ap p (sym same) ∙ first (p x) (list_all p all) e
  where
    first : (a b : Bool) → (a && b) ≡ true → a ≡ true
    first true b h = refl
    first false b h = absurd cc
all_at p (x ∷ all) (suc k) r e is = all_at p all k r (rest (p x) (list_all p all) e) is
  where
    rest : (a b : Bool) → (a && b) ≡ true → b ≡ true
    rest true b h = h
    rest false b h = absurd cc

implied_by : (a b : Bool) → (not a || b) ≡ true → a ≡ true → b ≡ true
implied_by true b h e = h
implied_by false b h e = absurd cc

raise_is : (r : Raise) → raise_of (number_of r) ≡ r
raise_is null_pointer = refl
raise_is array_index = refl
raise_is array_store = refl
raise_is arithmetic = refl
raise_is class_cast = refl
raise_is negative_size = refl

is_it : (k r : Raise) → is_raise k r ≡ true → r ≡ k
is_it k r e = sym (raise_is r) ∙ ap raise_of (eqb-true (number_of r) (number_of k) e) ∙ raise_is k

among : (k : Raise) (raises : List Raise) → list_any (is_raise k) raises ≡ true → Contains raises k
among k [] e = absurd cc
among k (r ∷ raises) e = by (is_raise k r) refl e (among k raises) where
  by : (b : Bool) → is_raise k r ≡ b → (b || list_any (is_raise k) raises) ≡ true → (list_any (is_raise k) raises ≡ true → Contains raises k) → Contains (r ∷ raises) k
  by true is h deeper = (0, omega arith, is_it k r is)
  by false is h deeper = let d = deeper h in (suc d.0, omega (arith, d.1), d.2)

pub lists_it : (opcode : ℕ) (r : Row) (k : Raise) → row_of opcode ≡ Some r → lists k r.action ≡ true → Contains r.raises k
lists_it opcode r k is e = among k r.raises (implied_by (lists k r.action) (list_any (is_raise k) r.raises) (all_at (row_lists k) rows opcode r (all_list k) is) e)

is_flow : (f : Flow) → is_onward f ≡ true → f ≡ onward
is_flow onward e = refl
is_flow jump e = absurd cc
is_flow branch e = absurd cc
is_flow branch_if_null e = absurd cc
is_flow branch_if_object e = absurd cc
is_flow branch_if_same e = absurd cc
is_flow branch_if_other e = absurd cc
is_flow leave e = absurd cc
is_flow subroutine e = absurd cc

goes_on_at : (opcode : ℕ) (r : Row) → row_of opcode ≡ Some r → goes_onward r.action ≡ true → r.flow ≡ onward
goes_on_at opcode r is e = is_flow r.flow (implied_by (goes_onward r.action) (is_onward r.flow) (all_at row_goes rows opcode r all_go is) e)

-- ---- the row of an instruction, with what the constant pool says

-- it is that of the table but for the units; ldc of a number does nothing beside pushing it
pub record Keeps (r of : Row) : Type 0 where
  pub flow : of.flow ≡ r.flow
  pub raises : of.raises ≡ r.raises
  pub action : (of.action ≡ r.action) ⊎ (of.action ≡ plain)

keeps_same : (r of : Row) → of ≡ r → Keeps r of
keeps_same r of e = subst (Keeps r) (sym e) (record { flow = refl; raises = refl; action = inl refl })

keeps_units : (r of : Row) (pops : List UnitKind) (pushes : List UnitSource) → of ≡ with_units r pops pushes → Keeps r of
keeps_units r of pops pushes e = subst (Keeps r) (sym e) (record { flow = refl; raises = refl; action = inl refl })

keeps_constant : (r of : Row) (o : Option PoolEntry) → option_and_then (constant_row r) o ≡ Some of → Keeps r of
keeps_constant r of None e = absurd cc
keeps_constant r of (Some (Integer bits)) e = subst (Keeps r) (same_Some _ of e) (record { flow = refl; raises = refl; action = inr refl })
keeps_constant r of (Some (Float bits)) e = subst (Keeps r) (same_Some _ of e) (record { flow = refl; raises = refl; action = inr refl })
keeps_constant r of (Some (Str text)) e = subst (Keeps r) (same_Some _ of e) (record { flow = refl; raises = refl; action = inl refl })
keeps_constant r of (Some (Class name)) e = subst (Keeps r) (same_Some _ of e) (record { flow = refl; raises = refl; action = inl refl })
keeps_constant r of (Some (MethodHandle kind member)) e = subst (Keeps r) (same_Some _ of e) (record { flow = refl; raises = refl; action = inl refl })
keeps_constant r of (Some (MethodType descriptor)) e = subst (Keeps r) (same_Some _ of e) (record { flow = refl; raises = refl; action = inl refl })
keeps_constant r of (Some (Utf8 bytes)) e = absurd cc
keeps_constant r of (Some (Long bits)) e = absurd cc
keeps_constant r of (Some (Double bits)) e = absurd cc
keeps_constant r of (Some (Fieldref class member)) e = absurd cc
keeps_constant r of (Some (Methodref class member)) e = absurd cc
keeps_constant r of (Some (InterfaceMethodref class member)) e = absurd cc
keeps_constant r of (Some (NameAndType name descriptor)) e = absurd cc
keeps_constant r of (Some (InvokeDynamic bootstrap member)) e = absurd cc
keeps_constant r of (Some Taken) e = absurd cc

keeps_array : (o : Operands) (i : DecodedInstruction) (of : Row) → of ≡ array_row o i → Keeps i.row of
keeps_array pool_2_and_dimensions i of e = keeps_units i.row of _ _ e
keeps_array nothing i of e = keeps_same i.row of e
keeps_array (implied local) i of e = keeps_same i.row of e
keeps_array value_1 i of e = keeps_same i.row of e
keeps_array value_2 i of e = keeps_same i.row of e
keeps_array type_code i of e = keeps_same i.row of e
keeps_array local_1 i of e = keeps_same i.row of e
keeps_array (pool_1 leads) i of e = keeps_same i.row of e
keeps_array (pool_2 leads) i of e = keeps_same i.row of e
keeps_array offset_2 i of e = keeps_same i.row of e
keeps_array offset_4 i of e = keeps_same i.row of e
keeps_array local_and_value i of e = keeps_same i.row of e
keeps_array pool_2_and_count i of e = keeps_same i.row of e
keeps_array pool_2_and_zeros i of e = keeps_same i.row of e
keeps_array table_of_offsets i of e = keeps_same i.row of e
keeps_array pairs_with_offsets i of e = keeps_same i.row of e
keeps_array widened i of e = keeps_same i.row of e

keeps_by : (a : Action) (pool : List PoolEntry) (i : DecodedInstruction) (of : Row) → RowBy a pool i of → Keeps i.row of
keeps_by plain pool i of is = keeps_same i.row of is
keeps_by load_constant pool i of is = keeps_constant i.row of (entry_at pool i.operand) is
keeps_by load_element pool i of is = keeps_same i.row of is
keeps_by store_element pool i of is = keeps_same i.row of is
keeps_by probe_element pool i of is = keeps_same i.row of is
keeps_by probe_array pool i of is = keeps_same i.row of is
keeps_by probe_object pool i of is = keeps_same i.row of is
keeps_by get_static pool i of is = keeps_units i.row of _ _ is.row_is
keeps_by put_static pool i of is = keeps_units i.row of _ _ is.row_is
keeps_by get_field pool i of is = keeps_units i.row of _ _ is.row_is
keeps_by put_field pool i of is = keeps_units i.row of _ _ is.row_is
keeps_by invoke_virtual pool i of is = keeps_units i.row of _ _ is.row_is
keeps_by invoke_special pool i of is = keeps_units i.row of _ _ is.row_is
keeps_by invoke_static pool i of is = keeps_units i.row of _ _ is.row_is
keeps_by invoke_interface pool i of is = keeps_units i.row of _ _ is.row_is
keeps_by make_object pool i of is = keeps_same i.row of is
keeps_by make_array pool i of is = keeps_array i.row.operands i of is
keeps_by throw_object pool i of is = keeps_same i.row of is
keeps_by cast pool i of is = keeps_same i.row of is
keeps_by leave_method pool i of is = keeps_same i.row of is
keeps_by refused pool i of is = keeps_same i.row of is

-- an action that goes onward or lists an exception is that of the table
action_is : (q : Action → Bool) (a b : Action) → (a ≡ b) ⊎ (a ≡ plain) → q plain ≡ false → q a ≡ true → q b ≡ true
action_is q a b (inl same) none e = ap q (sym same) ∙ e
action_is q a b (inr is) none e = absurd cc

pub flows_onward : (p : Program) (f : Frame) (now : AtInstruction p f) (a : Action) → now.row.action ≡ a → goes_onward a ≡ true → now.row.flow ≡ onward
flows_onward p f now a is e =
    let i = now.instruction in
    let keeps = keeps_by i.row.action now.here.code.file.pool i now.row now.of_row in
    let known = known_at now.here.code.body.bytes f.offset i now.is in
    keeps.flow ∙ goes_on_at i.opcode i.row known.row (action_is goes_onward now.row.action i.row.action keeps.action refl (ap goes_onward is ∙ e))

pub raises_it : (p : Program) (f : Frame) (now : AtInstruction p f) (k : Raise) (a : Action) → now.row.action ≡ a → lists k a ≡ true → Contains now.row.raises k
raises_it p f now k a is e =
    let i = now.instruction in
    let keeps = keeps_by i.row.action now.here.code.file.pool i now.row now.of_row in
    let known = known_at now.here.code.body.bytes f.offset i now.is in
    let at_row = action_is (lists k) now.row.action i.row.action keeps.action (none_of k) (ap (lists k) is ∙ e) in
    subst (λ (raises : List Raise). Contains raises k) (sym keeps.raises) (lists_it i.opcode i.row k known.row at_row)
  where
    none_of : (k : Raise) → lists k plain ≡ false
    none_of null_pointer = refl
    none_of array_index = refl
    none_of array_store = refl
    none_of arithmetic = refl
    none_of class_cast = refl
    none_of negative_size = refl
