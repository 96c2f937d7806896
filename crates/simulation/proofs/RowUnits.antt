-- Which units the row of an instruction pops and which local variable it reads, by a test of the whole table.
use Rattle.std.proofs.Common.{◌≡◌, inl, inr, ℕ, zero, suc, ◌+◌, ◌<◌, ◌≤◌, Bool, true, false, ◌&&◌, ◌||◌, cond, not, eqb, List, [], ◌∷◌, length, map, Option, Some, None, refl, sym, ap, ◌∙◌, subst, true≢false, arith}
use Rattle.std.specs.List.{list_all, slice_get}
use Rattle.std.specs.Prelude.{nat_eq, nat_le, option_and_then}
use Rattle.std.proofs.lemmas.Bool.{leb-true, eqb-true}
use Rattle.std.proofs.lemmas.Option.{none-some, same_Some}
use Rattle.jvm_model.specs.declared.pool.PoolEntry.{PoolEntry}
use Rattle.jvm_model.specs.declared.pool.PoolEntry.TheVariants.{Utf8, Integer, Float, Long, Double, Class, Str, Fieldref, Methodref, InterfaceMethodref, NameAndType, MethodHandle, MethodType, InvokeDynamic, Taken}
use Rattle.jvm_model.specs.Descriptors.{IsFieldDescriptor, IsFieldType, is_base_letter}
use Rattle.jvm_model.specs.Instructions.{DecodedInstruction, IsRowAt, RowBy, array_row, constant_row, kinds_by, kinds_of, made_for}
use Rattle.jvm_model.specs.InstructionUses.{locals_fit, local_units, names_local}
use Rattle.jvm_model.specs.Lookups.{entry_at}
use Rattle.jvm_model.specs.Table.{Row, row_of, rows, UnitKind, any_kind, primitive, reference, UnitSource, popped, the_local, a_null, a_primitive, the_made, Operands, pool_2_and_dimensions, Action, plain, load_constant, load_element, store_element, probe_element, probe_array, probe_object, get_static, put_static, get_field, put_field, invoke_virtual, invoke_special, invoke_static, invoke_interface, make_object, make_array, throw_object, cast, leave_method, refused}
use Rattle.simulation.proofs.Rows.{all_at, both_left, both_right}

-- ---- what a row reads

-- a unit is one of those that are popped, and the local variable is there
abbrev pub IsThere : ℕ → ℕ → ℕ → UnitSource → Type 0
IsThere count operand limit (popped unit) = unit < count
IsThere count operand limit the_local = operand < limit
IsThere count operand limit a_null = Unit {0}
IsThere count operand limit a_primitive = Unit {0}
IsThere count operand limit the_made = Unit {0}

-- what a row writes is read from there
pub record ReadsThere (operand limit : ℕ) (r : Row) : Type 0 where
  pub pushes : (place : ℕ) (u : UnitSource) → slice_get r.pushes place ≡ Some u → IsThere (length r.pops) operand limit u
  pub stores : (place : ℕ) (u : UnitSource) → slice_get r.stores place ≡ Some u → IsThere (length r.pops) operand limit u

-- ---- the table's own rows

abbrev is_there : ℕ → Bool → UnitSource → Bool
is_there count names (popped unit) = nat_le (unit + 1) count
is_there count names the_local = names
is_there count names a_null = true
is_there count names a_primitive = true
is_there count names the_made = true

abbrev reads_there : Row → Bool
reads_there r = list_all (is_there (length r.pops) (names_local r.operands)) r.pushes && list_all (is_there (length r.pops) (names_local r.operands)) r.stores

all_read : list_all reads_there rows ≡ true
all_read = refl

there_by : (count operand limit : ℕ) (names : Bool) (u : UnitSource) → (names ≡ true → operand < limit) → is_there count names u ≡ true → IsThere count operand limit u
there_by count operand limit names (popped unit) local e = let le = leb-true (unit + 1) count e in omega (arith, le)
there_by count operand limit names the_local local e = local e
there_by count operand limit names a_null local e = tt
there_by count operand limit names a_primitive local e = tt
there_by count operand limit names the_made local e = tt

-- the local variable that the operand names is there
local_there : (limit : ℕ) (i : DecodedInstruction) → locals_fit limit i ≡ true → names_local i.row.operands ≡ true → i.operand < limit
local_there limit i fits names =
    let tested : nat_le (i.operand + local_units i.row) limit ≡ true = by (names_local i.row.operands) names fits in
    let le : i.operand + local_units i.row ≤ limit = leb-true (i.operand + local_units i.row) limit tested in
    omega (arith, le, some (nat_eq (length i.row.pushes + length i.row.stores) 0) refl)
  where
    by : (b : Bool) → b ≡ true → (not b || nat_le (i.operand + local_units i.row) limit) ≡ true → nat_le (i.operand + local_units i.row) limit ≡ true
    by true e h = h
    by false e h = absurd cc

    other : (n : ℕ) → nat_eq n 0 ≡ false → 0 < n
    other zero e = absurd cc
    other (suc n) e = omega arith

    some : (b : Bool) → nat_eq (length i.row.pushes + length i.row.stores) 0 ≡ b → 0 < cond b 1 (length i.row.pushes + length i.row.stores)
    some true e = omega arith
    some false e = other (length i.row.pushes + length i.row.stores) e

table_reads : (limit : ℕ) (i : DecodedInstruction) → row_of i.opcode ≡ Some i.row → locals_fit limit i ≡ true → ReadsThere i.operand limit i.row
table_reads limit i of fits =
    let test = is_there (length i.row.pops) (names_local i.row.operands) in
    let both = all_at reads_there rows i.opcode i.row all_read of in
    let local = local_there limit i fits in
    record {
      pushes = λ place u at. there_by (length i.row.pops) i.operand limit (names_local i.row.operands) u local (all_at test i.row.pushes place u (both_left (list_all test i.row.pushes) (list_all test i.row.stores) both) at);
      stores = λ place u at. there_by (length i.row.pops) i.operand limit (names_local i.row.operands) u local (all_at test i.row.stores place u (both_right (list_all test i.row.pushes) (list_all test i.row.stores) both) at);
    }

-- ---- a row that only moves units

one_primitive : (limit operand : ℕ) (r : Row) → r.pushes ≡ a_primitive ∷ [] → r.stores ≡ [] → ReadsThere operand limit r
one_primitive limit operand r pushes stores = record {
  pushes = λ place u at. first (length r.pops) place u (sym (ap (λ (us : List UnitSource). slice_get us place) pushes) ∙ at);
  stores = λ place u at. absurd (none-some u (sym (ap (λ (us : List UnitSource). slice_get us place) stores) ∙ at));
}
  where
    first : (count place : ℕ) (u : UnitSource) → slice_get (a_primitive ∷ []) place ≡ Some u → IsThere count operand limit u
    first count zero u at = subst (IsThere count operand limit) (same_Some a_primitive u at) tt
    first count (suc place) u at = absurd (none-some u at)

module _ (pool : List PoolEntry) (limit : ℕ) (i : DecodedInstruction) (of : row_of i.opcode ≡ Some i.row) (fits : locals_fit limit i ≡ true) where
  constant_reads : (r : Row) (o : Option PoolEntry) → i.row.action ≡ load_constant → option_and_then (constant_row i.row) o ≡ Some r → r.action ≡ plain → ReadsThere i.operand limit r
  constant_reads r None is e only = absurd (none-some r e)
  constant_reads r (Some (Integer bits)) is e only = subst (ReadsThere i.operand limit) (same_Some _ r e) (one_primitive limit i.operand _ refl refl)
  constant_reads r (Some (Float bits)) is e only = subst (ReadsThere i.operand limit) (same_Some _ r e) (one_primitive limit i.operand _ refl refl)
  constant_reads r (Some (Str text)) is e only = let same = ap (λ (s : Row). s.action) (same_Some _ r e) in absurd (cc (is, same, only))
  constant_reads r (Some (Class name)) is e only = let same = ap (λ (s : Row). s.action) (same_Some _ r e) in absurd (cc (is, same, only))
  constant_reads r (Some (MethodHandle kind member)) is e only = let same = ap (λ (s : Row). s.action) (same_Some _ r e) in absurd (cc (is, same, only))
  constant_reads r (Some (MethodType descriptor)) is e only = let same = ap (λ (s : Row). s.action) (same_Some _ r e) in absurd (cc (is, same, only))
  constant_reads r (Some (Utf8 bytes)) is e only = absurd (none-some r e)
  constant_reads r (Some (Long bits)) is e only = absurd (none-some r e)
  constant_reads r (Some (Double bits)) is e only = absurd (none-some r e)
  constant_reads r (Some (Fieldref class member)) is e only = absurd (none-some r e)
  constant_reads r (Some (Methodref class member)) is e only = absurd (none-some r e)
  constant_reads r (Some (InterfaceMethodref class member)) is e only = absurd (none-some r e)
  constant_reads r (Some (NameAndType name descriptor)) is e only = absurd (none-some r e)
  constant_reads r (Some (InvokeDynamic bootstrap member)) is e only = absurd (none-some r e)
  constant_reads r (Some Taken) is e only = absurd (none-some r e)

  abbrev is_plain : Action → Bool
  is_plain plain = true
  is_plain _ = false

  -- a row keeps the action of the table's
  other_action : (a : Action) (r : Row) → i.row.action ≡ a → r.action ≡ i.row.action → is_plain a ≡ false → r.action ≡ plain → ReadsThere i.operand limit r
  other_action a r is same none only = absurd (true≢false (sym (ap is_plain only) ∙ ap is_plain (same ∙ is) ∙ none))

  array_action : (o : Operands) → (array_row o i).action ≡ i.row.action
  array_action pool_2_and_dimensions = refl
  array_action _ = refl

  reads_by : (a : Action) (r : Row) → i.row.action ≡ a → RowBy a pool i r → r.action ≡ plain → ReadsThere i.operand limit r
  reads_by plain r is e only = subst (ReadsThere i.operand limit) (sym e) (table_reads limit i of fits)
  reads_by load_constant r is e only = constant_reads r (entry_at pool i.operand) is e only
  reads_by load_element r is e only = other_action load_element r is (ap (λ (s : Row). s.action) e) refl only
  reads_by store_element r is e only = other_action store_element r is (ap (λ (s : Row). s.action) e) refl only
  reads_by probe_element r is e only = other_action probe_element r is (ap (λ (s : Row). s.action) e) refl only
  reads_by probe_array r is e only = other_action probe_array r is (ap (λ (s : Row). s.action) e) refl only
  reads_by probe_object r is e only = other_action probe_object r is (ap (λ (s : Row). s.action) e) refl only
  reads_by get_static r is f only = other_action get_static r is (ap (λ (s : Row). s.action) f.row_is) refl only
  reads_by put_static r is f only = other_action put_static r is (ap (λ (s : Row). s.action) f.row_is) refl only
  reads_by get_field r is f only = other_action get_field r is (ap (λ (s : Row). s.action) f.row_is) refl only
  reads_by put_field r is f only = other_action put_field r is (ap (λ (s : Row). s.action) f.row_is) refl only
  reads_by invoke_virtual r is c only = other_action invoke_virtual r is (ap (λ (s : Row). s.action) c.row_is) refl only
  reads_by invoke_special r is c only = other_action invoke_special r is (ap (λ (s : Row). s.action) c.row_is) refl only
  reads_by invoke_static r is c only = other_action invoke_static r is (ap (λ (s : Row). s.action) c.row_is) refl only
  reads_by invoke_interface r is c only = other_action invoke_interface r is (ap (λ (s : Row). s.action) c.row_is) refl only
  reads_by make_object r is e only = other_action make_object r is (ap (λ (s : Row). s.action) e) refl only
  reads_by make_array r is e only = other_action make_array r is (ap (λ (s : Row). s.action) e ∙ array_action i.row.operands) refl only
  reads_by throw_object r is e only = other_action throw_object r is (ap (λ (s : Row). s.action) e) refl only
  reads_by cast r is e only = other_action cast r is (ap (λ (s : Row). s.action) e) refl only
  reads_by leave_method r is e only = other_action leave_method r is (ap (λ (s : Row). s.action) e) refl only
  reads_by refused r is e only = other_action refused r is (ap (λ (s : Row). s.action) e) refl only

  pub plain_reads : (r : Row) → IsRowAt pool i r → r.action ≡ plain → ReadsThere i.operand limit r
  plain_reads r by only = reads_by i.row.action r refl by only

-- ---- rows of fields

-- what is got is made, or is a primitive
pub made_there : (count operand limit : ℕ) (kinds : List UnitKind) (place : ℕ) (u : UnitSource) → slice_get (map made_for kinds) place ≡ Some u → IsThere count operand limit u
made_there count operand limit [] place u at = absurd (none-some u at)
made_there count operand limit (k ∷ kinds) zero u at = subst (IsThere count operand limit) (same_Some (made_for k) u at) (by k)
  where
    by : (j : UnitKind) → IsThere count operand limit (made_for j)
    by any_kind = tt
    by primitive = tt
    by reference = tt
made_there count operand limit (k ∷ kinds) (suc place) u at = made_there count operand limit kinds place u at

-- a field takes some unit
some_kind : (a b c : Bool) → c ≡ false → 0 < length (cond a (primitive ∷ primitive ∷ []) (cond b (reference ∷ []) (cond c [] (primitive ∷ []))))
some_kind true b c e = omega arith
some_kind false true c e = omega arith
some_kind false false false e = omega arith
some_kind false false true e = absurd cc

base_kind : (letter : ℕ) → is_base_letter letter ≡ true → 0 < length (kinds_by letter)
base_kind letter is = some_kind (eqb letter 74 || eqb letter 68) (eqb letter 76 || eqb letter 91) (eqb letter 86) (by (eqb letter 86) refl)
  where
    by : (b : Bool) → eqb letter 86 ≡ b → eqb letter 86 ≡ false
    by false e = e
    by true e = absurd (true≢false (sym is ∙ ap is_base_letter (eqb-true letter 86 e)))

pub field_kind : (text : List ℕ) → IsFieldDescriptor text → 0 < length (kinds_of text)
field_kind text d = by d.dimensions d.type_is
  where
    by : (n : ℕ) → IsFieldType n text → 0 < length (kinds_of text)
    by zero (inl base) = subst (λ (t : List ℕ). 0 < length (kinds_of t)) (sym base.2) (base_kind base.0 base.1)
    by zero (inr object) = subst (λ (t : List ℕ). 0 < length (kinds_of t)) (sym object.2) (omega arith)
    by (suc n) array = subst (λ (t : List ℕ). 0 < length (kinds_of t)) (sym array.1) (omega arith)
