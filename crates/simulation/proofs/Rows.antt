-- What the row of an instruction pops and writes by its action, by a test of the whole table.
use Rattle.std.proofs.Common.{◌≡◌, ◌⊎◌, inl, inr, ℕ, zero, suc, Bool, true, false, ◌&&◌, ◌||◌, List, [], ◌∷◌, ◌++◌, length, map, replicate, ◌<◌, Option, Some, None, refl, sym, ap, ◌∙◌, subst, arith}
use Rattle.std.specs.List.{list_all, slice_get}
use Rattle.std.specs.Prelude.{option_and_then}
use Rattle.std.proofs.lemmas.Option.{none-some, same_Some}
use Rattle.jvm_model.specs.declared.pool.PoolEntry.{PoolEntry}
use Rattle.jvm_model.specs.declared.pool.PoolEntry.TheVariants.{Utf8, Integer, Float, Long, Double, Class, Str, Fieldref, Methodref, InterfaceMethodref, NameAndType, MethodHandle, MethodType, InvokeDynamic, Taken}
use Rattle.jvm_model.specs.Instructions.{DecodedInstruction, HasDescriptorUnits, IsCallRow, IsFieldRow, IsRowAt, RowBy, array_row, constant_row, kinds_of, made_for, member_at, with_units}
use Rattle.jvm_model.specs.InstructionUses.{names_local}
use Rattle.jvm_model.specs.Lookups.{MemberReference, entry_at}
use Rattle.jvm_model.specs.Table.{Row, row_of, rows, UnitKind, any_kind, primitive, reference, UnitSource, popped, the_local, a_null, a_primitive, the_made, Operands, pool_2_and_dimensions, Flow, onward, jump, branch, branch_if_null, branch_if_object, branch_if_same, branch_if_other, leave, subroutine, Action, plain, load_constant, load_element, store_element, probe_element, probe_array, probe_object, get_static, put_static, get_field, put_field, invoke_virtual, invoke_special, invoke_static, invoke_interface, make_object, make_array, throw_object, cast, leave_method, refused}

-- ---- tests

-- a unit that no action makes
abbrev pub is_unmade : UnitSource → Bool
is_unmade (popped unit) = true
is_unmade the_local = true
is_unmade a_null = true
is_unmade a_primitive = true
is_unmade the_made = false

abbrev pub are_unmade : List UnitSource → Bool
are_unmade us = list_all is_unmade us

abbrev is_primitive : UnitKind → Bool
is_primitive any_kind = false
is_primitive primitive = true
is_primitive reference = false

abbrev pub are_primitives : List UnitKind → Bool
are_primitives kinds = list_all is_primitive kinds

abbrev is_cleared : UnitSource → Bool
is_cleared (popped unit) = false
is_cleared the_local = false
is_cleared a_null = false
is_cleared a_primitive = true
is_cleared the_made = false

abbrev pub are_cleared : List UnitSource → Bool
are_cleared us = list_all is_cleared us

abbrev none_of : {X : Type 0} → List X → Bool
none_of [] = true
none_of (x ∷ xs) = false

abbrev is_one_made : List UnitSource → Bool
is_one_made (the_made ∷ []) = true
is_one_made _ = false

abbrev is_top : List UnitSource → Bool
is_top (popped zero ∷ []) = true
is_top _ = false

abbrev on_reference : List UnitKind → Bool
on_reference (reference ∷ kinds) = are_primitives kinds
on_reference _ = false

abbrev is_reference_alone : List UnitKind → Bool
is_reference_alone (reference ∷ []) = true
is_reference_alone _ = false

abbrev is_element : List UnitKind → Bool
is_element (reference ∷ primitive ∷ []) = true
is_element _ = false

abbrev is_element_and_value : List UnitKind → Bool
is_element_and_value (reference ∷ primitive ∷ reference ∷ []) = true
is_element_and_value _ = false

abbrev is_onward : Flow → Bool
is_onward onward = true
is_onward _ = false

abbrev is_dimensioned : Operands → Bool
is_dimensioned pool_2_and_dimensions = true
is_dimensioned _ = false

-- what the table's rows of an action pop, push and store, and where they go on
abbrev shows : Action → Operands → List UnitKind → List UnitSource → List UnitSource → Flow → Bool
shows plain operands pops pushes stores flow = are_unmade pushes && (are_unmade stores && (none_of stores || names_local operands))
shows load_constant operands pops pushes stores flow = none_of stores
shows load_element operands pops pushes stores flow = is_element pops && (is_one_made pushes && none_of stores)
shows store_element operands pops pushes stores flow = is_element_and_value pops && (none_of pushes && none_of stores)
shows probe_element operands pops pushes stores flow = on_reference pops && (are_cleared pushes && none_of stores)
shows probe_array operands pops pushes stores flow = on_reference pops && (are_cleared pushes && none_of stores)
shows probe_object operands pops pushes stores flow = on_reference pops && (are_cleared pushes && none_of stores)
shows get_static operands pops pushes stores flow = none_of stores
shows put_static operands pops pushes stores flow = none_of stores
shows get_field operands pops pushes stores flow = none_of stores
shows put_field operands pops pushes stores flow = none_of stores
shows invoke_virtual operands pops pushes stores flow = none_of stores && is_onward flow
shows invoke_special operands pops pushes stores flow = none_of stores && is_onward flow
shows invoke_static operands pops pushes stores flow = none_of stores && is_onward flow
shows invoke_interface operands pops pushes stores flow = none_of stores && is_onward flow
shows make_object operands pops pushes stores flow = none_of pops && (is_one_made pushes && none_of stores)
shows make_array operands pops pushes stores flow = (is_dimensioned operands || are_primitives pops) && (is_one_made pushes && none_of stores)
shows throw_object operands pops pushes stores flow = is_reference_alone pops && none_of stores
shows cast operands pops pushes stores flow = is_reference_alone pops && (is_top pushes && none_of stores)
shows leave_method operands pops pushes stores flow = none_of stores
shows refused operands pops pushes stores flow = none_of stores

abbrev row_shows : Row → Bool
row_shows r = shows r.action r.operands r.pops r.pushes r.stores r.flow

all_show : list_all row_shows rows ≡ true
all_show = refl

-- ---- what tests say

pub both_left : (a b : Bool) → (a && b) ≡ true → a ≡ true
both_left true b e = refl
both_left false b e = absurd cc

pub both_right : (a b : Bool) → (a && b) ≡ true → b ≡ true
both_right true b e = e
both_right false b e = absurd cc

-- what holds of all holds of one
pub all_at : {X : Type 0} (test : X → Bool) (xs : List X) (i : ℕ) (x : X) → list_all test xs ≡ true → slice_get xs i ≡ Some x → test x ≡ true
all_at test [] i x all is = absurd (none-some x is)
all_at test (y ∷ ys) zero x all is = ap test (sym (same_Some y x is)) ∙ both_left (test y) (list_all test ys) all
all_at test (y ∷ ys) (suc i) x all is = all_at test ys i x (both_right (test y) (list_all test ys) all) is

none_is : {X : Type 0} (xs : List X) → none_of xs ≡ true → xs ≡ []
none_is [] e = refl
none_is (x ∷ xs) e = absurd cc

one_made_is : (us : List UnitSource) → is_one_made us ≡ true → us ≡ the_made ∷ []
one_made_is [] e = absurd cc
one_made_is (the_made ∷ []) e = refl
one_made_is (the_made ∷ u ∷ us) e = absurd cc
one_made_is (popped n ∷ us) e = absurd cc
one_made_is (the_local ∷ us) e = absurd cc
one_made_is (a_null ∷ us) e = absurd cc
one_made_is (a_primitive ∷ us) e = absurd cc

top_is : (us : List UnitSource) → is_top us ≡ true → us ≡ popped 0 ∷ []
top_is [] e = absurd cc
top_is (popped zero ∷ []) e = refl
top_is (popped zero ∷ u ∷ us) e = absurd cc
top_is (popped (suc n) ∷ us) e = absurd cc
top_is (the_made ∷ us) e = absurd cc
top_is (the_local ∷ us) e = absurd cc
top_is (a_null ∷ us) e = absurd cc
top_is (a_primitive ∷ us) e = absurd cc

reference_alone_is : (ks : List UnitKind) → is_reference_alone ks ≡ true → ks ≡ reference ∷ []
reference_alone_is [] e = absurd cc
reference_alone_is (reference ∷ []) e = refl
reference_alone_is (reference ∷ k ∷ ks) e = absurd cc
reference_alone_is (any_kind ∷ ks) e = absurd cc
reference_alone_is (primitive ∷ ks) e = absurd cc

element_is : (ks : List UnitKind) → is_element ks ≡ true → ks ≡ reference ∷ primitive ∷ []
element_is [] e = absurd cc
element_is (reference ∷ []) e = absurd cc
element_is (reference ∷ primitive ∷ []) e = refl
element_is (reference ∷ primitive ∷ k ∷ ks) e = absurd cc
element_is (reference ∷ any_kind ∷ ks) e = absurd cc
element_is (reference ∷ reference ∷ ks) e = absurd cc
element_is (any_kind ∷ ks) e = absurd cc
element_is (primitive ∷ ks) e = absurd cc

element_and_value_is : (ks : List UnitKind) → is_element_and_value ks ≡ true → ks ≡ reference ∷ primitive ∷ reference ∷ []
element_and_value_is [] e = absurd cc
element_and_value_is (reference ∷ []) e = absurd cc
element_and_value_is (reference ∷ primitive ∷ []) e = absurd cc
element_and_value_is (reference ∷ primitive ∷ reference ∷ []) e = refl
element_and_value_is (reference ∷ primitive ∷ reference ∷ k ∷ ks) e = absurd cc
element_and_value_is (reference ∷ primitive ∷ any_kind ∷ ks) e = absurd cc
element_and_value_is (reference ∷ primitive ∷ primitive ∷ ks) e = absurd cc
element_and_value_is (reference ∷ any_kind ∷ ks) e = absurd cc
element_and_value_is (reference ∷ reference ∷ ks) e = absurd cc
element_and_value_is (any_kind ∷ ks) e = absurd cc
element_and_value_is (primitive ∷ ks) e = absurd cc

-- a reference, and primitives above it
pub record OnReference (pops : List UnitKind) : Type 0 where
  pub rest : List UnitKind
  pub is : pops ≡ reference ∷ rest
  pub primitives : are_primitives rest ≡ true

on_reference_is : (ks : List UnitKind) → on_reference ks ≡ true → OnReference ks
on_reference_is [] e = absurd cc
on_reference_is (reference ∷ ks) e = record { rest = ks; is = refl; primitives = e }
on_reference_is (any_kind ∷ ks) e = absurd cc
on_reference_is (primitive ∷ ks) e = absurd cc

onward_is : (f : Flow) → is_onward f ≡ true → f ≡ onward
onward_is onward e = refl
onward_is jump e = absurd cc
onward_is branch e = absurd cc
onward_is branch_if_null e = absurd cc
onward_is branch_if_object e = absurd cc
onward_is branch_if_same e = absurd cc
onward_is branch_if_other e = absurd cc
onward_is leave e = absurd cc
onward_is subroutine e = absurd cc

-- ---- the shape of a row, once the constant pool is known

pub record HasUnits (r : Row) (pops : List UnitKind) (pushes : List UnitSource) : Type 0 where
  pub pops_are : r.pops ≡ pops
  pub pushes_are : r.pushes ≡ pushes
  pub stores_are : r.stores ≡ []

pub record IsPlain (r : Row) : Type 0 where
  pub pushes_unmade : are_unmade r.pushes ≡ true
  pub stores_unmade : are_unmade r.stores ≡ true

pub record IsProbe (r : Row) : Type 0 where
  pub on : OnReference r.pops
  pub pushes_cleared : are_cleared r.pushes ≡ true
  pub stores_are : r.stores ≡ []

pub record IsArrays (r : Row) : Type 0 where
  pub primitives : are_primitives r.pops ≡ true
  pub pushes_are : r.pushes ≡ the_made ∷ []
  pub stores_are : r.stores ≡ []

-- an access to a field that the constant pool names
pub record IsAccess (pool : List PoolEntry) (operand : ℕ) (pops : List UnitKind → List UnitKind) (pushes : List UnitKind → List UnitSource) (r : Row) : Type 0 where
  pub field : MemberReference
  pub named : member_at pool operand ≡ Some field
  pub units : HasUnits r (pops (kinds_of field.signature.descriptor)) (pushes (kinds_of field.signature.descriptor))

-- a call of a method that it names
pub record IsCalling (pool : List PoolEntry) (operand : ℕ) (receiver : List UnitKind) (r : Row) : Type 0 where
  pub method : MemberReference
  pub named : member_at pool operand ≡ Some method
  pub parameters : List UnitKind
  pub results : List UnitKind
  pub described : HasDescriptorUnits method.signature.descriptor parameters results
  pub units : HasUnits r (receiver ++ parameters) (map made_for results)
  pub goes : r.flow ≡ onward

abbrev pub ShapeOf : Action → List PoolEntry → ℕ → Row → Type 0
ShapeOf plain pool operand r = IsPlain r
ShapeOf load_constant pool operand r = HasUnits r [] (the_made ∷ [])
ShapeOf load_element pool operand r = HasUnits r (reference ∷ primitive ∷ []) (the_made ∷ [])
ShapeOf store_element pool operand r = HasUnits r (reference ∷ primitive ∷ reference ∷ []) []
ShapeOf probe_element pool operand r = IsProbe r
ShapeOf probe_array pool operand r = IsProbe r
ShapeOf probe_object pool operand r = IsProbe r
ShapeOf get_static pool operand r = IsAccess pool operand (λ value. []) (map made_for) r
ShapeOf put_static pool operand r = IsAccess pool operand (λ value. value) (λ value. []) r
ShapeOf get_field pool operand r = IsAccess pool operand (λ value. reference ∷ []) (map made_for) r
ShapeOf put_field pool operand r = IsAccess pool operand (λ value. reference ∷ value) (λ value. []) r
ShapeOf invoke_virtual pool operand r = IsCalling pool operand (reference ∷ []) r
ShapeOf invoke_special pool operand r = IsCalling pool operand (reference ∷ []) r
ShapeOf invoke_static pool operand r = IsCalling pool operand [] r
ShapeOf invoke_interface pool operand r = IsCalling pool operand (reference ∷ []) r
ShapeOf make_object pool operand r = HasUnits r [] (the_made ∷ [])
ShapeOf make_array pool operand r = IsArrays r
ShapeOf throw_object pool operand r = r.pops ≡ reference ∷ []
ShapeOf cast pool operand r = HasUnits r (reference ∷ []) (popped 0 ∷ [])
ShapeOf leave_method pool operand r = Unit {0}
ShapeOf refused pool operand r = Unit {0}

-- what a row keeps of the table's: its flow, what it raises, and its action, but that ldc of a number does nothing beside pushing it
pub record Keeps (r of : Row) : Type 0 where
  pub flow : of.flow ≡ r.flow
  pub raises : of.raises ≡ r.raises
  pub stores : (of.stores ≡ r.stores) ⊎ (of.stores ≡ [])
  pub action : (of.action ≡ r.action) ⊎ (of.action ≡ plain)

pub record IsShaped (pool : List PoolEntry) (i : DecodedInstruction) (r : Row) : Type 0 where
  pub shape : ShapeOf r.action pool i.operand r
  pub keeps : Keeps i.row r

module _ (pool : List PoolEntry) (i : DecodedInstruction) where
  -- the table's own row
  same_row : (a : Action) (r : Row) → i.row.action ≡ a → ShapeOf a pool i.operand i.row → r ≡ i.row → IsShaped pool i r
  same_row a r is shape e =
      subst (IsShaped pool i) (sym e) (record {
        shape = subst (λ (b : Action). ShapeOf b pool i.operand i.row) (sym is) shape;
        keeps = record { flow = refl; raises = refl; stores = inl refl; action = inl refl };
      })

  -- the row with other units
  other_units : (a : Action) (r : Row) (pops : List UnitKind) (pushes : List UnitSource) → i.row.action ≡ a → ShapeOf a pool i.operand (with_units i.row pops pushes) → r ≡ with_units i.row pops pushes → IsShaped pool i r
  other_units a r pops pushes is shape e =
      subst (IsShaped pool i) (sym e) (record {
        shape = subst (λ (b : Action). ShapeOf b pool i.operand (with_units i.row pops pushes)) (sym is) shape;
        keeps = record { flow = refl; raises = refl; stores = inl refl; action = inl refl };
      })

  units_of : (pops : List UnitKind) (pushes : List UnitSource) → none_of i.row.stores ≡ true → HasUnits (with_units i.row pops pushes) pops pushes
  units_of pops pushes none = record { pops_are = refl; pushes_are = refl; stores_are = none_is i.row.stores none }

  constant_shaped : (r : Row) (o : Option PoolEntry) → i.row.action ≡ load_constant → none_of i.row.stores ≡ true → option_and_then (constant_row i.row) o ≡ Some r → IsShaped pool i r
  constant_shaped r None is none e = absurd (none-some r e)
  constant_shaped r (Some (Integer bits)) is none e =
      subst (IsShaped pool i) (same_Some _ r e) (record { shape = record { pushes_unmade = refl; stores_unmade = refl }; keeps = record { flow = refl; raises = refl; stores = inr refl; action = inr refl } })
  constant_shaped r (Some (Float bits)) is none e =
      subst (IsShaped pool i) (same_Some _ r e) (record { shape = record { pushes_unmade = refl; stores_unmade = refl }; keeps = record { flow = refl; raises = refl; stores = inr refl; action = inr refl } })
  constant_shaped r (Some (Str text)) is none e = other_units load_constant r [] (the_made ∷ []) is (units_of [] (the_made ∷ []) none) (sym (same_Some _ r e))
  constant_shaped r (Some (Class name)) is none e = other_units load_constant r [] (the_made ∷ []) is (units_of [] (the_made ∷ []) none) (sym (same_Some _ r e))
  constant_shaped r (Some (MethodHandle kind member)) is none e = other_units load_constant r [] (the_made ∷ []) is (units_of [] (the_made ∷ []) none) (sym (same_Some _ r e))
  constant_shaped r (Some (MethodType descriptor)) is none e = other_units load_constant r [] (the_made ∷ []) is (units_of [] (the_made ∷ []) none) (sym (same_Some _ r e))
  constant_shaped r (Some (Utf8 bytes)) is none e = absurd (none-some r e)
  constant_shaped r (Some (Long bits)) is none e = absurd (none-some r e)
  constant_shaped r (Some (Double bits)) is none e = absurd (none-some r e)
  constant_shaped r (Some (Fieldref class member)) is none e = absurd (none-some r e)
  constant_shaped r (Some (Methodref class member)) is none e = absurd (none-some r e)
  constant_shaped r (Some (InterfaceMethodref class member)) is none e = absurd (none-some r e)
  constant_shaped r (Some (NameAndType name descriptor)) is none e = absurd (none-some r e)
  constant_shaped r (Some (InvokeDynamic bootstrap member)) is none e = absurd (none-some r e)
  constant_shaped r (Some Taken) is none e = absurd (none-some r e)

  all_primitives : (n : ℕ) → are_primitives (replicate n primitive) ≡ true
  all_primitives zero = refl
  all_primitives (suc n) = all_primitives n

  array_shaped : (r : Row) (o : Operands) → i.row.action ≡ make_array → (is_dimensioned o || are_primitives i.row.pops) ≡ true → i.row.pushes ≡ the_made ∷ [] → i.row.stores ≡ [] → r ≡ array_row o i → IsShaped pool i r
  array_shaped r pool_2_and_dimensions is prims pushes stores e =
      other_units make_array r (replicate i.dimensions primitive) i.row.pushes is (record { primitives = all_primitives i.dimensions; pushes_are = pushes; stores_are = stores }) e
  array_shaped r _ is prims pushes stores e = same_row make_array r is (record { primitives = prims; pushes_are = pushes; stores_are = stores }) e

  access_shaped : (a : Action) (r : Row) (pops : List UnitKind → List UnitKind) (pushes : List UnitKind → List UnitSource) → i.row.action ≡ a
      → ((s : Row) → IsAccess pool i.operand pops pushes s → ShapeOf a pool i.operand s) → none_of i.row.stores ≡ true → IsFieldRow pool i pops pushes r → IsShaped pool i r
  access_shaped a r pops pushes is to none f =
      let ks = kinds_of f.field.signature.descriptor in
      other_units a r (pops ks) (pushes ks) is (to _ (record { field = f.field; named = f.named; units = units_of (pops ks) (pushes ks) none })) f.row_is

  call_shaped : (a : Action) (r : Row) (receiver : List UnitKind) → i.row.action ≡ a → ((s : Row) → IsCalling pool i.operand receiver s → ShapeOf a pool i.operand s)
      → (none_of i.row.stores && is_onward i.row.flow) ≡ true → IsCallRow pool i receiver r → IsShaped pool i r
  call_shaped a r receiver is to tested c =
      let none = both_left (none_of i.row.stores) (is_onward i.row.flow) tested in
      let goes = onward_is i.row.flow (both_right (none_of i.row.stores) (is_onward i.row.flow) tested) in
      other_units a r (receiver ++ c.parameters) (map made_for c.results) is
      (to _ (record { method = c.method; named = c.named; parameters = c.parameters; results = c.results; described = c.units; units = units_of (receiver ++ c.parameters) (map made_for c.results) none; goes = goes }))
      c.row_is

  probe_shape : (on_reference i.row.pops && (are_cleared i.row.pushes && none_of i.row.stores)) ≡ true → IsProbe i.row
  probe_shape e =
      let later = both_right (on_reference i.row.pops) (are_cleared i.row.pushes && none_of i.row.stores) e in
      record {
        on = on_reference_is i.row.pops (both_left (on_reference i.row.pops) (are_cleared i.row.pushes && none_of i.row.stores) e);
        pushes_cleared = both_left (are_cleared i.row.pushes) (none_of i.row.stores) later;
        stores_are = none_is i.row.stores (both_right (are_cleared i.row.pushes) (none_of i.row.stores) later);
      }

  shaped_by : (a : Action) (r : Row) → i.row.action ≡ a → shows a i.row.operands i.row.pops i.row.pushes i.row.stores i.row.flow ≡ true → RowBy a pool i r → IsShaped pool i r
  shaped_by plain r is e by =
      same_row plain r is (record {
        pushes_unmade = both_left (are_unmade i.row.pushes) _ e;
        stores_unmade = both_left (are_unmade i.row.stores) _ (both_right (are_unmade i.row.pushes) _ e);
      }) by
  shaped_by load_constant r is e by = constant_shaped r (entry_at pool i.operand) is e by
  shaped_by load_element r is e by =
      let later = both_right (is_element i.row.pops) (is_one_made i.row.pushes && none_of i.row.stores) e in
      same_row load_element r is (record {
        pops_are = element_is i.row.pops (both_left (is_element i.row.pops) (is_one_made i.row.pushes && none_of i.row.stores) e);
        pushes_are = one_made_is i.row.pushes (both_left (is_one_made i.row.pushes) (none_of i.row.stores) later);
        stores_are = none_is i.row.stores (both_right (is_one_made i.row.pushes) (none_of i.row.stores) later);
      }) by
  shaped_by store_element r is e by =
      let later = both_right (is_element_and_value i.row.pops) (none_of i.row.pushes && none_of i.row.stores) e in
      same_row store_element r is (record {
        pops_are = element_and_value_is i.row.pops (both_left (is_element_and_value i.row.pops) (none_of i.row.pushes && none_of i.row.stores) e);
        pushes_are = none_is i.row.pushes (both_left (none_of i.row.pushes) (none_of i.row.stores) later);
        stores_are = none_is i.row.stores (both_right (none_of i.row.pushes) (none_of i.row.stores) later);
      }) by
  shaped_by probe_element r is e by = same_row probe_element r is (probe_shape e) by
  shaped_by probe_array r is e by = same_row probe_array r is (probe_shape e) by
  shaped_by probe_object r is e by = same_row probe_object r is (probe_shape e) by
  shaped_by get_static r is e by = access_shaped get_static r (λ value. []) (map made_for) is (λ s x. x) e by
  shaped_by put_static r is e by = access_shaped put_static r (λ value. value) (λ value. []) is (λ s x. x) e by
  shaped_by get_field r is e by = access_shaped get_field r (λ value. reference ∷ []) (map made_for) is (λ s x. x) e by
  shaped_by put_field r is e by = access_shaped put_field r (λ value. reference ∷ value) (λ value. []) is (λ s x. x) e by
  shaped_by invoke_virtual r is e by = call_shaped invoke_virtual r (reference ∷ []) is (λ s x. x) e by
  shaped_by invoke_special r is e by = call_shaped invoke_special r (reference ∷ []) is (λ s x. x) e by
  shaped_by invoke_static r is e by = call_shaped invoke_static r [] is (λ s x. x) e by
  shaped_by invoke_interface r is e by = call_shaped invoke_interface r (reference ∷ []) is (λ s x. x) e by
  shaped_by make_object r is e by =
      let later = both_right (none_of i.row.pops) (is_one_made i.row.pushes && none_of i.row.stores) e in
      same_row make_object r is (record {
        pops_are = none_is i.row.pops (both_left (none_of i.row.pops) (is_one_made i.row.pushes && none_of i.row.stores) e);
        pushes_are = one_made_is i.row.pushes (both_left (is_one_made i.row.pushes) (none_of i.row.stores) later);
        stores_are = none_is i.row.stores (both_right (is_one_made i.row.pushes) (none_of i.row.stores) later);
      }) by
  shaped_by make_array r is e by =
      let first = both_left (is_dimensioned i.row.operands || are_primitives i.row.pops) (is_one_made i.row.pushes && none_of i.row.stores) e in
      let later = both_right (is_dimensioned i.row.operands || are_primitives i.row.pops) (is_one_made i.row.pushes && none_of i.row.stores) e in
      array_shaped r i.row.operands is first (one_made_is i.row.pushes (both_left (is_one_made i.row.pushes) (none_of i.row.stores) later))
      (none_is i.row.stores (both_right (is_one_made i.row.pushes) (none_of i.row.stores) later)) by
  shaped_by throw_object r is e by = same_row throw_object r is (reference_alone_is i.row.pops (both_left (is_reference_alone i.row.pops) (none_of i.row.stores) e)) by
  shaped_by cast r is e by =
      let later = both_right (is_reference_alone i.row.pops) (is_top i.row.pushes && none_of i.row.stores) e in
      same_row cast r is (record {
        pops_are = reference_alone_is i.row.pops (both_left (is_reference_alone i.row.pops) (is_top i.row.pushes && none_of i.row.stores) e);
        pushes_are = top_is i.row.pushes (both_left (is_top i.row.pushes) (none_of i.row.stores) later);
        stores_are = none_is i.row.stores (both_right (is_top i.row.pushes) (none_of i.row.stores) later);
      }) by
  shaped_by leave_method r is e by = same_row leave_method r is tt by
  shaped_by refused r is e by = same_row refused r is tt by

  pub shaped : (r : Row) → row_of i.opcode ≡ Some i.row → IsRowAt pool i r → IsShaped pool i r
  shaped r of by = shaped_by i.row.action r refl (all_at row_shows rows i.opcode i.row all_show of) by

-- ---- a row that stores names a local variable

abbrev names_where_stored : Row → Bool
names_where_stored r = none_of r.stores || names_local r.operands

all_name : list_all names_where_stored rows ≡ true
all_name = refl

pub names_it : (opcode : ℕ) (r : Row) → row_of opcode ≡ Some r → 0 < length r.stores → names_local r.operands ≡ true
names_it opcode r of some = by r.stores refl (all_at names_where_stored rows opcode r all_name of)
  where
    by : (us : List UnitSource) → r.stores ≡ us → (none_of r.stores || names_local r.operands) ≡ true → names_local r.operands ≡ true
    by [] e h = absurd (let none : length r.stores ≡ 0 = ap length e in omega (arith, some, none))
    by (u ∷ us) e h = ap (λ (vs : List UnitSource). none_of vs || names_local r.operands) (sym e) ∙ h
