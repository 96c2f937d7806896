-- Each instruction without a reason has an operation, whose moves are in order.
use Rattle.std.proofs.Common.{◌≡◌, ℕ, ◌+◌, ◌-◌, Bool, true, false, ◌&&◌, ◌||◌, cond, eqb, List, [], ◌∷◌, length, map, Option, Some, None, MatchBool, if◌then◌else◌, refl, sym, ap, ◌∙◌, subst, arith}
use Rattle.std.specs.List.{list_all}
use Rattle.std.proofs.lemmas.Bool.{false≢true, true≢false}
use Rattle.std.proofs.lemmas.Option.{same_Some}
use Rattle.jvm_model.specs.declared.number.MethodNo.{MethodNo}
use Rattle.jvm_model.specs.declared.opcode.Operands.{Operands as CodeOperands}
use Rattle.jvm_model.specs.declared.opcode.Operands.TheVariants as operands
use Rattle.jvm_model.specs.declared.pool.PoolEntry.{PoolEntry}
use Rattle.jvm_model.specs.Instructions.{DecodedInstruction, array_row, kinds_of, made_for, member_at, HasDescriptorUnits, IsCallRow, IsFieldRow, RowBy}
use Rattle.jvm_model.specs.LinkedPrograms.{IsProgram}
use Rattle.jvm_model.specs.Lookups.{MemberReference, Signature}
use Rattle.jvm_model.specs.RowViews.{operands_view, row_view}
use Rattle.jvm_model.specs.Subtypes.{array_of}
use Rattle.jvm_model.specs.Table.{Row, row_of, UnitKind, UnitSource, primitive, reference, Operands, pool_2_and_dimensions, Action, plain, load_constant, load_element, store_element, probe_element, probe_array, probe_object, get_static, put_static, get_field, put_field, invoke_virtual, invoke_special, invoke_static, invoke_interface, make_object, make_array, throw_object, cast, leave_method, refused, is_call, is_field_access}
use Rattle.machine_bytecode.specs.Machine.{NamesArrays, NamesClass, NamesField, NamesMethod, nested_arrays, primitive_array, nested, of_primitives, of_references}
use Rattle.machine_bytecode.specs.Start.{boot_site}
use Rattle.machine_bytecode.specs.States.{is_reference_kind, is_reference_type}
use Rattle.flow_graph.specs.Effects.{with_row}
use Rattle.flow_graph.specs.Reading.{IsSoundInstruction}
use Rattle.program_model.specs.Numbers.{name_at}
use Rattle.lowering_reasons.specs.declared.judgement.NamedMember.TheVariants as members
use Rattle.lowering_reasons.specs.Named.{NamesMember}
use Rattle.lowering_reasons.specs.Reasons.{IsFirstReason, wants_static}
use Rattle.op_model.specs.declared.op.CallKind.{CallKind}
use Rattle.op_model.specs.declared.op.CallKind.TheVariants as calls
use Rattle.op_model.specs.declared.op.Op.{Op}
use Rattle.op_model.specs.declared.op.Op.TheVariants.{Assign, Load, Store, LoadElement, StoreElement, LoadStatic, StoreStatic, New, NewArray, Constant, Call, Return, Throw, Cast, Probe}
use Rattle.lowering_spec.specs.Operations.{Placed, IsAssign, IsCallOp, IsChosen, IsOp, field_no, new_site, unit_slots, value_slot}
use Rattle.lowering_operations.specs.ByAction.{HasRow, call_kind, names_class, resolved_method}
use Rattle.lowering_operations.specs.Constants.{constant_class}
use Rattle.lowering_operations.specs.MoveLists.{cleared_from, moves_of}
use Rattle.lowering_operations.specs.Orders.{IsOrderedOp}
use Rattle.lowering_operations.specs.Placements.{judged_at, placed_at}
use Rattle.lowering_operations.specs.declared.placement.Placement.{Placement}
use Rattle.lowering_operations.proofs.ConstantOperations.{loads_number, loads_object, number_in_order}
use Rattle.lowering_operations.proofs.FieldOperations.{is_primitive, pushed_moves, pushes_primitives}
use Rattle.lowering_operations.proofs.Lifting.{no_method_constant, not_refused}
use Rattle.lowering_operations.proofs.MovesMade.{are_moves_of, is_read, makes_nothing}
use Rattle.lowering_operations.proofs.Named.{callee}
use Rattle.lowering_operations.proofs.RowFacts.{array_of_references, class_named, class_operands, is_class_operands, no_stores, plain_makes_nothing}
use Rattle.lowering.proofs.NamedMembers.{names_member}
use Rattle.lowering_laws.proofs.FieldsNamed.{Accessed, accessed}
use Rattle.lowering_laws.proofs.Members.{field_there, method_there, target_there}

-- ---- the operands of instructions that make arrays

abbrev is_type : CodeOperands → Bool
is_type operands.TypeCode = true
is_type _ = false

abbrev is_nested : CodeOperands → Bool
is_nested operands.Pool2AndDimensions = true
is_nested _ = false

type_is : (o : CodeOperands) → is_type o ≡ true → o ≡ operands.TypeCode
type_is operands.TypeCode e = refl
type_is _ e = absurd (false≢true e)

nested_is : (o : CodeOperands) → is_nested o ≡ true → o ≡ operands.Pool2AndDimensions
nested_is operands.Pool2AndDimensions e = refl
nested_is _ e = absurd (false≢true e)

array_action : (o : Operands) (i : DecodedInstruction) → (array_row o i).action ≡ i.row.action
array_action pool_2_and_dimensions i = refl
array_action _ i = refl

-- ---- a value of no reference type has primitives

primitives_by : (a b d : Bool) → is_reference_kind (cond a (primitive ∷ primitive ∷ []) (cond b (reference ∷ []) (cond d [] (primitive ∷ [])))) ≡ false
    → list_all is_primitive (cond a (primitive ∷ primitive ∷ []) (cond b (reference ∷ []) (cond d [] (primitive ∷ [])))) ≡ true
primitives_by true b d e = refl
primitives_by false true d e = absurd cc
primitives_by false false true e = refl
primitives_by false false false e = refl

all_primitive : (text : List ℕ) → is_reference_type text ≡ false → list_all is_primitive (kinds_of text) ≡ true
all_primitive [] e = refl
all_primitive (letter ∷ rest) e = primitives_by (eqb letter 74 || eqb letter 68) (eqb letter 76 || eqb letter 91) (eqb letter 86) e

-- ---- the units of a call, by its row

record CallUnits (pool : List PoolEntry) (i : DecodedInstruction) (r : Row) : Type 0 where
  pub method : MemberReference
  pub named : member_at pool i.operand ≡ Some method
  pub parameters : List UnitKind
  pub results : List UnitKind
  pub units : HasDescriptorUnits method.signature.descriptor parameters results
  pub same_action : r.action ≡ i.row.action

units_of : (pool : List PoolEntry) (i : DecodedInstruction) (receiver : List UnitKind) (r : Row) → IsCallRow pool i receiver r → CallUnits pool i r
units_of pool i receiver r x =
    record { method = x.method; named = x.named; parameters = x.parameters; results = x.results; units = x.units; same_action = ap (λ (s : Row). s.action) x.row_is }

call_units : (a : Action) (pool : List PoolEntry) (i : DecodedInstruction) (r : Row) → is_call a ≡ true → RowBy a pool i r → CallUnits pool i r
call_units invoke_virtual pool i r e x = units_of pool i (reference ∷ []) r x
call_units invoke_special pool i r e x = units_of pool i (reference ∷ []) r x
call_units invoke_static pool i r e x = units_of pool i [] r x
call_units invoke_interface pool i r e x = units_of pool i (reference ∷ []) r x
call_units _ pool i r e x = absurd (false≢true e)

module _ (at : Placement) (program : IsProgram at.program.now) (sound : IsSoundInstruction at.class.now at.instruction.now) (known : row_of at.instruction.now.opcode ≡ Some (row_view at.row.now))
    (free : IsFirstReason (judged_at at) None) (has : HasRow at) where
  abbrev listed : Row
  listed = row_view at.row.now

  abbrev here : DecodedInstruction
  here = with_row at.instruction.now listed

  abbrev pub lowest_slot : ℕ
  lowest_slot = at.top - length has.row.pops

  pub lowest : lowest_slot + length has.row.pops ≡ at.top
  lowest = let enough = has.enough in omega (arith, enough)

  abbrev pub placed : Placed
  placed = placed_at at has.row lowest_slot

  -- its moves are those of the row, in their order
  abbrev InOrder : Op → Type 0
  InOrder op = IsOrderedOp has.row at.instruction.now.operand lowest_slot op

  -- an operation of the instruction
  abbrev pub Made : Type 0
  Made = (op : Op) × IsOp has.row.action placed op × InOrder op

  row_by : (a : Action) → listed.action ≡ a → RowBy a at.class.now.pool here has.row
  row_by a e = subst (λ (b : Action). RowBy b at.class.now.pool here has.row) e has.of_row

  made : (a : Action) → has.row.action ≡ a → (op : Op) → IsOp a placed op → InOrder op → Made
  made a e op is order = (op, subst (λ (b : Action). IsOp b placed op) (sym e) is, order)

  same_action : (r : Row) (a : Action) → has.row ≡ r → r.action ≡ listed.action → listed.action ≡ a → has.row.action ≡ a
  same_action r a is same e = ap (λ (s : Row). s.action) is ∙ same ∙ e

  of_table : (a : Action) → has.row ≡ listed → listed.action ≡ a → (op : Op) → IsOp a placed op → InOrder op → Made
  of_table a is e op h order = made a (same_action listed a is refl e) op h order

  either : (b : Bool) (op other : Op) → InOrder op → InOrder other → InOrder (if b then op else other)
  either true op other h k = h
  either false op other h k = k

  -- ---- classes and arrays

  class_there : names_class listed.action ≡ true → NamesClass at.class.now.pool at.instruction.now.operand
  class_there e = class_named at.class.now at.instruction.now listed sound known (class_operands at.instruction.now.opcode listed known e)

  abbrev Arrays : Type 0
  Arrays = (arrays : List (List ℕ)) × NamesArrays at.class.now.pool here arrays

  arrays_there : listed.action ≡ make_array → Arrays
  arrays_there e = by (is_type at.row.now.operands) refl (is_nested at.row.now.operands) refl
    where
      by : (b : Bool) → is_type at.row.now.operands ≡ b → (d : Bool) → is_nested at.row.now.operands ≡ d → Arrays
      by true is d other = (primitive_array at.instruction.now.operand ∷ [], of_primitives (ap operands_view (type_is at.row.now.operands is)) refl)
      by false not_type true is =
          let same = nested_is at.row.now.operands is in
          let names = class_named at.class.now at.instruction.now listed sound known (ap (λ o. is_class_operands (operands_view o)) same) in
          (nested_arrays at.instruction.now.dimensions names.class, nested (ap operands_view same) names refl)
      by false not_type false not_nested =
          let is = array_of_references at.instruction.now.opcode listed at.row.now.operands known e refl (λ x. true≢false (sym (ap is_type x) ∙ not_type)) (λ x. true≢false (sym (ap is_nested x) ∙ not_nested)) in
          let names = class_named at.class.now at.instruction.now listed sound known (ap is_class_operands is) in
          (array_of names.class ∷ [], of_references is names refl)

  -- ---- members

  named : NamesMember (judged_at at)
  named = names_member at.program.now (name_at at.program.now at.current.0) at.class.now at.instruction.now listed sound known

  field_of : (a : Action) → listed.action ≡ a → is_field_access a ≡ true → Accessed (judged_at at) (wants_static a)
  field_of a e access =
      let there = field_there (judged_at at) program free named (ap is_field_access e ∙ access) in
      subst (λ (b : Action). Accessed (judged_at at) (wants_static b)) e (accessed (judged_at at) there.0 there.1)

  no_local : (a : Action) → listed.action ≡ a → is_field_access a ≡ true → listed.stores ≡ []
  no_local a e access = no_stores at.instruction.now.opcode listed known (ap is_field_access e ∙ access)

  -- ---- calls

  moved : (kind : CallKind) (r : Row) (b : ℕ) (n : NamesMethod at.program.now at.class.now.pool at.instruction.now.operand) (chosen : Option MethodNo)
      → IsChosen kind (placed_at at r b) n chosen → IsChosen kind placed n chosen
  moved calls.Virtual r b n chosen is = is
  moved calls.Special r b n chosen is = is
  moved calls.Static r b n chosen is = is
  moved calls.Interface r b n chosen is = is

  called : is_call listed.action ≡ true → (op : Op) × IsCallOp placed (call_kind listed.action) op
  called call =
      let looked = method_there (judged_at at) program free named call in
      let target = target_there (judged_at at) program free named looked.0 call looked.1 in
      let number : MethodNo = record { 0 = looked.0 } in
      let of_member : Placement = record {
        program = at.program;
        method = at.method;
        current = at.current;
        class = at.class;
        instruction = at.instruction;
        row = at.row;
        member = members.Method number target.0;
        offset = at.offset;
        top = at.top;
      } in
      let is = callee of_member number target.0 (resolved_method listed.action number target.0) refl (looked.1, target.1) refl in
      let x = call_units listed.action at.class.now.pool here has.row call has.of_row in (
        Call (record {
          kind = call_kind listed.action;
          resolved = record { 0 = is.names.resolved };
          chosen = target.0;
          name = is.names.called.signature.name;
          descriptor = is.names.called.signature.descriptor;
          arguments = unit_slots lowest_slot has.row.pops;
          result = value_slot lowest_slot x.results;
        }),
        record {
          names = is.names;
          chosen = target.0;
          is_chosen = moved (call_kind listed.action) listed 0 is.names target.0 is.chosen;
          parameters = x.parameters;
          results = x.results;
          units = subst (λ (y : MemberReference). HasDescriptorUnits y.signature.descriptor x.parameters x.results) (same_Some x.method is.names.called (sym x.named ∙ is.names.named)) x.units;
          is = refl;
        },
      )

  call_action : (a : Action) → listed.action ≡ a → is_call a ≡ true → has.row.action ≡ a
  call_action a e call = (call_units listed.action at.class.now.pool here has.row (ap is_call e ∙ call) has.of_row).same_action ∙ e

  call_made : (a : Action) (e : listed.action ≡ a) → is_call a ≡ true → ((op : Op) → IsCallOp placed (call_kind a) op → IsOp a placed op) → Made
  call_made a e call told =
      let c = called (ap is_call e ∙ call) in
      made a (call_action a e call) c.0 (told c.0 (subst (λ (b : Action). IsCallOp placed (call_kind b) c.0) e c.1)) (subst (λ (op : Op). InOrder op) (sym c.1.is) tt)

  -- ---- constants

  constant_by : listed.action ≡ load_constant → (o : Option (List ℕ)) → o ≡ constant_class at.class.now.pool at.instruction.now.operand → Made
  constant_by e (Some class) is =
      let op = Constant (boot_site class) at.top in
      (op, (loads_object at e at.class.now.pool class op refl is refl).for_row has.row has.of_row lowest_slot lowest, tt)
  constant_by e None is =
      let moves = cleared_from 1 at.top in
      let none = no_method_constant (judged_at at) free in (
        Assign moves,
        (loads_number at e at.class.now.pool moves refl none is refl).for_row has.row has.of_row lowest_slot lowest,
        (number_in_order at e at.class.now.pool moves refl none is refl).for_row has.row has.of_row lowest_slot lowest,
      )

  by_action : (a : Action) → listed.action ≡ a → Made
  by_action plain e =
      let same : has.row ≡ listed = row_by plain e in
      let reads : makes_nothing has.row ≡ true = ap makes_nothing same ∙ plain_makes_nothing at.instruction.now.opcode listed known e in
      let moves = moves_of has.row at.instruction.now.operand lowest_slot in
      of_table plain same e (Assign moves) (record { moves = moves; is = refl; each = are_moves_of has.row at.instruction.now.operand lowest_slot reads }) refl
  by_action load_constant e = constant_by e (constant_class at.class.now.pool at.instruction.now.operand) refl
  by_action load_element e = of_table load_element (row_by load_element e) e (LoadElement lowest_slot lowest_slot) refl tt
  by_action store_element e = of_table store_element (row_by store_element e) e (StoreElement lowest_slot (lowest_slot + 2)) refl tt
  by_action probe_element e = of_table probe_element (row_by probe_element e) e (Probe lowest_slot) refl tt
  by_action probe_array e = of_table probe_array (row_by probe_array e) e (Probe lowest_slot) refl tt
  by_action probe_object e = of_table probe_object (row_by probe_object e) e (Probe lowest_slot) refl tt
  by_action invoke_virtual e = call_made invoke_virtual e refl (λ op is. is)
  by_action invoke_special e = call_made invoke_special e refl (λ op is. is)
  by_action invoke_static e = call_made invoke_static e refl (λ op is. is)
  by_action invoke_interface e = call_made invoke_interface e refl (λ op is. is)
  by_action make_object e =
      let names = class_there (ap names_class e) in
      of_table make_object (row_by make_object e) e (New (new_site placed names.class) lowest_slot) (names, refl) tt
  by_action make_array e =
      let arrays = arrays_there e in
      made make_array (same_action (array_row listed.operands here) make_array (row_by make_array e) (array_action listed.operands here) e) (NewArray (map (new_site placed) arrays.0) lowest_slot) (arrays.0, arrays.1, refl) tt
  by_action throw_object e = of_table throw_object (row_by throw_object e) e (Throw lowest_slot) refl tt
  by_action cast e =
      let names = class_there (ap names_class e) in
      of_table cast (row_by cast e) e (Cast names.class lowest_slot) (names, refl) tt
  by_action leave_method e = of_table leave_method (row_by leave_method e) e (Return (value_slot lowest_slot has.row.pops)) refl tt
  by_action refused e = absurd (not_refused (judged_at at) free e)
  by_action get_field e =
      let x = row_by get_field e in
      let n = (field_of get_field e refl).names in
      let reads = Load lowest_slot (field_no n.number) lowest_slot in
      let refers = is_reference_type n.field.signature.descriptor in
      made get_field (ap (λ (s : Row). s.action) x.row_is ∙ e) (if refers then reads else Probe lowest_slot) (record { names = n; is = refl }) (either refers reads (Probe lowest_slot) tt tt)
  by_action put_field e =
      let x = row_by put_field e in
      let n = (field_of put_field e refl).names in
      let writes = Store lowest_slot (field_no n.number) (lowest_slot + 1) in
      let refers = is_reference_type n.field.signature.descriptor in
      made put_field (ap (λ (s : Row). s.action) x.row_is ∙ e) (if refers then writes else Probe lowest_slot) (record { names = n; is = refl }) (either refers writes (Probe lowest_slot) tt tt)
  by_action get_static e = by (is_reference_type n.field.signature.descriptor) refl
    where
      x : IsFieldRow at.class.now.pool here (λ value. []) (map made_for) has.row
      x = row_by get_static e

      there : Accessed (judged_at at) true
      there = field_of get_static e refl

      n : NamesField at.program.now at.class.now.pool at.instruction.now.operand true
      n = there.names

      same : has.row.action ≡ get_static
      same = ap (λ (s : Row). s.action) x.row_is ∙ e

      static_op : (op : Op) (b : Bool) → is_reference_type n.field.signature.descriptor ≡ b → MatchBool b (op ≡ LoadStatic (field_no n.number) lowest_slot) (IsAssign placed op) → InOrder op → Made
      static_op op b is h order =
          made get_static same op (record { names = n; is = subst (λ (d : Bool). MatchBool d (op ≡ LoadStatic (field_no n.number) lowest_slot) (IsAssign placed op)) (sym is) h }) order

      by : (b : Bool) → is_reference_type n.field.signature.descriptor ≡ b → Made
      by true is = static_op (LoadStatic (field_no n.number) lowest_slot) true is refl tt
      by false is =
          let kinds = kinds_of n.field.signature.descriptor in
          let signatures : x.field.signature ≡ n.field.signature = ap (λ (m : MemberReference). m.signature) (same_Some x.field n.named (sym x.named ∙ n.is_named)) ∙ sym there.as_named in
          let moves = cleared_from (length kinds) lowest_slot in
          let stores : has.row.stores ≡ [] = ap (λ (s : Row). s.stores) x.row_is ∙ no_local get_static e refl in
          let pops : has.row.pops ≡ [] = ap (λ (s : Row). s.pops) x.row_is in
          let pushes : has.row.pushes ≡ map made_for kinds = ap (λ (s : Row). s.pushes) x.row_is ∙ ap (λ (s : Signature). map made_for (kinds_of s.descriptor)) signatures in
          let primitives = all_primitive n.field.signature.descriptor is in
          let each = pushes_primitives has.row kinds at.instruction.now.operand lowest_slot stores pops pushes primitives in
          static_op (Assign moves) false is (record { moves = moves; is = refl; each = each }) (sym (pushed_moves has.row kinds at.instruction.now.operand lowest_slot stores pops pushes primitives))
  by_action put_static e = by (is_reference_type n.field.signature.descriptor) refl
    where
      x : IsFieldRow at.class.now.pool here (λ value. value) (λ value. []) has.row
      x = row_by put_static e

      n : NamesField at.program.now at.class.now.pool at.instruction.now.operand true
      n = (field_of put_static e refl).names

      same : has.row.action ≡ put_static
      same = ap (λ (s : Row). s.action) x.row_is ∙ e

      static_op : (op : Op) (b : Bool) → is_reference_type n.field.signature.descriptor ≡ b → MatchBool b (op ≡ StoreStatic (field_no n.number) lowest_slot) (IsAssign placed op) → InOrder op → Made
      static_op op b is h order =
          made put_static same op (record { names = n; is = subst (λ (d : Bool). MatchBool d (op ≡ StoreStatic (field_no n.number) lowest_slot) (IsAssign placed op)) (sym is) h }) order

      by : (b : Bool) → is_reference_type n.field.signature.descriptor ≡ b → Made
      by true is = static_op (StoreStatic (field_no n.number) lowest_slot) true is refl tt
      by false is =
          let stores : has.row.stores ≡ [] = ap (λ (s : Row). s.stores) x.row_is ∙ no_local put_static e refl in
          let pushes : has.row.pushes ≡ [] = ap (λ (s : Row). s.pushes) x.row_is in
          let reads : makes_nothing has.row ≡ true = ap (λ (us : List UnitSource). list_all is_read us && list_all is_read has.row.pushes) stores ∙ ap (λ (us : List UnitSource). list_all is_read us) pushes in
          let moves = moves_of has.row at.instruction.now.operand lowest_slot in
          static_op (Assign moves) false is (record { moves = moves; is = refl; each = are_moves_of has.row at.instruction.now.operand lowest_slot reads }) refl

  pub operation_of : Made
  operation_of = by_action listed.action refl
