-- An instruction of checked code that calls a method, or accesses a field, has an index that leads to one.
use Rattle.std.proofs.Common.{◌≡◌, ℕ, Bool, true, false, not, ◌||◌, List, [], ◌∷◌, Option, Some, None, option_and_then, refl, ap}
use Rattle.std.specs.List.{list_any}
use Rattle.std.specs.Option.{option_map_or}
use Rattle.std.proofs.lemmas.Bool.{false≢true}
use Rattle.jvm_model.specs.declared.class_file.ClassFile.{ClassFile}
use Rattle.jvm_model.specs.declared.code.Instruction.{Instruction as Given}
use Rattle.jvm_model.specs.declared.pool.EntryKind.{EntryKind}
use Rattle.jvm_model.specs.declared.pool.EntryKind.TheVariants as kinds
use Rattle.jvm_model.specs.declared.pool.PoolEntry.{PoolEntry}
use Rattle.jvm_model.specs.declared.pool.PoolEntry.TheVariants.{Utf8, Integer, Float, Long, Double, Class, Str, Fieldref, Methodref, InterfaceMethodref, NameAndType, MethodHandle, MethodType, InvokeDynamic, Taken}
use Rattle.jvm_model.specs.Instructions.{member_of, member_at}
use Rattle.jvm_model.specs.Lookups.{MemberReference, entry_at}
use Rattle.jvm_model.specs.Programs.{Program}
use Rattle.jvm_model.specs.Soundness.{is_of_kind}
use Rattle.jvm_model.specs.Table.{Row, row_of, rows, is_pool_index, a_field, class_method, any_method, interface_method, Action, plain, load_constant, load_element, store_element, probe_element, probe_array, probe_object, get_static, put_static, get_field, put_field, invoke_virtual, invoke_special, invoke_static, invoke_interface, make_object, make_array, throw_object, cast, leave_method, refused, is_call, is_field_access}
use Rattle.flow_graph.specs.Reading.{IsSoundInstruction}
use Rattle.flow_graph.proofs.MemberUses.{field_there, any_method_there, class_method_there, interface_method_there}
use Rattle.flow_graph.proofs.Rows.{expected, leads_by}
use Rattle.lowering_reasons.specs.Named.{NamesMember, LeadsToMethod, LeadsToMember}
use Rattle.lowering_reasons.specs.Reasons.{Judged, IsByInterface, of_class, of_interface}
use Rattle.lowering.proofs.SmallOperands.{passes}

-- ---- the kind of a reference to a method

abbrev LeadsTo : List EntryKind → Option PoolEntry → Type 0
LeadsTo allowed o = option_map_or (λ (e : PoolEntry). list_any (λ (k : EntryKind). is_of_kind k e) allowed) o false ≡ true

module _ (pool : List PoolEntry) (index : ℕ) (allowed : List EntryKind) (no_field : (class member : ℕ) → LeadsTo allowed (Some (Fieldref class member)) → ⊥) (m : MemberReference) where
  kind_of : (o : Option PoolEntry) → entry_at pool index ≡ o → LeadsTo allowed o → option_and_then (member_of pool) o ≡ Some m → (b : Bool) × IsByInterface pool index b
  kind_of None is leads named = absurd cc
  kind_of (Some (Utf8 bytes)) is leads named = absurd cc
  kind_of (Some (Integer bits)) is leads named = absurd cc
  kind_of (Some (Float bits)) is leads named = absurd cc
  kind_of (Some (Long bits)) is leads named = absurd cc
  kind_of (Some (Double bits)) is leads named = absurd cc
  kind_of (Some (Class name)) is leads named = absurd cc
  kind_of (Some (Str text)) is leads named = absurd cc
  kind_of (Some (Fieldref class member)) is leads named = absurd (no_field class member leads)
  kind_of (Some (Methodref class member)) is leads named = (false, of_class class member is refl)
  kind_of (Some (InterfaceMethodref class member)) is leads named = (true, of_interface class member is refl)
  kind_of (Some (NameAndType name descriptor)) is leads named = absurd cc
  kind_of (Some (MethodHandle kind member)) is leads named = absurd cc
  kind_of (Some (MethodType descriptor)) is leads named = absurd cc
  kind_of (Some (InvokeDynamic bootstrap member)) is leads named = absurd cc
  kind_of (Some Taken) is leads named = absurd cc

-- ---- the index

abbrev has_index : Row → Bool
has_index r = not (is_call r.action || is_field_access r.action) || is_pool_index r.operands

implied_by : (a b : Bool) → (not a || b) ≡ true → a ≡ true → b ≡ true
implied_by true b h e = h
implied_by false b h e = absurd cc

index_of : (opcode : ℕ) (r : Row) → row_of opcode ≡ Some r → (is_call r.action || is_field_access r.action) ≡ true → is_pool_index r.operands ≡ true
index_of opcode r is named = implied_by (is_call r.action || is_field_access r.action) (is_pool_index r.operands) (passes has_index rows opcode r refl is) named

left_or : (a b : Bool) → a ≡ true → (a || b) ≡ true
left_or true b e = refl
left_or false b e = absurd cc

right_or : (a b : Bool) → b ≡ true → (a || b) ≡ true
right_or true b e = refl
right_or false b e = e

-- ---- what is named

module _ (p : Program) (current : List ℕ) (c : ClassFile) (i : Given) (r : Row) (sound : IsSoundInstruction c i) (is : row_of i.opcode ≡ Some r) where
  abbrev j : Judged
  j = record { program = p; current = current; pool = c.pool; action = r.action; operands = r.operands; operand = i.operand }

  abbrev Refuses : List EntryKind → Type 0
  Refuses allowed = (class member : ℕ) → LeadsTo allowed (Some (Fieldref class member)) → ⊥

  method_by : (allowed : List EntryKind) → Refuses allowed → is_call r.action ≡ true → LeadsTo allowed (entry_at c.pool i.operand) → (m : MemberReference) → member_at c.pool i.operand ≡ Some m → LeadsToMethod j
  method_by allowed no_field call leads m named =
      let kind = kind_of c.pool i.operand allowed no_field m (entry_at c.pool i.operand) refl leads named in
      record { index = index_of i.opcode r is (left_or (is_call r.action) (is_field_access r.action) call); method = m; named = named; by_interface = kind.0; kind = kind.1 }

  method_named : (a : Action) → r.action ≡ a → is_call a ≡ true → LeadsToMethod j
  method_named invoke_virtual e call =
      let leads = leads_by c i r class_method sound is (ap (λ (b : Action). expected b) e) in
      let there = class_method_there c i.operand sound.sound leads in
      method_by (kinds.Method ∷ []) (λ class member h. false≢true h) (ap is_call e) leads there.method there.named
  method_named invoke_special e call =
      let leads = leads_by c i r any_method sound is (ap (λ (b : Action). expected b) e) in
      let there = any_method_there c i.operand sound.sound leads in
      method_by (kinds.Method ∷ kinds.InterfaceMethod ∷ []) (λ class member h. false≢true h) (ap is_call e) leads there.method there.named
  method_named invoke_static e call =
      let leads = leads_by c i r any_method sound is (ap (λ (b : Action). expected b) e) in
      let there = any_method_there c i.operand sound.sound leads in
      method_by (kinds.Method ∷ kinds.InterfaceMethod ∷ []) (λ class member h. false≢true h) (ap is_call e) leads there.method there.named
  method_named invoke_interface e call =
      let leads = leads_by c i r interface_method sound is (ap (λ (b : Action). expected b) e) in
      let there = interface_method_there c i.operand sound.sound leads in
      method_by (kinds.InterfaceMethod ∷ []) (λ class member h. false≢true h) (ap is_call e) leads there.method there.named
  method_named plain e call = absurd (false≢true call)
  method_named load_constant e call = absurd (false≢true call)
  method_named load_element e call = absurd (false≢true call)
  method_named store_element e call = absurd (false≢true call)
  method_named probe_element e call = absurd (false≢true call)
  method_named probe_array e call = absurd (false≢true call)
  method_named probe_object e call = absurd (false≢true call)
  method_named get_static e call = absurd (false≢true call)
  method_named put_static e call = absurd (false≢true call)
  method_named get_field e call = absurd (false≢true call)
  method_named put_field e call = absurd (false≢true call)
  method_named make_object e call = absurd (false≢true call)
  method_named make_array e call = absurd (false≢true call)
  method_named throw_object e call = absurd (false≢true call)
  method_named cast e call = absurd (false≢true call)
  method_named leave_method e call = absurd (false≢true call)
  method_named refused e call = absurd (false≢true call)

  field_by : expected r.action ≡ Some a_field → is_field_access r.action ≡ true → LeadsToMember j
  field_by e access =
      let there = field_there c i.operand sound.sound (leads_by c i r a_field sound is e) in
      record { index = index_of i.opcode r is (right_or (is_call r.action) (is_field_access r.action) access); member = there.method; named = there.named }

  field_named : (a : Action) → r.action ≡ a → is_field_access a ≡ true → LeadsToMember j
  field_named get_static e access = field_by (ap (λ (b : Action). expected b) e) (ap is_field_access e)
  field_named put_static e access = field_by (ap (λ (b : Action). expected b) e) (ap is_field_access e)
  field_named get_field e access = field_by (ap (λ (b : Action). expected b) e) (ap is_field_access e)
  field_named put_field e access = field_by (ap (λ (b : Action). expected b) e) (ap is_field_access e)
  field_named plain e access = absurd (false≢true access)
  field_named load_constant e access = absurd (false≢true access)
  field_named load_element e access = absurd (false≢true access)
  field_named store_element e access = absurd (false≢true access)
  field_named probe_element e access = absurd (false≢true access)
  field_named probe_array e access = absurd (false≢true access)
  field_named probe_object e access = absurd (false≢true access)
  field_named invoke_virtual e access = absurd (false≢true access)
  field_named invoke_special e access = absurd (false≢true access)
  field_named invoke_static e access = absurd (false≢true access)
  field_named invoke_interface e access = absurd (false≢true access)
  field_named make_object e access = absurd (false≢true access)
  field_named make_array e access = absurd (false≢true access)
  field_named throw_object e access = absurd (false≢true access)
  field_named cast e access = absurd (false≢true access)
  field_named leave_method e access = absurd (false≢true access)
  field_named refused e access = absurd (false≢true access)

  pub names_member : NamesMember j
  names_member = record { call = λ call. method_named r.action refl call; access = λ access. field_named r.action refl access }
