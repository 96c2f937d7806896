-- What a sound instruction does to the operand stack, by the action of its row.
use Rattle.std.proofs.Common.{◌≡◌, ℕ, ◌+◌, true, false, List, [], ◌∷◌, ◌++◌, length, map, Option, Some, None, option_and_then, Result, Ok, Err, IfOk, refl, sym, ap, ◌∙◌, subst, length-append, arith}
use Rattle.std.specs.List.{list_any}
use Rattle.std.specs.Option.{option_map_or}
use Rattle.std.proofs.lemmas.List.{length-map}
use Rattle.jvm_model.specs.declared.class_file.ClassFile.{ClassFile}
use Rattle.jvm_model.specs.declared.code.Instruction.{Instruction as Given}
use Rattle.jvm_model.specs.declared.pool.EntryKind.{EntryKind}
use Rattle.jvm_model.specs.declared.pool.PoolEntry.{PoolEntry}
use Rattle.jvm_model.specs.declared.pool.PoolEntry.TheVariants.{Utf8, Integer, Float, Long, Double, Class, Str, Fieldref, Methodref, InterfaceMethodref, NameAndType, MethodHandle, MethodType, InvokeDynamic, Taken}
use Rattle.jvm_model.specs.declared.grammar.Grammar.TheVariants as grammars
use Rattle.jvm_model.specs.Descriptors.{IsMethodDescriptor}
use Rattle.jvm_model.specs.Instructions.{member_at, kinds_of, made_for, with_units, constant_row, IsFieldRow, IsCallRow, RowBy}
use Rattle.jvm_model.specs.InstructionUses.{target_kinds}
use Rattle.jvm_model.specs.Lookups.{MemberReference, Signature, entry_at, text_at}
use Rattle.jvm_model.specs.Soundness.{is_of_kind}
use Rattle.jvm_model.specs.Table.{Row, row_of, UnitKind, reference, UnitSource, loadable, a_field, class_method, any_method, interface_method, call_site, Action, load_constant, get_static, put_static, get_field, put_field, invoke_virtual, invoke_special, invoke_static, invoke_interface, refused}
use Rattle.flow_graph.specs.declared.effect.Effect.{Effect}
use Rattle.flow_graph.specs.Effects.{with_row, site_at, IsEffectBy}
use Rattle.flow_graph.specs.Reading.{IsSoundInstruction, IsCallEffect, IsCallAt, member_descriptor_at, site_descriptor_at}
use Rattle.flow_graph.proofs.Described.{member_text, site_text}
use Rattle.flow_graph.proofs.MemberUses.{NamesMember, field_there, any_method_there, class_method_there, interface_method_there, site_there}
use Rattle.flow_graph.proofs.Rows.{expected, leads_by}

-- what follows of each value that was made
pub if_ok : {T E : Type 0} (r : Result T E) (P Q : T → Type 0) → IfOk r P → ((x : T) → P x → Q x) → IfOk r Q
if_ok (Ok x) P Q h more = more x h
if_ok (Err e) P Q h more = tt

abbrev effect : ℕ → ℕ → Effect
effect pops pushes = record { pops = pops; pushes = pushes }

same_effect : (a b m n : ℕ) → a ≡ m → b ≡ n → effect a b ≡ effect m n
same_effect a b m n p q = ap (λ (x : ℕ). effect x b) p ∙ ap (λ (y : ℕ). effect m y) q

of_action : (c : ClassFile) (i : Given) (r resolved : Row) (a : Action) → r.action ≡ a → RowBy a c.pool (with_row i r) resolved → RowBy r.action c.pool (with_row i r) resolved
of_action c i r resolved a e is = subst (λ (b : Action). RowBy b c.pool (with_row i r) resolved) (sym e) is

by_action : (c : ClassFile) (i : Given) (r : Row) (e : Effect) (a : Action) → r.action ≡ a → IsEffectBy a c.pool i r e → IsEffectBy r.action c.pool i r e
by_action c i r e a same is = subst (λ (b : Action). IsEffectBy b c.pool i r e) (sym same) is

-- ---- ldc and ldc_w

record HasConstant (r : Row) (o : Option PoolEntry) : Type 0 where
  pub resolved : Row
  pub is : option_and_then (constant_row r) o ≡ Some resolved
  pub pops : length resolved.pops ≡ 0
  pub pushes : length resolved.pushes ≡ 1

abbrev Loads : Option PoolEntry → Type 0
Loads o = option_map_or (λ (e : PoolEntry). list_any (λ (k : EntryKind). is_of_kind k e) (target_kinds loadable)) o false ≡ true

constant_of : (r : Row) (o : Option PoolEntry) → Loads o → HasConstant r o
constant_of r None h = absurd cc
constant_of r (Some (Utf8 bytes)) h = absurd cc
constant_of r (Some (Integer bits)) h = record { resolved = _; is = refl; pops = refl; pushes = refl }
constant_of r (Some (Float bits)) h = record { resolved = _; is = refl; pops = refl; pushes = refl }
constant_of r (Some (Long bits)) h = absurd cc
constant_of r (Some (Double bits)) h = absurd cc
constant_of r (Some (Class name)) h = record { resolved = _; is = refl; pops = refl; pushes = refl }
constant_of r (Some (Str text)) h = record { resolved = _; is = refl; pops = refl; pushes = refl }
constant_of r (Some (Fieldref class signature)) h = absurd cc
constant_of r (Some (Methodref class signature)) h = absurd cc
constant_of r (Some (InterfaceMethodref class signature)) h = absurd cc
constant_of r (Some (NameAndType name descriptor)) h = absurd cc
constant_of r (Some (MethodHandle kind member)) h = record { resolved = _; is = refl; pops = refl; pushes = refl }
constant_of r (Some (MethodType descriptor)) h = record { resolved = _; is = refl; pops = refl; pushes = refl }
constant_of r (Some (InvokeDynamic bootstrap signature)) h = absurd cc
constant_of r (Some Taken) h = absurd cc

expects : (r : Row) (a : Action) → r.action ≡ a → expected r.action ≡ expected a
expects r a e = ap expected e

pub loads_constant : (c : ClassFile) (i : Given) (r : Row) → row_of i.opcode ≡ Some r → r.action ≡ load_constant → IsSoundInstruction c i → IsEffectBy r.action c.pool i r (effect 0 1)
loads_constant c i r is a sound =
    let k = constant_of r (entry_at c.pool i.operand) (leads_by c i r loadable sound is (expects r load_constant a)) in
    by_action c i r (effect 0 1) load_constant a (record {
      resolved = k.resolved;
      is_row = of_action c i r k.resolved load_constant a k.is;
      effect_is = same_effect 0 1 (length k.resolved.pops) (length k.resolved.pushes) (sym k.pops) (sym k.pushes);
    })

-- ---- accesses to fields

-- the units of the field that is named
abbrev Counts : ClassFile → Given → ℕ → Type 0
Counts c i units = (m : MemberReference) → member_at c.pool i.operand ≡ Some m → units ≡ length (kinds_of m.signature.descriptor)

record HasField (c : ClassFile) (i : Given) (r : Row) (units : ℕ) (pops : List UnitKind → List UnitKind) (pushes : List UnitKind → List UnitSource) : Type 0 where
  pub value : List UnitKind
  pub counted : units ≡ length value
  pub is_row : IsFieldRow c.pool (with_row i r) pops pushes (with_units r (pops value) (pushes value))

field_of : (c : ClassFile) (i : Given) (r : Row) (units : ℕ) (pops : List UnitKind → List UnitKind) (pushes : List UnitKind → List UnitSource) → row_of i.opcode ≡ Some r → expected r.action ≡ Some a_field → IsSoundInstruction c i → Counts c i units
    → HasField c i r units pops pushes
field_of c i r units pops pushes is e sound counts =
    let f = field_there c i.operand sound.sound (leads_by c i r a_field sound is e) in
    record { value = kinds_of f.method.signature.descriptor; counted = counts f.method f.named; is_row = record { field = f.method; named = f.named; is = f.in_grammar; row_is = refl } }

pub gets_static : (c : ClassFile) (i : Given) (r : Row) (units : ℕ) → row_of i.opcode ≡ Some r → r.action ≡ get_static → Counts c i units → IsSoundInstruction c i → IsEffectBy r.action c.pool i r (effect 0 units)
gets_static c i r units is a counts sound =
    let f = field_of c i r units (λ value. []) (map made_for) is (expects r get_static a) sound counts in
    by_action c i r (effect 0 units) get_static a (record {
      resolved = with_units r [] (map made_for f.value);
      is_row = of_action c i r (with_units r [] (map made_for f.value)) get_static a f.is_row;
      effect_is = same_effect 0 units 0 (length (map made_for f.value)) refl (f.counted ∙ sym (length-map f.value made_for));
    })

pub puts_static : (c : ClassFile) (i : Given) (r : Row) (units : ℕ) → row_of i.opcode ≡ Some r → r.action ≡ put_static → Counts c i units → IsSoundInstruction c i → IsEffectBy r.action c.pool i r (effect units 0)
puts_static c i r units is a counts sound =
    let f = field_of c i r units (λ value. value) (λ value. []) is (expects r put_static a) sound counts in
    by_action c i r (effect units 0) put_static a (record {
      resolved = with_units r f.value [];
      is_row = of_action c i r (with_units r f.value []) put_static a f.is_row;
      effect_is = same_effect units 0 (length f.value) 0 f.counted refl;
    })

pub gets_field : (c : ClassFile) (i : Given) (r : Row) (units : ℕ) → row_of i.opcode ≡ Some r → r.action ≡ get_field → Counts c i units → IsSoundInstruction c i → IsEffectBy r.action c.pool i r (effect 1 units)
gets_field c i r units is a counts sound =
    let f = field_of c i r units (λ value. reference ∷ []) (map made_for) is (expects r get_field a) sound counts in
    by_action c i r (effect 1 units) get_field a (record {
      resolved = with_units r (reference ∷ []) (map made_for f.value);
      is_row = of_action c i r (with_units r (reference ∷ []) (map made_for f.value)) get_field a f.is_row;
      effect_is = same_effect 1 units 1 (length (map made_for f.value)) refl (f.counted ∙ sym (length-map f.value made_for));
    })

pub puts_field : (c : ClassFile) (i : Given) (r : Row) (units : ℕ) → row_of i.opcode ≡ Some r → r.action ≡ put_field → Counts c i units → IsSoundInstruction c i → IsEffectBy r.action c.pool i r (effect (1 + units) 0)
puts_field c i r units is a counts sound =
    let f = field_of c i r units (λ value. reference ∷ value) (λ value. []) is (expects r put_field a) sound counts in
    by_action c i r (effect (1 + units) 0) put_field a (record {
      resolved = with_units r (reference ∷ f.value) [];
      is_row = of_action c i r (with_units r (reference ∷ f.value) []) put_field a f.is_row;
      effect_is = same_effect (1 + units) 0 (length (reference ∷ f.value)) 0 (grind (arith, f.counted)) refl;
    })

-- ---- calls

-- of the method that is named, the units of its descriptor are popped and pushed
abbrev pub Calls : ClassFile → Given → ℕ → Effect → Type 0
Calls c i receiver e = (m : MemberReference) → member_at c.pool i.operand ≡ Some m → IsMethodDescriptor m.signature.descriptor → IsCallEffect m.signature.descriptor receiver e

-- so they are where the index is that of the descriptor's text
pub calls_at : (c : ClassFile) (i : Given) (pool read : List PoolEntry) (index : Option ℕ) (receiver : ℕ) (e : Effect) → pool ≡ c.pool → read ≡ c.pool
    → index ≡ member_descriptor_at pool i.operand → IsCallAt read index receiver e → Calls c i receiver e
calls_at c i pool read index receiver e same same2 found call m named =
    let is : index ≡ member_descriptor_at c.pool i.operand = found ∙ ap (λ (p : List PoolEntry). member_descriptor_at p i.operand) same in
    call.by_descriptor m.signature.descriptor
    (ap (λ (p : List PoolEntry). option_and_then (text_at p) index) same2 ∙ ap (λ (o : Option ℕ). option_and_then (text_at c.pool) o) is ∙ member_text c.pool i.operand m named)

record HasCall (c : ClassFile) (i : Given) (r : Row) (receiver : List UnitKind) (e : Effect) : Type 0 where
  pub parameters : List UnitKind
  pub results : List UnitKind
  pub is_row : IsCallRow c.pool (with_row i r) receiver (with_units r (receiver ++ parameters) (map made_for results))
  pub effect_is : e ≡ effect (length (receiver ++ parameters)) (length (map made_for results))

effect_of : (e : Effect) (pops pushes : ℕ) → e.pops ≡ pops → e.pushes ≡ pushes → e ≡ effect pops pushes
effect_of e pops pushes p q = same_effect e.pops e.pushes pops pushes p q

call_of : (c : ClassFile) (i : Given) (r : Row) (receiver : List UnitKind) (e : Effect) → NamesMember c.pool i.operand grammars.MethodDescriptor → Calls c i (length receiver) e → HasCall c i r receiver e
call_of c i r receiver e f calls =
    let call = calls f.method f.named f.in_grammar in
    let h = call.counted in
    record {
      parameters = h.parameters;
      results = h.results;
      is_row = record { method = f.method; named = f.named; parameters = h.parameters; results = h.results; units = h.units; row_is = refl };
      effect_is = effect_of e (length (receiver ++ h.parameters)) (length (map made_for h.results))
          (call.pops_are ∙ ap (λ (n : ℕ). length receiver + n) h.parameters_are ∙ sym (length-append receiver h.parameters))
          (call.pushes_are ∙ h.results_are ∙ sym (length-map h.results made_for));
    }

pub invokes_virtual : (c : ClassFile) (i : Given) (r : Row) (e : Effect) → row_of i.opcode ≡ Some r → r.action ≡ invoke_virtual → Calls c i 1 e → IsSoundInstruction c i → IsEffectBy r.action c.pool i r e
invokes_virtual c i r e is a calls sound =
    let f = call_of c i r (reference ∷ []) e (class_method_there c i.operand sound.sound (leads_by c i r class_method sound is (expects r invoke_virtual a))) calls in
    let resolved = with_units r ((reference ∷ []) ++ f.parameters) (map made_for f.results) in
    by_action c i r e invoke_virtual a (record { resolved = resolved; is_row = of_action c i r resolved invoke_virtual a f.is_row; effect_is = f.effect_is })

pub invokes_special : (c : ClassFile) (i : Given) (r : Row) (e : Effect) → row_of i.opcode ≡ Some r → r.action ≡ invoke_special → Calls c i 1 e → IsSoundInstruction c i → IsEffectBy r.action c.pool i r e
invokes_special c i r e is a calls sound =
    let f = call_of c i r (reference ∷ []) e (any_method_there c i.operand sound.sound (leads_by c i r any_method sound is (expects r invoke_special a))) calls in
    let resolved = with_units r ((reference ∷ []) ++ f.parameters) (map made_for f.results) in
    by_action c i r e invoke_special a (record { resolved = resolved; is_row = of_action c i r resolved invoke_special a f.is_row; effect_is = f.effect_is })

pub invokes_interface : (c : ClassFile) (i : Given) (r : Row) (e : Effect) → row_of i.opcode ≡ Some r → r.action ≡ invoke_interface → Calls c i 1 e → IsSoundInstruction c i → IsEffectBy r.action c.pool i r e
invokes_interface c i r e is a calls sound =
    let f = call_of c i r (reference ∷ []) e (interface_method_there c i.operand sound.sound (leads_by c i r interface_method sound is (expects r invoke_interface a))) calls in
    let resolved = with_units r ((reference ∷ []) ++ f.parameters) (map made_for f.results) in
    by_action c i r e invoke_interface a (record { resolved = resolved; is_row = of_action c i r resolved invoke_interface a f.is_row; effect_is = f.effect_is })

pub invokes_static : (c : ClassFile) (i : Given) (r : Row) (e : Effect) → row_of i.opcode ≡ Some r → r.action ≡ invoke_static → Calls c i 0 e → IsSoundInstruction c i → IsEffectBy r.action c.pool i r e
invokes_static c i r e is a calls sound =
    let f = call_of c i r [] e (any_method_there c i.operand sound.sound (leads_by c i r any_method sound is (expects r invoke_static a))) calls in
    let resolved = with_units r ([] ++ f.parameters) (map made_for f.results) in
    by_action c i r e invoke_static a (record { resolved = resolved; is_row = of_action c i r resolved invoke_static a f.is_row; effect_is = f.effect_is })

-- ---- invokedynamic

-- of the call site, the units of its descriptor are
abbrev pub CallsSite : ClassFile → Given → Effect → Type 0
CallsSite c i e = (s : Signature) → site_at c.pool i.operand ≡ Some s → IsMethodDescriptor s.descriptor → IsCallEffect s.descriptor 0 e

pub calls_site_at : (c : ClassFile) (i : Given) (pool read : List PoolEntry) (index : Option ℕ) (e : Effect) → pool ≡ c.pool → read ≡ c.pool → index ≡ site_descriptor_at pool i.operand → IsCallAt read index 0 e
    → CallsSite c i e
calls_site_at c i pool read index e same same2 found call s named =
    let is : index ≡ site_descriptor_at c.pool i.operand = found ∙ ap (λ (p : List PoolEntry). site_descriptor_at p i.operand) same in
    call.by_descriptor s.descriptor
    (ap (λ (p : List PoolEntry). option_and_then (text_at p) index) same2 ∙ ap (λ (o : Option ℕ). option_and_then (text_at c.pool) o) is ∙ site_text c.pool i.operand s named)

pub invokes_site : (c : ClassFile) (i : Given) (r : Row) (e : Effect) → row_of i.opcode ≡ Some r → r.action ≡ refused → CallsSite c i e → IsSoundInstruction c i → IsEffectBy r.action c.pool i r e
invokes_site c i r e is a calls sound =
    let f = site_there c i.operand sound.sound (leads_by c i r call_site sound is (expects r refused a)) in
    let call = calls f.signature f.named f.in_grammar in
    let h = call.counted in
    by_action c i r e refused a (record {
      signature = f.signature;
      named = f.named;
      parameters = h.parameters;
      results = h.results;
      units = h.units;
      effect_is = effect_of e (length h.parameters) (length h.results) (call.pops_are ∙ grind (arith, h.parameters_are)) (call.pushes_are ∙ h.results_are);
    })
