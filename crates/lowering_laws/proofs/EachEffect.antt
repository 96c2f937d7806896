-- Each sound instruction pops and pushes so many units.
use Rattle.std.proofs.Common.{◌≡◌, ℕ, ◌+◌, List, [], ◌∷◌, length, Option, Some, refl, sym, ap, ◌∙◌, subst}
use Rattle.std.specs.List.{AllByRecursion, flat_map}
use Rattle.std.specs.Option.{option_map_or}
use Rattle.std.proofs.lemmas.Option.{same_Some}
use Rattle.jvm_model.specs.declared.class_file.ClassFile.{ClassFile}
use Rattle.jvm_model.specs.declared.code.Code.{Code}
use Rattle.jvm_model.specs.declared.code.Instruction.{Instruction as Given}
use Rattle.jvm_model.specs.declared.code.PlacedInstruction.{PlacedInstruction}
use Rattle.jvm_model.specs.declared.grammar.Grammar.TheVariants as grammars
use Rattle.jvm_model.specs.Descriptors.{IsMethodDescriptor}
use Rattle.jvm_model.specs.Instructions.{kinds_of, member_at, array_row, RowBy}
use Rattle.jvm_model.specs.Lookups.{MemberReference, Signature}
use Rattle.jvm_model.specs.Soundness.{IsSoundClass}
use Rattle.jvm_model.specs.Table.{Row, row_of, class_method, any_method, interface_method, call_site, Action, plain, load_constant, load_element, store_element, probe_element, probe_array, probe_object, get_static, put_static, get_field, put_field, invoke_virtual, invoke_special, invoke_static, invoke_interface, make_object, make_array, throw_object, cast, leave_method, refused}
use Rattle.flow_graph.specs.declared.effect.Effect.{Effect}
use Rattle.flow_graph.specs.Effects.{with_row, IsRowEffect, IsEffectBy, HasEffect, HaveEffects}
use Rattle.flow_graph.specs.Graphing.{IsCodeOf}
use Rattle.flow_graph.specs.Reading.{IsSoundInstruction, IsCallEffect}
use Rattle.flow_graph.proofs.EffectsBy.{Calls, CallsSite, loads_constant, gets_static, puts_static, gets_field, puts_field, invokes_virtual, invokes_special, invokes_interface, invokes_static, invokes_site}
use Rattle.flow_graph.proofs.MemberUses.{NamesMember, NamesSite, any_method_there, class_method_there, interface_method_there, site_there}
use Rattle.flow_graph.proofs.ReadParts.{sound_code}
use Rattle.flow_graph.proofs.Rows.{expected, leads_by}

-- ---- what is called

-- a call of a method of a descriptor pops and pushes the descriptor's units
call_effect : (descriptor : List ℕ) (receiver : ℕ) → IsMethodDescriptor descriptor → (e : Effect) × IsCallEffect descriptor receiver e
call_effect descriptor receiver is =
    let parameters = flat_map kinds_of is.parameters in
    let results = kinds_of is.outcome in (
      record { pops = receiver + length parameters; pushes = length results },
      record {
        units = record { parameters = length parameters; results = length results };
        counted = record { parameters = parameters; results = results; units = record { is = is; parameters_are = refl; results_are = refl }; parameters_are = refl; results_are = refl };
        pops_are = refl;
        pushes_are = refl;
      },
    )

calls_of : (c : ClassFile) (i : Given) (receiver : ℕ) → NamesMember c.pool i.operand grammars.MethodDescriptor → (e : Effect) × Calls c i receiver e
calls_of c i receiver f =
    let call = call_effect f.method.signature.descriptor receiver f.in_grammar in (
      call.0,
      λ m named is. subst (λ (n : MemberReference). IsCallEffect n.signature.descriptor receiver call.0) (same_Some f.method m (sym f.named ∙ named)) call.1,
    )

site_calls_of : (c : ClassFile) (i : Given) → NamesSite c.pool i.operand → (e : Effect) × CallsSite c i e
site_calls_of c i f =
    let call = call_effect f.signature.descriptor 0 f.in_grammar in (
      call.0,
      λ s named is. subst (λ (t : Signature). IsCallEffect t.descriptor 0 call.0) (same_Some f.signature s (sym f.named ∙ named)) call.1,
    )

-- ---- each action

abbrev units_in : Option MemberReference → ℕ
units_in o = option_map_or (λ (m : MemberReference). length (kinds_of m.signature.descriptor)) o 0

module _ (c : ClassFile) (i : Given) (r : Row) (is : row_of i.opcode ≡ Some r) (sound : IsSoundInstruction c i) where
  abbrev SomeEffect : Type 0
  SomeEffect = (e : Effect) × IsEffectBy r.action c.pool i r e

  -- the units of a row that is resolved
  by_row : (a : Action) (resolved : Row) → r.action ≡ a → RowBy a c.pool (with_row i r) resolved
      → ((e : Effect) → IsRowEffect c.pool i r e → IsEffectBy a c.pool i r e) → SomeEffect
  by_row a resolved same row made =
      let e : Effect = record { pops = length resolved.pops; pushes = length resolved.pushes } in (
        e,
        subst (λ (b : Action). IsEffectBy b c.pool i r e) (sym same)
            (made e (record { resolved = resolved; is_row = subst (λ (b : Action). RowBy b c.pool (with_row i r) resolved) (sym same) row; effect_is = refl })),
      )

  -- the units of the field that is named
  abbrev value : ℕ
  value = units_in (member_at c.pool i.operand)

  counts : (m : MemberReference) → member_at c.pool i.operand ≡ Some m → value ≡ length (kinds_of m.signature.descriptor)
  counts m named = ap units_in named

  by_action : (a : Action) → r.action ≡ a → SomeEffect
  by_action load_constant a = (_, loads_constant c i r is a sound)
  by_action get_static a = (_, gets_static c i r value is a counts sound)
  by_action put_static a = (_, puts_static c i r value is a counts sound)
  by_action get_field a = (_, gets_field c i r value is a counts sound)
  by_action put_field a = (_, puts_field c i r value is a counts sound)
  by_action invoke_virtual a =
      let k = calls_of c i 1 (class_method_there c i.operand sound.sound (leads_by c i r class_method sound is (ap expected a))) in
      (k.0, invokes_virtual c i r k.0 is a k.1 sound)
  by_action invoke_special a =
      let k = calls_of c i 1 (any_method_there c i.operand sound.sound (leads_by c i r any_method sound is (ap expected a))) in
      (k.0, invokes_special c i r k.0 is a k.1 sound)
  by_action invoke_interface a =
      let k = calls_of c i 1 (interface_method_there c i.operand sound.sound (leads_by c i r interface_method sound is (ap expected a))) in
      (k.0, invokes_interface c i r k.0 is a k.1 sound)
  by_action invoke_static a =
      let k = calls_of c i 0 (any_method_there c i.operand sound.sound (leads_by c i r any_method sound is (ap expected a))) in
      (k.0, invokes_static c i r k.0 is a k.1 sound)
  by_action refused a =
      let k = site_calls_of c i (site_there c i.operand sound.sound (leads_by c i r call_site sound is (ap expected a))) in
      (k.0, invokes_site c i r k.0 is a k.1 sound)
  by_action make_array a = by_row make_array (array_row r.operands (with_row i r)) a refl (λ e h. h)
  by_action plain a = by_row plain r a refl (λ e h. h)
  by_action load_element a = by_row load_element r a refl (λ e h. h)
  by_action store_element a = by_row store_element r a refl (λ e h. h)
  by_action probe_element a = by_row probe_element r a refl (λ e h. h)
  by_action probe_array a = by_row probe_array r a refl (λ e h. h)
  by_action probe_object a = by_row probe_object r a refl (λ e h. h)
  by_action make_object a = by_row make_object r a refl (λ e h. h)
  by_action throw_object a = by_row throw_object r a refl (λ e h. h)
  by_action cast a = by_row cast r a refl (λ e h. h)
  by_action leave_method a = by_row leave_method r a refl (λ e h. h)

-- ---- each instruction

pub some_effect : (c : ClassFile) (i : Given) → IsSoundInstruction c i → (e : Effect) × HasEffect c.pool i e
some_effect c i sound =
    let k = by_action c i sound.row sound.of_opcode sound sound.row.action refl in
    (k.0, record { row = sound.row; of_opcode = sound.of_opcode; is_effect = k.1 })

some_effects : (c : ClassFile) (instructions : List PlacedInstruction) → AllByRecursion (λ (p : PlacedInstruction). IsSoundInstruction c p.instruction) instructions
    → (effects : List Effect) × HaveEffects c.pool instructions effects
some_effects c [] all = ([], tt)
some_effects c (p ∷ instructions) all =
    let one = some_effect c p.instruction all.0 in
    let more = some_effects c instructions all.1 in
    (one.0 ∷ more.0, (one.1, more.1))

pub code_effects : (c : ClassFile) (code : Code) → IsSoundClass c → IsCodeOf c code → (effects : List Effect) × HaveEffects c.pool code.instructions effects
code_effects c code sound is = some_effects c code.instructions (sound_code c code sound is)
