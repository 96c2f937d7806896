use Rattle.std.proofs.Common.{ℕ, List, Option, length, ap, ◌∙◌, arith}
use Rattle.std.proofs.lemmas.List.{length-map}
use Rattle.jvm_model.specs.declared.pool.PoolEntry.{PoolEntry}
use Rattle.jvm_model.specs.Instructions.{kinds_of, member_at}
use Rattle.jvm_model.specs.RowViews.{row_view, action_view, kind_view, source_view}
use Rattle.flow_graph.specs.declared.effect.Effect.{Effect}
use Rattle.flow_graph.specs.Effects.{IsEffectBy}
use Rattle.flow_graph.specs.Reading.{IsSoundInstruction, IsCallAt}
use Rattle.flow_graph.proofs.EffectsBy.{if_ok, calls_at, calls_site_at, loads_constant, gets_static, puts_static, gets_field, puts_field, invokes_virtual, invokes_special, invokes_interface, invokes_static, invokes_site}
use Rattle.flow_graph.proofs.Rows.{few_pops, few_pushes}
use Rattle.flow_graph.proofs.effect.effect_by.Goals as goal

pub array_effect-requires-clause-pops : goal.array_effect-requires-clause-pops
array_effect-requires-clause-pops c = omega (arith, few_pops c.args.instruction.now.opcode (row_view c.args.row.now) c.requires.row, length-map c.args.row.now.pops.now kind_view)

pub array_effect-requires-clause-pushes : goal.array_effect-requires-clause-pushes
array_effect-requires-clause-pushes c = omega (arith, few_pushes c.args.instruction.now.opcode (row_view c.args.row.now) c.requires.row, length-map c.args.row.now.pushes.now source_view)

pub row_effect-requires-clause-pops : goal.row_effect-requires-clause-pops
row_effect-requires-clause-pops c = omega (arith, few_pops c.args.instruction.now.opcode (row_view c.args.row.now) c.requires.row, length-map c.args.row.now.pops.now kind_view)

pub row_effect-requires-clause-pushes : goal.row_effect-requires-clause-pushes
row_effect-requires-clause-pushes c = omega (arith, few_pushes c.args.instruction.now.opcode (row_view c.args.row.now) c.requires.row, length-map c.args.row.now.pushes.now source_view)

pub returns-in-LoadConstant-clause-effect : goal.returns-in-LoadConstant-clause-effect
returns-in-LoadConstant-clause-effect c = loads_constant c.args.class.now c.args.instruction.now (row_view c.args.row.now) c.requires.row (ap action_view c.in-LoadConstant.is)

pub returns-in-GetStatic-clause-effect : goal.returns-in-GetStatic-clause-effect
returns-in-GetStatic-clause-effect c =
    let class = c.args.class.now in
    let index : ℕ = c.args.instruction.now.operand in
    gets_static class c.args.instruction.now (row_view c.args.row.now) c.field_units.result c.requires.row (ap action_view c.in-GetStatic.is)
    (λ m named. c.field_units.ensures.exact
    ∙ ap (λ (t : List ℕ). length (kinds_of t)) (c.member_text.ensures m (ap (λ (pool : List PoolEntry). member_at pool index) c.as_slice-pool.ensures ∙ named)))

pub returns-in-PutStatic-clause-effect : goal.returns-in-PutStatic-clause-effect
returns-in-PutStatic-clause-effect c =
    let class = c.args.class.now in
    let index : ℕ = c.args.instruction.now.operand in
    puts_static class c.args.instruction.now (row_view c.args.row.now) c.field_units-in-PutStatic.result c.requires.row (ap action_view c.in-PutStatic.is)
    (λ m named. c.field_units-in-PutStatic.ensures.exact
    ∙ ap (λ (t : List ℕ). length (kinds_of t)) (c.member_text-in-PutStatic.ensures m (ap (λ (pool : List PoolEntry). member_at pool index) c.as_slice-pool.ensures ∙ named)))

pub returns-in-GetField-clause-effect : goal.returns-in-GetField-clause-effect
returns-in-GetField-clause-effect c =
    let class = c.args.class.now in
    let index : ℕ = c.args.instruction.now.operand in
    gets_field class c.args.instruction.now (row_view c.args.row.now) c.field_units-in-GetField.result c.requires.row (ap action_view c.in-GetField.is)
    (λ m named. c.field_units-in-GetField.ensures.exact
    ∙ ap (λ (t : List ℕ). length (kinds_of t)) (c.member_text-in-GetField.ensures m (ap (λ (pool : List PoolEntry). member_at pool index) c.as_slice-pool.ensures ∙ named)))

pub returns-in-PutField-clause-effect : goal.returns-in-PutField-clause-effect
returns-in-PutField-clause-effect c =
    let class = c.args.class.now in
    let index : ℕ = c.args.instruction.now.operand in
    puts_field class c.args.instruction.now (row_view c.args.row.now) c.field_units-in-PutField.result c.requires.row (ap action_view c.in-PutField.is)
    (λ m named. c.field_units-in-PutField.ensures.exact
    ∙ ap (λ (t : List ℕ). length (kinds_of t)) (c.member_text-in-PutField.ensures m (ap (λ (pool : List PoolEntry). member_at pool index) c.as_slice-pool.ensures ∙ named)))

pub returns-in-InvokeVirtual-clause-effect : goal.returns-in-InvokeVirtual-clause-effect
returns-in-InvokeVirtual-clause-effect c =
    let class = c.args.class.now in
    let i = c.args.instruction.now in
    let r = row_view c.args.row.now in
    let index : Option ℕ = c.member_descriptor_at.result in
    if_ok c.call_effect.result (IsCallAt c.args.units.now index 1) (λ (e : Effect). IsSoundInstruction class i → IsEffectBy r.action class.pool i r e) c.call_effect.ensures.effect
    (λ e call. invokes_virtual class i r e c.requires.row (ap action_view c.in-InvokeVirtual.is) (calls_at class i c.as_slice-pool.result.now c.args.units.now index 1 e c.as_slice-pool.ensures c.requires.units c.member_descriptor_at.ensures call))

pub returns-in-InvokeSpecial-clause-effect : goal.returns-in-InvokeSpecial-clause-effect
returns-in-InvokeSpecial-clause-effect c =
    let class = c.args.class.now in
    let i = c.args.instruction.now in
    let r = row_view c.args.row.now in
    let index : Option ℕ = c.member_descriptor_at-in-InvokeSpecial.result in
    if_ok c.call_effect-in-InvokeSpecial.result (IsCallAt c.args.units.now index 1) (λ (e : Effect). IsSoundInstruction class i → IsEffectBy r.action class.pool i r e) c.call_effect-in-InvokeSpecial.ensures.effect
    (λ e call. invokes_special class i r e c.requires.row (ap action_view c.in-InvokeSpecial.is) (calls_at class i c.as_slice-pool.result.now c.args.units.now index 1 e c.as_slice-pool.ensures c.requires.units c.member_descriptor_at-in-InvokeSpecial.ensures call))

pub returns-in-InvokeInterface-clause-effect : goal.returns-in-InvokeInterface-clause-effect
returns-in-InvokeInterface-clause-effect c =
    let class = c.args.class.now in
    let i = c.args.instruction.now in
    let r = row_view c.args.row.now in
    let index : Option ℕ = c.member_descriptor_at-in-InvokeInterface.result in
    if_ok c.call_effect-in-InvokeInterface.result (IsCallAt c.args.units.now index 1) (λ (e : Effect). IsSoundInstruction class i → IsEffectBy r.action class.pool i r e) c.call_effect-in-InvokeInterface.ensures.effect
    (λ e call. invokes_interface class i r e c.requires.row (ap action_view c.in-InvokeInterface.is) (calls_at class i c.as_slice-pool.result.now c.args.units.now index 1 e c.as_slice-pool.ensures c.requires.units c.member_descriptor_at-in-InvokeInterface.ensures call))

pub returns-in-InvokeStatic-clause-effect : goal.returns-in-InvokeStatic-clause-effect
returns-in-InvokeStatic-clause-effect c =
    let class = c.args.class.now in
    let i = c.args.instruction.now in
    let r = row_view c.args.row.now in
    let index : Option ℕ = c.member_descriptor_at-in-InvokeStatic.result in
    if_ok c.call_effect-in-InvokeStatic.result (IsCallAt c.args.units.now index 0) (λ (e : Effect). IsSoundInstruction class i → IsEffectBy r.action class.pool i r e) c.call_effect-in-InvokeStatic.ensures.effect
    (λ e call. invokes_static class i r e c.requires.row (ap action_view c.in-InvokeStatic.is) (calls_at class i c.as_slice-pool.result.now c.args.units.now index 0 e c.as_slice-pool.ensures c.requires.units c.member_descriptor_at-in-InvokeStatic.ensures call))

pub returns-in-Refused-clause-effect : goal.returns-in-Refused-clause-effect
returns-in-Refused-clause-effect c =
    let class = c.args.class.now in
    let i = c.args.instruction.now in
    let r = row_view c.args.row.now in
    let index : Option ℕ = c.site_descriptor_at.result in
    if_ok c.call_effect-in-Refused.result (IsCallAt c.args.units.now index 0) (λ (e : Effect). IsSoundInstruction class i → IsEffectBy r.action class.pool i r e) c.call_effect-in-Refused.ensures.effect
    (λ e call. invokes_site class i r e c.requires.row (ap action_view c.in-Refused.is) (calls_site_at class i c.as_slice-pool.result.now c.args.units.now index e c.as_slice-pool.ensures c.requires.units c.site_descriptor_at.ensures call))
