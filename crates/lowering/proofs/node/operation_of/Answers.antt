use Rattle.std.proofs.Common.{ℕ, ◌+◌, sym, ap, ◌∙◌, arith}
use Rattle.lowering.specs.Bodies.{HasStepOperation, HasStepOrder}
use Rattle.lowering.proofs.CodeFacts.{operand_below, sound_instruction}
use Rattle.lowering.proofs.StepPlaces.{few_below, if_ok, step_effect}
use Rattle.lowering.proofs.node.operation_of.Goals as goal

pub overflow_add-from : goal.overflow_add-from
overflow_add-from c =
    let few = few_below c.args.body c.requires.body c.args.step.now c.requires.step c.from.result c.from.ensures in
    omega (arith, few)

pub operation-requires-clause-sound : goal.operation-requires-clause-sound
operation-requires-clause-sound c = sound_instruction c.args.body c.requires.body c.args.judged.placed.now c.requires.judged.stands

pub operation-requires-clause-units : goal.operation-requires-clause-units
operation-requires-clause-units c =
    let enough = c.requires.step.is.enough in
    record {
      effect = c.requires.step.is.effect;
      has = step_effect c.args.body c.requires.body c.args.step.now c.requires.step c.args.judged c.requires.judged;
      enough = omega (arith, enough);
    }

pub operation-requires-clause-top : goal.operation-requires-clause-top
operation-requires-clause-top c =
    let few = few_below c.args.body c.requires.body c.args.step.now c.requires.step c.from.result c.from.ensures in
    omega (arith, few)

pub operation-requires-clause-operand : goal.operation-requires-clause-operand
operation-requires-clause-operand c = operand_below c.args.body c.requires.body c.args.judged.placed.now c.requires.judged.stands

pub returns-clause-operation : goal.returns-clause-operation
returns-clause-operation c = if_ok c.operation.result _ (HasStepOperation c.args.body c.args.step.now c.args.judged) c.operation.ensures.operation (λ op has. record {
  row = has.row;
  of_row = has.of_row;
  base = has.base;
  lowest = has.lowest ∙ ap (λ (locals : ℕ). locals + c.args.step.now.height) c.from.ensures;
  is = has.is;
})

pub returns-clause-order : goal.returns-clause-order
returns-clause-order c = if_ok c.operation.result _ (HasStepOrder c.args.body c.args.step.now c.args.judged) c.operation.ensures.order (λ op is. record {
  for_row = λ row of_row base lowest. is.for_row row of_row base (lowest ∙ ap (λ (locals : ℕ). locals + c.args.step.now.height) (sym c.from.ensures));
})
