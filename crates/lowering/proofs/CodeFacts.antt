-- What is known of the instructions of the method that is lowered.
use Rattle.std.proofs.Common.{◌≡◌, ℕ, ◌<◌, true, Some, sym, ap, ◌∙◌, subst}
use Rattle.std.specs.List.{Contains, list_any}
use Rattle.std.specs.Prelude.{nat_eq}
use Rattle.std.proofs.lemmas.Option.{slice_get-get_or}
use Rattle.std.proofs.lemmas.List.Elements.{All-contains, All-from_recursion}
use Rattle.jvm_model.specs.declared.code.PlacedInstruction.{PlacedInstruction}
use Rattle.flow_graph.specs.declared.steps.GraphStep.{GraphStep}
use Rattle.flow_graph.specs.Reading.{AreInOrder, IsSoundInstruction}
use Rattle.flow_graph.proofs.Numbers.{in_order_of}
use Rattle.flow_graph.proofs.ReadParts.{sound_code}
use Rattle.flow_graph.proofs.ReadPlaces.{HasNumber, number_there, own_number, in_place}
use Rattle.lowering.specs.Bodies.{IsMethodCode, IsStepOf}
use Rattle.lowering.specs.declared.body.MethodCode.{MethodCode}
use Rattle.lowering.proofs.SmallOperands.{small_operand}

module _ (b : MethodCode) (known : IsMethodCode b) where
  pub in_order : AreInOrder b.code.now.instructions
  in_order = in_order_of b.code.now.instructions (in_place b.class.now b.code.now known.code).ascends

  -- each instruction is sound
  pub sound_instruction : (p : PlacedInstruction) → Contains b.code.now.instructions p → IsSoundInstruction b.class.now p.instruction
  sound_instruction p there =
      let each = All-from_recursion (λ (q : PlacedInstruction). IsSoundInstruction b.class.now q.instruction) b.code.now.instructions (sound_code b.class.now b.code.now known.checked.sound known.code) in
      All-contains (λ (q : PlacedInstruction). IsSoundInstruction b.class.now q.instruction) b.code.now.instructions p each there

-- the instruction of a step has a number
pub has_number : (b : MethodCode) (step : GraphStep) → IsStepOf b step → HasNumber b.code.now.instructions step.offset
has_number b step s =
    let instructions = b.code.now.instructions in
    let own = own_number instructions s.is.number s.is.placed s.is.stands in
    number_there instructions step.offset (subst (λ (o : ℕ). list_any (λ (p : PlacedInstruction). nat_eq p.offset o) instructions ≡ true) (sym s.is.offset_is) own)

-- its operand is a number of two bytes
pub operand_below : (b : MethodCode) → IsMethodCode b → (p : PlacedInstruction) → Contains b.code.now.instructions p → p.instruction.operand < 65536
operand_below b known p there =
    let few = there.1 in
    small_operand b.class.now b.code.now known.checked known.code p there.0 (slice_get-get_or b.code.now.instructions there.0 p few ∙ ap (λ (q : PlacedInstruction). Some q) there.2)
