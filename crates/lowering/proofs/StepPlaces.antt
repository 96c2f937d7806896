-- The instruction of a step, and the units below the top before it.
use Rattle.std.proofs.Common.{◌≡◌, ◌⊎◌, inl, inr, ℕ, ◌+◌, ◌<◌, ◌≤◌, List, Some, Result, Ok, Err, IfOk, sym, ap, ◌∙◌, subst, arith}
use Rattle.std.specs.List.{slice_get}
use Rattle.std.proofs.lemmas.Bool.{cases_lt}
use Rattle.std.proofs.lemmas.Option.{same_Some, slice_get_within, slice_get-get_or, get_or_from_slice_get}
use Rattle.jvm_model.specs.declared.code.PlacedInstruction.{PlacedInstruction}
use Rattle.code_reader.proofs.MachineBodies.{code_is_the_body}
use Rattle.flow_graph.specs.declared.steps.GraphStep.{GraphStep}
use Rattle.flow_graph.specs.Effects.{HasEffect}
use Rattle.flow_graph.specs.Reading.{AreInOrder}
use Rattle.lowering.specs.Bodies.{IsJudgedStep, IsMethodCode, IsStepOf}
use Rattle.lowering.specs.declared.body.JudgedStep.{JudgedStep}
use Rattle.lowering.specs.declared.body.MethodCode.{MethodCode}
use Rattle.lowering.proofs.CodeFacts.{in_order}

-- ---- the limits of the code

pub record HasFewSlots (b : MethodCode) : Type 0 where
  pub locals : b.code.now.max_locals < 65536
  pub stack : b.code.now.max_stack < 65536

pub few_slots : (b : MethodCode) → IsMethodCode b → HasFewSlots b
few_slots b known =
    let of = known.code in
    let same = code_is_the_body b.class.now of.method of.read.owner b.code.now known.checked.fits known.checked.sound of.read.there of.read in
    let locals = same.1.body.max_locals in
    let stack = same.1.body.max_stack in
    let locals_are = same.2.max_locals in
    let stack_is = same.2.max_stack in
    record { locals = omega (arith, locals, locals_are); stack = omega (arith, stack, stack_is) }

pub few_below : (b : MethodCode) → IsMethodCode b → (step : GraphStep) → IsStepOf b step → (locals : ℕ) → locals ≡ b.code.now.max_locals → locals + step.height < 131072
few_below b known step s locals e =
    let few = few_slots b known in
    let l = few.locals in
    let k = few.stack in
    let room = s.is.room in
    omega (arith, l, k, room, e)

-- ---- instructions stand at offsets of their own

earlier : (ps : List PlacedInstruction) → AreInOrder ps → (i j : ℕ) (p q : PlacedInstruction) → i < j → slice_get ps i ≡ Some p → slice_get ps j ≡ Some q → p.offset < q.offset
earlier ps ordered i j p q lt at_i at_j =
    let below = ordered.below i j p lt (slice_get_within ps j q at_j) in
    let first = ap (λ (x : PlacedInstruction). x.offset) (get_or_from_slice_get ps i p p at_i) in
    let second = ap (λ (x : PlacedInstruction). x.offset) (get_or_from_slice_get ps j q p at_j) in
    omega (arith, below, first, second)

pub one_at : (ps : List PlacedInstruction) → AreInOrder ps → (i j : ℕ) (p q : PlacedInstruction) → slice_get ps i ≡ Some p → slice_get ps j ≡ Some q → p.offset ≡ q.offset → p ≡ q
one_at ps ordered i j p q at_i at_j same = by (cases_lt i j) (cases_lt j i)
  where
    by : (i < j) ⊎ (j ≤ i) → (j < i) ⊎ (i ≤ j) → p ≡ q
    by (inl lt) other = let less = earlier ps ordered i j p q lt at_i at_j in absurd (omega (arith, less, same))
    by (inr le) (inl lt) = let less = earlier ps ordered j i q p lt at_j at_i in absurd (omega (arith, less, same))
    by (inr le) (inr ge) =
        let number : i ≡ j = omega (arith, le, ge) in
        same_Some p q (sym at_i ∙ ap (slice_get ps) number ∙ at_j)

-- the judged instruction is that of the step
same_instruction : (b : MethodCode) → IsMethodCode b → (step : GraphStep) (s : IsStepOf b step) (j : JudgedStep) → IsJudgedStep b step j → s.is.placed ≡ j.placed.now
same_instruction b known step s j is =
    let instructions = b.code.now.instructions in
    let there = is.stands in
    let at = slice_get-get_or instructions there.0 j.placed.now there.1 ∙ ap (λ (q : PlacedInstruction). Some q) there.2 in
    one_at instructions (in_order b known) s.is.number there.0 s.is.placed j.placed.now s.is.stands at (sym s.is.offset_is ∙ sym is.offset)

pub step_effect : (b : MethodCode) → IsMethodCode b → (step : GraphStep) (s : IsStepOf b step) (j : JudgedStep) → IsJudgedStep b step j → HasEffect b.class.now.pool j.placed.now.instruction s.is.effect
step_effect b known step s j is = subst (λ (q : PlacedInstruction). HasEffect b.class.now.pool q.instruction s.is.effect) (same_instruction b known step s j is) s.is.has

-- ---- what is made of an instruction

pub if_ok : {T E : Type 0} (r : Result T E) (P Q : T → Type 0) → IfOk r P → ((x : T) → P x → Q x) → IfOk r Q
if_ok (Ok x) P Q h more = more x h
if_ok (Err e) P Q h more = tt
