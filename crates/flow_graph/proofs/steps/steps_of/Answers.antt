use Rattle.std.proofs.Common.{◌≡◌, ℕ, ◌+◌, ◌<◌, List, [], ◌∷◌, ◌++◌, length, drop, get_or, ap, ◌∙◌, subst, arith}
use Rattle.jvm_model.specs.declared.code.PlacedInstruction.{PlacedInstruction}
use Rattle.flow_graph.specs.declared.steps.GraphStep.{GraphStep}
use Rattle.flow_graph.specs.Graphs.{steps_from}
use Rattle.flow_graph.specs.Walks.{unreached}
use Rattle.flow_graph.proofs.Loops.{step_added, step_left}
use Rattle.flow_graph.proofs.steps.steps_of.Goals as goal
use Rattle.flow_graph.proofs.steps.steps_of.Goals.{in-Some+in_ok-step+in_ok-push, in_default}

pub loop-number-preserved : goal.loop-number-preserved
loop-number-preserved c =
    let code = c.args.code.now in
    let marks = c.args.marks.now in
    let i : ℕ = c.loop-number.number in
    let instructions = code.instructions in
    let lt : i < length instructions = omega (arith, c.loop-number-test.true, ap length c.as_slice-instructions.ensures) in
    let lt2 : i < length marks = omega (arith, c.requires.marks, lt) in
    elim c.match-marks-number.branch [
      | in-Some+in_ok-step+in_ok-push w ↦
          let a = w.steps-is in
          let b = w.in_ok-push.ensures.items in
          let added : c.match-marks-number.steps.items ≡ c.loop-number.steps.items ++ w.in_ok-step.field-0 ∷ [] = cc (a, b) in
          let is = subst (λ (ps : List PlacedInstruction). w.index-instructions-number.result ≡ get_or ps i w.index-instructions-number.result) c.as_slice-instructions.ensures w.index-instructions-number.is in
          step_added code instructions marks c.loop-number.steps.items c.match-marks-number.steps.items i w.index-instructions-number.result unreached w.in-Some.height w.in_ok-step.field-0 lt lt2 is
          w.in-Some.is w.in_ok-step.ensures added
          ∙ c.loop-number.invariant
      | in_default w ↦
          let a = w.steps-is in
          let same : c.match-marks-number.steps.items ≡ c.loop-number.steps.items = cc a in
          ap (λ (steps : List GraphStep). steps ++ steps_from code (i + 1) (drop (i + 1) instructions) (drop (i + 1) marks)) same
          ∙ ap (λ (rest : List GraphStep). c.loop-number.steps.items ++ rest) (step_left code instructions marks i unreached lt lt2 w.in_default.is) ∙ c.loop-number.invariant
    ]
