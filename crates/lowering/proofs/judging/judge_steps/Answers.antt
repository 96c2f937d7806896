use Rattle.std.proofs.Common.{◌≡◌, ◌+◌, List, [], ◌∷◌, ◌++◌, take, Some, sym, ap, ◌∙◌, subst}
use Rattle.std.specs.List.{AllZip}
use Rattle.std.proofs.lemmas.List.{take_more}
use Rattle.std.proofs.lemmas.Option.{slice_get-get_or}
use Rattle.std.proofs.lemmas.Slice.Zip.{all_zipped_more}
use Rattle.flow_graph.specs.declared.steps.GraphStep.{GraphStep}
use Rattle.lowering.specs.Bodies.{IsJudgedStep}
use Rattle.lowering.specs.declared.body.JudgedStep.{JudgedStep}
use Rattle.lowering.proofs.Walks.{refused_at, steps_refusal}
use Rattle.lowering.proofs.judging.judge_steps.Goals as goal

pub loop-step-preserved : goal.loop-step-preserved
loop-step-preserved c =
    let R = IsJudgedStep c.args.body in
    let steps = c.args.steps.now in
    let i = c.loop-step.step-index in
    let s = c.step-item.result in
    let longer : take (i + 1) steps ≡ take i steps ++ s ∷ [] = subst (λ (q : GraphStep). take (i + 1) steps ≡ take i steps ++ q ∷ []) (sym c.step-item.is) (take_more steps i s c.loop-step-test.true) in
    let more = all_zipped_more R (take i steps) c.loop-step.judged.items s c.in-Ok.step c.loop-step.invariant c.in-Ok.ensures.judged in
    subst (λ (js : List JudgedStep). AllZip R (take (i + 1) steps) js) (sym c.in_ok-push-in-Ok.ensures.items)
    (subst (λ (ss : List GraphStep). AllZip R ss (c.loop-step.judged.items ++ c.in-Ok.step ∷ [])) (sym longer) more)

pub returns-in-Err-clause-refused : goal.returns-in-Err-clause-refused
returns-in-Err-clause-refused c =
    let b = c.args.body in
    let steps = c.args.steps.now in
    let s = c.step-item.result in
    let stands = slice_get-get_or steps c.loop-step.step-index s c.loop-step-test.true ∙ ap (λ (q : GraphStep). Some q) (sym c.step-item.is) in
    steps_refusal b steps s.offset c.in-Err.reason c.refused_at.result c.refused_at.ensures
    (λ m is. refused_at b c.requires.body m is steps c.loop-step.judged.items c.loop-step.step-index s c.in-Err.reason c.loop-step.invariant stands c.in-Err.ensures.refused)
