use Rattle.std.proofs.Common.{◌≡◌, ◌<◌, ◌+◌, List, [], ◌∷◌, ◌++◌, length, take, Some, sym, ap, ◌∙◌, subst, arith}
use Rattle.std.specs.List.{AllZip}
use Rattle.std.proofs.lemmas.List.{take_more}
use Rattle.std.proofs.lemmas.Option.{slice_get-get_or}
use Rattle.std.proofs.lemmas.Slice.Zip.{all_zipped_more}
use Rattle.code_reader.proofs.ToldCodes.{Contains-from_slice_get}
use Rattle.flow_graph.specs.declared.steps.GraphStep.{GraphStep}
use Rattle.flow_graph.proofs.Effects.{zip_length}
use Rattle.op_model.specs.declared.node.Node.{Node}
use Rattle.lowering.specs.Bodies.{IsJudgedStep, IsOrderedAt}
use Rattle.lowering.specs.declared.body.JudgedStep.{JudgedStep}
use Rattle.lowering.proofs.Walks.{zip_at}
use Rattle.lowering.proofs.lower.nodes.Goals as goal

pub bounds-judged-number : goal.bounds-judged-number
bounds-judged-number c =
    let long = zip_length (IsJudgedStep c.args.body) c.args.steps.now c.args.judged.now c.requires.judged in
    omega (arith, long, c.loop-number-test.true)

pub node-requires-clause-judged : goal.node-requires-clause-judged
node-requires-clause-judged c =
    let i = c.loop-number.number in
    let long = zip_length (IsJudgedStep c.args.body) c.args.steps.now c.args.judged.now c.requires.judged in
    let within : i < length c.args.judged.now = omega (arith, long, c.loop-number-test.true) in
    zip_at (IsJudgedStep c.args.body) c.args.steps.now c.args.judged.now i c.index-steps-number.result c.index-judged-number.result c.requires.judged
    (slice_get-get_or c.args.steps.now i c.index-steps-number.result c.loop-number-test.true ∙ ap (λ (s : GraphStep). Some s) (sym c.index-steps-number.is))
    (slice_get-get_or c.args.judged.now i c.index-judged-number.result within ∙ ap (λ (j : JudgedStep). Some j) (sym c.index-judged-number.is))

pub node-requires-clause-known : goal.node-requires-clause-known
node-requires-clause-known c = λ place covers unknown.
    let i = c.loop-number.number in
    let s = c.index-steps-number.result in
    let stands = slice_get-get_or c.args.steps.now i s c.loop-number-test.true ∙ ap (λ (t : GraphStep). Some t) (sym c.index-steps-number.is) in
    c.requires.known place (record { step = s; there = Contains-from_slice_get c.args.steps.now i s stands; covers = covers }) unknown

pub loop-number-preserved : goal.loop-number-preserved
loop-number-preserved c =
    let R = IsOrderedAt c.args.body in
    let steps = c.args.steps.now in
    let i = c.loop-number.number in
    let s = c.index-steps-number.result in
    let longer : take (i + 1) steps ≡ take i steps ++ s ∷ [] = subst (λ (q : GraphStep). take (i + 1) steps ≡ take i steps ++ q ∷ []) (sym c.index-steps-number.is) (take_more steps i s c.loop-number-test.true) in
    let more = all_zipped_more R (take i steps) c.loop-number.nodes.items s c.in_ok-node.field-0 c.loop-number.invariant c.in_ok-node.ensures in
    subst (λ (ns : List Node). AllZip R (take (i + 1) steps) ns) (sym {A = List Node} c.in_ok-push.ensures.items)
    (subst (λ (ss : List GraphStep). AllZip R ss (c.loop-number.nodes.items ++ c.in_ok-node.field-0 ∷ [])) (sym longer) more)
